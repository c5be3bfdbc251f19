use Rattle.std.proofs.Common.{arith, sym}
use Rattle.js_source.specs.Source.{rest}
use Rattle.std.proofs.lemmas.Result.{IfOk-weaker, on_err_weaker}
use Rattle.js_spell.proofs.ItemSteps.{plain_broken}
use Rattle.js_spell.proofs.ItemSteps.{plain_value_read, passes_onward, mark_end, mark_not_end, match_option}
use Rattle.js_spell.proofs.items.read_value.Goals as goal

pub returns-then-is_end-clause-ok : goal.returns-then-is_end-clause-ok
returns-then-is_end-clause-ok c =
    let new = c.pass_to_mark-next.new.source in
    let mark = c.find_stop.ensures (rest new)
    (match_option c.pass_to_mark-next.result _ _ c.pass_to_mark-next.ensures.none
    c.pass_to_mark-next.ensures.some) in
    plain_value_read c.args.literal c.args.token.now.start c.args.source.now new c.args.errors.now
    c.pass_to_mark-next.ensures.passes c.pass_to_mark-next.ensures.all
    (mark_end c.args.literal c.find_stop.result (rest new) mark (sym c.if-is_end.ensures))

pub returns-then-is_end-clause-onward : goal.returns-then-is_end-clause-onward
returns-then-is_end-clause-onward c =
    passes_onward c.args.literal c.args.source.now c.pass_to_mark-next.new.source c.pass_to_mark-next.ensures.passes

pub read_decoded-requires-clause-ordered : goal.read_decoded-requires-clause-ordered
read_decoded-requires-clause-ordered c =
    omega (
      arith,
      c.position-from.ensures.place,
      passes_onward c.args.literal c.args.source.now c.pass_to_mark-next.new.source
          c.pass_to_mark-next.ensures.passes,
    )

pub read_decoded-requires-clause-escaped : goal.read_decoded-requires-clause-escaped
read_decoded-requires-clause-escaped c =
    let new = c.pass_to_mark-next.new.source in
    let mark = c.find_stop.ensures (rest new)
    (match_option c.pass_to_mark-next.result _ _ c.pass_to_mark-next.ensures.none
    c.pass_to_mark-next.ensures.some) in
    mark_not_end c.args.literal c.find_stop.result (rest new) mark (sym c.if-is_end.ensures)

pub returns-clause-onward : goal.returns-clause-onward
returns-clause-onward c =
    omega (
      arith,
      c.read_decoded.ensures.onward,
      passes_onward c.args.literal c.args.source.now c.pass_to_mark-next.new.source
          c.pass_to_mark-next.ensures.passes,
    )

pub returns-clause-err : goal.returns-clause-err
returns-clause-err c =
    let mid = c.pass_to_mark-next.new.source in
    on_err_weaker c.read_decoded.result
    (λ broken. plain_broken c.args.literal c.args.token.now.start c.args.source.now mid c.read_decoded.new.source
    c.args.errors.now c.read_decoded.new.errors c.pass_to_mark-next.ensures.passes broken) c.read_decoded.ensures.err

pub returns-clause-ok : goal.returns-clause-ok
returns-clause-ok c =
    let passes = c.pass_to_mark-next.ensures.passes in
    IfOk-weaker c.read_decoded.result _ _ (λ value read. read c.args.source.now
    (record { text = sym passes.text; there = sym c.position-from.ensures.place }) passes) c.read_decoded.ensures.ok
