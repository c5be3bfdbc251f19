use Rattle.std.proofs.Common.{arith, sym, ◌∙◌, ap}
use Rattle.js_text.specs.Characters.{from_first}
use Rattle.js_source.specs.Source.{rest}
use Rattle.js_spell.specs.Goals.{ends_of}
use Rattle.js_spell.proofs.JsxSteps.{past_text, stopped, text_run, text_stops, text_wide}
use Rattle.js_spell.proofs.jsx.pass_text.Goals as goal

pub returns-in_err-b-clause-rest : goal.returns-in_err-b-clause-rest
returns-in_err-b-clause-rest c =
    sym
    (c.characters.invariant.left
    ∙ text_run c.args.within c.table_of-table.result.now c.characters.source c.pass_ascii.new.self
    c.table_of-table.ensures c.pass_ascii.ensures.text c.pass_ascii.ensures.run
    ∙ ap (from_first (ends_of c.args.within)) c.in_err-b.ensures.none ∙ sym c.in_err-b.ensures.none)

pub returns-then-b-lt128-clause-rest : goal.returns-then-b-lt128-clause-rest
returns-then-b-lt128-clause-rest c =
    sym
    (c.characters.invariant.left
    ∙ text_run c.args.within c.table_of-table.result.now c.characters.source c.pass_ascii.new.self
    c.table_of-table.ensures c.pass_ascii.ensures.text c.pass_ascii.ensures.run
    ∙ stopped c.args.within c.in_ok-b.b (rest c.pass_ascii.new.self)
    (text_stops c.args.within c.table_of-table.result.now c.in_ok-b.b (rest c.pass_ascii.new.self)
    c.table_of-table.ensures c.if-b-lt128.true c.in_ok-b.ensures.some c.pass_ascii.ensures.stops))

pub characters-preserved : goal.characters-preserved
characters-preserved c =
    let mid = c.pass_ascii.new.self in
    let next = c.next_char.new.self in
    record {
      text =
          past_text c.in_ok-b.b mid next c.in_ok-b.ensures.some c.next_char.ensures.past
          ∙ c.pass_ascii.ensures.text ∙ c.characters.invariant.text;
      left =
          c.characters.invariant.left
          ∙ text_run c.args.within c.table_of-table.result.now c.characters.source mid c.table_of-table.ensures
          c.pass_ascii.ensures.text c.pass_ascii.ensures.run
          ∙ text_wide c.args.within c.in_ok-b.b mid next c.if-b-lt128.false c.in_ok-b.ensures.some
          c.next_char.ensures.past;
      onward =
          omega (arith, c.characters.invariant.onward, c.pass_ascii.ensures.run.onward, c.next_char.ensures.onward);
    }
