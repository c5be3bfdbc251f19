use Rattle.std.proofs.Common.{arith, false, get_or}
use Rattle.js_session.specs.declared.command.Command.TheVariants.{Next}
use Rattle.js_relex.proofs.KeptLemmas.{all_before, no_command_more, no_row_more, none_stays, one_stays}
use Rattle.js_relex.proofs.OutlineLemmas.{count_outlined, outlined_at}
use Rattle.js_relex.specs.declared.outline.RowOutline.{RowOutline}
use Rattle.js_relex.proofs.kept.count_behind.Goals as goal

abbrev no_outline : RowOutline
no_outline = record { end = 0; has_found = false }

pub loop-kept-init : goal.loop-kept-init
loop-kept-init c = (
  omega arith,
  λ rows are. all_before c.args.start rows c.args.commands.now,
  omega arith,
)

pub returns-then-kept-commands-clause-kept : goal.returns-then-kept-commands-clause-kept
returns-then-kept-commands-clause-kept c = λ rows are.
    no_command_more c.args.start rows c.args.commands.now c.loop-kept.kept (c.loop-kept.invariant.1 rows are)
    (omega (arith, c.if-kept-commands.true))

pub returns-clause-kept : goal.returns-clause-kept
returns-clause-kept c = λ rows are.
    let count = count_outlined _ c.args.outlines.now rows are in
    no_row_more c.args.start rows c.args.commands.now c.loop-kept.kept (c.loop-kept.invariant.1 rows are)
    (omega (arith, count, c.loop-kept-test.false))

pub returns-then-not-may_stay-clause-kept : goal.returns-then-not-may_stay-clause-kept
returns-then-not-may_stay-clause-kept c = λ rows are.
    let count = count_outlined _ c.args.outlines.now rows are in
    let at =
    outlined_at c.args.start c.args.old_commands.now c.args.outlines.now rows c.loop-kept.kept
    no_outline Next
    (get_or c.args.commands.now c.loop-kept.kept Next) are
    (omega (arith, c.loop-kept-test.true)) in
    none_stays c.args.start rows c.args.commands.now c.loop-kept.kept at.row Next
    (c.loop-kept.invariant.1 rows are) (omega (arith, count, c.loop-kept-test.true))
    (omega (arith, c.if-kept-commands.false))
    (λ stays. let yes = c.may_stay.ensures.1 (at.asks stays) in let no = c.if-not-may_stay.true in absurd (cc))

pub loop-kept-preserved : goal.loop-kept-preserved
loop-kept-preserved c = (
  omega (arith, c.loop-kept-test.true),
  λ rows are. let count = count_outlined _ c.args.outlines.now rows are in
      let at =
      outlined_at c.args.start c.args.old_commands.now c.args.outlines.now rows c.loop-kept.kept
      no_outline Next
      (get_or c.args.commands.now c.loop-kept.kept Next) are
      (omega (arith, c.loop-kept-test.true)) in
      one_stays c.args.start rows c.args.commands.now c.loop-kept.kept at.row Next
      (c.loop-kept.invariant.1 rows are) (omega (arith, count, c.loop-kept-test.true))
      (omega (arith, c.if-kept-commands.false))
      (at.gives (c.may_stay.ensures.0 (let yes = c.if-not-may_stay.false in cc))),
  omega (arith, c.if-kept-commands.false),
)
