use Rattle.std.proofs.Common.{◌≡◌, ◌+◌, true, subst, arith}
use Rattle.js_session.specs.declared.command.Command.TheVariants.{Next}
use Rattle.js_relex.specs.Joining.{StepsUntil}
use Rattle.js_relex.proofs.StepLemmas.{one_more_step}
use Rattle.js_relex.proofs.drive.step_until_joined.Goals as goal

pub returns-then-is_joined-clause-ok : goal.returns-then-is_joined-clause-ok
returns-then-is_joined-clause-ok g c =
    let more =
    one_more_step c.args.joining.now c.args.commands.now c.args.session.now c.loop-index.session c.step.new.self
    c.loop-index.index Next c.requires.lasting c.requires.last (omega (arith, c.loop-index-test.true))
    c.loop-index.invariant.1 c.in_ok-step.ensures.ok in
    let ticks : c.args.steps.now + (c.loop-index.index + 1) ≡ c.step.new.steps =
    omega (arith, c.in_ok-step.ensures.ticks, c.loop-index.invariant.2) in
    subst
    (λ n. StepsUntil c.args.joining.now c.args.commands.now c.args.session.now c.step.new.self c.args.steps.now n true)
    ticks
    (more.joins c.args.steps.now
    ((c.is_joined.ensures more.before more.row more.rows_are).0 (let yes = c.if-is_joined.true in cc)))

pub loop-index-preserved : goal.loop-index-preserved
loop-index-preserved g c =
    let more =
    one_more_step c.args.joining.now c.args.commands.now c.args.session.now c.loop-index.session c.step.new.self
    c.loop-index.index Next c.requires.lasting c.requires.last (omega (arith, c.loop-index-test.true))
    c.loop-index.invariant.1 c.in_ok-step.ensures.ok in (
      omega (arith, c.loop-index-test.true),
      more.none
          (λ joins.
          let yes = (c.is_joined.ensures more.before more.row more.rows_are).1 joins in
          let no = c.if-is_joined.false in absurd (cc)),
      omega (arith, c.in_ok-step.ensures.ticks, c.loop-index.invariant.2),
    )
