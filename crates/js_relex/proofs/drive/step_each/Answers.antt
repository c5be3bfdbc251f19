use Rattle.std.proofs.Common.{arith}
use Rattle.js_session.specs.declared.command.Command.TheVariants.{Next}
use Rattle.js_relex.proofs.Lasting.{lasting_at, runs_more}
use Rattle.js_relex.proofs.drive.step_each.Goals as goal

pub loop-command-preserved : goal.loop-command-preserved
loop-command-preserved g c =
    let some = c.loop-command-test.true in (
      λ text t collects start before h.
          runs_more text t collects start before c.args.commands.now c.loop-command.command-index Next
          c.loop-command.session c.step.new.self (omega (arith, some))
          (lasting_at c.args.commands.now c.loop-command.command-index Next c.requires (omega (arith, some)))
          (c.loop-command.invariant.0 text t collects start before h) c.in_ok-step.ensures.ok,
      omega (arith, c.loop-command.invariant.1, c.in_ok-step.ensures.ticks),
    )
