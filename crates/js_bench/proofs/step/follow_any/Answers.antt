use Rattle.std.proofs.Common.{sym, ap, ◌∙◌}
use Rattle.js_session.specs.declared.command.Effect.TheVariants.{Reads}
use Rattle.js_lists.proofs.DriveLemmas.{plain_is_next}
use Rattle.js_bench.proofs.step.follow_any.Goals as goal

pub read_on-requires-clause-other : goal.read_on-requires-clause-other
read_on-requires-clause-other g c =
    λ plain. c.requires.other
    (plain_is_next c.args.command
    (sym c.effect.ensures ∙ c.in-Reads.is ∙ ap Reads plain))
