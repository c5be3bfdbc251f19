use Rattle.std.proofs.Common.{inl, inr}
use Rattle.js_session.proofs.Causes.{sound_no_cause}
use Rattle.js_rewrite.proofs.Positions.{none_closes}
use Rattle.js_rewrite.proofs.sources.report_anew.Goals as goal

pub lack_of_memory-requires : goal.lack_of_memory-requires
lack_of_memory-requires c =
    elim c.in-Err.ensures.cause [
      | inl memory ↦ memory
      | inr other ↦
          absurd
          (sound_no_cause c.args.source.now c.args.commands.now c.in-Err.fault c.requires.readable
          (none_closes c.args.source_type c.args.commands.now c.requires.commands) other)
    ]
