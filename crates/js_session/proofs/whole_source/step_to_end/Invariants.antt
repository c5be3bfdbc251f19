use Rattle.std.proofs.Common.{◌-◌, length}
use Rattle.js_session.proofs.WholeLemmas.{Reaches}
use Rattle.js_session.proofs.whole_source.step_to_end.Given as goal

-- So many steps were made, and no row but the last may be the end of the source.
abbrev pub invariant-loop-session : goal.invariant-loop-session
invariant-loop-session g l =
    Reaches l.fn.session.text l.fn.session.source_type l.fn.session.collects l.count l.session

abbrev pub decreases-loop-session : goal.decreases-loop-session
decreases-loop-session g l = length l.fn.session.text - l.count
