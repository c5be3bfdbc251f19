-- Why a session whose goals are chosen gives no report.
use Rattle.std.specs.Prelude.{ℕ, List}
use Rattle.js_session.specs.Faults.{SourceCause}
use Rattle.js_session.specs.declared.fault.LexFault.{LexFault}
use Rattle.js_session.specs.declared.fault.LexFault.TheVariants as lex_fault
use Rattle.js_choose.specs.declared.fault.ChoiceFault.{ChoiceFault}
use Rattle.js_choose.specs.declared.fault.ChoiceFault.TheVariants.{Overlong, NotUtf8, Memory}

-- the same fault of a session with a list of commands
abbrev pub as_lex_fault : ChoiceFault → LexFault
as_lex_fault Overlong = lex_fault.Overlong
as_lex_fault (NotUtf8 at) = lex_fault.NotUtf8 at
as_lex_fault Memory = lex_fault.Memory

-- the cause of a fault: the same as in a session with a list of commands
abbrev pub ChoiceCause : List ℕ → ChoiceFault → Type 0
ChoiceCause source fault = SourceCause source (as_lex_fault fault)
