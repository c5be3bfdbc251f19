-- Why a list was not read.
use Rattle.std.specs.Prelude.{◌≡◌}
use Rattle.std.specs.declared.alloc.AllocError.{AllocError}
use Rattle.js_cursor.specs.declared.fault.CursorFault.{CursorFault}
use Rattle.js_cursor.specs.declared.fault.CursorFault.TheVariants as cursor_fault
use Rattle.js_cursor.specs.declared.fault.ListFault.{ListFault}
use Rattle.js_cursor.specs.declared.fault.ListFault.TheVariants.{Stuck, Memory, Element}

-- An element that found no memory is no other fault of a list than want of memory.
abbrev pub as_cursor_fault : ListFault AllocError → CursorFault
as_cursor_fault (Stuck at) = cursor_fault.Stuck at
as_cursor_fault Memory = cursor_fault.Memory
as_cursor_fault (Element error) = cursor_fault.Memory

-- It is so a fault of a list of which this holds.
pub record IsFaultOf (holds : ListFault AllocError → Type 0) (given : CursorFault) : Type 0 where
  pub fault : ListFault AllocError
  pub given_is : given ≡ as_cursor_fault fault
  pub why : holds fault
