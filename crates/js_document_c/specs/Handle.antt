-- What the handle of a document owns: nothing, at null, or a box.
use base.Fml.{Fml}
use base.Stored.{Coded}
use denote.RawPtr.{Ptr}
use Rattle.std.specs.Coded.{coded_option}
use Rattle.std.specs.declared.option.Option.{Option}
use Rattle.std.specs.declared.alloc.Global.{Global}
use Rattle.js_boxed.specs.Memory.{maybe_owned}
use Rattle.js_document_c.specs.contracts.held.HeldDocument.{the_row}

abbrev pub handle_owns : Global → Ptr → Option the_row.Denot → Fml
handle_owns alloc = maybe_owned alloc the_row

abbrev pub handle_coded : Coded (Option the_row.Denot)
handle_coded = coded_option the_row.coded
