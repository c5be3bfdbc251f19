-- Why there is no document of a text or of an edit.
use Rattle.js_session.specs.declared.fault.LexFault.TheVariants as lex_fault
use Rattle.js_document.specs.declared.fault.DocumentFault.{DocumentFault}
use Rattle.js_document.specs.declared.fault.DocumentFault.TheVariants.{BadEdit, Overlong, Memory}
use Rattle.js_lex_c.specs.Refusals.{no_memory}
use Rattle.js_lex_c.specs.declared.refusal.Refusal.{Refusal}
use Rattle.js_lex_c.specs.declared.refusal.Refusal.TheVariants as refusal

abbrev pub refusal_of : DocumentFault → Refusal
refusal_of BadEdit = refusal.BadEdit
refusal_of Overlong = refusal.Lex lex_fault.Overlong
refusal_of Memory = no_memory
