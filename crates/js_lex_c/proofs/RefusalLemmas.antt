-- Why a document is refused.
use Rattle.std.proofs.Common.{◌≡◌, ◌⊎◌, ◌<◌, ℕ, List, ◌∙◌, ap, inl, inr, lit<, arith}
use Rattle.js_session.specs.Faults.{IsReadable}
use Rattle.js_lines.specs.declared.line_ends.LineEnds.{LineEnds}
use Rattle.js_lines.specs.declared.line_ends.LineEnds.TheVariants.{EcmaScript}
use Rattle.js_document.specs.Documents.{EditCause, TextCause}
use Rattle.js_document.specs.declared.fault.DocumentFault.{DocumentFault}
use Rattle.js_document.specs.declared.fault.DocumentFault.TheVariants.{BadEdit, Overlong, Memory}
use Rattle.js_document_c.specs.Held.{HeldState}
use Rattle.js_document_c.specs.declared.chosen.Goals.{Goals}
use Rattle.js_document_c.specs.declared.chosen.Goals.TheVariants.{Auto}
use Rattle.js_lex_c.specs.DocumentFaults.{refusal_of}
use Rattle.js_lex_c.specs.DocumentNumbers.{goals_number, line_ends_number}
use Rattle.js_lex_c.specs.Documents.{EditRefused}
use Rattle.js_lex_c.specs.Refusals.{no_memory}
use Rattle.js_lex_c.specs.declared.refusal.Refusal.{Refusal}

-- each rule has a number below 2
pub goals_below : (goals : Goals) → goals_number goals < 2
goals_below Auto = lit< tt
goals_below _ = lit< tt

-- each kind of line ends has a number below 3
pub line_ends_below : (ends : LineEnds) → line_ends_number ends < 3
line_ends_below EcmaScript = lit< tt
line_ends_below _ = lit< tt

-- A text that can be read has a document, where there is memory.
pub readable_fault : (text : List ℕ) (fault : DocumentFault) (refusal : Refusal) → IsReadable text
    → refusal ≡ refusal_of fault → (fault ≡ Memory) ⊎ TextCause text fault → refusal ≡ no_memory
readable_fault text BadEdit refusal readable is (inl e) = absurd (cc)
readable_fault text BadEdit refusal readable is (inr cause) = absurd cause
readable_fault text Overlong refusal readable is (inl e) = absurd (cc)
readable_fault text Overlong refusal readable is (inr cause) = absurd (omega (arith, cause, readable.short))
readable_fault text Memory refusal readable is cause = is

-- What a fault of an edit is refused for.
pub edit_fails : (start end : ℕ) (text : List ℕ) (held : HeldState) (fault : DocumentFault) (refusal : Refusal)
    → IsReadable text → refusal ≡ refusal_of fault
    → (fault ≡ Memory) ⊎ EditCause held.document.text start end text fault
    → (refusal ≡ no_memory) ⊎ EditRefused start end text held refusal
edit_fails start end text held fault refusal readable is (inl e) = inl (is ∙ ap refusal_of e)
edit_fails start end text held fault refusal readable is (inr cause) =
    inr (inr (record { readable = readable; fault = fault; cause = cause; refusal_is = is }))
