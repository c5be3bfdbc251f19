-- What the calls about a document do, and why they are refused.
use Rattle.std.specs.Prelude.{◌≡◌, ◌⊎◌, ℕ, ◌≤◌, ◌<◌, List, drop, length, map, Option, Some, None, option_map}
use Rattle.std.specs.List.{AllByRecursion}
use Rattle.js_text.specs.declared.source_type.SourceType.{SourceType}
use Rattle.js_text.specs.declared.value.RowValue.{RowValue}
use Rattle.js_kind.specs.TokenParts.{TokenParts}
use Rattle.js_session.specs.Faults.{IsReadable, SourceCause}
use Rattle.js_session.specs.Report.{IsSliceOnPlaces}
use Rattle.js_session.specs.declared.fault.LexFault.{LexFault}
use Rattle.js_lines.specs.Lines.{Lines, line_starts, offset_of, position_of}
use Rattle.js_lines.specs.declared.columns.ColumnUnit.{ColumnUnit}
use Rattle.js_lines.specs.declared.columns.Position.{Position}
use Rattle.js_lists.specs.LiveLists.{live_taken}
use Rattle.js_document.specs.Documents.{DocState, EditCause, IsDocumentOf, change_of_new}
use Rattle.js_document.specs.LiveTokens.{IsTokenAt}
use Rattle.js_document.specs.Values.{IsValueAt, live_values}
use Rattle.js_document.specs.declared.fault.DocumentFault.{DocumentFault}
use Rattle.js_document_c.specs.Chosen.{choice_of}
use Rattle.js_document_c.specs.Held.{HeldState, IsEdited, without_lines}
use Rattle.js_lex_c.specs.DocumentFaults.{refusal_of}
use Rattle.js_lex_c.specs.DocumentNumbers.{column_unit_count, column_unit_number, goals_count, goals_number}
use Rattle.js_lex_c.specs.DocumentNumbers.{line_ends_count, line_ends_number}
use Rattle.js_lex_c.specs.DocumentRecords.{change_record, live_token_record, live_value_record, position_record}
use Rattle.js_lex_c.specs.Filled.{filled}
use Rattle.js_lex_c.specs.Numbers.{source_type_count, source_type_number}
use Rattle.js_lex_c.specs.Records.{comment_record, diagnostic_record}
use Rattle.js_lex_c.specs.Tokens.{value_units}
use Rattle.js_lex_c.specs.declared.document_record.JsChange.{JsChange}
use Rattle.js_lex_c.specs.declared.document_record.JsLiveToken.{JsLiveToken}
use Rattle.js_lex_c.specs.declared.document_record.JsLiveValue.{JsLiveValue}
use Rattle.js_lex_c.specs.declared.document_record.JsPosition.{JsPosition}
use Rattle.js_lex_c.specs.declared.record.JsComment.{JsComment}
use Rattle.js_lex_c.specs.declared.record.JsDiagnostic.{JsDiagnostic}
use Rattle.js_lex_c.specs.declared.refusal.Refusal.{Refusal}
use Rattle.js_lex_c.specs.declared.refusal.Refusal.TheVariants.{Lex, UnknownSourceType, NoDocument}
use Rattle.js_lex_c.specs.declared.refusal.Refusal.TheVariants.{UnknownNumber, NothingThere}

-- What was passed is no text that can be read.
pub record IsUnreadable (source : List ℕ) (refusal : Refusal) : Type 0 where
  pub fault : LexFault
  pub cause : SourceCause source fault
  pub refusal_is : refusal ≡ Lex fault

-- The number is that of no source type.
pub record IsNoType (source_type : ℕ) (refusal : Refusal) : Type 0 where
  pub refusal_is : refusal ≡ UnknownSourceType
  pub past : source_type_count ≤ source_type

-- It is that of one, and that of the goals is that of no rule.
pub record IsNoGoals (source_type goals : ℕ) (refusal : Refusal) : Type 0 where
  pub refusal_is : refusal ≡ UnknownNumber
  pub known : source_type < source_type_count
  pub past : goals_count ≤ goals

-- They are those of a source type and a rule, and the other number is that of no line ends.
pub record IsNoLineEnds (source_type goals line_ends : ℕ) (refusal : Refusal) : Type 0 where
  pub refusal_is : refusal ≡ UnknownNumber
  pub known : source_type < source_type_count
  pub goals_known : goals < goals_count
  pub past : line_ends_count ≤ line_ends

-- The numbers are those of a source type, a rule and line ends, and what was passed is no text.
pub record IsNoText (source : List ℕ) (source_type goals line_ends : ℕ) (refusal : Refusal) : Type 0 where
  pub known : source_type < source_type_count
  pub goals_known : goals < goals_count
  pub ends_known : line_ends < line_ends_count
  pub unreadable : IsUnreadable source refusal

-- why there is no document of a source
abbrev pub NewCause : List ℕ → ℕ → ℕ → ℕ → Refusal → Type 0
NewCause source source_type goals line_ends refusal =
    IsNoType source_type refusal ⊎ IsNoGoals source_type goals refusal
    ⊎ IsNoLineEnds source_type goals line_ends refusal ⊎ IsNoText source source_type goals line_ends refusal

-- The document of the source, with these numbers of its type, of the rule that chooses its goals, and of what ends its
-- lines.
pub record IsNewDocument (source : List ℕ) (source_type goals line_ends : ℕ) (held : HeldState) : Type 0 where
  pub type_of : SourceType
  pub type_is : source_type ≡ source_type_number type_of
  pub goals_are : goals ≡ goals_number held.goals
  pub ends_are : line_ends ≡ line_ends_number held.ends
  pub document : IsDocumentOf (choice_of held.goals) source type_of held.document
  pub change : held.document.change ≡ change_of_new held.document.report

-- There is no document, or the one that is held has a reason for the refusal.
abbrev pub HeldCause : Option HeldState → (HeldState → Refusal → Type 0) → Refusal → Type 0
HeldCause None Cause refusal = refusal ≡ NoDocument
HeldCause (Some held) Cause refusal = Cause held refusal

-- A document is held, and this is true of it.
abbrev pub HoldsSuch : Option HeldState → (HeldState → Type 0) → Type 0
HoldsSuch None Is = ⊥
HoldsSuch (Some held) Is = Is held

-- The same of the document alone.
abbrev pub DocumentCause : Option HeldState → (DocState → Refusal → Type 0) → Refusal → Type 0
DocumentCause held Cause refusal = HeldCause held (λ h. Cause h.document) refusal

abbrev pub HoldsDocument : Option HeldState → (DocState → Type 0) → Type 0
HoldsDocument held Is = HoldsSuch held (λ h. Is h.document)

-- The edit has no document.
pub record EditFails (start end : ℕ) (text : List ℕ) (held : HeldState) (refusal : Refusal) : Type 0 where
  pub readable : IsReadable text
  pub fault : DocumentFault
  pub cause : EditCause held.document.text start end text fault
  pub refusal_is : refusal ≡ refusal_of fault

-- What is put in is no text that can be read, or the edit has no document, in this order.
abbrev pub EditRefused : ℕ → ℕ → List ℕ → HeldState → Refusal → Type 0
EditRefused start end text held refusal =
    IsUnreadable text refusal ⊎ EditFails start end text held refusal

-- The document became that of the edited text; the rule that chooses its goals and what ends its lines stay.
pub record BecomesEdited (start end : ℕ) (text : List ℕ) (old new : HeldState) : Type 0 where
  pub edited : IsEdited old.goals old.document start end text new.document
  pub goals : new.goals ≡ old.goals
  pub ends : new.ends ≡ old.ends

-- Both are held, and this is true of them.
abbrev pub BothHold : Option HeldState → Option HeldState → (HeldState → HeldState → Type 0) → Type 0
BothHold None after Are = ⊥
BothHold (Some held) None Are = ⊥
BothHold (Some held) (Some after) Are = Are held after

-- What is held is the same, but that lines may be kept or forgotten.
abbrev pub IsToldAlike : Option HeldState → Option HeldState → Type 0
IsToldAlike old new = option_map without_lines new ≡ option_map without_lines old

-- No document has a reason.
abbrev pub NoCause : DocState → Refusal → Type 0
NoCause document refusal = ⊥

-- The list has the live tokens from the index on, as far as there is room, and this is how many there are.
pub record GivesTokens (from : ℕ) (old new : List JsLiveToken) (count : ℕ) (document : DocState) : Type 0 where
  pub tokens : new ≡ filled old (map live_token_record (drop from document.report.tokens))
  pub counted : count ≡ length document.report.tokens

-- The list has the values of these tokens from the index on, as far as there is room, and this is how many tokens there
-- are. Each stands at the index of its token, and a stretch has its ends on places of the text.
pub record GivesValues (from : ℕ) (old new : List JsLiveValue) (count : ℕ) (document : DocState) : Type 0 where
  pub values : new ≡ filled old (map live_value_record (drop from (live_values document.commands document.report.rows)))
  pub counted : count ≡ length document.report.tokens
  pub tokens : map (λ x. x.token) (live_taken document.commands document.report.rows) ≡ document.report.tokens
  pub slices : AllByRecursion (IsSliceOnPlaces document.text) (live_values document.commands document.report.rows)

-- The list has the comments from the index on, as far as there is room, and this is how many there are.
pub record GivesComments (from : ℕ) (old new : List JsComment) (count : ℕ) (document : DocState) : Type 0 where
  pub comments : new ≡ filled old (map comment_record (drop from document.report.comments))
  pub counted : count ≡ length document.report.comments

-- The same of diagnostics.
pub record GivesDiagnostics (from : ℕ) (old new : List JsDiagnostic) (count : ℕ) (document : DocState) : Type 0 where
  pub diagnostics : new ≡ filled old (map diagnostic_record (drop from document.report.diagnostics))
  pub counted : count ≡ length document.report.diagnostics

-- What the last edit changed.
abbrev pub GivesChange : JsChange → DocState → Type 0
GivesChange new document = new ≡ change_record document.change

-- The live token that the byte at the offset belongs to.
pub record GivesTokenAt (offset : ℕ) (new : JsLiveToken) (document : DocState) : Type 0 where
  pub token : TokenParts
  pub is_there : IsTokenAt offset document.report.tokens (Some token)
  pub record_is : new ≡ live_token_record token

-- The value of that token: its record, and its units as far as there is room. A stretch has its ends on places of the
-- text.
pub record GivesValueAt (offset : ℕ) (new : JsLiveValue) (old_units new_units : List ℕ) (document : DocState) : Type 0
  where
    pub value : RowValue
    pub is_there : IsValueAt offset document.report.tokens (live_values document.commands document.report.rows) (Some value)
    pub slice : IsSliceOnPlaces document.text value
    pub record_is : new ≡ live_value_record value
    pub units_are : new_units ≡ filled old_units (value_units value)

-- The byte at the offset belongs to no live token.
pub record HasNoTokenAt (offset : ℕ) (document : DocState) (refusal : Refusal) : Type 0 where
  pub refusal_is : refusal ≡ NothingThere
  pub none : IsTokenAt offset document.report.tokens None

-- The number is that of no unit of columns.
pub record IsUnknownUnit (unit : ℕ) (refusal : Refusal) : Type 0 where
  pub refusal_is : refusal ≡ UnknownNumber
  pub past : column_unit_count ≤ unit

-- The same whatever document is held.
abbrev pub UnitRefused : ℕ → HeldState → Refusal → Type 0
UnitRefused unit held refusal = IsUnknownUnit unit refusal

-- The list has the offsets at which lines begin, from the line with this number on, as far as there is room, and this is
-- how many lines there are.
pub record GivesLines (from : ℕ) (old new : List ℕ) (count : ℕ) (held : HeldState) : Type 0 where
  pub starts : new ≡ filled old (drop from (line_starts held.ends held.document.text))
  pub counted : count ≡ length (line_starts held.ends held.document.text)

-- The line and the column of the offset, by this number of a unit.
pub record GivesPosition (offset unit : ℕ) (new : JsPosition) (held : HeldState) : Type 0 where
  pub unit_of : ColumnUnit
  pub unit_is : unit ≡ column_unit_number unit_of
  pub position_is : new ≡ position_record (position_of held.ends unit_of held.document.text offset)

-- the text of the document, with what ends a line of it
abbrev pub lines_held : HeldState → Lines
lines_held held = record { text = held.document.text; ends = held.ends }

-- The offset of the place, by this number of a unit.
pub record GivesOffset (position : Position) (unit : ℕ) (new : ℕ) (held : HeldState) : Type 0 where
  pub unit_of : ColumnUnit
  pub unit_is : unit ≡ column_unit_number unit_of
  pub offset_is : offset_of (lines_held held) unit_of position ≡ Some new

-- There is no line of this number.
pub record HasNoLine (position : Position) (unit : ℕ) (held : HeldState) (refusal : Refusal) : Type 0 where
  pub refusal_is : refusal ≡ NothingThere
  pub unit_of : ColumnUnit
  pub unit_is : unit ≡ column_unit_number unit_of
  pub none : offset_of (lines_held held) unit_of position ≡ None

-- The number is that of no unit, or there is no such line.
abbrev pub OffsetRefused : Position → ℕ → HeldState → Refusal → Type 0
OffsetRefused position unit held refusal = IsUnknownUnit unit refusal ⊎ HasNoLine position unit held refusal
