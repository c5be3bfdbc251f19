-- A document with the lines of its text.
use Rattle.std.specs.Prelude.{◌≡◌, ℕ, Bool, false, List, Option, IfSome}
use Rattle.js_lines.specs.declared.line_ends.LineEnds.{LineEnds}
use Rattle.js_edited_lines.specs.Edited.{AreLinesOf, KeptLines}
use Rattle.js_relex.specs.Documents.{IsEdit, edited}
use Rattle.js_document.specs.Documents.{DocState, Edits}
use Rattle.js_document_c.specs.Chosen.{alike_of, choice_of}
use Rattle.js_document_c.specs.declared.chosen.Goals.{Goals}

-- How contracts see a document with its lines: the document, the rule that chooses its goals, what ends a line of its
-- text, and whether its lines are kept.
pub record HeldState : Type 0 where
  pub document : DocState
  pub goals : Goals
  pub ends : LineEnds
  pub keeps : Bool

-- the same, with no lines that are kept
abbrev pub without_lines : HeldState → HeldState
without_lines held = record held { keeps = false }

-- They are the lines of the text, which these end.
pub record AreLinesBy (text : List ℕ) (ends : LineEnds) (lines : KeptLines) : Type 0 where
  pub ends_are : lines.ends ≡ ends
  pub are : AreLinesOf lines text

-- Where lines are kept, they are those of the text.
abbrev pub KeepsLines : List ℕ → LineEnds → Option KeptLines → Type 0
KeepsLines text ends lines = IfSome lines (AreLinesBy text ends)

-- The lines are those of a text that an edit makes this one.
pub record MayFollow (lines : KeptLines) (start end : ℕ) (new text : List ℕ) : Type 0 where
  pub old : List ℕ
  pub lines_are : AreLinesOf lines old
  pub edit : IsEdit old start end
  pub text_is : text ≡ edited old start end new

-- The document is that of the edited text, by the same rule, whatever stood on the counter of its rows.
pub record IsEdited (goals : Goals) (old : DocState) (start end : ℕ) (new : List ℕ) (d : DocState) : Type 0 where
  pub before : ℕ
  pub now : ℕ
  pub edits : Edits (choice_of goals) (alike_of goals) old start end new before now d
