-- Edits of a document that are made one behind the other.
use Rattle.std.specs.Prelude.{◌≡◌, ℕ, zero, suc, ◌<◌, ◌≤◌, ◌^◌, ◌⊎◌, List, [], ◌∷◌, length, take, Result, Ok, Err}
use Rattle.js_choose.specs.Rules.{Rule}
use Rattle.js_relex.specs.declared.edit.Edit.{Edit}
use Rattle.js_relex.specs.Documents.{IsEdit, edited}
use Rattle.js_document.specs.declared.fault.DocumentFault.{DocumentFault}
use Rattle.js_document.specs.declared.fault.DocumentFault.TheVariants.{Memory}
use Rattle.js_document.specs.declared.fault.EditsFault.{EditsFault}
use Rattle.js_document.specs.Documents.{DocState, EditCause, Edits}
use Rattle.js_document.specs.States.{Alikeness}

-- the text with the edit made
abbrev pub with_edit : List ℕ → Edit → List ℕ
with_edit text e = edited text e.start e.end e.text.now

-- There is a document of the text with the edit made.
pub record MayEdit (text : List ℕ) (e : Edit) : Type 0 where
  pub places : IsEdit text e.start e.end
  pub short : length (with_edit text e) < 2 ^ 32

-- So there is for each of them, where those before it are made.
abbrev pub MayEditInTurn : List ℕ → List Edit → Type 0
MayEditInTurn text [] = Unit {0}
MayEditInTurn text (e ∷ es) = MayEdit text e × MayEditInTurn (with_edit text e) es

-- There is for those before the one with the index, and this is why there is none for that one.
abbrev pub EditsCause : List ℕ → List Edit → ℕ → DocumentFault → Type 0
EditsCause text [] index fault = ⊥
EditsCause text (e ∷ es) zero fault = EditCause text e.start e.end e.text.now fault
EditsCause text (e ∷ es) (suc index) fault = MayEdit text e × EditsCause (with_edit text e) es index fault

-- The edits were made, each of the document that those before it gave, and the counter rose by the rows that were read.
abbrev pub EditsInTurn : Rule → Alikeness → DocState → List Edit → ℕ → ℕ → DocState → Type 0
EditsInTurn rule Alike old [] before now d = (d ≡ old) × (now ≡ before)
EditsInTurn rule Alike old (e ∷ es) before now d =
    (next : DocState) × (ticks : ℕ) × Edits rule Alike old e.start e.end e.text.now before ticks next
    × EditsInTurn rule Alike next es ticks now d

-- One of the edits has the fault, and this is the document that those before it gave. The counter rose by the rows that
-- were read for it, and no more unless memory was wanting.
pub record StopsAt (rule : Rule) (Alike : Alikeness) (old : DocState) (edits : List Edit) (before now : ℕ) (d : DocState)
    (f : EditsFault) : Type 0 where
  pub is_there : f.made < length edits
  pub ticks : ℕ
  pub made : EditsInTurn rule Alike old (take f.made edits) before ticks d
  pub at_least : ticks ≤ now
  pub refused : (f.fault ≡ Memory) ⊎ (now ≡ ticks)

-- An edit was not made for want of memory.
abbrev pub LacksMemory : Result (Unit {0}) EditsFault → Type 0
LacksMemory (Ok x) = ⊥
LacksMemory (Err f) = f.fault ≡ Memory
