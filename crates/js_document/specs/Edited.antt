-- How the rows of an edited text are read behind those that are kept, which stand before the gap, and what they replace.
use Rattle.std.specs.Prelude.{◌≡◌, ℕ, ◌+◌, ◌-◌, ◌^◌, List, [], ◌∷◌, ◌++◌, length, take, Option}
use Rattle.js_text.specs.declared.source_type.SourceType.{SourceType}
use Rattle.js_choose.specs.Rules.{Rule}
use Rattle.js_relex.specs.Documents.{IsEdit, edited}
use Rattle.js_document.specs.declared.change.Change.{Change}
use Rattle.js_document.specs.declared.gap.Entry.{Entry}
use Rattle.js_document.specs.declared.open.Node.{Node}
use Rattle.js_document.specs.Changed.{AreChangesOf, IsChangeOf}
use Rattle.js_document.specs.Documents.{IsHeld}
use Rattle.js_document.specs.Found.{found_by}
use Rattle.js_document.specs.Gap.{GapState, around, entries_of, rows_of}
use Rattle.js_document.specs.Reading.{JoiningState, Knowledge, ReadsBehind, ReadsFromStart, with_rows}
use Rattle.js_document.specs.States.{Alikeness}

-- what the rows of the edited text may be joined by, which has this length: the rows behind the gap
abbrev pub joining : {K : Type 0} → GapState K → ℕ → ℕ → JoiningState K
joining {K} old end length = record { back = old.back; pad = 2 ^ 32 - 1 - length; limit = end + old.pad }

-- The rows were read behind these, or from the start where there is none.
abbrev pub ReadsIn : {K : Type 0} → Rule → Knowledge K → Alikeness → List Node → List Node → JoiningState K → List ℕ
    → SourceType → List (Entry K) → List (Entry K) → Option ℕ → Type 0
ReadsIn {K} rule knows Alike old new j text t [] entries left =
    ReadsFromStart {K = K} rule knows Alike old new j text t entries left
ReadsIn {K} rule knows Alike old new j text t (kept ∷ more) entries left =
    ReadsBehind {K = K} rule knows Alike old new j text t (with_rows [] (rows_of {K = K} (kept ∷ more))) entries left

-- The rows were read behind those before the gap, or from the start where none is.
abbrev pub ReadsEdited : {K : Type 0} → Rule → Knowledge K → Alikeness → List Node → List Node → GapState K → ℕ → List ℕ
    → SourceType → List (Entry K) → Option ℕ → Type 0
ReadsEdited {K} rule knows Alike old_nodes new_nodes old end text t entries left =
    ReadsIn {K = K} rule knows Alike old_nodes new_nodes (joining {K = K} old end (length text)) text t old.front entries
    left

-- The rows of a text are held, and this is the text with an edit made.
pub record IsEditOf {K : Type 0} (rule : Rule) (knows : Knowledge K) (old : List ℕ) (t : SourceType) (nodes : List Node)
    (g : GapState K) (start end : ℕ) (new text : List ℕ) : Type 0 where
  pub held : IsHeld {K = K} rule knows old t nodes (entries_of {K = K} g) g.pad
  pub edit : IsEdit old start end
  pub text_is : text ≡ edited old start end new

-- Rows that were read stand behind those before the gap, and before so many of those behind it, with another pad; the
-- change tells of them.
pub record Replaces {K : Type 0} (old : GapState K) (entries : List (Entry K)) (left pad start end : ℕ) (new : List ℕ)
    (g : GapState K) (change : Change) : Type 0 where
  pub entries_are : entries_of {K = K} g ≡ around {K = K} (old.front ++ entries) pad (take left old.back)
  pub pad_is : g.pad ≡ pad
  pub kept : change.kept_rows ≡ length old.front
  pub read : change.read_rows ≡ length entries
  pub tokens : IsChangeOf start end new (with_rows [] (rows_of {K = K} (entries_of {K = K} old)))
      (with_rows [] (rows_of {K = K} (around {K = K} (old.front ++ entries) pad (take left old.back)))) change.tokens
  pub found : AreChangesOf start end new (found_by (rows_of {K = K} (entries_of {K = K} old)))
      (found_by (rows_of {K = K} (around {K = K} (old.front ++ entries) pad (take left old.back)))) change
  pub moved : change.moved ≡ record { from = end; to = start + length new }
