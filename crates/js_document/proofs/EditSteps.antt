-- An edit of rows, by what its calls tell: the gap is moved, rows are read, and put in their place.
use Rattle.std.proofs.Common.{◌≡◌, ℕ, ◌+◌, ◌-◌, List, ◌++◌, length, take, sym, ◌∙◌, ap, subst, Option}
use Rattle.std.specs.List.{AllByRecursion}
use Rattle.std.specs.Prelude.{◌^◌, unwrap_or}
use Rattle.std.specs.Str.{IsUtf8}
use Rattle.js_text.specs.declared.source_type.SourceType.{SourceType}
use Rattle.js_kind.specs.TokenParts.{TokenParts}
use Rattle.js_choose.specs.Rules.{IsRule, Rule}
use Rattle.js_relex.specs.Documents.{edited}
use Rattle.js_document.specs.declared.change.Change.{Change}
use Rattle.js_document.specs.declared.gap.Entry.{Entry}
use Rattle.js_document.specs.declared.open.Node.{Node}
use Rattle.js_document.specs.Changed.{MayChange}
use Rattle.js_document.specs.Documents.{Edits, IsHeld, IsKept, document_of}
use Rattle.js_document.specs.Edited.{IsEditOf, ReadsEdited, Replaces}
use Rattle.js_document.specs.Gap.{GapState, IsPadded, MayPad, MovesGap, around, entries_of, rows_of}
use Rattle.js_document.specs.Reading.{Knowledge}
use Rattle.js_document.specs.States.{AlikeAgain, AlikeBehind, AlikeItself, Alikeness, ChoosesAlike, KnowsAlike}
use Rattle.js_document.specs.Trie.{HasMore}
use Rattle.js_document.proofs.EditedDocument.{IsBeing}
use Rattle.js_document.proofs.HeldEdited.{between_may_pad, edits_rows, held_edited, may_replace, still_held}
use Rattle.js_document.proofs.KeptDocument.{being_of}
use Rattle.js_document.proofs.TrieLemmas.{none_more}

module _ {K : Type 0} (rule : Rule) (law : IsRule rule) (Alike : Alikeness) (choose : ChoosesAlike rule Alike)
    (itself : AlikeItself Alike) (behind_law : AlikeBehind Alike) (again_law : AlikeAgain Alike)
    (knows : Knowledge K) (known_alike : KnowsAlike {K = K} knows Alike)
    (stays : (old new : List Node) (state : K) (tokens : List TokenParts) → HasMore old new → knows old state tokens
    → knows new state tokens) (old_text new : List ℕ) (start end : ℕ) (text : List ℕ) (t : SourceType)
    (nodes : List Node) (first g : GapState K) (moves : MovesGap {K = K} first g)
    (e : IsEditOf {K = K} rule knows old_text t nodes first start end new text) where
  -- the rows are the same, wherever the gap is
  pub moved : IsEditOf {K = K} rule knows old_text t nodes g start end new text
  moved = record {
    held =
        still_held {K = K} rule law knows Alike stays old_text t nodes nodes first g (none_more nodes) moves e.held;
    edit = e.edit;
    text_is = e.text_is;
  }

  module _ (u : IsUtf8 text) (padded : AllByRecursion (IsPadded {K = K} g.pad) g.back)
      (kept : IsKept start (rows_of {K = K} (entries_of {K = K} first)) (length g.front)) (new_nodes : List Node)
      (more : HasMore nodes new_nodes) (entries : List (Entry K)) (left : Option ℕ)
      (reads : ReadsEdited {K = K} rule knows Alike nodes new_nodes g end text t entries left) (other : ℕ)
      (other_is : other + length text ≡ 2 ^ 32 - 1) where
    being : IsBeing {K = K} rule knows old_text new start end t nodes g
    being =
        being_of {K = K} rule law knows old_text new start end t nodes g text moved u padded
        (subst (λ es. IsKept start (rows_of {K = K} es) (length g.front)) (sym moves.entries) kept)

    reads_here : ReadsEdited {K = K} rule knows Alike nodes new_nodes g end (edited old_text start end new) t entries left
    reads_here =
        subst (λ x. ReadsEdited {K = K} rule knows Alike nodes new_nodes g end x t entries left) e.text_is reads

    pads : other + length (edited old_text start end new) ≡ 2 ^ 32 - 1
    pads = ap (λ x. other + length x) (sym e.text_is) ∙ other_is

    -- It can be told what changes.
    pub may_put : MayChange {K = K} start end new g (unwrap_or left 0) other
    may_put =
        may_replace {K = K} rule law Alike choose itself behind_law again_law knows known_alike stays old_text new start end
        t nodes new_nodes more g being entries left reads_here other pads

    -- And the rows of the edited text may be padded.
    pub put_may_pad : AllByRecursion (MayPad {K = K} other)
        (around {K = K} (g.front ++ entries) other (take (unwrap_or left 0) g.back))
    put_may_pad =
        between_may_pad {K = K} rule law Alike choose itself behind_law again_law knows known_alike stays old_text new start
        end t nodes new_nodes more g being entries left reads_here other pads

    module _ (after : GapState K) (change : Change)
        (r : Replaces {K = K} g entries (unwrap_or left 0) other start end new after change) where
      -- The document becomes that of the edited text.
      pub put_edits : (was : Change) (before now : ℕ) → now ≡ before + length entries
          → Edits rule Alike (document_of old_text t (rows_of {K = K} (entries_of {K = K} first)) was) start end new before
          now (document_of text t (rows_of {K = K} (entries_of {K = K} after)) change)
      put_edits was before now ticks =
          subst
          (λ x. Edits rule Alike (document_of old_text t (rows_of {K = K} (entries_of {K = K} first)) was) start end new
          before now (document_of x t (rows_of {K = K} (entries_of {K = K} after)) change)) (sym e.text_is)
          (subst
          (λ es. Edits rule Alike (document_of old_text t (rows_of {K = K} es) was) start end new before now
          (document_of (edited old_text start end new) t (rows_of {K = K} (entries_of {K = K} after)) change)) moves.entries
          (edits_rows {K = K} rule law Alike choose itself behind_law again_law knows known_alike stays old_text new start
          end t nodes new_nodes more g being entries left reads_here other pads after change r was before now ticks))

      -- And its rows are held.
      pub put_held : IsHeld {K = K} rule knows text t new_nodes (entries_of {K = K} after) after.pad
      put_held =
          subst (λ x. IsHeld {K = K} rule knows x t new_nodes (entries_of {K = K} after) after.pad) (sym e.text_is)
          (held_edited {K = K} rule law Alike choose itself behind_law again_law knows known_alike stays old_text new start
          end t nodes new_nodes more g being entries left reads_here other pads after change r)
