-- Rows that are held of a text, and of one that is edited.
use Rattle.std.proofs.Common.{◌≡◌, ℕ, ◌+◌, ◌-◌, ◌<◌, List, [], ◌++◌, length, refl, sym, ◌∙◌, ap, subst, arith, take}
use Rattle.std.proofs.Common.{Option, Some, None}
use Rattle.std.specs.List.{AllByRecursion}
use Rattle.std.specs.Prelude.{◌^◌, slice_get, unwrap_or}
use Rattle.std.specs.Str.{IsUtf8}
use Rattle.js_text.specs.declared.source_type.SourceType.{SourceType}
use Rattle.js_kind.specs.TokenParts.{TokenParts}
use Rattle.js_session.specs.declared.row.Row.{Row}
use Rattle.js_choose.specs.Rules.{IsRule, Rule}
use Rattle.js_relex.specs.Documents.{edited}
use Rattle.js_document.specs.declared.change.Change.{Change}
use Rattle.js_document.specs.declared.gap.Entry.{Entry}
use Rattle.js_document.specs.declared.open.Node.{Node}
use Rattle.js_document.specs.Changed.{MayChange}
use Rattle.js_document.specs.Documents.{DocState, Edits, IsHeld, change_of_new, commands_of, document_of, report_of}
use Rattle.js_document.specs.Edited.{ReadsEdited, Replaces}
use Rattle.js_document.specs.Gap.{GapState, MayPad, MovesGap, around, entries_of, rows_of}
use Rattle.js_document.specs.Reading.{JoiningState, Knowledge, LastJoins, ReadsFromStart, UntilJoined, states_of}
use Rattle.js_document.specs.States.{AlikeAgain, AlikeBehind, AlikeItself, Alikeness, ChoosesAlike, KnowsAlike}
use Rattle.js_document.specs.Trie.{HasMore}
use Rattle.js_document.proofs.EditGives.{edits, may_change}
use Rattle.js_document.proofs.EditOutcome.{IsOutcome, outcome_joined, outcome_none}
use Rattle.js_document.proofs.EditedDocument.{IsBeing}
use Rattle.js_document.proofs.EditedRows.{report_of_chosen}
use Rattle.js_document.proofs.HeldLemmas.{held_may_pad, held_rows}
use Rattle.js_document.proofs.KnownLemmas.{known_stays}
use Rattle.js_document.proofs.ReadParts.{read_all, read_from_start}

module _ {K : Type 0} (rule : Rule) (law : IsRule rule) (knows : Knowledge K) (Alike : Alikeness)
    (stays : (old new : List Node) (state : K) (tokens : List TokenParts) → HasMore old new → knows old state tokens
    → knows new state tokens) (text : List ℕ) (t : SourceType) (nodes new_nodes : List Node) where
  -- Rows that were read from the start, where none may be joined.
  pub held_new : (j : JoiningState K) (entries : List (Entry K)) (left : Option ℕ) (pad : ℕ) → j.back ≡ []
      → ReadsFromStart {K = K} rule knows Alike nodes new_nodes j text t entries left → IsUtf8 text
      → pad + length text ≡ 2 ^ 32 - 1 → IsHeld {K = K} rule knows text t new_nodes entries pad
  held_new j entries left pad none reads u pads =
      let stops = reads.stops (by_left left refl reads.joined) in
      let short : length text < 2 ^ 32 = omega (arith, pads) in
      record {
        report_is =
            report_of_chosen rule law text t (rows_of {K = K} entries) u short
            (read_all rule law text t (rows_of {K = K} entries)
            (read_from_start rule law text t {K = K} knows Alike nodes new_nodes j left entries reads) stops);
        known = reads.known;
        pad_is = pads;
      }
    where
      by_left : (o : Option ℕ) → left ≡ o → UntilJoined {K = K} knows Alike nodes j [] (rows_of {K = K} entries) left
          → left ≡ None
      by_left None is until = is
      by_left (Some n) is until =
          let last : LastJoins {K = K} knows Alike nodes j [] (rows_of {K = K} entries) n =
          subst (UntilJoined {K = K} knows Alike nodes j [] (rows_of {K = K} entries)) is until in
          absurd
          (let some : None ≡ Some last.joins.entry = sym (ap (λ back. slice_get back n) none) ∙ last.joins.is_there in
          cc)

  -- The same rows around a gap that was moved, where more is opened.
  pub still_held : (g after : GapState K) → HasMore nodes new_nodes → MovesGap {K = K} g after
      → IsHeld {K = K} rule knows text t nodes (entries_of {K = K} g) g.pad
      → IsHeld {K = K} rule knows text t new_nodes (entries_of {K = K} after) after.pad
  still_held g after more moves held =
      subst (IsHeld {K = K} rule knows text t new_nodes (entries_of {K = K} after)) (sym moves.pad)
      (subst (λ es. IsHeld {K = K} rule knows text t new_nodes es g.pad) (sym moves.entries)
      (record {
        report_is = held.report_is;
        known =
            known_stays {K = K} knows nodes new_nodes (λ state tokens known. stays nodes new_nodes state tokens more known)
            (rows_of {K = K} (entries_of {K = K} g)) (states_of {K = K} (entries_of {K = K} g)) [] held.known;
        pad_is = held.pad_is;
      }))

-- a gap that was moved twice
pub moved_twice : {K : Type 0} (g after last : GapState K) → MovesGap {K = K} g after → MovesGap {K = K} after last
    → MovesGap {K = K} g last
moved_twice g after last first more =
    record { entries = more.entries ∙ first.entries; pad = more.pad ∙ first.pad }

module _ {K : Type 0} (rule : Rule) (law : IsRule rule) (Alike : Alikeness) (choose : ChoosesAlike rule Alike)
    (itself : AlikeItself Alike) (behind_law : AlikeBehind Alike) (again_law : AlikeAgain Alike)
    (knows : Knowledge K) (known_alike : KnowsAlike {K = K} knows Alike)
    (stays : (old new : List Node) (state : K) (tokens : List TokenParts) → HasMore old new → knows old state tokens
    → knows new state tokens) (old_text new : List ℕ) (start end : ℕ) (t : SourceType) (nodes new_nodes : List Node)
    (more : HasMore nodes new_nodes) (g : GapState K)
    (b : IsBeing {K = K} rule knows old_text new start end t nodes g) (entries : List (Entry K)) (left : Option ℕ)
    (reads : ReadsEdited {K = K} rule knows Alike nodes new_nodes g end (edited old_text start end new) t entries left)
    (other : ℕ) (other_is : other + length (edited old_text start end new) ≡ 2 ^ 32 - 1) where
  abbrev text : List ℕ
  text = edited old_text start end new

  abbrev all : List Row
  all = rows_of {K = K} (entries_of {K = K} g)

  abbrev new_entries : List (Entry K)
  new_entries = around {K = K} (g.front ++ entries) other (take (unwrap_or left 0) g.back)

  -- the index of the row that joins an old one
  abbrev joined_at : Option ℕ → Option ℕ
  joined_at None = None
  joined_at (Some n) = Some (length (rows_of {K = K} g.front) + length (rows_of {K = K} entries) - 1)

  outcome : (old : DocState) → old.report.rows ≡ all → old.commands ≡ commands_of all
      → IsOutcome {K = K} rule knows Alike old new start end t text new_nodes g entries (unwrap_or left 0) other
      (joined_at left)
  outcome old rows commands = by_left left refl
    where
      by_left : (o : Option ℕ) → left ≡ o
          → IsOutcome {K = K} rule knows Alike old new start end t text new_nodes g entries (unwrap_or o 0) other
          (joined_at o)
      by_left None is =
          outcome_none {K = K} rule law Alike choose itself behind_law again_law knows known_alike old_text new start end t
          nodes new_nodes (λ state tokens known. stays nodes new_nodes state tokens more known) g b entries left reads other
          other_is old rows commands is
      by_left (Some n) is =
          outcome_joined {K = K} rule law Alike choose itself behind_law again_law knows known_alike old_text new start end
          t nodes new_nodes (λ state tokens known. stays nodes new_nodes state tokens more known) g b entries left reads
          other other_is old rows commands n is

  -- It can be told what changes.
  pub may_replace : MayChange {K = K} start end new g (unwrap_or left 0) other
  may_replace =
      let old = document_of old_text t all (change_of_new (report_of all)) in
      may_change {K = K} rule law Alike knows old_text new start end t nodes new_nodes g b entries (unwrap_or left 0) other
      (joined_at left) other_is old (outcome old refl refl)

  -- The rows of the edited text are held.
  held_between : IsHeld {K = K} rule knows text t new_nodes new_entries other
  held_between =
      let old = document_of old_text t all (change_of_new (report_of all)) in
      let o = outcome old refl refl in
      let short : length text < 2 ^ 32 = omega (arith, other_is) in
      record {
        report_is = report_of_chosen rule law text t (rows_of {K = K} new_entries) b.new_utf8 short o.rows;
        known = o.known;
        pad_is = other_is;
      }

  -- So they may be padded.
  pub between_may_pad : AllByRecursion (MayPad {K = K} other) new_entries
  between_may_pad =
      held_may_pad {K = K} rule law text t other new_entries b.new_utf8 other_is
      (held_rows rule law text t (rows_of {K = K} new_entries) held_between.report_is)

  module _ (after : GapState K) (change : Change)
      (r : Replaces {K = K} g entries (unwrap_or left 0) other start end new after change) where
    -- The document becomes that of the edited text.
    pub edits_rows : (was : Change) (before now : ℕ) → now ≡ before + length entries
        → Edits rule Alike (document_of old_text t all was) start end new before now
        (document_of text t (rows_of {K = K} (entries_of {K = K} after)) change)
    edits_rows was before now ticks =
        let old = document_of old_text t all was in
        subst
        (λ es. Edits rule Alike old start end new before now (document_of text t (rows_of {K = K} es) change))
        (sym r.entries_are)
        (edits {K = K} rule law Alike knows old_text new start end t nodes new_nodes g b entries (unwrap_or left 0) other
        (joined_at left) other_is old (outcome old refl refl) was change refl r.kept r.read r.moved r.tokens r.found
        before now ticks)

    -- And its rows are held.
    pub held_edited : IsHeld {K = K} rule knows text t new_nodes (entries_of {K = K} after) after.pad
    held_edited =
        subst (IsHeld {K = K} rule knows text t new_nodes (entries_of {K = K} after)) (sym r.pad_is)
        (subst (λ es. IsHeld {K = K} rule knows text t new_nodes es other) (sym r.entries_are) held_between)
