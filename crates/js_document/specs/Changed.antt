-- Which items of a list an edit changes.
use Rattle.std.specs.Prelude.{◌≡◌, ℕ, zero, suc, ◌+◌, ◌-◌, ◌<◌, ◌≤◌, ◌^◌, true, List, [], ◌∷◌, ◌++◌, length, map}
use Rattle.std.specs.Prelude.{drop, take, slice_get, Option, Some, None}
use Rattle.std.specs.List.{AllByRecursion}
use Rattle.js_kind.specs.TokenParts.{TokenParts}
use Rattle.js_grammar.specs.Outcome.{Findings}
use Rattle.js_session.specs.Shifted.{OfComment, OfDiagnostic, OfEachPlace, OfSpan, ShiftFits}
use Rattle.js_session.specs.Shifted.{shifted, shifted_comment, shifted_diagnostic, shifted_row, shifted_span, shifted_token}
use Rattle.js_relex.specs.LiveLists.{TokenMayMove}
use Rattle.js_document.specs.declared.change.Change.{Change}
use Rattle.js_document.specs.declared.change.ChangedRange.{ChangedRange}
use Rattle.js_document.specs.declared.gap.Entry.{Entry}
use Rattle.js_document.specs.Gap.{GapState, IsPadded, entries_of, last_entry, reads_on, rows_of}
use Rattle.js_document.specs.Reading.{with_rows}

-- One list becomes another: up to an index all items are the same and stand before what changed, and behind the ends all
-- stand behind it, and are moved. No item more is the same before, and none behind.
pub record IsChange {A : Type 0} (Before Behind : A → Type 0) (moved : A → A) (old new : List A)
    (start old_end new_end : ℕ) : Type 0 where
  pub ordered_old : start ≤ old_end
  pub few_old : old_end ≤ length old
  pub ordered_new : start ≤ new_end
  pub few_new : new_end ≤ length new
  pub front : take start old ≡ take start new
  pub behind : map moved (drop old_end old) ≡ drop new_end new
  pub before_change : AllByRecursion Before (take start old)
  pub behind_change : AllByRecursion Behind (drop old_end old)
  pub no_more_front : (x : A) → start < old_end → start < new_end → slice_get old start ≡ Some x
      → slice_get new start ≡ Some x → Before x → ⊥
  pub no_more_behind : (x : A) → start < old_end → start < new_end → slice_get old (old_end - 1) ≡ Some x
      → slice_get new (new_end - 1) ≡ Some (moved x) → Behind x → ⊥

-- The item stands before what changed, and is the same.
pub record IsSameBefore {A : Type 0} (Before : A → Type 0) (old new : A) : Type 0 where
  pub before : Before old
  pub same : new ≡ old

-- The item stands behind what changed, and is the same, moved.
pub record IsSameBehind {A : Type 0} (Behind : A → Type 0) (moved : A → A) (old new : A) : Type 0 where
  pub behind : Behind old
  pub same : new ≡ moved old

-- So many items at the front of both lists have the property, one by one, and no more.
abbrev pub AreCommon : {A : Type 0} → (A → A → Type 0) → List A → List A → ℕ → Type 0
AreCommon {A} P [] others count = count ≡ 0
AreCommon {A} P (old ∷ olds) [] count = count ≡ 0
AreCommon {A} P (old ∷ olds) (new ∷ news) zero = P old new → ⊥
AreCommon {A} P (old ∷ olds) (new ∷ news) (suc count) = P old new × AreCommon {A = A} P olds news count

-- The token stands before the edit.
abbrev pub EndsBy : ℕ → TokenParts → Type 0
EndsBy start token = token.end ≤ start

-- The token stands behind the edit.
abbrev pub StartsFrom : ℕ → TokenParts → Type 0
StartsFrom end token = end ≤ token.start

-- The live tokens of a text become those of the edited text.
abbrev pub IsChangeOf : ℕ → ℕ → List ℕ → List TokenParts → List TokenParts → ChangedRange → Type 0
IsChangeOf start end new old_tokens new_tokens c =
    IsChange (EndsBy start) (StartsFrom end) (shifted_token end (start + length new)) old_tokens new_tokens c.start
    c.old_end c.new_end

-- A list of what was found becomes that of the edited text. An item stands before the edit where each of its places is
-- the edit's start or before it, and behind the edit where each is its end or behind it; one without a place, as a
-- diagnostic about the whole file, stands on both sides of it.
abbrev pub IsChangeOfFound : {A : Type 0} → ((ℕ → Type 0) → A → Type 0) → (ℕ → ℕ → A → A) → ℕ → ℕ → List ℕ → List A
    → List A → ChangedRange → Type 0
IsChangeOfFound {A} OfPlaces moved start end new olds news c =
    IsChange {A = A} (OfPlaces (λ place. place ≤ start)) (OfPlaces (λ place. end ≤ place))
    (moved end (start + length new)) olds news c.start c.old_end c.new_end

-- What was found becomes what is found in the edited text, list by list.
pub record AreChangesOf (start end : ℕ) (new : List ℕ) (olds news : Findings) (c : Change) : Type 0 where
  pub comments : IsChangeOfFound OfComment shifted_comment start end new olds.comments news.comments c.comments
  pub diagnostics : IsChangeOfFound OfDiagnostic shifted_diagnostic start end new olds.diagnostics news.diagnostics
      c.diagnostics
  pub deferred : IsChangeOfFound OfDiagnostic shifted_diagnostic start end new olds.deferred news.deferred c.deferred
  pub irregular : IsChangeOfFound OfSpan shifted_span start end new olds.irregular news.irregular c.irregular
  pub warnings : IsChangeOfFound OfSpan shifted_span start end new olds.warnings news.warnings c.warnings

-- the token of an entry, if there is one
abbrev pub token_of : {K : Type 0} → Option (Entry K) → List TokenParts
token_of {K} None = []
token_of {K} (Some entry) = entry.row.token ∷ []

-- the token of the last entry, if there is one
abbrev pub last_token_of : {K : Type 0} → List (Entry K) → List TokenParts
last_token_of {K} entries = token_of {K = K} (last_entry {K = K} entries)

-- The token of the entry may be moved.
abbrev pub EntryMayMove : {K : Type 0} → ℕ → ℕ → Entry K → Type 0
EntryMayMove {K} from to entry = TokenMayMove from to entry.row.token

-- there is no such entry, or its row reads a token behind the last one
abbrev pub IsReading : {K : Type 0} → Option (Entry K) → Type 0
IsReading {K} None = Unit {0}
IsReading {K} (Some entry) = reads_on entry.row ≡ true

-- The last of the entries, if there is one, reads a token behind the last one.
abbrev pub StartsReading : {K : Type 0} → List (Entry K) → Type 0
StartsReading {K} entries = IsReading {K = K} (last_entry {K = K} entries)

-- Which items change of lists that stand in one another's place from the index on, behind items that stand before what
-- changed and are the same, and before items that stand behind it and are moved.
abbrev pub IsChangeBetween : {A : Type 0} → (A → Type 0) → (A → Type 0) → (A → A) → ℕ → List A → List A → ChangedRange
    → Type 0
IsChangeBetween {A} Before Behind moved index old new c =
    (front later : List A) → length front ≡ index → AllByRecursion Before front → AllByRecursion Behind later
    → IsChange {A = A} Before Behind moved (front ++ old ++ later) (front ++ new ++ map moved later) c.start c.old_end
    c.new_end

-- The last of the live tokens is that of the last entry, if there is one.
pub record EndsWithLast {K : Type 0} (front : List (Entry K)) : Type 0 where
  pub before : List TokenParts
  pub tokens_are : with_rows [] (rows_of {K = K} front) ≡ before ++ last_token_of {K = K} front
  pub alone : front ≡ [] → before ≡ []

-- It can be told what an edit changes of rows, of which those before the gap are kept, and so many behind it are left, as
-- they are with another pad: they stand behind the edit, and are moved.
pub record MayChange {K : Type 0} (start end : ℕ) (new : List ℕ) (g : GapState K) (left pad : ℕ) : Type 0 where
  pub few : left ≤ length g.back
  pub short : start + length new < 2 ^ 32
  pub last : EndsWithLast {K = K} g.front
  pub before : AllByRecursion (OfEachPlace (λ place. place ≤ start)) (rows_of {K = K} g.front)
  pub behind : AllByRecursion (λ (e : Entry K). OfEachPlace (λ place. end ≤ shifted g.pad 0 place) e.row)
      (take left g.back)
  pub fits : AllByRecursion (ShiftFits end (start + length new)) (rows_of {K = K} (entries_of {K = K} g))
  pub may_move : AllByRecursion (TokenMayMove end (start + length new))
      (with_rows [] (rows_of {K = K} (entries_of {K = K} g)))
  pub padded : AllByRecursion (IsPadded {K = K} pad) (take left g.back)
  pub moved : map (shifted_row pad 0) (rows_of {K = K} (take left g.back))
      ≡ map (shifted_row end (start + length new)) (map (shifted_row g.pad 0) (rows_of {K = K} (take left g.back)))
