-- What rows found, list by list.
use Rattle.std.proofs.Common.{◌≡◌, ℕ, zero, suc, ◌+◌, ◌<◌, ◌≤◌, true, List, [], ◌∷◌, ◌++◌, length, map, drop}
use Rattle.std.proofs.Common.{refl, sym, ◌∙◌, ap, subst, arith, append_assoc, append-nil, Option, Some, None}
use Rattle.std.specs.List.{All, flat_map}
use Rattle.std.specs.Option.{option_map, option_map_or}
use Rattle.std.specs.Prelude.{if◌then◌else◌, slice_get}
use Rattle.std.specs.Str.{IsUtf8}
use Rattle.std.proofs.lemmas.List.{length-drop}
use Rattle.std.proofs.lemmas.Option.{get_or_from_slice_get}
use Rattle.js_text.specs.declared.source_type.SourceType.{SourceType}
use Rattle.js_kind.specs.TokenParts.{TokenParts}
use Rattle.js_grammar.specs.Outcome.{Findings, joined, no_findings}
use Rattle.js_session.specs.declared.command.Effect.{Effect}
use Rattle.js_session.specs.declared.command.Effect.TheVariants.{Reads, Peeks, ReLexes, Opens, Rewinds, Commits}
use Rattle.js_session.specs.declared.row.Row.{Row}
use Rattle.js_session.specs.Effects.{row_effect}
use Rattle.js_session.specs.Live.{Live, State, after_row, live, nothing_live, outcome_of, row_findings, with_re_lexed}
use Rattle.js_session.specs.Shifted.{shifted_row}
use Rattle.js_choose.specs.Rules.{IsRule, Rule}
use Rattle.js_relex.specs.Documents.{live_behind}
use Rattle.js_document.specs.Documents.{commands_of, report_of}
use Rattle.js_document.specs.Found.{findings_of, found_by, found_from, found_in}
use Rattle.js_document.specs.Gap.{again_effect, on_effect}
use Rattle.js_document.proofs.EditedRows.{AreChosenRows}
use Rattle.js_document.proofs.HeldReport.{live_held}
use Rattle.js_document.proofs.ListLemmas.{drop_at_item, get_within}
use Rattle.js_document.proofs.LiveRows.{AreFollowing, Follows, follows, first_on}
use Rattle.js_document.proofs.LiveRows.Follows.{on, again}

-- behind the last item there is none
none_from : {A : Type 0} (xs : List A) (n : ℕ) → slice_get xs n ≡ None → drop n xs ≡ []
none_from [] zero at = refl
none_from [] (suc n) at = refl
none_from (x ∷ xs) zero at = absurd (cc)
none_from (x ∷ xs) (suc n) at = none_from xs n at

drop_past : {A : Type 0} (xs : List A) (n : ℕ) → length xs ≤ n → drop n xs ≡ []
drop_past [] zero few = refl
drop_past [] (suc n) few = refl
drop_past (x ∷ xs) zero few = absurd (omega (arith, few))
drop_past (x ∷ xs) (suc n) few = drop_past xs n (omega (arith, few))

module _ {A : Type 0} (items : Row → List A) where
  pub found_all : (rows : List Row) → found_from {A = A} items rows 0 ≡ found_in {A = A} items rows
  found_all [] = refl
  found_all (row ∷ rows) = refl

  -- One item more is given.
  pub found_next : (rows : List Row) (row given : ℕ) (x : A)
      → slice_get (option_map_or items (slice_get rows row) []) given ≡ Some x
      → found_from {A = A} items (drop row rows) given ≡ x ∷ found_from {A = A} items (drop row rows) (given + 1)
  found_next rows row given x at = by_row (slice_get rows row) refl at
    where
      by_row : (o : Option Row) → slice_get rows row ≡ o → slice_get (option_map_or items o []) given ≡ Some x
          → found_from {A = A} items (drop row rows) given ≡ x ∷ found_from {A = A} items (drop row rows) (given + 1)
      by_row None there at = absurd (cc)
      by_row (Some r) there at =
          let rest = drop_at_item rows row r there in
          let one : suc given ≡ given + 1 = omega arith in
          ap (λ rs. found_from {A = A} items rs given) rest
          ∙ ap (λ l. l ++ flat_map items (drop (suc row) rows)) (drop_at_item (items r) given x at)
          ∙ ap (λ n. x ∷ drop n (items r) ++ flat_map items (drop (suc row) rows)) one
          ∙ ap (λ rs. x ∷ found_from {A = A} items rs (given + 1)) (sym rest)

  -- A row has no more.
  pub found_past : (rows : List Row) (row given : ℕ) → row < length rows
      → slice_get (option_map_or items (slice_get rows row) []) given ≡ None
      → found_from {A = A} items (drop row rows) given ≡ found_from {A = A} items (drop (row + 1) rows) 0
  found_past rows row given less none = by_row (slice_get rows row) refl none
    where
      by_row : (o : Option Row) → slice_get rows row ≡ o → slice_get (option_map_or items o []) given ≡ None
          → found_from {A = A} items (drop row rows) given ≡ found_from {A = A} items (drop (row + 1) rows) 0
      by_row None there none =
          let past = ap (λ l. length l) (none_from rows row there) in
          let rest = length-drop row rows in
          absurd (omega (arith, past, rest, less))
      by_row (Some r) there none =
          let one : suc row ≡ row + 1 = omega arith in
          ap (λ rs. found_from {A = A} items rs given) (drop_at_item rows row r there)
          ∙ ap (λ l. l ++ flat_map items (drop (suc row) rows)) (none_from (items r) given none)
          ∙ sym (found_all (drop (suc row) rows)) ∙ ap (λ n. found_from {A = A} items (drop n rows) 0) one

  -- There is no row more.
  pub found_none : (rows : List Row) (row given : ℕ) → length rows ≤ row
      → found_from {A = A} items (drop row rows) given ≡ []
  found_none rows row given past = ap (λ rs. found_from {A = A} items rs given) (drop_past rows row past)

-- What is live of what was found, in a list of it.
module _ {A : Type 0} (list : Findings → List A) (law : (a b : Findings) → list (joined a b) ≡ list a ++ list b) where
  found_on : (e : Effect) (row : Row) (now : Live) → on_effect e ≡ true
      → list (after_row e row (record { now = now; marks = [] })).now.findings
      ≡ list now.findings ++ list (row_findings row)
  found_on (Reads goal) row now reads = law now.findings (row_findings row)
  found_on (Peeks goal) row now reads = absurd (cc)
  found_on (ReLexes goal) row now reads = absurd (cc)
  found_on Opens row now reads = absurd (cc)
  found_on Rewinds row now reads = absurd (cc)
  found_on Commits row now reads = absurd (cc)

  found_again : (e : Effect) (row : Row) (now : Live) → again_effect e ≡ true → row.taken ≡ true
      → list (after_row e row (record { now = now; marks = [] })).now.findings
      ≡ list now.findings ++ list (row_findings row)
  found_again (Reads goal) row now reads taken = absurd (cc)
  found_again (Peeks goal) row now reads taken = absurd (cc)
  found_again (ReLexes goal) row now reads taken =
      ap (λ b. list (if◌then◌else◌ {A = State} b (record { now = with_re_lexed now (outcome_of row); marks = [] })
      (record { now = now; marks = [] })).now.findings) taken
      ∙ law now.findings (row_findings row)
  found_again Opens row now reads taken = absurd (cc)
  found_again Rewinds row now reads taken = absurd (cc)
  found_again Commits row now reads taken = absurd (cc)

  found_behind : (rows : List Row) (last : TokenParts) (now : Live) → AreFollowing last rows
      → list (live_behind now rows).findings ≡ list now.findings ++ flat_map (λ row. list (row_findings row)) rows
  found_behind [] last now each = sym (append-nil (list now.findings))
  found_behind (row ∷ rows) last now each =
      let more = flat_map (λ r. list (row_findings r)) rows in
      found_behind rows row.token (after_row (row_effect row.command) row (record { now = now; marks = [] })).now
      each.1 ∙ ap (λ l. l ++ more) (by_row each.0)
      ∙ append_assoc (list now.findings) (list (row_findings row)) more
    where
      by_row : Follows last row
          → list (after_row (row_effect row.command) row (record { now = now; marks = [] })).now.findings
          ≡ list now.findings ++ list (row_findings row)
      by_row (on reads apart) = found_on (row_effect row.command) row now reads
      by_row (again reads taken start) = found_again (row_effect row.command) row now reads taken

  pub found_live : (rule : Rule) → (is_rule : IsRule rule) → (text : List ℕ) (t : SourceType) (rows : List Row)
      → (u : IsUtf8 text) → (a : AreChosenRows rule text t rows) → list no_findings ≡ []
      → list (live (commands_of rows) rows).findings ≡ flat_map (λ row. list (row_findings row)) rows
  found_live rule is_rule text t rows u a none =
      let items = λ (row : Row). list (row_findings row) in
      ap (λ l. list l.findings) (live_held rule is_rule text t rows a)
      ∙ ap (λ rs. list (live_behind nothing_live rs).findings) a.rows_are
      ∙ found_behind a.behind a.first.token
      (after_row (row_effect a.first.command) a.first (record { now = nothing_live; marks = [] })).now
      (follows rule is_rule text t rows u a)
      ∙ ap (λ l. l ++ flat_map items a.behind)
      (found_on (row_effect a.first.command) a.first nothing_live (first_on rule is_rule text t rows u a))
      ∙ ap (λ l. (l ++ items a.first) ++ flat_map items a.behind) none
      ∙ ap (flat_map items) (sym a.rows_are)

-- What their report tells of is what the rows found.
pub report_found : (rule : Rule) → (is_rule : IsRule rule) → (text : List ℕ) (t : SourceType) (rows : List Row)
    → (u : IsUtf8 text) → (a : AreChosenRows rule text t rows) → findings_of (report_of rows) ≡ found_by rows
report_found rule is_rule text t rows u a = λ j. record {
  diagnostics = found_live (λ (f : Findings). f.diagnostics) (λ (x y : Findings). refl) rule is_rule text t rows u a refl j;
  deferred = found_live (λ (f : Findings). f.deferred) (λ (x y : Findings). refl) rule is_rule text t rows u a refl j;
  comments = found_live (λ (f : Findings). f.comments) (λ (x y : Findings). refl) rule is_rule text t rows u a refl j;
  irregular = found_live (λ (f : Findings). f.irregular) (λ (x y : Findings). refl) rule is_rule text t rows u a refl j;
  warnings = found_live (λ (f : Findings). f.warnings) (λ (x y : Findings). refl) rule is_rule text t rows u a refl j;
}

-- An item of a row that is shifted is that of the row, shifted.
module _ {A : Type 0} (items : Row → List A) (moved : ℕ → ℕ → A → A)
    (law : (from to : ℕ) (row : Row) → items (shifted_row from to row) ≡ map (moved from to) (items row)) where
  pub item_moved : (from to : ℕ) (row : Row) (index : ℕ)
      → slice_get (items (shifted_row from to row)) index ≡ option_map (moved from to) (slice_get (items row) index)
  item_moved from to row index = ap (λ xs. slice_get xs index) (law from to row) ∙ mapped (items row) index
    where
      mapped : (xs : List A) (n : ℕ)
          → slice_get (map (moved from to) xs) n ≡ option_map (moved from to) (slice_get xs n)
      mapped [] n = refl
      mapped (x ∷ xs) zero = refl
      mapped (x ∷ xs) (suc n) = mapped xs n

-- an item of a list of which each has a property
pub all_there : {A : Type 0} (P : A → Type 0) (xs : List A) (n : ℕ) (x : A) → All P xs → slice_get xs n ≡ Some x → P x
all_there P xs n x all at =
    let within = get_within xs n x at in
    subst P (get_or_from_slice_get xs n x x at) (all n x within)
