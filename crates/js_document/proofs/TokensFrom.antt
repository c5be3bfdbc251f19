-- The live tokens from one on: those of the rows from the one on with which it begins.
use Rattle.std.proofs.Common.{◌≡◌, ℕ, zero, suc, ◌+◌, ◌<◌, ◌≤◌, Bool, true, false, List, [], ◌∷◌, length, map, take, drop}
use Rattle.std.proofs.Common.{refl, sym, ◌∙◌, ap, subst, arith, get_or, Some, None, inl, inr}
use Rattle.std.specs.Prelude.{◌⊎◌, if◌then◌else◌, slice_get}
use Rattle.std.specs.Str.{IsUtf8}
use Rattle.std.proofs.lemmas.List.{drop-map, drop_all, length-map, take_all}
use Rattle.std.proofs.lemmas.Option.{slice_get_cases}
use Rattle.js_text.specs.declared.source_type.SourceType.{SourceType}
use Rattle.js_kind.specs.TokenParts.{TokenParts}
use Rattle.js_session.specs.declared.command.Effect.{Effect}
use Rattle.js_session.specs.declared.command.Effect.TheVariants.{Reads, Peeks, ReLexes, Opens, Rewinds, Commits}
use Rattle.js_session.specs.declared.row.Row.{Row}
use Rattle.js_session.specs.Effects.{row_effect}
use Rattle.js_session.specs.Report.{ReportOf}
use Rattle.js_choose.specs.Rules.{IsRule, Rule}
use Rattle.js_document.specs.Documents.{commands_of, report_of}
use Rattle.js_document.specs.Gap.{again_effect, count_tokens, more_tokens, on_effect, reads_again, reads_on}
use Rattle.js_document.specs.LiveTokens.{BeginsToken, tokens_in, tokens_with}
use Rattle.js_document.specs.Values.{live_rows_in, live_values, values_in}
use Rattle.js_document.proofs.EditedRows.{AreChosenRows}
use Rattle.js_document.proofs.HeldLemmas.{report_count}
use Rattle.js_document.proofs.LiveRows.{AreFollowing, Follows, first_on, follows, not_again}
use Rattle.js_document.proofs.LiveRows.Follows.{on, again}
use Rattle.js_document.proofs.LiveValues.{first_goes, first_stays, tokens_are, values_are}

-- how many live tokens more there are with a row that reads on, and with one that reads again
more_on : (row : Row) → reads_on row ≡ true → more_tokens row ≡ 1
more_on row is = ap (λ b. if◌then◌else◌ {A = ℕ} b 1 0) is

not_on : (e : Effect) → again_effect e ≡ true → on_effect e ≡ false
not_on (Reads goal) is = absurd (cc)
not_on (Peeks goal) is = absurd (cc)
not_on (ReLexes goal) is = refl
not_on Opens is = absurd (cc)
not_on Rewinds is = absurd (cc)
not_on Commits is = absurd (cc)

more_again : (row : Row) → reads_again row ≡ true → more_tokens row ≡ 0
more_again row is = ap (λ b. if◌then◌else◌ {A = ℕ} b 1 0) (not_on (row_effect row.command) is)

-- a row with which there are more reads on
reads_more : (row : Row) → 0 < more_tokens row → reads_on row ≡ true
reads_more row some = by_flag (reads_on row) refl
  where
    by_flag : (b : Bool) → reads_on row ≡ b → reads_on row ≡ true
    by_flag true e = e
    by_flag false e =
        let none : more_tokens row ≡ 0 = ap (λ b. if◌then◌else◌ {A = ℕ} b 1 0) e in absurd (omega (arith, none, some))

-- how many there are with one row more
count_next : (rows : List Row) (n : ℕ) (row : Row) → slice_get rows n ≡ Some row
    → count_tokens (take (suc n) rows) ≡ count_tokens (take n rows) + more_tokens row
count_next [] n row at = absurd (cc)
count_next (x ∷ xs) zero row at =
    let same : x ≡ row = cc in let more = ap (λ (r : Row). more_tokens r) same in omega (arith, more)
count_next (x ∷ xs) (suc n) row at = let more = count_next xs n row at in omega (arith, more)

-- the live rows from one on that reads on
live_from : (first : Row) (behind : List Row) → AreFollowing first.token behind → (n : ℕ) (row : Row)
    → slice_get behind n ≡ Some row → reads_on row ≡ true
    → live_rows_in (drop n behind) ≡ drop (suc (count_tokens (take n behind))) (live_rows_in (first ∷ behind))
live_from first [] each n row at reads = absurd (cc)
live_from first (next ∷ rest) each zero row at reads =
    let same : next ≡ row = cc in
    sym
    (ap (drop 1)
    (first_stays first (next ∷ rest)
    (not_again (row_effect next.command) (ap (λ (r : Row). reads_on r) same ∙ reads))))
live_from first (next ∷ rest) each (suc n) row at reads = by_row each.0 (live_from next rest each.1 n row at reads)
  where
    by_row : Follows first.token next
        → live_rows_in (drop n rest) ≡ drop (suc (count_tokens (take n rest))) (live_rows_in (next ∷ rest))
        → live_rows_in (drop n rest)
        ≡ drop (suc (more_tokens next + count_tokens (take n rest))) (live_rows_in (first ∷ next ∷ rest))
    by_row (on is apart) behind =
        let k = count_tokens (take n rest) in
        let more = more_on next is in
        let count : suc (more_tokens next + k) ≡ suc (suc k) = omega (arith, more) in
        behind
        ∙ sym
        (ap (λ m. drop m (live_rows_in (first ∷ next ∷ rest))) count
        ∙ ap (drop (suc (suc k))) (first_stays first (next ∷ rest) (not_again (row_effect next.command) is)))
    by_row (again is taken start) behind =
        let k = count_tokens (take n rest) in
        let more = more_again next is in
        let count : suc (more_tokens next + k) ≡ suc k = omega (arith, more) in
        behind
        ∙ sym
        (ap (λ m. drop m (live_rows_in (first ∷ next ∷ rest))) count
        ∙ ap (drop (suc k)) (first_goes first (next ∷ rest) is))

-- those from the row on with which a token begins, where the first row reads on
rows_from : (first : Row) (behind : List Row) → reads_on first ≡ true → AreFollowing first.token behind
    → length (live_rows_in (first ∷ behind)) ≡ count_tokens (first ∷ behind) → (index row : ℕ)
    → BeginsToken (first ∷ behind) index row
    → live_rows_in (drop row (first ∷ behind)) ≡ drop index (live_rows_in (first ∷ behind))
rows_from first behind reads each long index zero begins =
    let less = begins.next (omega arith) in
    let more = more_on first reads in
    let none : index ≡ 0 = omega (arith, less, more) in
    ap (λ m. drop m (live_rows_in (first ∷ behind))) (sym none)
rows_from first behind reads each long index (suc n) begins = by_there (slice_get_cases behind n).1
  where
    by_there : ((row : Row) × (n < length behind) × (slice_get behind n ≡ Some row) × (get_or behind n row ≡ row))
        ⊎ ((length behind ≤ n) × (slice_get behind n ≡ None))
        → live_rows_in (drop n behind) ≡ drop index (live_rows_in (first ∷ behind))
    by_there (inr (past, none)) =
        let before : more_tokens first + count_tokens (take n behind) ≤ index = begins.before in
        let all = ap count_tokens (take_all n behind past) in
        ap live_rows_in (drop_all n behind past)
        ∙ sym (drop_all index (live_rows_in (first ∷ behind)) (omega (arith, before, all, long)))
    by_there (inl (row, within, at, same)) =
        let one : suc n + 1 ≡ suc (suc n) = omega arith in
        let less : index < more_tokens first + count_tokens (take (suc n) behind) =
        subst (λ m. index < count_tokens (take m (first ∷ behind))) one (begins.next (omega (arith, within))) in
        let before : more_tokens first + count_tokens (take n behind) ≤ index = begins.before in
        let more = more_on first reads in
        let next = count_next behind n row at in
        let reads_on = reads_more row (omega (arith, less, before, next)) in
        let last = more_on row reads_on in
        let count : suc (count_tokens (take n behind)) ≡ index = omega (arith, less, before, next, more, last) in
        live_from first behind each n row at reads_on ∙ ap (λ m. drop m (live_rows_in (first ∷ behind))) count

-- the tokens of rows are those of their live rows
with_live : (row : Row) (rows : List Row)
    → tokens_with row.token rows ≡ map (λ (r : Row). r.token) (live_rows_in (row ∷ rows))
with_live row [] = refl
with_live row (next ∷ rest) = by_flag (reads_again next) refl (with_live next rest)
  where
    by_flag : (b : Bool) → reads_again next ≡ b
        → tokens_with next.token rest ≡ map (λ (r : Row). r.token) (live_rows_in (next ∷ rest))
        → tokens_with row.token (next ∷ rest) ≡ map (λ (r : Row). r.token) (live_rows_in (row ∷ next ∷ rest))
    by_flag b e behind =
        ap (λ (x : Bool). if◌then◌else◌ {A = List TokenParts} x (tokens_with next.token rest)
        (row.token ∷ tokens_with next.token rest)) e
        ∙ chosen b
        ∙ sym
        (ap (λ (x : Bool). map (λ (r : Row). r.token)
        (if◌then◌else◌ {A = List Row} x (live_rows_in (next ∷ rest)) (row ∷ live_rows_in (next ∷ rest)))) e)
      where
        chosen : (x : Bool)
            → (if◌then◌else◌ {A = List TokenParts} x (tokens_with next.token rest)
            (row.token ∷ tokens_with next.token rest))
            ≡ map (λ (r : Row). r.token)
            (if◌then◌else◌ {A = List Row} x (live_rows_in (next ∷ rest)) (row ∷ live_rows_in (next ∷ rest)))
        chosen true = behind
        chosen false = ap (λ ts. row.token ∷ ts) behind

in_live : (rows : List Row) → tokens_in rows ≡ map (λ (r : Row). r.token) (live_rows_in rows)
in_live [] = refl
in_live (row ∷ rows) = with_live row rows

module _ (rule : Rule) (law : IsRule rule) (text : List ℕ) (t : SourceType) (rows : List Row) (u : IsUtf8 text)
    (a : AreChosenRows rule text t rows) (is : ReportOf text t false (commands_of rows) (report_of rows))
    (index row : ℕ) (begins : BeginsToken rows index row) where
  live : live_rows_in (drop row rows) ≡ drop index (live_rows_in rows)
  live =
      let tokens = ap (λ (ts : List TokenParts). length ts) (tokens_are rule law text t rows u a is) in
      let count = report_count rule law text t rows a in
      let long = length-map (live_rows_in rows) (λ (r : Row). r.token) in
      let all : length (live_rows_in rows) ≡ count_tokens rows = omega (arith, tokens, count, long) in
      let same = a.rows_are in
      subst (λ (rs : List Row). live_rows_in (drop row rs) ≡ drop index (live_rows_in rs)) (sym same)
      (rows_from a.first a.behind (first_on rule law text t rows u a) (follows rule law text t rows u a)
      (subst (λ (rs : List Row). length (live_rows_in rs) ≡ count_tokens rs) same all) index row
      (subst (λ (rs : List Row). BeginsToken rs index row) same begins))

  -- the tokens from one on
  pub tokens_from : tokens_in (drop row rows) ≡ drop index (report_of rows).tokens
  tokens_from =
      in_live (drop row rows) ∙ ap (map (λ (r : Row). r.token)) live
      ∙ sym (drop-map (λ (r : Row). r.token) index (live_rows_in rows))
      ∙ ap (drop index) (tokens_are rule law text t rows u a is)

  -- and their values
  pub values_from : values_in (drop row rows) ≡ drop index (live_values (commands_of rows) rows)
  values_from =
      ap (map (λ (r : Row). r.value)) live ∙ sym (drop-map (λ (r : Row). r.value) index (live_rows_in rows))
      ∙ ap (drop index) (sym (values_are rule law text t rows u a))
