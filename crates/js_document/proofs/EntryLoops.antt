-- Loops over rows, which make their tokens live or copy them.
use Rattle.std.proofs.Common.{◌≡◌, ℕ, suc, ◌+◌, ◌-◌, ◌<◌, ◌≤◌, Bool, true, false, List, [], ◌∷◌, ◌++◌, length, map, take, drop}
use Rattle.std.proofs.Common.{refl, sym, ◌∙◌, ap, subst, arith, append_assoc, get_or, Some}
use Rattle.std.specs.List.{AllByRecursion}
use Rattle.std.specs.Prelude.{if◌then◌else◌, reverse, slice_get}
use Rattle.std.proofs.Math.Seq.{drop-cons}
use Rattle.std.proofs.lemmas.List.{length-take-le, map-append, reverse-append, take-append-drop, take_more}
use Rattle.std.proofs.lemmas.Option.{slice_get_read}
use Rattle.js_text.specs.Lists.{with_last}
use Rattle.js_kind.specs.TokenParts.{TokenParts}
use Rattle.js_session.specs.declared.command.Effect.{Effect}
use Rattle.js_session.specs.declared.command.Effect.TheVariants.{Reads, Peeks, ReLexes, Opens, Rewinds, Commits}
use Rattle.js_session.specs.declared.row.Row.{Row}
use Rattle.js_session.specs.Effects.{row_effect}
use Rattle.js_session.specs.Live.{State, outcome_of, with_re_lexed}
use Rattle.js_session.specs.Shifted.{shifted_row}
use Rattle.js_document.specs.declared.gap.Entry.{Entry}
use Rattle.js_document.specs.Changed.{EntryMayMove, IsReading, StartsReading}
use Rattle.js_document.specs.Gap.{IsPadded, last_entry, reads_on, rows_of}
use Rattle.js_document.specs.Reading.{state_of, with_row, with_rows}
use Rattle.js_document.proofs.KeptLemmas.{rows_joined}
use Rattle.js_document.proofs.ListLemmas.{get_left}
use Rattle.js_document.proofs.TokenLemmas.{by_effect, rows_both}

-- what a row makes live is told by its effect, its token, and whether that was taken
same_effect : (e : Effect) (row other : Row) (tokens : List TokenParts) → row.token ≡ other.token
    → row.taken ≡ other.taken → by_effect e row tokens ≡ by_effect e other tokens
same_effect (Reads goal) row other tokens token taken = ap (λ t. tokens ++ t ∷ []) token
same_effect (Peeks goal) row other tokens token taken = refl
same_effect (ReLexes goal) row other tokens token taken =
    by_flag row.taken
    ∙ ap (λ b. (if◌then◌else◌ {A = State} b (record (state_of tokens) {
      now = with_re_lexed (state_of tokens).now (outcome_of other);
    }) (state_of tokens)).now.tokens) taken
  where
    by_flag : (flag : Bool)
        → (if◌then◌else◌ {A = State} flag (record (state_of tokens) {
          now = with_re_lexed (state_of tokens).now (outcome_of row);
        }) (state_of tokens)).now.tokens
        ≡ (if◌then◌else◌ {A = State} flag (record (state_of tokens) {
          now = with_re_lexed (state_of tokens).now (outcome_of other);
        }) (state_of tokens)).now.tokens
    by_flag true = ap (with_last tokens) token
    by_flag false = refl
same_effect Opens row other tokens token taken = refl
same_effect Rewinds row other tokens token taken = refl
same_effect Commits row other tokens token taken = refl

-- rows of one command make the same token live
pub same_live : (row other : Row) (tokens : List TokenParts) → row.command ≡ other.command → row.token ≡ other.token
    → row.taken ≡ other.taken → with_row tokens row ≡ with_row tokens other
same_live row other tokens command token taken =
    ap (λ c. by_effect (row_effect c) row tokens) command
    ∙ same_effect (row_effect other.command) row other tokens token taken

module _ {K : Type 0} where
  -- the rows up to an entry, and from it on
  pub rows_up_to : (es : List (Entry K)) (index : ℕ) (e : Entry K) → index < length es → e ≡ get_or es index e
      → rows_of {K = K} (take (index + 1) es) ≡ rows_of {K = K} (take index es) ++ e.row ∷ []
  rows_up_to es index e some is =
      ap (rows_of {K = K}) (take_more es index e some) ∙ rows_joined {K = K} (take index es) (get_or es index e ∷ [])
      ∙ ap (λ (x : Entry K). rows_of {K = K} (take index es) ++ x.row ∷ []) (sym is)

  rows_from : (es : List (Entry K)) (left : ℕ) (e : Entry K) → 0 < left → left ≤ length es
      → reverse (rows_of {K = K} (drop (left - 1) es))
      ≡ reverse (rows_of {K = K} (drop left es)) ++ (get_or es (left - 1) e).row ∷ []
  rows_from es left e some few =
      let next : suc (left - 1) ≡ left = omega (arith, some) in
      ap (λ xs. reverse (rows_of {K = K} xs)) (drop-cons es (left - 1) e (omega (arith, some, few)))
      ∙ ap (λ n. reverse ((get_or es (left - 1) e).row ∷ rows_of {K = K} (drop n es))) next
      ∙ reverse-append ((get_or es (left - 1) e).row ∷ []) (rows_of {K = K} (drop left es))

  pub turned_from : (from to : ℕ) (es : List (Entry K)) (left : ℕ) (e : Entry K) → 0 < left → left ≤ length es
      → map (shifted_row from to) (reverse (rows_of {K = K} (drop (left - 1) es)))
      ≡ map (shifted_row from to) (reverse (rows_of {K = K} (drop left es)))
      ++ shifted_row from to (get_or es (left - 1) e).row ∷ []
  turned_from from to es left e some few =
      ap (map (shifted_row from to)) (rows_from es left e some few)
      ∙ map-append (shifted_row from to) (reverse (rows_of {K = K} (drop left es))) ((get_or es (left - 1) e).row ∷ [])

  -- One token more is live.
  pub live_up_to : (es : List (Entry K)) (index : ℕ) (e : Entry K) (tokens now later : List TokenParts)
      → index < length es → e ≡ get_or es index e → now ≡ with_rows tokens (rows_of {K = K} (take index es))
      → later ≡ with_row now e.row → later ≡ with_rows tokens (rows_of {K = K} (take (index + 1) es))
  live_up_to es index e tokens now later some is so_far more =
      more ∙ ap (λ ts. with_row ts e.row) so_far
      ∙ sym (rows_both tokens (rows_of {K = K} (take index es)) (e.row ∷ []))
      ∙ ap (with_rows tokens) (sym (rows_up_to es index e some is))

  pub live_from : (from to : ℕ) (es : List (Entry K)) (left : ℕ) (e : Entry K) (tokens now later : List TokenParts)
      → 0 < left → left ≤ length es
      → now ≡ with_rows tokens (map (shifted_row from to) (reverse (rows_of {K = K} (drop left es))))
      → later ≡ with_row now (shifted_row from to (get_or es (left - 1) e).row)
      → later ≡ with_rows tokens (map (shifted_row from to) (reverse (rows_of {K = K} (drop (left - 1) es))))
  live_from from to es left e tokens now later some few so_far more =
      let before = map (shifted_row from to) (reverse (rows_of {K = K} (drop left es))) in
      let row = shifted_row from to (get_or es (left - 1) e).row in
      more ∙ ap (λ ts. with_row ts row) so_far ∙ sym (rows_both tokens before (row ∷ []))
      ∙ ap (with_rows tokens) (sym (turned_from from to es left e some few))

  -- One row more is copied.
  pub copied_up_to : (es : List (Entry K)) (index : ℕ) (e : Entry K) (rows now later : List Row) (row : Row)
      → index < length es → e ≡ get_or es index e → now ≡ rows ++ rows_of {K = K} (take index es)
      → later ≡ now ++ row ∷ [] → row ≡ e.row → later ≡ rows ++ rows_of {K = K} (take (index + 1) es)
  copied_up_to es index e rows now later row some is so_far more same =
      more ∙ ap (λ rs. rs ++ row ∷ []) so_far ∙ append_assoc rows (rows_of {K = K} (take index es)) (row ∷ [])
      ∙ ap (λ r. rows ++ (rows_of {K = K} (take index es) ++ r ∷ [])) same
      ∙ ap (λ rs. rows ++ rs) (sym (rows_up_to es index e some is))

  -- The last of the entries that are left reads a token behind the last one.
  pub last_reads : (es : List (Entry K)) (left : ℕ) (e : Entry K) → 0 < left → left ≤ length es
      → e ≡ get_or es (left - 1) e → reads_on e.row ≡ true → StartsReading {K = K} (take left es)
  last_reads es left e some few is reads =
      let long = length-take-le left es few in
      let at : last_entry {K = K} (take left es) ≡ Some e =
      ap (λ n. slice_get (take left es) (n - 1)) long
      ∙ sym (get_left (take left es) (drop left es) (left - 1) (omega (arith, long, some)))
      ∙ ap (λ xs. slice_get xs (left - 1)) (take-append-drop left es)
      ∙ slice_get_read es (length es) (left - 1) e refl (omega (arith, some, few)) is in
      subst (IsReading {K = K}) (sym at) reads

  -- What is padded may come before the gap.
  pub padded_move : (pad : ℕ) (es : List (Entry K)) → AllByRecursion (IsPadded {K = K} pad) es
      → AllByRecursion (EntryMayMove {K = K} pad 0) es
  padded_move pad [] all = tt
  padded_move pad (e ∷ es) all = (
    record {
      ordered = all.0.ordered;
      start = (let place = all.0.places.start in omega (arith, place));
      end = (let place = all.0.places.end in omega (arith, place));
    },
    padded_move pad es all.1,
  )
