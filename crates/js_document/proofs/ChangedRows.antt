-- Which live tokens an edit changes.
use Rattle.std.proofs.Common.{◌≡◌, ℕ, suc, ◌+◌, ◌-◌, ◌<◌, ◌≤◌, Bool, true, false, List, [], ◌∷◌, ◌++◌, length, map, take}
use Rattle.std.proofs.Common.{drop, refl, sym, ◌∙◌, ap, subst, arith, append_assoc, length-append, Option, Some, None}
use Rattle.std.specs.List.{AllByRecursion}
use Rattle.std.specs.Prelude.{if◌then◌else◌, reverse, slice_get}
use Rattle.std.proofs.lemmas.List.{append-nil, length-map, map-append, reverse-append, take-append-drop, take_at}
use Rattle.js_text.specs.Lists.{with_last}
use Rattle.js_kind.specs.TokenParts.{TokenParts}
use Rattle.js_session.specs.declared.command.Effect.{Effect}
use Rattle.js_session.specs.declared.command.Effect.TheVariants.{Reads, Peeks, ReLexes, Opens, Rewinds, Commits}
use Rattle.js_session.specs.declared.row.Row.{Row}
use Rattle.js_session.specs.Effects.{row_effect}
use Rattle.js_session.specs.Live.{State, outcome_of, with_re_lexed}
use Rattle.js_session.specs.Shifted.{OfEachPlace, shifted, shifted_row, shifted_token}
use Rattle.js_relex.specs.LiveLists.{TokenMayMove}
use Rattle.js_document.specs.declared.change.ChangedRange.{ChangedRange}
use Rattle.js_document.specs.declared.gap.Entry.{Entry}
use Rattle.js_document.specs.Changed.{EndsBy, IsChangeBetween, IsChangeOf, IsReading}
use Rattle.js_document.specs.Changed.{MayChange, StartsFrom, StartsReading, last_token_of, token_of}
use Rattle.js_document.specs.Gap.{GapState, around, count_tokens, entries_of, last_entry, on_effect, reads_on, rows_of}
use Rattle.js_document.specs.Gap.{shifted_entry}
use Rattle.js_document.specs.Reading.{state_of, with_row, with_rows}
use Rattle.js_document.proofs.KeptLemmas.{all_first, all_joined, all_rest, ended_by, rows_joined}
use Rattle.js_document.proofs.ListLemmas.{map_turned}
use Rattle.js_document.proofs.RowPlaces.{turned_both, turned_rows}
use Rattle.js_document.proofs.TokenLemmas.{by_effect, row_length, rows_both, rows_front, rows_length}

-- what holds of the tokens of rows holds of the live ones
module _ (P : TokenParts → Type 0) where
  all_put : (tokens : List TokenParts) (token : TokenParts) → P token → AllByRecursion P tokens
      → AllByRecursion P (with_last tokens token)
  all_put [] token here all = tt
  all_put (t ∷ []) token here all = (here, tt)
  all_put (t ∷ u ∷ us) token here all = (all.0, all_put (u ∷ us) token here all.1)

  all_effect : (e : Effect) (row : Row) (tokens : List TokenParts) → P row.token → AllByRecursion P tokens
      → AllByRecursion P (by_effect e row tokens)
  all_effect (Reads goal) row tokens here all = all_joined P tokens (row.token ∷ []) all (here, tt)
  all_effect (Peeks goal) row tokens here all = all
  all_effect (ReLexes goal) row tokens here all = by_flag row.taken
    where
      by_flag : (taken : Bool)
          → AllByRecursion P (if◌then◌else◌ {A = State} taken (record (state_of tokens) {
            now = with_re_lexed
                (state_of tokens).now (outcome_of row);
          }) (state_of tokens)).now.tokens
      by_flag true = all_put tokens row.token here all
      by_flag false = all
  all_effect Opens row tokens here all = all
  all_effect Rewinds row tokens here all = all
  all_effect Commits row tokens here all = all

  pub all_tokens : (rows : List Row) (tokens : List TokenParts) → AllByRecursion (λ (row : Row). P row.token) rows
      → AllByRecursion P tokens → AllByRecursion P (with_rows tokens rows)
  all_tokens [] tokens all before = before
  all_tokens (row ∷ rows) tokens all before =
      all_tokens rows (with_row tokens row) all.1 (all_effect (row_effect row.command) row tokens all.0 before)

-- Tokens of rows that are moved are moved.
module _ (from to : ℕ) where
  put_moved : (tokens : List TokenParts) (token : TokenParts)
      → with_last (map (shifted_token from to) tokens) (shifted_token from to token)
      ≡ map (shifted_token from to) (with_last tokens token)
  put_moved [] token = refl
  put_moved (t ∷ []) token = refl
  put_moved (t ∷ u ∷ us) token = ap (λ l. shifted_token from to t ∷ l) (put_moved (u ∷ us) token)

  effect_moved : (e : Effect) (row : Row) (tokens : List TokenParts)
      → by_effect e (shifted_row from to row) (map (shifted_token from to) tokens)
      ≡ map (shifted_token from to) (by_effect e row tokens)
  effect_moved (Reads goal) row tokens = sym (map-append (shifted_token from to) tokens (row.token ∷ []))
  effect_moved (Peeks goal) row tokens = refl
  effect_moved (ReLexes goal) row tokens = by_flag row.taken
    where
      by_flag : (taken : Bool)
          → (if◌then◌else◌ {A = State} taken (record (state_of (map (shifted_token from to) tokens)) {
            now = with_re_lexed
                (state_of (map (shifted_token from to) tokens)).now (outcome_of (shifted_row from to row));
          })
          (state_of (map (shifted_token from to) tokens))).now.tokens
          ≡ map (shifted_token from to) (if◌then◌else◌ {A = State} taken (record (state_of tokens) {
            now = with_re_lexed
                (state_of tokens).now (outcome_of row);
          }) (state_of tokens)).now.tokens
      by_flag true = put_moved tokens row.token
      by_flag false = refl
  effect_moved Opens row tokens = refl
  effect_moved Rewinds row tokens = refl
  effect_moved Commits row tokens = refl

  pub rows_moved : (rows : List Row) (tokens : List TokenParts)
      → with_rows (map (shifted_token from to) tokens) (map (shifted_row from to) rows)
      ≡ map (shifted_token from to) (with_rows tokens rows)
  rows_moved [] tokens = refl
  rows_moved (row ∷ rows) tokens =
      ap (λ ts. with_rows ts (map (shifted_row from to) rows)) (effect_moved (row_effect row.command) row tokens)
      ∙ rows_moved rows (with_row tokens row)

-- the first of the rows, if there is one, reads a token behind the last one
abbrev pub BeginsAnew : List Row → Type 0
BeginsAnew [] = Unit {0}
BeginsAnew (row ∷ rows) = reads_on row ≡ true

-- so their tokens stand behind those before
effect_anew : (e : Effect) (row : Row) (tokens : List TokenParts) → on_effect e ≡ true
    → by_effect e row tokens ≡ tokens ++ by_effect e row []
effect_anew (Reads goal) row tokens on = refl
effect_anew (Peeks goal) row tokens on = absurd (cc)
effect_anew (ReLexes goal) row tokens on = absurd (cc)
effect_anew Opens row tokens on = absurd (cc)
effect_anew Rewinds row tokens on = absurd (cc)
effect_anew Commits row tokens on = absurd (cc)

pub rows_anew : (rows : List Row) (tokens : List TokenParts) → BeginsAnew rows
    → with_rows tokens rows ≡ tokens ++ with_rows [] rows
rows_anew [] tokens anew = sym (append-nil tokens)
rows_anew (row ∷ rows) tokens anew =
    let one = row_length row [] in
    let count : (if◌then◌else◌ {A = ℕ} (reads_on row) 1 0) ≡ 1 = ap (λ b. if◌then◌else◌ {A = ℕ} b 1 0) anew in
    ap (λ ts. with_rows ts rows) (effect_anew (row_effect row.command) row tokens anew)
    ∙ rows_front tokens (with_row [] row) rows (omega (arith, one, count))

-- the last of entries that are turned is the first
pub begins_anew : {K : Type 0} (from to : ℕ) (es : List (Entry K)) → StartsReading {K = K} es
    → BeginsAnew (map (shifted_row from to) (reverse (rows_of {K = K} es)))
begins_anew {K} from to es starts = by_last (last_entry {K = K} es) refl starts
  where
    by_last : (last : Option (Entry K)) → last_entry {K = K} es ≡ last → IsReading {K = K} last
        → BeginsAnew (map (shifted_row from to) (reverse (rows_of {K = K} es)))
    by_last None is reading =
        subst (λ (xs : List (Entry K)). BeginsAnew (map (shifted_row from to) (reverse (rows_of {K = K} xs))))
        (sym (nothing es is)) tt
      where
        nothing : (xs : List (Entry K)) → slice_get xs (length xs - 1) ≡ None → xs ≡ []
        nothing [] is = refl
        nothing (x ∷ []) is = absurd (cc)
        nothing (x ∷ y ∷ ys) is =
            let place : length (x ∷ y ∷ ys) - 1 ≡ suc (length (y ∷ ys) - 1) = omega arith in
            let none = nothing (y ∷ ys) (ap (slice_get (x ∷ y ∷ ys)) (sym place) ∙ is) in
            absurd (cc)
    by_last (Some last) is reading =
        let ended = ended_by es last is in
        let turned : reverse (rows_of {K = K} es) ≡ last.row ∷ reverse (rows_of {K = K} ended.before) =
        ap (λ xs. reverse (rows_of {K = K} xs)) ended.is
        ∙ ap (λ l. reverse l) (rows_joined {K = K} ended.before (last ∷ []))
        ∙ reverse-append (rows_of {K = K} ended.before) (last.row ∷ []) in
        subst (λ rs. BeginsAnew (map (shifted_row from to) rs)) (sym turned) reading

module _ {K : Type 0} (start end : ℕ) (new : List ℕ) (g : GapState K) (left pad : ℕ)
    (may : MayChange {K = K} start end new g left pad) (read : List (Entry K)) (reading : ℕ) (less : reading ≤ left)
    (starts : StartsReading {K = K} (take reading g.back)) (again : List (Entry K))
    (again_is : take left g.back ≡ take reading g.back ++ again) where
  abbrev to : ℕ
  to = start + length new

  abbrev last : List TokenParts
  last = last_token_of {K = K} g.front

  abbrev turned : List (Entry K) → ℕ → List Row
  turned es p = map (shifted_row p 0) (reverse (rows_of {K = K} es))

  -- the tokens that are compared
  abbrev pub olds : List TokenParts
  olds = with_rows last (turned (drop reading g.back) g.pad)

  abbrev pub news : List TokenParts
  news = with_rows last (rows_of {K = K} read ++ turned again pad)

  -- and those behind them
  abbrev later : List TokenParts
  later = with_rows [] (turned (take reading g.back) g.pad)

  -- behind the rows before the gap
  behind_front : (rows : List Row)
      → with_rows (with_rows [] (rows_of {K = K} g.front)) rows ≡ may.last.before ++ with_rows last rows
  behind_front rows = ap (λ ts. with_rows ts rows) may.last.tokens_are ∙ by_front g.front may.last.before may.last.alone
    where
      by_front : (front : List (Entry K)) (before : List TokenParts) → (front ≡ [] → before ≡ [])
          → with_rows (before ++ last_token_of {K = K} front) rows
          ≡ before ++ with_rows (last_token_of {K = K} front) rows
      by_front [] before alone =
          ap (λ ts. with_rows (ts ++ []) rows) (alone refl) ∙ ap (λ ts. ts ++ with_rows [] rows) (sym (alone refl))
      by_front (e ∷ es) before alone =
          rows_front before (last_token_of {K = K} (e ∷ es)) rows (some (last_entry {K = K} (e ∷ es)) refl)
        where
          some : (o : Option (Entry K)) → last_entry {K = K} (e ∷ es) ≡ o
              → 0 < length (last_token_of {K = K} (e ∷ es))
          some None is = absurd (none e es is)
            where
              none : (e : Entry K) (es : List (Entry K)) → slice_get (e ∷ es) (length (e ∷ es) - 1) ≡ None → ⊥
              none e [] is = cc
              none e (f ∷ fs) is =
                  let place : length (e ∷ f ∷ fs) - 1 ≡ suc (length (f ∷ fs) - 1) = omega arith in
                  none f fs (ap (slice_get (e ∷ f ∷ fs)) (sym place) ∙ is)
          some (Some x) is = rw is (omega arith)

  old_tokens : with_rows [] (rows_of {K = K} (entries_of {K = K} g)) ≡ may.last.before ++ olds ++ later
  old_tokens =
      let whole : turned g.back g.pad ≡ turned (drop reading g.back) g.pad ++ turned (take reading g.back) g.pad =
      ap (λ es. turned es g.pad) (sym (take-append-drop reading g.back))
      ∙ turned_both {K = K} g.pad (take reading g.back) (drop reading g.back) in
      ap (with_rows []) (rows_joined {K = K} g.front (map (shifted_entry {K = K} g.pad 0) (reverse g.back))
      ∙ ap (λ rs. rows_of {K = K} g.front ++ rs) (turned_rows {K = K} g.pad g.back ∙ whole))
      ∙ rows_both [] (rows_of {K = K} g.front)
      (turned (drop reading g.back) g.pad ++ turned (take reading g.back) g.pad)
      ∙ rows_both (with_rows [] (rows_of {K = K} g.front)) (turned (drop reading g.back) g.pad)
      (turned (take reading g.back) g.pad)
      ∙ ap (λ ts. with_rows ts (turned (take reading g.back) g.pad)) (behind_front (turned (drop reading g.back) g.pad))
      ∙ rows_anew (turned (take reading g.back) g.pad) (may.last.before ++ olds)
      (begins_anew {K = K} g.pad 0 (take reading g.back) starts)

  -- the rows that are left, moved
  moved_back : turned (take reading g.back) pad ≡ map (shifted_row end to) (turned (take reading g.back) g.pad)
  moved_back =
      let rows = rows_of {K = K} (take left g.back) in
      let split : rows ≡ rows_of {K = K} (take reading g.back) ++ rows_of {K = K} again =
      ap (rows_of {K = K}) again_is ∙ rows_joined {K = K} (take reading g.back) again in
      let count = length (rows_of {K = K} (take reading g.back)) in
      let cut : (f : Row → Row) → take count (map f rows) ≡ map f (rows_of {K = K} (take reading g.back)) =
      λ f. ap (λ rs. take count (map f rs)) split
      ∙ ap (take count) (map-append f (rows_of {K = K} (take reading g.back)) (rows_of {K = K} again))
      ∙ take_at (map f (rows_of {K = K} (take reading g.back))) (map f (rows_of {K = K} again)) count
      (length-map (rows_of {K = K} (take reading g.back)) f) in
      let both : map (shifted_row pad 0) (rows_of {K = K} (take reading g.back))
      ≡ map (λ r. shifted_row end to (shifted_row g.pad 0 r)) (rows_of {K = K} (take reading g.back)) =
      sym (cut (shifted_row pad 0)) ∙ ap (take count) (may.moved ∙ map_map (shifted_row end to) (shifted_row g.pad 0) rows)
      ∙ cut (λ r. shifted_row end to (shifted_row g.pad 0 r)) in
      map_turned (shifted_row pad 0) (rows_of {K = K} (take reading g.back)) ∙ ap (λ l. reverse l) both
      ∙ sym (map_turned (λ r. shifted_row end to (shifted_row g.pad 0 r)) (rows_of {K = K} (take reading g.back)))
      ∙ sym (map_map (shifted_row end to) (shifted_row g.pad 0) (reverse (rows_of {K = K} (take reading g.back))))
    where
      map_map : (f h : Row → Row) (rs : List Row) → map f (map h rs) ≡ map (λ r. f (h r)) rs
      map_map f h [] = refl
      map_map f h (r ∷ rs) = ap (λ l. f (h r) ∷ l) (map_map f h rs)

  new_tokens : with_rows [] (rows_of {K = K} (around {K = K} (g.front ++ read) pad (take left g.back)))
      ≡ may.last.before ++ news ++ map (shifted_token end to) later
  new_tokens =
      let whole : turned (take left g.back) pad ≡ turned again pad ++ turned (take reading g.back) pad =
      ap (λ es. turned es pad) again_is ∙ turned_both {K = K} pad (take reading g.back) again in
      let rows : rows_of {K = K} (around {K = K} (g.front ++ read) pad (take left g.back))
      ≡ rows_of {K = K} g.front ++ ((rows_of {K = K} read ++ turned again pad) ++ turned (take reading g.back) pad) =
      rows_joined {K = K} (g.front ++ read) (map (shifted_entry {K = K} pad 0) (reverse (take left g.back)))
      ∙ ap (λ rs. rs ++ rows_of {K = K} (map (shifted_entry {K = K} pad 0) (reverse (take left g.back))))
      (rows_joined {K = K} g.front read)
      ∙ ap (λ rs. (rows_of {K = K} g.front ++ rows_of {K = K} read) ++ rs) (turned_rows {K = K} pad (take left g.back) ∙ whole)
      ∙ append_assoc (rows_of {K = K} g.front) (rows_of {K = K} read)
      (turned again pad ++ turned (take reading g.back) pad)
      ∙ ap (λ rs. rows_of {K = K} g.front ++ rs)
      (sym (append_assoc (rows_of {K = K} read) (turned again pad) (turned (take reading g.back) pad))) in
      ap (with_rows []) rows
      ∙ rows_both [] (rows_of {K = K} g.front)
      ((rows_of {K = K} read ++ turned again pad) ++ turned (take reading g.back) pad)
      ∙ rows_both (with_rows [] (rows_of {K = K} g.front)) (rows_of {K = K} read ++ turned again pad)
      (turned (take reading g.back) pad)
      ∙ ap (λ ts. with_rows ts (turned (take reading g.back) pad))
      (behind_front (rows_of {K = K} read ++ turned again pad))
      ∙ rows_anew (turned (take reading g.back) pad) (may.last.before ++ news)
      (begins_anew {K = K} pad 0 (take reading g.back) starts)
      ∙ ap (λ ts. (may.last.before ++ news) ++ ts)
      (ap (with_rows []) moved_back ∙ rows_moved end to (turned (take reading g.back) g.pad) [])

  all_old : AllByRecursion (TokenMayMove end to) (may.last.before ++ olds ++ later)
  all_old = subst (AllByRecursion (TokenMayMove end to)) old_tokens may.may_move

  pub olds_may_move : AllByRecursion (TokenMayMove end to) olds
  olds_may_move =
      all_rest (TokenMayMove end to) may.last.before olds
      (all_first (TokenMayMove end to) (may.last.before ++ olds) later all_old)

  all_before : AllByRecursion (EndsBy start) may.last.before
  all_before =
      all_first (EndsBy start) may.last.before last
      (subst (AllByRecursion (EndsBy start)) may.last.tokens_are
      (all_tokens (EndsBy start) (rows_of {K = K} g.front) [] (ends (rows_of {K = K} g.front) may.before) tt))
    where
      ends : (rows : List Row) → AllByRecursion (OfEachPlace (λ place. place ≤ start)) rows
          → AllByRecursion (λ (r : Row). EndsBy start r.token) rows
      ends [] all = tt
      ends (r ∷ rs) all = (all.0.end, ends rs all.1)

  abbrev Far : Entry K → Type 0
  Far e = OfEachPlace (λ place. end ≤ shifted g.pad 0 place) e.row

  all_later : AllByRecursion (StartsFrom end) later
  all_later =
      all_tokens (StartsFrom end) (turned (take reading g.back) g.pad) []
      (shifted_starts (reverse (rows_of {K = K} (take reading g.back)))
      (turned_starts (take reading g.back)
      (all_first Far (take reading g.back) again (subst (AllByRecursion Far) again_is may.behind)))) tt
    where
      shifted_starts : (rows : List Row) → AllByRecursion (λ (r : Row). end ≤ shifted g.pad 0 r.token.start) rows
          → AllByRecursion (λ (r : Row). StartsFrom end r.token) (map (shifted_row g.pad 0) rows)
      shifted_starts [] all = tt
      shifted_starts (r ∷ rs) all = (all.0, shifted_starts rs all.1)

      turned_starts : (es : List (Entry K)) → AllByRecursion Far es
          → AllByRecursion (λ (r : Row). end ≤ shifted g.pad 0 r.token.start) (reverse (rows_of {K = K} es))
      turned_starts [] all = tt
      turned_starts (e ∷ es) all =
          subst (AllByRecursion (λ (r : Row). end ≤ shifted g.pad 0 r.token.start))
          (sym (reverse-append (e.row ∷ []) (rows_of {K = K} es)))
          (all_joined (λ (r : Row). end ≤ shifted g.pad 0 r.token.start) (reverse (rows_of {K = K} es)) (e.row ∷ [])
          (turned_starts es all.1) (all.0.start, tt))

  front_count : count_tokens (rows_of {K = K} g.front) - 1 ≡ length may.last.before
  front_count =
      let count = rows_length (rows_of {K = K} g.front) [] in
      let tokens = ap (λ l. length l) may.last.tokens_are ∙ length-append may.last.before last in
      by_front g.front may.last.before may.last.alone (omega (arith, count, tokens))
    where
      by_front : (front : List (Entry K)) (before : List TokenParts) → (front ≡ [] → before ≡ [])
          → count_tokens (rows_of {K = K} front) ≡ length before + length (last_token_of {K = K} front)
          → count_tokens (rows_of {K = K} front) - 1 ≡ length before
      by_front [] before alone count = (let none = ap (λ l. length l) (alone refl) in omega (arith, none))
      by_front (e ∷ es) before alone count = by_last (last_entry {K = K} (e ∷ es)) refl
        where
          none : (e : Entry K) (es : List (Entry K)) → slice_get (e ∷ es) (length (e ∷ es) - 1) ≡ None → ⊥
          none e [] is = cc
          none e (f ∷ fs) is =
              let place : length (e ∷ f ∷ fs) - 1 ≡ suc (length (f ∷ fs) - 1) = omega arith in
              none f fs (ap (slice_get (e ∷ f ∷ fs)) (sym place) ∙ is)

          by_last : (o : Option (Entry K)) → last_entry {K = K} (e ∷ es) ≡ o
              → count_tokens (rows_of {K = K} (e ∷ es)) - 1 ≡ length before
          by_last None is = absurd (none e es is)
          by_last (Some x) is =
              let one : length (last_token_of {K = K} (e ∷ es)) ≡ 1 = ap (λ o. length (token_of {K = K} o)) is in
              omega (arith, one, count)

  -- So the change is told of the live tokens.
  pub change_is : (r : ChangedRange)
      → IsChangeBetween {A = TokenParts} (EndsBy start) (StartsFrom end) (shifted_token end to)
      (count_tokens (rows_of {K = K} g.front) - 1) olds news r
      → IsChangeOf start end new (with_rows [] (rows_of {K = K} (entries_of {K = K} g)))
      (with_rows [] (rows_of {K = K} (around {K = K} (g.front ++ read) pad (take left g.back)))) r
  change_is r between =
      subst (λ ts. IsChangeOf start end new ts (with_rows [] (rows_of {K = K} (around {K = K} (g.front ++ read) pad
      (take left g.back)))) r) (sym old_tokens)
      (subst (λ ts. IsChangeOf start end new (may.last.before ++ olds ++ later) ts r) (sym new_tokens)
      (between may.last.before later (sym front_count) all_before all_later))
