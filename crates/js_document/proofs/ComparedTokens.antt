-- The tokens that are compared, of rows around a gap.
use Rattle.std.proofs.Common.{◌≡◌, ℕ, ◌+◌, ◌-◌, ◌≤◌, List, [], ◌++◌, length, map, take, drop, subst, arith}
use Rattle.std.specs.List.{AllByRecursion}
use Rattle.std.specs.Prelude.{IfOk, Result, reverse}
use Rattle.std.proofs.lemmas.List.{length-take-le, take-take}
use Rattle.std.proofs.lemmas.Result.{IfOk-weaker}
use Rattle.js_kind.specs.TokenParts.{TokenParts}
use Rattle.js_session.specs.Shifted.{shifted_row, shifted_token}
use Rattle.js_relex.specs.LiveLists.{TokenMayMove}
use Rattle.js_document.specs.declared.change.ChangedRange.{ChangedRange}
use Rattle.js_document.specs.declared.gap.Entry.{Entry}
use Rattle.js_document.specs.Changed.{EndsBy, EntryMayMove, IsChangeBetween, IsChangeOf, MayChange, StartsFrom}
use Rattle.js_document.specs.Changed.{StartsReading, last_token_of}
use Rattle.js_document.specs.Gap.{GapState, IsPadded, around, count_tokens, entries_of, rows_of}
use Rattle.js_document.specs.Reading.{with_rows}
use Rattle.js_document.proofs.ChangedRows.{change_is, news, olds, olds_may_move}
use Rattle.js_document.proofs.EntryLoops.{padded_move}
use Rattle.js_document.proofs.KeptLemmas.{all_rest}
use Rattle.js_document.proofs.ListLemmas.{take_parts}

module _ {K : Type 0} (start end : ℕ) (new : List ℕ) (g : GapState K) (left pad : ℕ)
    (may : MayChange {K = K} start end new g left pad) (read : List (Entry K)) (reading : ℕ)
    (few : reading ≤ length (take left g.back)) (starts : StartsReading {K = K} (take reading (take left g.back))) where
  pub less : reading ≤ left
  less = (let long = length-take-le left g.back may.few in omega (arith, long, few))

  abbrev again : List (Entry K)
  again = take (left - reading) (drop reading g.back)

  again_is : take left g.back ≡ take reading g.back ++ again
  again_is = take_parts g.back reading left less

  begins : StartsReading {K = K} (take reading g.back)
  begins = subst (StartsReading {K = K}) (take-take reading left g.back less) starts

  pub again_moves : AllByRecursion (EntryMayMove {K = K} pad 0) again
  again_moves =
      padded_move {K = K} pad again
      (all_rest (IsPadded {K = K} pad) (take reading g.back) again
      (subst (AllByRecursion (IsPadded {K = K} pad)) again_is may.padded))

  pub compared_old : AllByRecursion (TokenMayMove end (start + length new))
      (with_rows (last_token_of {K = K} g.front)
      (map (shifted_row g.pad 0) (reverse (rows_of {K = K} (drop reading g.back)))))
  compared_old = olds_may_move {K = K} start end new g left pad may read reading less begins again again_is

  abbrev Between : ℕ → List TokenParts → List TokenParts → ChangedRange → Type 0
  Between index olds news r =
      IsChangeBetween {A = TokenParts} (EndsBy start) (StartsFrom end) (shifted_token end (start + length new)) index olds
      news r

  -- What they tell of the change is told of the live tokens.
  pub compared : {E : Type 0} (index : ℕ) (old_tokens new_tokens : List TokenParts) (result : Result ChangedRange E)
      → index ≡ count_tokens (rows_of {K = K} g.front) - 1
      → old_tokens ≡ with_rows (last_token_of {K = K} g.front)
      (map (shifted_row g.pad 0) (reverse (rows_of {K = K} (drop reading g.back))))
      → new_tokens ≡ with_rows (last_token_of {K = K} g.front)
      (rows_of {K = K} read ++ map (shifted_row pad 0) (reverse (rows_of {K = K} again)))
      → IfOk result (Between index old_tokens new_tokens)
      → IfOk result (IsChangeOf start end new (with_rows [] (rows_of {K = K} (entries_of {K = K} g)))
      (with_rows [] (rows_of {K = K} (around {K = K} (g.front ++ read) pad (take left g.back)))))
  compared index old_tokens new_tokens result place old_is new_is between =
      let olds_are = olds {K = K} start end new g left pad may read reading less begins again again_is in
      let news_are = news {K = K} start end new g left pad may read reading less begins again again_is in
      IfOk-weaker result (Between index old_tokens new_tokens)
      (IsChangeOf start end new (with_rows [] (rows_of {K = K} (entries_of {K = K} g)))
      (with_rows [] (rows_of {K = K} (around {K = K} (g.front ++ read) pad (take left g.back)))))
      (λ r is.
      change_is {K = K} start end new g left pad may read reading less begins again again_is r
      (subst (λ n. Between n olds_are news_are r) place
      (subst (λ ts. Between index ts news_are r) old_is
      (subst (λ ts. Between index old_tokens ts r) new_is is))))
      between
