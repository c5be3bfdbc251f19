-- The first row that has a property.
use Rattle.std.proofs.Common.{◌≡◌, ℕ, zero, suc, ◌+◌, ◌-◌, ◌<◌, ◌≤◌, List, [], ◌∷◌, ◌++◌, length, refl, sym, ◌∙◌}
use Rattle.std.proofs.Common.{subst, arith, inl, inr, Option, Some, None}
use Rattle.std.specs.Prelude.{slice_get}
use Rattle.js_session.specs.declared.row.Row.{Row}
use Rattle.js_relex.specs.Joined.{FirstFrom}

module _ (P : ℕ → Row → Type 0) where
  -- it is the first of more rows, if it is there
  pub first_of_more : (index : ℕ) (rows more : List Row) (found : Option ℕ) → FirstFrom P index rows found
      → (found ≡ None → more ≡ []) → FirstFrom P index (rows ++ more) found
  first_of_more index [] more found h none = subst (λ rs. FirstFrom P index rs found) (sym (none h)) h
  first_of_more index (row ∷ rows) more found h none =
      elim h [
        | inl here ↦ inl here
        | inr later ↦ inr (later.0, first_of_more (suc index) rows more found later.1 none)
      ]

  -- no row of the front has it
  pub behind_none : (index : ℕ) (rows more : List Row) (found : Option ℕ) → FirstFrom P index rows None
      → FirstFrom P (index + length rows) more found → FirstFrom P index (rows ++ more) found
  behind_none index [] more found none h =
      let same : index + 0 ≡ index = omega arith in subst (λ i. FirstFrom P i more found) same h
  behind_none index (row ∷ rows) more found none h =
      elim none [
        | inl here ↦ absurd (let no = here.1 in cc)
        | inr later ↦ inr (
          later.0,
          behind_none (suc index) rows more found later.1
              (let same : index + suc (length rows) ≡ suc index + length rows = omega arith in
              subst (λ i. FirstFrom P i more found) same h),
        )
      ]

  -- and back
  pub found_behind : (index : ℕ) (rows more : List Row) (found : Option ℕ) → FirstFrom P index rows None
      → FirstFrom P index (rows ++ more) found → FirstFrom P (index + length rows) more found
  found_behind index [] more found none h =
      let same : index ≡ index + 0 = omega arith in subst (λ i. FirstFrom P i more found) same h
  found_behind index (row ∷ rows) more found none h =
      elim none [
        | inl here ↦ absurd (let no = here.1 in cc)
        | inr later ↦ elim h [
          | inl here ↦ absurd (later.0 here.0)
          | inr on ↦
              let same : suc index + length rows ≡ index + suc (length rows) = omega arith in
              subst (λ i. FirstFrom P i more found) same (found_behind (suc index) rows more found later.1 on.1)
        ]
      ]

  -- there is one at most
  pub one_first : (index : ℕ) (rows : List Row) (a b : Option ℕ) → FirstFrom P index rows a
      → FirstFrom P index rows b → a ≡ b
  one_first index [] a b h k = h ∙ sym k
  one_first index (row ∷ rows) a b h k =
      elim h [
        | inl here ↦ elim k [
          | inl there ↦ here.1 ∙ sym there.1
          | inr later ↦ absurd (later.0 here.0)
        ]
        | inr later ↦ elim k [
          | inl there ↦ absurd (later.0 there.0)
          | inr on ↦ one_first (suc index) rows a b later.1 on.1
        ]
      ]

  some_is : (a b : ℕ) → Some a ≡ Some b → a ≡ b
  some_is a b e = cc

  -- it is one of the rows
  pub record IsThere (index : ℕ) (rows : List Row) (found : ℕ) : Type 0 where
    pub row : Row
    pub behind : index ≤ found
    pub inside : found < index + length rows
    pub is_there : slice_get rows (found - index) ≡ Some row
    pub has : P found row

  pub found_there : (index : ℕ) (rows : List Row) (found : ℕ) → FirstFrom P index rows (Some found)
      → IsThere index rows found
  found_there index [] found h = absurd (let no = h in cc)
  found_there index (row ∷ rows) found h =
      elim h [
        | inl here ↦
            let same : found ≡ index = some_is found index here.1 in
            let zero_is : zero ≡ found - index = omega (arith, same) in
            record {
              row = row;
              behind = omega (arith, same);
              inside = omega (arith, same);
              is_there = subst (λ i. slice_get (row ∷ rows) i ≡ Some row) zero_is refl;
              has = subst (λ i. P i row) (sym same) here.0;
            }
        | inr later ↦
            let there = found_there (suc index) rows found later.1 in
            let behind = there.behind in
            let inside = there.inside in
            let next : suc (found - suc index) ≡ found - index = omega (arith, behind) in
            record {
              row = there.row;
              behind = omega (arith, behind);
              inside = omega (arith, inside);
              is_there = subst (λ i. slice_get (row ∷ rows) i ≡ Some there.row) next there.is_there;
              has = there.has;
            }
      ]
