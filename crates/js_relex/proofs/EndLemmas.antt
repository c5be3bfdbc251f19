-- How many commands at the end of two lists are the same.
use Rattle.std.proofs.Common.{◌≡◌, ℕ, suc, ◌+◌, ◌-◌, ◌<◌, ◌≤◌, List, ◌∷◌, length}
use Rattle.std.proofs.Common.{drop, sym, ◌∙◌, ap, arith, get_or}
use Rattle.std.proofs.Common.{inl, inr}
use Rattle.std.proofs.Math.Seq.{drop-cons}
use Rattle.std.proofs.lemmas.Bool.{cases_lt}
use Rattle.std.proofs.lemmas.List.{drop-drop}
use Rattle.js_session.specs.declared.command.Command.{Command}
use Rattle.js_relex.specs.Joined.{IsCommonEnd}

-- the last so many commands are the same
abbrev pub SameEnd : List Command → List Command → ℕ → Type 0
SameEnd old new n = drop (length new - n) new ≡ drop (length old - n) old

-- So many commands at the end are the same, as far as both lists were looked at.
pub record EndsAlike (old new : List Command) (n : ℕ) : Type 0 where
  pub in_old : n ≤ length old
  pub in_new : n ≤ length new
  pub same : SameEnd old new n

end_of : (xs : List Command) (n m : ℕ) → n ≤ m → m ≤ length xs
    → drop (length xs - n) xs ≡ drop (m - n) (drop (length xs - m) xs)
end_of xs n m less inside =
    let place : length xs - n ≡ length xs - m + (m - n) = omega (arith, less, inside) in
    ap (λ k. drop k xs) place ∙ sym (drop-drop (m - n) (length xs - m) xs)

fewer : (old new : List Command) (n m : ℕ) → n ≤ m → EndsAlike old new m → SameEnd old new n
fewer old new n m less e =
    end_of new n m less e.in_new ∙ ap (drop (m - n)) e.same ∙ sym (end_of old n m less e.in_old)

cons_end : (xs : List Command) (n : ℕ) (d : Command) → n < length xs
    → drop (length xs - (n + 1)) xs ≡ get_or xs (length xs - 1 - n) d ∷ drop (length xs - n) xs
cons_end xs n d some =
    let place : length xs - (n + 1) ≡ length xs - 1 - n = omega (arith, some) in
    let next : suc (length xs - 1 - n) ≡ length xs - n = omega (arith, some) in
    ap (λ k. drop k xs) place
    ∙ drop-cons xs (length xs - 1 - n) d (omega (arith, some))
    ∙ ap (λ k. get_or xs (length xs - 1 - n) d ∷ drop k xs) next

pub one_more : (old new : List Command) (n : ℕ) (d e : Command) → n < length old → n < length new
    → get_or old (length old - 1 - n) d ≡ get_or new (length new - 1 - n) e → EndsAlike old new n
    → EndsAlike old new (n + 1)
one_more old new n d e in_old in_new equal h = record {
  in_old = omega (arith, in_old);
  in_new = omega (arith, in_new);
  same =
      cons_end new n e in_new ∙ (λ j. sym equal j ∷ h.same j) ∙ sym (cons_end old n d in_old);
}

heads : (x y : Command) (xs ys : List Command) → x ∷ xs ≡ y ∷ ys → x ≡ y
heads x y xs ys e = cc

-- The commands before them differ.
pub one_differs : (old new : List Command) (n : ℕ) (d e : Command) → n < length old → n < length new
    → (get_or old (length old - 1 - n) d ≡ get_or new (length new - 1 - n) e → ⊥) → EndsAlike old new n
    → IsCommonEnd old new n
one_differs old new n d e in_old in_new differ h = record {
  in_old = h.in_old;
  in_new = h.in_new;
  same = λ k less. fewer old new k n less h;
  no_more = λ k o m same.
      elim (cases_lt n k) [
        | inl less ↦ absurd
            (differ
            (heads (get_or old (length old - 1 - n) d) (get_or new (length new - 1 - n) e) (drop (length old - n) old)
            (drop (length new - n) new)
            (sym (cons_end old n d in_old)
            ∙ sym (fewer old new (n + 1) k (omega (arith, less)) (record { in_old = o; in_new = m; same = same }))
            ∙ cons_end new n e in_new)))
        | inr less ↦ less
      ];
}
