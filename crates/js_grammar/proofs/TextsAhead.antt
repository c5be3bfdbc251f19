-- Texts with the same front: where a place is four bytes at least before the end of the front, they go on alike there.
use Rattle.std.proofs.Common.{◌≡◌, ℕ, zero, suc, ◌<◌, ◌≤◌, Bool, true, false, List, [], ◌∷◌, ◌++◌, length}
use Rattle.std.proofs.Common.{drop}
use Rattle.std.proofs.Common.{refl, sym, ◌∙◌, ap, subst, arith, length-append, append_assoc, inl, inr}
use Rattle.std.specs.Prelude.{nat_le, take}
use Rattle.std.specs.Char.{encode_utf8, len_utf8}
use Rattle.std.specs.Str.{IsUtf8, chars, encode_utf8_all}
use Rattle.std.proofs.lemmas.Bool.{leb-true, leb-false}
use Rattle.std.proofs.lemmas.List.{take-append-drop, take-append-le}
use Rattle.std.proofs.lemmas.Str.{IsUtf8-past_char, chars_past_char, encodes-chars, length-encode, len_utf8_ascii}
use Rattle.std.proofs.lemmas.Str.{len_utf8_bounds}
use Rattle.std.proofs.Math.Seq.{take-append_seam}
use Rattle.js_grammar.proofs.Ahead.{AgreeFor, BeginAlike}
use Rattle.js_grammar.proofs.NumberItems.{true_or_false}

-- A text begins with a character, of which all bytes stand in the front.
pub record FirstFits (w r : List ℕ) (c : ℕ) : Type 0 where
  pub left : List ℕ
  pub front : w ≡ encode_utf8 c ++ left

first_fits : (w r cs : List ℕ) (c : ℕ) → IsUtf8 (w ++ r) → chars (w ++ r) ≡ c ∷ cs → len_utf8 c ≤ length w
    → FirstFits w r c
first_fits w r cs c u e room =
    let bytes : w ++ r ≡ encode_utf8 c ++ encode_utf8_all cs =
    sym (encodes-chars (w ++ r) u) ∙ ap encode_utf8_all e in
    let n = len_utf8 c in
    let size : length (encode_utf8 c) ≡ n = length-encode c in
    let same : take n w ≡ encode_utf8 c =
    sym (take-append-le n w r room) ∙ ap (take n) bytes ∙ ap (λ m. take m (encode_utf8 c ++ encode_utf8_all cs)) (sym size)
    ∙ take-append_seam (encode_utf8 c) (encode_utf8_all cs) in
    record { left = drop n w; front = sym (take-append-drop n w) ∙ ap (λ t. t ++ drop n w) same }

-- what both texts are then
past_first : (w s : List ℕ) (c : ℕ) (left : List ℕ) → w ≡ encode_utf8 c ++ left → IsUtf8 (w ++ s)
    → (chars (w ++ s) ≡ c ∷ chars (left ++ s)) × IsUtf8 (left ++ s)
past_first w s c left e u =
    let bytes : w ++ s ≡ encode_utf8 c ++ (left ++ s) =
    ap (λ t. t ++ s) e ∙ append_assoc (encode_utf8 c) left s in
    (chars_past_char (w ++ s) (left ++ s) c u bytes, IsUtf8-past_char (w ++ s) (left ++ s) c u bytes)

some_first : (w r : List ℕ) → IsUtf8 (w ++ r) → 1 ≤ length w
    → (c : ℕ) × (cs : List ℕ) × (chars (w ++ r) ≡ c ∷ cs)
some_first w r u some = by_chars (chars (w ++ r)) refl
  where
    by_chars : (xs : List ℕ) → chars (w ++ r) ≡ xs → (c : ℕ) × (cs : List ℕ) × (chars (w ++ r) ≡ c ∷ cs)
    by_chars [] e =
        let bytes : w ++ r ≡ [] = sym (encodes-chars (w ++ r) u) ∙ ap encode_utf8_all e in
        absurd (omega (arith, ap length bytes, length-append w r, some))
    by_chars (c ∷ cs) e = (c, cs, e)

-- a first character of ASCII is the same
low_first : (w r s : List ℕ) (c d : ℕ) (cs ds : List ℕ) → IsUtf8 (w ++ r) → IsUtf8 (w ++ s) → 1 ≤ length w
    → chars (w ++ r) ≡ c ∷ cs → chars (w ++ s) ≡ d ∷ ds → d < 128 → c ≡ d
low_first w r s c d cs ds u v some e f low =
    let fits = first_fits w s ds d v f (omega (arith, len_utf8_ascii d low, some)) in
    let same : c ∷ cs ≡ d ∷ chars (fits.left ++ r) = sym e ∙ (past_first w r d fits.left fits.front u).0 in cc

agree_bytes : (n : ℕ) (w r s : List ℕ) → n ≤ length w → IsUtf8 (w ++ r) → IsUtf8 (w ++ s)
    → AgreeFor n (chars (w ++ r)) (chars (w ++ s))
agree_bytes zero w r s room u v = tt
agree_bytes (suc n) w r s room u v =
    let some : 1 ≤ length w = omega (arith, room) in
    let here = some_first w r u some in
    let there = some_first w s v some in
    by_room (nat_le (len_utf8 here.0) (length w)) here.0 refl here.1 here.2 there.0 there.1 there.2
    (λ left less f g. agree_bytes n left r s less f g)
  where
    by_room : (b : Bool) → (c : ℕ) → nat_le (len_utf8 c) (length w) ≡ b → (cs : List ℕ) → chars (w ++ r) ≡ c ∷ cs
        → (d : ℕ) (ds : List ℕ) → chars (w ++ s) ≡ d ∷ ds
        → ((left : List ℕ) → n ≤ length left → IsUtf8 (left ++ r) → IsUtf8 (left ++ s)
        → AgreeFor n (chars (left ++ r)) (chars (left ++ s)))
        → AgreeFor (suc n) (chars (w ++ r)) (chars (w ++ s))
    by_room true c is cs e d ds f later =
        let fits = first_fits w r cs c u e (leb-true (len_utf8 c) (length w) is) in
        let one = past_first w r c fits.left fits.front u in
        let two = past_first w s c fits.left fits.front v in
        subst (λ t. AgreeFor (suc n) t (chars (w ++ s))) (sym one.0)
        (subst (λ t. AgreeFor (suc n) (c ∷ chars (fits.left ++ r)) t) (sym two.0)
        (inl (
          refl,
          λ low.
              later fits.left
              (omega (
                arith,
                room,
                ap length fits.front,
                length-append (encode_utf8 c) fits.left,
                length-encode c,
                len_utf8_ascii c low,
              )) one.1 two.1,
        )))
    by_room false c is cs e d ds f later =
        let far : length w < len_utf8 c = leb-false (len_utf8 c) (length w) is in
        let some : 1 ≤ length w = omega (arith, room) in
        let wide = wide_if c (λ low. omega (arith, far, some, len_utf8_ascii c low)) in
        let other = wide_if d (λ low.
        let same = low_first w r s c d cs ds u v some e f low in
        omega (arith, same, far, some, len_utf8_ascii c (omega (arith, same, low)))) in
        subst (λ t. AgreeFor (suc n) t (chars (w ++ s))) (sym e)
        (subst (λ t. AgreeFor (suc n) (c ∷ cs) t) (sym f) (inr (wide, other)))
      where
        wide_if : (k : ℕ) → (k < 128 → ⊥) → 128 ≤ k
        wide_if k high =
            elim (true_or_false (nat_le 128 k)) [
              | inl is ↦ leb-true 128 k is
              | inr low ↦ absurd (high (leb-false 128 k low))
            ]

-- Behind four bytes that they share, texts go on alike.
pub alike_bytes : (w r s : List ℕ) → 4 ≤ length w → IsUtf8 (w ++ r) → IsUtf8 (w ++ s)
    → BeginAlike (chars (w ++ r)) (chars (w ++ s))
alike_bytes w r s room u v =
    let here = some_first w r u (omega (arith, room)) in
    let fits = first_fits w r here.1 here.0 u here.2 (omega (arith, room, (len_utf8_bounds here.0).1)) in
    record {
      first = here.0;
      rest = chars (fits.left ++ r);
      other = chars (fits.left ++ s);
      here = (past_first w r here.0 fits.left fits.front u).0;
      there = (past_first w s here.0 fits.left fits.front v).0;
    }

pub agree_four : (w r s : List ℕ) → 4 ≤ length w → IsUtf8 (w ++ r) → IsUtf8 (w ++ s)
    → AgreeFor 4 (chars (w ++ r)) (chars (w ++ s))
agree_four w r s room u v = agree_bytes 4 w r s room u v
