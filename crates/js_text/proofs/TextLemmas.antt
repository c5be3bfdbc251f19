-- Laws of `from_first` and `before_first`, and of places.
use Rattle.std.proofs.Common.{◌≡◌, ℕ, ◌+◌, ◌≤◌, Bool, true, false, cond, List, [], ◌∷◌, ◌++◌, length, drop, refl, sym}
use Rattle.std.proofs.Common.{◌∙◌, ap, subst, arith, length-drop, length-append}
use Rattle.std.specs.Char.{encode_utf8, len_utf8}
use lib.Utf8.{scalar}
use Rattle.std.specs.Str.{IsCharBoundary, IsUtf8, encode_utf8_all, chars, all_scalars}
use Rattle.std.proofs.lemmas.Str.{encodes-chars, IsUtf8-drop, encodes-append, scalars-chars, chars-encodes}
use Rattle.std.proofs.lemmas.Str.{IsCharBoundary-past_char, drop_past_char, length-encode}
use Rattle.std.proofs.lemmas.Bool.{and_parts}
use Rattle.js_text.specs.Characters.{from_first, before_first, from_place, place_before}

-- a text is what stands before the first such character, and the rest
pub before_from : (p : ℕ → Bool) (cs : List ℕ) → before_first p cs ++ from_first p cs ≡ cs
before_from p [] = refl
before_from p (c ∷ cs) =
    let ih = before_from p cs in
    elim (p c) as
    (λ b. cond b [] (c ∷ before_first p cs) ++ cond b (c ∷ cs) (from_first p cs) ≡ c ∷ cs)
    [ true ↦ refl | false ↦ ap (λ x. c ∷ x) ih ]

pub from_first-cons : (p : ℕ → Bool) (c : ℕ) (cs : List ℕ) → p c ≡ false → from_first p (c ∷ cs) ≡ from_first p cs
from_first-cons p c cs e = rw e

pub from_first-found : (p : ℕ → Bool) (c : ℕ) (cs : List ℕ) → p c ≡ true → from_first p (c ∷ cs) ≡ c ∷ cs
from_first-found p c cs e = rw e

pub length-from_first : (p : ℕ → Bool) (cs : List ℕ) → length (from_first p cs) ≤ length cs
length-from_first p cs =
    omega (arith, length-append (before_first p cs) (from_first p cs), ap length (before_from p cs))

-- the bytes from a place on are those of its characters
pub rest_bytes : (text : List ℕ) (p : ℕ) → IsUtf8 text → IsCharBoundary text p
    → encode_utf8_all (from_place text p) ≡ drop p text
rest_bytes text p u b = encodes-chars _ (IsUtf8-drop text p u b)

-- a place is known by the characters from it on
pub place_before-from_place : (text : List ℕ) (p : ℕ) → IsUtf8 text → IsCharBoundary text p
    → place_before text (from_place text p) ≡ p
place_before-from_place text p u b =
    omega (arith, ap length (rest_bytes text p u b), length-drop p text, b.0)

pub place_unique : (text : List ℕ) (p q : ℕ) → IsUtf8 text → IsCharBoundary text p → IsCharBoundary text q
    → from_place text p ≡ from_place text q → p ≡ q
place_unique text p q u b d e =
    sym (place_before-from_place text p u b) ∙ ap (place_before text) e ∙ place_before-from_place text q u d

-- the way from one place to a later one, in bytes
pub place_past : (text : List ℕ) (p q : ℕ) (xs : List ℕ) → IsUtf8 text → IsCharBoundary text p → IsCharBoundary text q
    → from_place text p ≡ xs ++ from_place text q → q ≡ p + length (encode_utf8_all xs)
place_past text p q xs u b d e =
    let whole : drop p text ≡ encode_utf8_all xs ++ drop q text =
    sym (rest_bytes text p u b) ∙ ap encode_utf8_all e ∙ encodes-append xs (from_place text q)
    ∙ ap (λ bs. encode_utf8_all xs ++ bs) (rest_bytes text q u d) in
    omega (
      arith,
      ap length whole,
      length-append (encode_utf8_all xs) (drop q text),
      length-drop p text,
      length-drop q text,
      b.0,
      d.0,
    )

-- behind a character that stands at a place is the next one, and from there on what followed the character
pub past_character : (text : List ℕ) (p c : ℕ) (cs : List ℕ) → IsUtf8 text → IsCharBoundary text p
    → from_place text p ≡ c ∷ cs
    → IsCharBoundary text (p + len_utf8 c) × (from_place text (p + len_utf8 c) ≡ cs)
past_character text p c cs u b e =
    let bytes : drop p text ≡ encode_utf8 c ++ encode_utf8_all cs =
    sym (rest_bytes text p u b) ∙ ap encode_utf8_all e in
    let scalars =
    and_parts (scalar c) (all_scalars cs) (sym (ap all_scalars e) ∙ scalars-chars _ (IsUtf8-drop text p u b)) in (
      IsCharBoundary-past_char text (encode_utf8_all cs) p c b.0 (IsUtf8-drop text p u b) bytes,
      ap chars (drop_past_char text (encode_utf8_all cs) p c bytes) ∙ chars-encodes cs scalars.1,
    )

-- and behind characters
pub past_characters : (text : List ℕ) (p : ℕ) (xs ys : List ℕ) → IsUtf8 text → IsCharBoundary text p
    → from_place text p ≡ xs ++ ys → IsCharBoundary text (p + length (encode_utf8_all xs))
past_characters text p [] ys u b e = subst (IsCharBoundary text) (no_more p) b
  where
    no_more : (n : ℕ) → n ≡ n + 0
    no_more n = omega arith
past_characters text p (x ∷ xs) ys u b e =
    let next = past_character text p x (xs ++ ys) u b e in
    subst (IsCharBoundary text)
    (omega (arith, length-append (encode_utf8 x) (encode_utf8_all xs), length-encode x))
    (past_characters text (p + len_utf8 x) xs ys u next.0 next.1)
