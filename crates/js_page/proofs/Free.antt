-- Bytes of which none passes a test.
use Rattle.std.proofs.Common.{◌≡◌, ℕ, zero, suc, ◌+◌, ◌<◌, ◌≤◌, Bool, true, false, List, [], ◌∷◌, ◌++◌, ◌∙◌, ap, sym, arith}
use Rattle.std.proofs.Common.{append-nil, get_or, inl, inr, length, refl}
use Rattle.std.specs.Prelude.{◌/◌, ◌%◌, ◌==◌, ◌||◌, encode_utf8, ◌⊎◌, if◌then◌else◌, nat_lt}
use Rattle.std.specs.List.{list_any}
use Rattle.std.specs.Fmt.{digit_glyph, digits, digits_onto}
use Rattle.std.proofs.lemmas.Bool.{cases_lt, ltb-true, ltb-false, or_from, or_parts}
use Rattle.std.proofs.lemmas.Bool.Decides.{nat_tests}
use Rattle.std.proofs.lemmas.Str.{inside_one}

abbrev pub Free : (ℕ → Bool) → List ℕ → Type 0
Free test [] = Unit {0}
Free test (b ∷ bs) = (test b ≡ false) × Free test bs

pub free_append : (test : ℕ → Bool) (xs ys : List ℕ) → Free test xs → Free test ys → Free test (xs ++ ys)
free_append test [] ys front back = back
free_append test (x ∷ xs) ys front back = (front.0, free_append test xs ys front.1 back)

-- bytes that are written out
pub free_from : (test : ℕ → Bool) (xs : List ℕ) → list_any test xs ≡ false → Free test xs
free_from test [] none = tt
free_from test (x ∷ xs) none =
    let both = or_parts (test x) (list_any test xs) none in (both.0, free_from test xs both.1)

free_each : (test : ℕ → Bool) (xs : List ℕ) → ((k : ℕ) → k < length xs → test (get_or xs k 0) ≡ false) → Free test xs
free_each test [] each = tt
free_each test (x ∷ xs) each =
    (each 0 (omega arith), free_each test xs (λ k within. each (suc k) (omega (arith, within))))

-- the bytes of a character that does not pass, where none passes that is not ASCII
pub encode_free : (test : ℕ → Bool) → ((b : ℕ) → 128 ≤ b → test b ≡ false) → (c : ℕ) → test c ≡ false
    → Free test (encode_utf8 c)
encode_free test high c fails =
    free_each test (encode_utf8 c) (λ k within. by k within (cases_lt (get_or (encode_utf8 c) k 0) 128))
  where
    by : (k : ℕ) → k < length (encode_utf8 c)
        → (get_or (encode_utf8 c) k 0 < 128) ⊎ (128 ≤ get_or (encode_utf8 c) k 0)
        → test (get_or (encode_utf8 c) k 0) ≡ false
    by k within (inl low) =
        ap test (sym (inside_one c [] (encode_utf8 c) k (sym (append-nil (encode_utf8 c))) within low)) ∙ fails
    by k within (inr not_ascii) = high (get_or (encode_utf8 c) k 0) not_ascii

-- the bytes that end a tag, or begin a value in it
abbrev pub ends_tag : ℕ → Bool
ends_tag b = (b == 62) || (b == 34)

glyph_by : (upper : Bool) (d : ℕ) (b : Bool) → nat_lt d 10 ≡ b
    → ends_tag (if b then 48 + d else (if upper then 55 + d else 87 + d)) ≡ false
glyph_by upper d true e =
    let low : d < 10 = ltb-true d 10 e in
    or_from (48 + d == 62) (48 + d == 34) (grind (arith, nat_tests)) (grind (arith, nat_tests))
glyph_by true d false e =
    let high : 10 ≤ d = ltb-false d 10 e in
    or_from (55 + d == 62) (55 + d == 34) (grind (arith, nat_tests)) (grind (arith, nat_tests))
glyph_by false d false e =
    let high : 10 ≤ d = ltb-false d 10 e in
    or_from (87 + d == 62) (87 + d == 34) (grind (arith, nat_tests)) (grind (arith, nat_tests))

glyph_free : (upper : Bool) (d : ℕ) → ends_tag (digit_glyph upper d) ≡ false
glyph_free upper d = glyph_by upper d (nat_lt d 10) refl

by_test : (b : Bool) (xs ys : List ℕ) → Free ends_tag xs → Free ends_tag ys → Free ends_tag (if b then xs else ys)
by_test true xs ys first second = first
by_test false xs ys first second = second

onto_free : (k base : ℕ) (upper : Bool) (n : ℕ) (acc : List ℕ) → Free ends_tag acc
    → Free ends_tag (digits_onto k base upper n acc)
onto_free zero base upper n acc free = free
onto_free (suc k) base upper n acc free =
    let more : Free ends_tag (digit_glyph upper (n % base) ∷ acc) = (glyph_free upper (n % base), free) in
    by_test (n / base == 0) (digit_glyph upper (n % base) ∷ acc)
    (digits_onto k base upper (n / base) (digit_glyph upper (n % base) ∷ acc)) more
    (onto_free k base upper (n / base) (digit_glyph upper (n % base) ∷ acc) more)

pub digits_free : (base : ℕ) (upper : Bool) (n : ℕ) → Free ends_tag (digits base upper n)
unfolding digits
digits_free base upper n = onto_free 64 base upper n [] tt
