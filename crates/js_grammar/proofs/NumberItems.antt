-- The items of a number, as they are cut from a text.
use Rattle.std.proofs.Common.{◌≡◌, ℕ, Bool, true, false, List, [], ◌∷◌, ◌++◌, drop, refl, sym, ◌∙◌, ap, ◌⊎◌, inl, inr}
use Rattle.std.proofs.Common.{◌==◌}
use Rattle.std.specs.Prelude.{codes}
use Rattle.std.proofs.lemmas.Bool.{eqb-true}
use Rattle.js_text.specs.Characters.{begins}
use Rattle.js_text.specs.Ascii.{low_line}
use Rattle.js_grammar.specs.Number.{Item, whole, item-cons, digits_on, run, integer, Is, digit_zero}
use Rattle.js_kind.specs.Digits.{is_digit_of}

pub true_or_false : (b : Bool) → (b ≡ true) ⊎ (b ≡ false)
true_or_false true = inl refl
true_or_false false = inr refl

-- a character that begins a text begins it with whatever follows
pub begins_more : (p : ℕ → Bool) (xs ys : List ℕ) → begins p xs ≡ true → begins p (xs ++ ys) ≡ true
begins_more p [] ys e = absurd (cc)
begins_more p (c ∷ cs) ys e = e

-- no digit of the radix and no `_` stands here
pub record Stops (radix : ℕ) (ys : List ℕ) : Type 0 where
  pub digit : begins (is_digit_of radix) ys ≡ false
  pub separator : begins (λ c. c == low_line) ys ≡ false

-- an item without its first character
abbrev uncons : Item → Item
uncons item = record item { text = drop 1 item.text }

pub stopped : (radix : ℕ) (ys : List ℕ) → Stops radix ys → digits_on radix ys ≡ whole [] ys
stopped radix [] s = refl
stopped radix (c ∷ cs) s = rw (s.digit, s.separator) refl

-- Behind a digit, a run goes on up to where it stops.
pub digits_on_append : (radix : ℕ) (xs ys : List ℕ) → digits_on radix xs ≡ whole xs [] → Stops radix ys
    → digits_on radix (xs ++ ys) ≡ whole xs ys
digits_on_append radix [] ys e s = stopped radix ys s
digits_on_append radix (c ∷ cs) ys e s =
    elim (true_or_false (is_digit_of radix c)) [
      | inl digit ↦ (
          let rest = ap uncons (rw digit at e) in
          rw digit (ap (item-cons c) (digits_on_append radix cs ys rest s)))
      | inr other ↦ elim (true_or_false (c == low_line)) [
        | inl mark ↦ elim (true_or_false (begins (is_digit_of radix) cs)) [
          | inl digit ↦ (
              let rest = ap uncons (rw (other, mark, digit) at e) in
              let more = begins_more (is_digit_of radix) cs ys digit in
              rw (other, mark, more) (ap (item-cons c) (digits_on_append radix cs ys rest s)))
          | inr none ↦
              (let h : true ≡ false = ap (λ (i : Item). i.lacks_digit) (rw (other, mark, none) at e) in absurd (cc))
        ]
        | inr end ↦ (let h : [] ≡ c ∷ cs = ap (λ (i : Item). i.text) (rw (other, end) at e) in absurd (cc))
      ]
    ]

pub run_append : (radix : ℕ) (xs ys : List ℕ) → Is (run radix) xs → Stops radix ys → run radix (xs ++ ys) ≡ whole xs ys
unfolding run
run_append radix xs ys e s =
    elim (true_or_false (begins (is_digit_of radix) xs)) [
      | inl digit ↦ (
          let on = rw digit at e in
          let more = begins_more (is_digit_of radix) xs ys digit in
          rw more (digits_on_append radix xs ys on s))
      | inr none ↦ (let h : true ≡ false = ap (λ (i : Item). i.lacks_digit) (rw none at e) in absurd (cc))
    ]

-- a run begins with a digit
pub run_begins : (radix : ℕ) (xs : List ℕ) → Is (run radix) xs → begins (is_digit_of radix) xs ≡ true
unfolding run
run_begins radix xs e =
    elim (true_or_false (begins (is_digit_of radix) xs)) [
      | inl digit ↦ digit
      | inr none ↦ (let h : true ≡ false = ap (λ (i : Item). i.lacks_digit) (rw none at e) in absurd (cc))
    ]

pub integer_append : (xs ys : List ℕ) → Is integer xs → Stops 10 ys → integer (xs ++ ys) ≡ whole xs ys
unfolding integer run
integer_append [] ys e s = let h : true ≡ false = ap (λ (i : Item). i.lacks_digit) e in absurd (cc)
integer_append (c ∷ cs) ys e s =
    elim (true_or_false (c == digit_zero)) [
      | inl zero ↦ (
          let one : codes "0" ≡ c ∷ cs = ap (λ (i : Item). i.text) (rw zero at e) in
          let end : cs ≡ [] = ap (λ (i : Item). i.rest) (rw zero at e) in
          rw zero (ap (λ xs. whole xs (cs ++ ys)) one ∙ ap (λ rest. whole (c ∷ cs) (rest ++ ys)) end))
      | inr other ↦ rw other (run_append 10 (c ∷ cs) ys (rw other at e) s)
    ]

-- What an item is cut from is its characters and what is left.
pub digits_on_text : (radix : ℕ) (text : List ℕ) → text ≡ (digits_on radix text).text ++ (digits_on radix text).rest
digits_on_text radix [] = refl
digits_on_text radix (c ∷ cs) =
    elim (true_or_false (is_digit_of radix c)) [
      | inl digit ↦ rw digit (ap (λ rest. c ∷ rest) (digits_on_text radix cs))
      | inr other ↦ elim (true_or_false (c == low_line)) [
        | inl mark ↦ elim (true_or_false (begins (is_digit_of radix) cs)) [
          | inl digit ↦ rw (other, mark, digit) (ap (λ rest. c ∷ rest) (digits_on_text radix cs))
          | inr none ↦ rw (other, mark, none) refl
        ]
        | inr end ↦ rw (other, end) refl
      ]
    ]

pub run_text : (radix : ℕ) (text : List ℕ) → text ≡ (run radix text).text ++ (run radix text).rest
unfolding run
run_text radix text =
    elim (true_or_false (begins (is_digit_of radix) text)) [
      | inl digit ↦ rw digit (digits_on_text radix text)
      | inr none ↦ rw none refl
    ]

pub integer_text : (text : List ℕ) → text ≡ (integer text).text ++ (integer text).rest
unfolding integer run
integer_text [] = refl
integer_text (c ∷ cs) =
    elim (true_or_false (c == digit_zero)) [
      | inl zero ↦ rw zero (ap (λ d. d ∷ cs) (eqb-true c digit_zero zero))
      | inr other ↦ rw other (run_text 10 (c ∷ cs))
    ]

digits_on_begins : (radix : ℕ) (text : List ℕ) → begins (is_digit_of radix) text ≡ true
    → begins (is_digit_of radix) (digits_on radix text).text ≡ true
digits_on_begins radix [] e = e
digits_on_begins radix (c ∷ cs) e = rw e e

digits_on_is : (radix : ℕ) (text : List ℕ) → (digits_on radix text).lacks_digit ≡ false
    → digits_on radix (digits_on radix text).text ≡ whole (digits_on radix text).text []
digits_on_is radix [] e = refl
digits_on_is radix (c ∷ cs) e =
    elim (true_or_false (is_digit_of radix c)) [
      | inl digit ↦ rw digit (rw digit (ap (item-cons c) (digits_on_is radix cs (rw digit at e))))
      | inr other ↦ elim (true_or_false (c == low_line)) [
        | inl mark ↦ elim (true_or_false (begins (is_digit_of radix) cs)) [
          | inl digit ↦ (
              let next = digits_on_begins radix cs digit in
              rw (other, mark, digit)
              (rw (other, mark, next) (ap (item-cons c) (digits_on_is radix cs (rw (other, mark, digit) at e)))))
          | inr none ↦ (let h : true ≡ false = rw (other, mark, none) at e in absurd (cc))
        ]
        | inr end ↦ rw (other, end) refl
      ]
    ]

-- An item that is cut from a text and lacks no digit is such an item.
pub run_is : (radix : ℕ) (text : List ℕ) → (run radix text).lacks_digit ≡ false → Is (run radix) (run radix text).text
unfolding run
run_is radix text e =
    elim (true_or_false (begins (is_digit_of radix) text)) [
      | inl digit ↦ (
          let next = digits_on_begins radix text digit in
          rw digit (rw next (digits_on_is radix text (rw digit at e))))
      | inr none ↦ (let h : true ≡ false = rw none at e in absurd (cc))
    ]

-- what begins no text begins no part of it
pub begins_less : (p : ℕ → Bool) (xs ys : List ℕ) → begins p (xs ++ ys) ≡ false → begins p xs ≡ false
begins_less p [] ys e = refl
begins_less p (c ∷ cs) ys e = e

pub integer_is : (text : List ℕ) → (integer text).lacks_digit ≡ false → Is integer (integer text).text
unfolding integer
integer_is text e =
    elim (true_or_false (begins (λ c. c == digit_zero) text)) [
      | inl zero ↦ rw zero refl
      | inr other ↦ (
          let begun : begins (λ c. c == digit_zero) ((run 10 text).text ++ (run 10 text).rest) ≡ false =
          ap (begins (λ c. c == digit_zero)) (sym (run_text 10 text)) ∙ other in
          let first = begins_less (λ c. c == digit_zero) (run 10 text).text (run 10 text).rest begun in
          rw other (rw first (run_is 10 text (rw other at e))))
    ]

pub zero_begins : is_digit_of 10 48 ≡ true
unfolding is_digit_of
zero_begins = refl

-- and so does an integer
pub integer_begins_digit : (xs : List ℕ) → Is integer xs → begins (is_digit_of 10) xs ≡ true
unfolding integer run
integer_begins_digit [] is = let h : true ≡ false = ap (λ (i : Item). i.lacks_digit) is in absurd (cc)
integer_begins_digit (c ∷ cs) is =
    elim (true_or_false (c == digit_zero)) [
      | inl zero ↦ ap (is_digit_of 10) (eqb-true c digit_zero zero) ∙ zero_begins
      | inr other ↦ run_begins 10 (c ∷ cs) (rw other at is)
    ]
