-- What a reader sees of bytes that are no marks, in text, in a tag and in a value of one.
use Rattle.std.proofs.Common.{◌≡◌, ℕ, ◌≤◌, Bool, true, false, List, [], ◌∷◌, ◌++◌, ◌∙◌, ap, sym, arith, refl}
use Rattle.std.proofs.Common.{append-nil, append_assoc, true≢false}
use Rattle.std.specs.Prelude.{◌==◌, ◌||◌, if◌then◌else◌, map}
use Rattle.std.proofs.lemmas.Bool.{or_from}
use Rattle.std.proofs.lemmas.Bool.Decides.{nat_tests}
use Rattle.js_page.proofs.Free.{Free, ends_tag}
use Rattle.js_page.specs.Reading.{Seen, Step, goes_to, in_tag, in_text, in_value, reads_text, seen_from, tag_step}
use Rattle.js_page.specs.Reading.{text_step, value_step}

two_fail : (p q : Bool) (x y z : Step) → (p || q) ≡ false → (if p then x else if q then y else z) ≡ z
two_fail false false x y z e = refl
two_fail true q x y z e = absurd (true≢false e)
two_fail false true x y z e = absurd (true≢false e)

four_fail : (p q r s : Bool) (v w x y z : Step) → (p || (q || (r || s))) ≡ false
    → (if p then v else if q then w else if r then x else if s then y else z) ≡ z
four_fail false false false false v w x y z e = refl
four_fail true q r s v w x y z e = absurd (true≢false e)
four_fail false true r s v w x y z e = absurd (true≢false e)
four_fail false false true s v w x y z e = absurd (true≢false e)
four_fail false false false true v w x y z e = absurd (true≢false e)

-- the bytes that are more than themselves in text
abbrev pub is_mark : ℕ → Bool
is_mark b = (b == 60) || ((b == 38) || ((b == 13) || (b == 0)))

pub marks_are_low : (b : ℕ) → 128 ≤ b → is_mark b ≡ false
marks_are_low b high =
    or_from (b == 60) ((b == 38) || ((b == 13) || (b == 0))) (grind (arith, nat_tests))
    (or_from (b == 38) ((b == 13) || (b == 0)) (grind (arith, nat_tests))
    (or_from (b == 13) (b == 0) (grind (arith, nat_tests)) (grind (arith, nat_tests))))

text_step_is : (b : ℕ) → is_mark b ≡ false → text_step b ≡ record { next = reads_text; seen = in_text b ∷ [] }
text_step_is b none = four_fail (b == 60) (b == 38) (b == 13) (b == 0) _ _ _ _ _ none

tag_step_is : (xs : List ℕ) (b : ℕ) → ends_tag b ≡ false → tag_step xs b ≡ goes_to (in_tag (xs ++ b ∷ []))
tag_step_is xs b none = two_fail (b == 62) (b == 34) _ _ _ none

if_not : (p : Bool) (x y : Step) → p ≡ false → (if p then x else y) ≡ y
if_not false x y e = refl
if_not true x y e = absurd (true≢false e)

abbrev pub is_quote : ℕ → Bool
is_quote b = b == 34

pub quotes_are_low : (b : ℕ) → 128 ≤ b → is_quote b ≡ false
quotes_are_low b high = grind (arith, nat_tests)

value_step_is : (xs : List ℕ) (b : ℕ) → is_quote b ≡ false → value_step xs b ≡ goes_to (in_value (xs ++ b ∷ []))
value_step_is xs b none = if_not (b == 34) _ _ none

pub read_text : (bs rest : List ℕ) → Free is_mark bs
    → seen_from reads_text (bs ++ rest) ≡ map in_text bs ++ seen_from reads_text rest
read_text [] rest free = refl
read_text (b ∷ bs) rest free =
    ap (λ (s : Step). s.seen ++ seen_from s.next (bs ++ rest)) (text_step_is b free.0)
    ∙ ap (λ (xs : List Seen). in_text b ∷ xs) (read_text bs rest free.1)

pub read_in_tag : (ds xs rest : List ℕ) → Free ends_tag ds
    → seen_from (in_tag xs) (ds ++ rest) ≡ seen_from (in_tag (xs ++ ds)) rest
read_in_tag [] xs rest free = ap (λ ys. seen_from (in_tag ys) rest) (sym (append-nil xs))
read_in_tag (d ∷ ds) xs rest free =
    ap (λ (s : Step). s.seen ++ seen_from s.next (ds ++ rest)) (tag_step_is xs d free.0)
    ∙ read_in_tag ds (xs ++ d ∷ []) rest free.1
    ∙ ap (λ ys. seen_from (in_tag ys) rest) (append_assoc xs (d ∷ []) ds)

pub read_in_value : (ds xs rest : List ℕ) → Free is_quote ds
    → seen_from (in_value xs) (ds ++ rest) ≡ seen_from (in_value (xs ++ ds)) rest
read_in_value [] xs rest free = ap (λ ys. seen_from (in_value ys) rest) (sym (append-nil xs))
read_in_value (d ∷ ds) xs rest free =
    ap (λ (s : Step). s.seen ++ seen_from s.next (ds ++ rest)) (value_step_is xs d free.0)
    ∙ read_in_value ds (xs ++ d ∷ []) rest free.1
    ∙ ap (λ ys. seen_from (in_value ys) rest) (append_assoc xs (d ∷ []) ds)
