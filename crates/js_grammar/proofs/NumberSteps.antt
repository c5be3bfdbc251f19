-- What the items of a number are, case by case.
use Rattle.std.proofs.Common.{◌≡◌, ℕ, Bool, true, false, List, [], ◌∷◌, take, drop, refl, ◌∙◌, Some, None, ◌==◌, cond}
use Rattle.std.specs.Prelude.{codes}
use Rattle.js_text.specs.Characters.{begins}
use Rattle.js_text.specs.Ascii.{full_stop}
use Rattle.js_grammar.specs.Number.{Item, whole, broken, run, integer, digits_on, Base, are_digits}
use Rattle.js_kind.specs.Digits.{is_digit_of}
use Rattle.js_grammar.specs.Number.{is_exponent_indicator, may_not_follow_number, latin_small_letter_n, digit_zero}
use Rattle.js_grammar.specs.NumberReads.{Items, no_items, items-cons, last_item, sign_of, exponent_items, exponent_or}
use Rattle.js_grammar.specs.NumberReads.{fraction_items, point_items, behind_digits, suffix_or, decimal_items}
use Rattle.js_grammar.specs.NumberReads.{unseparated_digits, legacy_items, behind_prefix, zero_items, base_at}
use Rattle.js_grammar.specs.NumberReads.{number_items}
use Rattle.js_grammar.specs.NumberReads.{items_reading, well_ended, badly_ended}
use Rattle.js_kind.specs.declared.kind.Kind.{Kind}
use Rattle.js_kind.specs.declared.kind.Kind.TheVariants.{Eof, Decimal, Float, Octal}

if_true : {A : Type 0} (b : Bool) (x y : A) → b ≡ true → cond b x y ≡ x
if_true true x y e = refl
if_true false x y e = absurd (cc)

if_false : {A : Type 0} (b : Bool) (x y : A) → b ≡ false → cond b x y ≡ y
if_false true x y e = absurd (cc)
if_false false x y e = refl

-- a run
pub run_there : (radix : ℕ) (text : List ℕ) → begins (is_digit_of radix) text ≡ true
    → run radix text ≡ digits_on radix text
unfolding run
run_there radix text e = if_true _ _ _ e

pub run_missing : (radix : ℕ) (text : List ℕ) → begins (is_digit_of radix) text ≡ false
    → run radix text ≡ broken [] text
unfolding run
run_missing radix text e = if_false _ _ _ e

-- an integer
pub integer_zero : (text : List ℕ) → begins (λ c. c == digit_zero) text ≡ true
    → integer text ≡ whole (codes "0") (drop 1 text)
unfolding integer
integer_zero text e = if_true _ _ _ e

pub integer_run : (text : List ℕ) → begins (λ c. c == digit_zero) text ≡ false → integer text ≡ run 10 text
unfolding integer
integer_run text e = if_false _ _ _ e

-- an exponent
pub exponent_there : (kind : Kind) (c : ℕ) (cs : List ℕ) → is_exponent_indicator c ≡ true
    → exponent_or kind (c ∷ cs) ≡ exponent_items c (sign_of cs) cs
unfolding exponent_or
exponent_there kind c cs e = if_true _ _ _ e

pub exponent_missing : (kind : Kind) (text : List ℕ) → begins is_exponent_indicator text ≡ false
    → exponent_or kind text ≡ no_items kind text
unfolding exponent_or
exponent_missing kind [] e = refl
exponent_missing kind (c ∷ cs) e = if_false _ _ _ e

-- a fraction
pub fraction_there : (text : List ℕ) → begins (is_digit_of 10) text ≡ true
    → fraction_items text ≡ items-cons (run 10 text) (exponent_or Float (run 10 text).rest)
unfolding fraction_items
fraction_there text e = if_true _ _ _ e

pub fraction_missing : (text : List ℕ) → begins (is_digit_of 10) text ≡ false
    → fraction_items text ≡ exponent_or Float text
unfolding fraction_items
fraction_missing text e = if_false _ _ _ e

-- behind the digits before a point
pub behind_digits_point : (text : List ℕ) → begins (λ c. c == full_stop) text ≡ true
    → behind_digits text ≡ point_items text
unfolding behind_digits
behind_digits_point text e = if_true _ _ _ e

pub behind_digits_other : (text : List ℕ) → begins (λ c. c == full_stop) text ≡ false
    → behind_digits text ≡ exponent_or Decimal text
unfolding behind_digits
behind_digits_other text e = if_false _ _ _ e

-- a suffix
pub suffix_there : (big : Kind) (without : Items) (text : List ℕ) → begins (λ c. c == latin_small_letter_n) text ≡ true
    → suffix_or big without text ≡ last_item big (whole (codes "n") (drop 1 text))
unfolding suffix_or
suffix_there big without text e = if_true _ _ _ e

pub suffix_missing : (big : Kind) (without : Items) (text : List ℕ)
    → begins (λ c. c == latin_small_letter_n) text ≡ false → suffix_or big without text ≡ without
unfolding suffix_or
suffix_missing big without text e = if_false _ _ _ e

-- digits behind `0`
pub legacy_octal_items : (text : List ℕ) → are_digits 8 (unseparated_digits text).text ≡ true
    → legacy_items text ≡ last_item Octal (unseparated_digits text)
unfolding legacy_items
legacy_octal_items text e = if_true _ _ _ e

pub legacy_decimal_items : (text : List ℕ) → are_digits 8 (unseparated_digits text).text ≡ false
    → legacy_items text ≡ items-cons (unseparated_digits text) (behind_digits (unseparated_digits text).rest)
unfolding legacy_items
legacy_decimal_items text e = if_false _ _ _ e

-- behind a prefix
pub behind_prefix_broken : (base : Base) (digits : Item) → digits.lacks_digit ≡ true
    → behind_prefix base digits ≡ record { items = digits ∷ []; kind = Eof; rest = [] }
unfolding behind_prefix
behind_prefix_broken base digits e = if_true _ _ _ e

pub behind_prefix_whole : (base : Base) (digits : Item) → digits.lacks_digit ≡ false
    → behind_prefix base digits
    ≡ items-cons digits (suffix_or base.big_kind (no_items base.kind digits.rest) digits.rest)
unfolding behind_prefix
behind_prefix_whole base digits e = if_false _ _ _ e

-- behind `0`
pub zero_base : (base : Base) (text : List ℕ)
    → zero_items (Some base) text
    ≡ items-cons (whole (take 2 text) (drop 2 text)) (behind_prefix base (run base.radix (drop 2 text)))
unfolding zero_items
zero_base base text = refl

pub zero_legacy : (text : List ℕ) → begins (is_digit_of 10) (drop 1 text) ≡ true
    → zero_items None text ≡ legacy_items text
unfolding zero_items
zero_legacy text e = if_true _ _ _ e

pub zero_decimal : (text : List ℕ) → begins (is_digit_of 10) (drop 1 text) ≡ false
    → zero_items None text ≡ decimal_items text
unfolding zero_items
zero_decimal text e = if_false _ _ _ e

-- a number
pub number_point : (text : List ℕ) → begins (λ c. c == full_stop) text ≡ true → number_items text ≡ point_items text
unfolding number_items
number_point text e = if_true _ _ _ e

pub number_zero : (text : List ℕ) → begins (λ c. c == full_stop) text ≡ false
    → begins (λ c. c == digit_zero) text ≡ true → number_items text ≡ zero_items (base_at (drop 1 text)) text
unfolding number_items
number_zero text e zero = if_false _ _ _ e ∙ if_true _ _ _ zero

pub number_decimal : (text : List ℕ) → begins (λ c. c == full_stop) text ≡ false
    → begins (λ c. c == digit_zero) text ≡ false → number_items text ≡ decimal_items text
unfolding number_items
number_decimal text e zero = if_false _ _ _ e ∙ if_false _ _ _ zero

-- what is read of it
pub read_well : (text : List ℕ) (number : Items) → begins may_not_follow_number number.rest ≡ false
    → items_reading text number ≡ well_ended text number
unfolding items_reading
read_well text number e = if_false _ _ _ e

pub read_badly : (text : List ℕ) (number : Items) → begins may_not_follow_number number.rest ≡ true
    → items_reading text number ≡ badly_ended text number
unfolding items_reading
read_badly text number e = if_true _ _ _ e
