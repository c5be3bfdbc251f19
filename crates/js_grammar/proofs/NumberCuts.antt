-- Each number is cut into its items, whole, where what follows may follow it.
use Rattle.std.proofs.Common.{◌≡◌, ℕ, Bool, true, false, List, [], ◌∷◌, ◌++◌, length, drop, refl, sym, ◌∙◌, ap, subst}
use Rattle.std.proofs.Common.{arith, inl, inr, ◌==◌, None, append_assoc}
use Rattle.std.specs.List.{list_any}
use Rattle.std.proofs.lemmas.Bool.{eqb-true}
use Rattle.std.proofs.lemmas.List.{append-nil}
use Rattle.unicode_ident.proofs.Computing.{unicode_ident}
use Rattle.js_text.specs.Characters.{is_identifier_start, begins, from_first, before_first}
use Rattle.js_text.specs.Ascii.{full_stop}
use Rattle.js_grammar.specs.Number.{Item, whole, run, integer, Is, IsOptional, IsExponent, IsFloatExponent}
use Rattle.js_grammar.specs.Number.{IsLegacyOctal, IsLegacyDecimal, base_of, Sign, sign_text, sign_kind}
use Rattle.js_kind.specs.Digits.{is_digit_of}
use Rattle.js_grammar.specs.Number.{are_digits, is_exponent_indicator, may_not_follow_number, latin_small_letter_n}
use Rattle.js_grammar.specs.Number.{digit_zero}
use Rattle.js_grammar.specs.Number.Sign.{no_sign, plus, minus}
use Rattle.js_grammar.specs.Number.IsExponent.{exponent}
use Rattle.js_grammar.specs.Number.IsLegacyOctal.{legacy as legacy_octal_digits}
use Rattle.js_grammar.specs.Number.IsLegacyDecimal.{legacy as legacy_decimal_digits}
use Rattle.js_grammar.specs.NumberReads.{items_text, Items, no_items, items-cons, last_item, sign_of, exponent_items}
use Rattle.js_grammar.specs.NumberReads.{exponent_or}
use Rattle.js_grammar.specs.NumberReads.{fraction_items, point_items, behind_digits, suffix_or, decimal_items}
use Rattle.js_grammar.specs.NumberReads.{is_no_digit, unseparated_digits, legacy_items, zero_items, base_at}
use Rattle.js_grammar.specs.NumberReads.{number_items}
use Rattle.js_grammar.proofs.NumberClasses.{EndsNumber, ends_number, point_stops, suffix_stops, exponent_stops}
use Rattle.js_grammar.proofs.NumberClasses.{exponent_is_no_mark, is_exponent, digit_more}
use Rattle.js_grammar.proofs.NumberSteps.{exponent_missing, fraction_there, fraction_missing, behind_digits_other}
use Rattle.js_grammar.proofs.NumberSteps.{number_zero, number_decimal, zero_decimal, zero_legacy, legacy_octal_items}
use Rattle.js_grammar.proofs.NumberSteps.{legacy_decimal_items}
use Rattle.js_grammar.proofs.Tests.{and_true}
use Rattle.js_grammar.proofs.NumberItems.{Stops, true_or_false, begins_more, run_append, run_begins, integer_append}
use Rattle.js_kind.specs.declared.kind.Kind.{Kind}
use Rattle.js_kind.specs.declared.kind.Kind.TheVariants.{Decimal, Float, Octal, DecimalBigInt}

-- a digit is missing in one of the items
abbrev pub lacks_some : List Item → Bool
lacks_some items = list_any (λ (item : Item). item.lacks_digit) items

-- The items are whole, they have these characters and this kind, and then ys are left.
pub record Cuts (items : Items) (xs ys : List ℕ) (kind : Kind) : Type 0 where
  pub text : items_text items.items ≡ xs
  pub rest : items.rest ≡ ys
  pub kind_is : items.kind ≡ kind
  pub whole_ones : lacks_some items.items ≡ false

pub none_cut : (kind : Kind) (ys : List ℕ) → Cuts (no_items kind ys) [] ys kind
none_cut kind ys = record { text = refl; rest = refl; kind_is = refl; whole_ones = refl }

pub last_cut : (kind : Kind) (xs ys : List ℕ) → Cuts (last_item kind (whole xs ys)) xs ys kind
last_cut kind xs ys = record { text = append-nil xs; rest = refl; kind_is = refl; whole_ones = refl }

pub cons_cut : (zs rest xs ys : List ℕ) (kind : Kind) (more : Items) → Cuts more xs ys kind
    → Cuts (items-cons (whole zs rest) more) (zs ++ xs) ys kind
cons_cut zs rest xs ys kind more cut =
    record
    { text = ap (λ text. zs ++ text) cut.text; rest = cut.rest; kind_is = cut.kind_is; whole_ones = cut.whole_ones }

-- the sign of an exponent is found
digit_is_no_sign : (is_digit_of 10 45 ≡ false) × (is_digit_of 10 43 ≡ false)
unfolding is_digit_of
digit_is_no_sign = (refl, refl)

falsified : (b : Bool) → (b ≡ true → ⊥) → b ≡ false
falsified true h = absurd (h refl)
falsified false h = refl

digit_differs : (c mark : ℕ) → is_digit_of 10 c ≡ true → is_digit_of 10 mark ≡ false → (c == mark) ≡ false
digit_differs c mark digit none =
    falsified (c == mark)
    (λ same. let is : is_digit_of 10 mark ≡ true = ap (is_digit_of 10) (sym (eqb-true c mark same)) ∙ digit in cc)

no_sign_found : (cs : List ℕ) → begins (is_digit_of 10) cs ≡ true → sign_of cs ≡ no_sign
no_sign_found [] e = refl
no_sign_found (c ∷ cs) e = rw (digit_differs c 45 e digit_is_no_sign.0, digit_differs c 43 e digit_is_no_sign.1) refl

sign_found : (sign : Sign) (cs : List ℕ) → begins (is_digit_of 10) cs ≡ true → sign_of (sign_text sign ++ cs) ≡ sign
sign_found no_sign cs e = no_sign_found cs e
sign_found plus cs e = refl
sign_found minus cs e = refl

behind_sign : (sign : Sign) (cs : List ℕ) → drop (length (sign_text sign)) (sign_text sign ++ cs) ≡ cs
behind_sign no_sign cs = refl
behind_sign plus cs = refl
behind_sign minus cs = refl

exponent_cut : (without kind : Kind) (xs ys : List ℕ) → IsExponent xs kind → EndsNumber ys
    → Cuts (exponent_or without (xs ++ ys)) xs ys kind
unfolding exponent_or exponent_items
exponent_cut without kind xs ys (exponent mark sign digits is run_is here kind_is) end =
    let follows : (sign_text sign ++ digits) ++ ys ≡ sign_text sign ++ (digits ++ ys) =
    append_assoc (sign_text sign) digits ys in
    let first = begins_more (is_digit_of 10) digits ys (run_begins 10 digits run_is) in
    let signed : sign_of ((sign_text sign ++ digits) ++ ys) ≡ sign =
    ap sign_of follows ∙ sign_found sign (digits ++ ys) first in
    let left : drop (length (sign_text sign)) ((sign_text sign ++ digits) ++ ys) ≡ digits ++ ys =
    ap (drop (length (sign_text sign))) follows ∙ behind_sign sign (digits ++ ys) in
    let cut =
    cons_cut (mark ∷ sign_text sign) (digits ++ ys) digits ys (sign_kind sign)
    (last_item (sign_kind sign) (whole digits ys)) (last_cut (sign_kind sign) digits ys) in
    rw (here, kind_is, is, signed, left, run_append 10 digits ys run_is (end.run 10 (omega arith))) cut

-- what an exponent begins with
pub exponent_begins : (xs ys : List ℕ) (kind : Kind) → IsExponent xs kind
    → begins is_exponent_indicator (xs ++ ys) ≡ true
exponent_begins xs ys kind (exponent mark sign digits is run_is here kind_is) = rw here is

mark_begins : (p : ℕ → Bool) (ys : List ℕ) → begins is_exponent_indicator ys ≡ true
    → ((c : ℕ) → is_exponent_indicator c ≡ true → p c ≡ false) → begins p ys ≡ false
mark_begins p [] e h = refl
mark_begins p (c ∷ cs) e h = h c e

mark_stops : (ys : List ℕ) → begins is_exponent_indicator ys ≡ true → Stops 10 ys
mark_stops [] e = absurd (cc)
mark_stops (c ∷ cs) e = exponent_stops c cs e

-- behind a point: an exponent or none
optional_exponent_cut : (xs ys : List ℕ) → IsOptional IsFloatExponent xs → EndsNumber ys
    → (kind : Kind) × Cuts (exponent_or Float (xs ++ ys)) xs ys kind
optional_exponent_cut xs ys (inl none) end =
    (Float, rw (none, exponent_missing Float ys end.exponent) (none_cut Float ys))
optional_exponent_cut xs ys (inr some) end = (some.0, exponent_cut Float some.0 xs ys some.1 end)

optional_exponent_stops : (xs ys : List ℕ) → IsOptional IsFloatExponent xs → EndsNumber ys → Stops 10 (xs ++ ys)
optional_exponent_stops xs ys (inl none) end = rw none (end.run 10 (omega arith))
optional_exponent_stops xs ys (inr some) end = mark_stops (xs ++ ys) (exponent_begins xs ys some.0 some.1)

fraction_cut : (fs es ys : List ℕ) → IsOptional (Is (run 10)) fs → IsOptional IsFloatExponent es → EndsNumber ys
    → (kind : Kind) × Cuts (fraction_items (fs ++ (es ++ ys))) (fs ++ es) ys kind
fraction_cut fs es ys (inl none) e end =
    let cut = optional_exponent_cut es ys e end in
    (cut.0, rw (none, fraction_missing (es ++ ys) (optional_exponent_stops es ys e end).digit) cut.1)
fraction_cut fs es ys (inr is) e end =
    let cut = optional_exponent_cut es ys e end in
    let first = begins_more (is_digit_of 10) fs (es ++ ys) (run_begins 10 fs is) in
    let digits = run_append 10 fs (es ++ ys) is (optional_exponent_stops es ys e end) in (
      cut.0,
      rw (fraction_there (fs ++ (es ++ ys)) first, digits)
          (cons_cut fs (es ++ ys) es ys cut.0 (exponent_or Float (es ++ ys)) cut.1),
    )

-- a point, a fraction and an exponent
pub point_cut : (fs es ys : List ℕ) → IsOptional (Is (run 10)) fs → IsOptional IsFloatExponent es → EndsNumber ys
    → Cuts (point_items (full_stop ∷ (fs ++ (es ++ ys)))) (full_stop ∷ (fs ++ es)) ys Float
unfolding point_items
point_cut fs es ys f e end =
    let cut = (fraction_cut fs es ys f e end).1 in
    record
    { text = ap (λ text. full_stop ∷ text) cut.text; rest = cut.rest; kind_is = refl; whole_ones = cut.whole_ones }

-- behind the digits before a point: nothing, a point, or an exponent
pub nothing_cut : (ys : List ℕ) → EndsNumber ys → begins (λ c. c == full_stop) ys ≡ false
    → Cuts (behind_digits ys) [] ys Decimal
nothing_cut ys end none =
    rw (behind_digits_other ys none, exponent_missing Decimal ys end.exponent) (none_cut Decimal ys)

mark_is_no_point : (ys : List ℕ) → begins is_exponent_indicator ys ≡ true → begins (λ c. c == full_stop) ys ≡ false
mark_is_no_point ys e = mark_begins (λ c. c == full_stop) ys e (λ c is. (exponent_is_no_mark c is).0)

pub mark_is_no_suffix : (ys : List ℕ) → begins is_exponent_indicator ys ≡ true
    → begins (λ c. c == latin_small_letter_n) ys ≡ false
mark_is_no_suffix ys e = mark_begins (λ c. c == latin_small_letter_n) ys e (λ c is. (exponent_is_no_mark c is).1)

pub powered_cut : (xs ys : List ℕ) (kind : Kind) → IsExponent xs kind → EndsNumber ys
    → Cuts (behind_digits (xs ++ ys)) xs ys kind
powered_cut xs ys kind is end =
    rw (behind_digits_other (xs ++ ys) (mark_is_no_point (xs ++ ys) (exponent_begins xs ys kind is)))
    (exponent_cut Decimal kind xs ys is end)

-- no letter of a base and no digit stands here
pub record NoPrefix (ys : List ℕ) : Type 0 where
  pub letter : base_at ys ≡ None
  pub stops : Stops 10 ys

pub digit_names_no_base : (c : ℕ) → is_digit_of 10 c ≡ true → base_of c ≡ None
unfolding is_digit_of
digit_names_no_base c e =
    rw (
      digit_differs c 98 e refl,
      digit_differs c 66 e refl,
      digit_differs c 111 e refl,
      digit_differs c 79 e refl,
      digit_differs c 120 e refl,
      digit_differs c 88 e refl,
    ) refl

letters_may_not_follow :
    (may_not_follow_number 98 ≡ true) × (may_not_follow_number 66 ≡ true) × (may_not_follow_number 111 ≡ true)
    × (may_not_follow_number 79 ≡ true) × (may_not_follow_number 120 ≡ true) × (may_not_follow_number 88 ≡ true)
unfolding is_digit_of may_not_follow_number is_identifier_start unicode_ident
letters_may_not_follow = (refl, refl, refl, refl, refl, refl)

follower_differs : (c mark : ℕ) → may_not_follow_number c ≡ false → may_not_follow_number mark ≡ true
    → (c == mark) ≡ false
follower_differs c mark no_follower follower =
    falsified (c == mark)
    (λ same. let is : may_not_follow_number c ≡ true =
    ap may_not_follow_number (eqb-true c mark same) ∙ follower in cc)

pub follower_names_no_base : (ys : List ℕ) → begins may_not_follow_number ys ≡ false → base_at ys ≡ None
follower_names_no_base [] e = refl
follower_names_no_base (c ∷ cs) e =
    let l = letters_may_not_follow in
    rw (
      follower_differs c 98 e l.0,
      follower_differs c 66 e l.1,
      follower_differs c 111 e l.2,
      follower_differs c 79 e l.3,
      follower_differs c 120 e l.4,
      follower_differs c 88 e l.5,
    ) refl

mark_names_no_base : (ys : List ℕ) → begins is_exponent_indicator ys ≡ true → base_at ys ≡ None
mark_names_no_base [] e = absurd (cc)
mark_names_no_base (c ∷ cs) e = elim (is_exponent c e) [ inl small ↦ ap base_of small | inr large ↦ ap base_of large ]

pub no_prefix_ended : (ys : List ℕ) → begins may_not_follow_number ys ≡ false → NoPrefix ys
no_prefix_ended ys e = record { letter = follower_names_no_base ys e; stops = (ends_number ys e).run 10 (omega arith) }

pub no_prefix_suffix : (ys : List ℕ) → NoPrefix (latin_small_letter_n ∷ ys)
no_prefix_suffix ys = record { letter = refl; stops = suffix_stops 10 ys (omega arith) }

pub no_prefix_point : (ys : List ℕ) → NoPrefix (full_stop ∷ ys)
no_prefix_point ys = record { letter = refl; stops = point_stops ys }

pub no_prefix_mark : (ys : List ℕ) → begins is_exponent_indicator ys ≡ true → NoPrefix ys
no_prefix_mark ys e = record { letter = mark_names_no_base ys e; stops = mark_stops ys e }

-- the digits of a decimal number are found
integer_begins : (c : ℕ) (cs : List ℕ) → Is integer (c ∷ cs) → (c == full_stop) ≡ false
unfolding integer
integer_begins c cs is =
    elim (true_or_false (c == digit_zero)) [
      | inl zero ↦ ap (λ d. d == full_stop) (eqb-true c digit_zero zero)
      | inr other ↦ digit_differs c full_stop (run_begins 10 (c ∷ cs) (rw other at is)) (point_stops []).digit
    ]

integer_of_zero : (c : ℕ) (cs : List ℕ) → Is integer (c ∷ cs) → (c == digit_zero) ≡ true → cs ≡ []
unfolding integer
integer_of_zero c cs is zero = ap (λ (i : Item). i.rest) (rw zero at is)

zero_found : (c : ℕ) (ys : List ℕ) → (c == full_stop) ≡ false → (c == digit_zero) ≡ true → NoPrefix ys
    → number_items (c ∷ ys) ≡ decimal_items (c ∷ ys)
zero_found c ys other zero free =
    number_zero (c ∷ ys) other zero ∙ ap (λ base. zero_items base (c ∷ ys)) free.letter
    ∙ zero_decimal (c ∷ ys) free.stops.digit

decimal_found : (xs ys : List ℕ) → Is integer xs → NoPrefix ys → number_items (xs ++ ys) ≡ decimal_items (xs ++ ys)
unfolding integer run
decimal_found [] ys is free = let h : true ≡ false = ap (λ (i : Item). i.lacks_digit) is in absurd (cc)
decimal_found (c ∷ cs) ys is free =
    elim (true_or_false (c == digit_zero)) [
      | inl zero ↦ (
          let one = integer_of_zero c cs is zero in
          subst (λ rest. number_items (c ∷ (rest ++ ys)) ≡ decimal_items (c ∷ (rest ++ ys))) (sym one)
          (zero_found c ys (integer_begins c cs is) zero free))
      | inr other ↦ number_decimal ((c ∷ cs) ++ ys) (integer_begins c cs is) other
    ]

pub decimal_cut : (xs zs ws ys : List ℕ) (kind : Kind) → Is integer xs → NoPrefix zs
    → Cuts (suffix_or DecimalBigInt (behind_digits zs) zs) ws ys kind
    → Cuts (number_items (xs ++ zs)) (xs ++ ws) ys kind
unfolding decimal_items
decimal_cut xs zs ws ys kind is free cut =
    let items =
    ap (λ (digits : Item). items-cons digits (suffix_or DecimalBigInt (behind_digits digits.rest) digits.rest))
    (integer_append xs zs is free.stops) in
    subst (λ found. Cuts found (xs ++ ws) ys kind) (sym (decimal_found xs zs is free ∙ items))
    (cons_cut xs zs ws ys kind (suffix_or DecimalBigInt (behind_digits zs) zs) cut)

-- digits without `_`
plain_before : (xs ys : List ℕ) → are_digits 10 xs ≡ true → begins (is_digit_of 10) ys ≡ false
    → before_first is_no_digit (xs ++ ys) ≡ xs
plain_before [] [] e s = refl
plain_before [] (c ∷ cs) e s = rw s refl
plain_before (c ∷ cs) ys e s =
    let both = and_true (is_digit_of 10 c) (are_digits 10 cs) e in
    rw both.0 (ap (λ rest. c ∷ rest) (plain_before cs ys both.1 s))

plain_from : (xs ys : List ℕ) → are_digits 10 xs ≡ true → begins (is_digit_of 10) ys ≡ false
    → from_first is_no_digit (xs ++ ys) ≡ ys
plain_from [] [] e s = refl
plain_from [] (c ∷ cs) e s = rw s refl
plain_from (c ∷ cs) ys e s =
    let both = and_true (is_digit_of 10 c) (are_digits 10 cs) e in
    rw both.0 (plain_from cs ys both.1 s)

pub unseparated_digits_append : (xs ys : List ℕ) → are_digits 10 xs ≡ true → begins (is_digit_of 10) ys ≡ false
    → unseparated_digits (xs ++ ys) ≡ whole xs ys
unfolding unseparated_digits
unseparated_digits_append xs ys e s = rw (plain_before xs ys e s, plain_from xs ys e s) refl

digit_begins_no_base : (ys : List ℕ) → begins (is_digit_of 10) ys ≡ true → base_at ys ≡ None
digit_begins_no_base [] e = absurd (cc)
digit_begins_no_base (c ∷ cs) e = digit_names_no_base c e

zero_is_digit : (is_digit_of 10 48 ≡ true) × (is_digit_of 8 48 ≡ true)
unfolding is_digit_of
zero_is_digit = (refl, refl)

legacy_found : (ds ys : List ℕ) → begins (is_digit_of 10) ds ≡ true
    → number_items (digit_zero ∷ (ds ++ ys)) ≡ legacy_items (digit_zero ∷ (ds ++ ys))
legacy_found ds ys first =
    let text = digit_zero ∷ (ds ++ ys) in
    let more = begins_more (is_digit_of 10) ds ys first in
    number_zero text refl refl ∙ ap (λ base. zero_items base text) (digit_begins_no_base (ds ++ ys) more)
    ∙ zero_legacy text more

-- octal digits are digits
octal_begins : (ds : List ℕ) → begins (is_digit_of 8) ds ≡ true → begins (is_digit_of 10) ds ≡ true
octal_begins [] e = e
octal_begins (d ∷ ds) e = digit_more 8 10 d (omega arith) e

pub octal_digits : (ds : List ℕ) → are_digits 8 ds ≡ true → are_digits 10 ds ≡ true
octal_digits [] e = refl
octal_digits (d ∷ ds) e =
    let both = and_true (is_digit_of 8 d) (are_digits 8 ds) e in
    rw (digit_more 8 10 d (omega arith) both.0) (octal_digits ds both.1)

-- and digits of which one is not octal are digits, at least one
some_digit : (ds : List ℕ) → are_digits 10 ds ≡ true → are_digits 8 ds ≡ false → begins (is_digit_of 10) ds ≡ true
some_digit [] e s = absurd (cc)
some_digit (d ∷ ds) e s = (and_true (is_digit_of 10 d) (are_digits 10 ds) e).0

zero_and : (radix : ℕ) (ds : List ℕ) (b : Bool) → is_digit_of radix digit_zero ≡ true → are_digits radix ds ≡ b
    → are_digits radix (digit_zero ∷ ds) ≡ b
zero_and radix ds b zero e = rw zero e

legacy_digits : (ds ys : List ℕ) → are_digits 10 ds ≡ true → begins (is_digit_of 10) ys ≡ false
    → unseparated_digits (digit_zero ∷ (ds ++ ys)) ≡ whole (digit_zero ∷ ds) ys
legacy_digits ds ys digits stops =
    unseparated_digits_append (digit_zero ∷ ds) ys (zero_and 10 ds true zero_is_digit.0 digits) stops

pub legacy_octal_cut : (xs ys : List ℕ) → IsLegacyOctal xs → EndsNumber ys → Cuts (number_items (xs ++ ys)) xs ys Octal
legacy_octal_cut xs ys (legacy_octal_digits ds first digits here) end =
    let text = digit_zero ∷ (ds ++ ys) in
    let found = legacy_digits ds ys (octal_digits ds digits) (end.run 10 (omega arith)).digit in
    let octal = ap (λ (item : Item). are_digits 8 item.text) found ∙ zero_and 8 ds true zero_is_digit.1 digits in
    rw (here, legacy_found ds ys (octal_begins ds first), legacy_octal_items text octal, found)
    (last_cut Octal (digit_zero ∷ ds) ys)

pub legacy_decimal_cut : (xs zs ws ys : List ℕ) (kind : Kind) → IsLegacyDecimal xs → Stops 10 zs
    → Cuts (behind_digits zs) ws ys kind
    → Cuts (number_items (xs ++ zs)) (xs ++ ws) ys kind
legacy_decimal_cut xs zs ws ys kind (legacy_decimal_digits ds digits some here) stops cut =
    let text = digit_zero ∷ (ds ++ zs) in
    let found = legacy_digits ds zs digits stops.digit in
    let decimal = ap (λ (item : Item). are_digits 8 item.text) found ∙ zero_and 8 ds false zero_is_digit.1 some in
    rw (here, legacy_found ds zs (some_digit ds digits some), legacy_decimal_items text decimal, found)
    (cons_cut (digit_zero ∷ ds) zs ws ys kind (behind_digits zs) cut)
