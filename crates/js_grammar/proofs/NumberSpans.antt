-- How far a number reaches, good or at fault, and that it is of no kind of names.
use Rattle.std.proofs.Common.{◌≡◌, ◌≢◌, ℕ, true, false, List, [], ◌∷◌, ◌++◌, length, drop, refl, sym, ◌∙◌, ap, subst}
use Rattle.std.proofs.Common.{inl}
use Rattle.std.proofs.Common.{inr, ◌==◌, ◌⊎◌, Option, Some, None, append_assoc, arith}
use Rattle.std.proofs.lemmas.Bool.{eqb-true}
use Rattle.std.proofs.lemmas.List.{append-nil}
use Rattle.js_text.specs.Characters.{begins}
use Rattle.js_text.specs.Ascii.{full_stop}
use Rattle.js_grammar.specs.Number.{whole, run, integer, Base, base_of, sign_text, are_digits}
use Rattle.js_grammar.specs.Number.{is_exponent_indicator, may_not_follow_number, begins_number, digit_zero}
use Rattle.js_grammar.specs.Number.{latin_small_letter_n}
use Rattle.js_grammar.specs.NumberReads.{Items, items_text, sign_of, exponent_items, exponent_or, fraction_items}
use Rattle.js_grammar.specs.NumberReads.{point_items, behind_digits, suffix_or, decimal_items, unseparated_digits}
use Rattle.js_grammar.specs.NumberReads.{legacy_items, behind_prefix, zero_items, base_at, number_items, no_items}
use Rattle.js_grammar.specs.NumberReads.{items-cons}
use Rattle.js_grammar.specs.NumberReads.{number_reading}
use Rattle.js_grammar.specs.Reading.{Reading, before_rest}
use Rattle.js_grammar.proofs.NumberClasses.{digit_may_not_follow}
use Rattle.js_grammar.proofs.NumberItems.{true_or_false, run_text, integer_text}
use Rattle.js_grammar.proofs.NumberKinds.{is_marked, base_kinds, sign_is_number}
use Rattle.js_grammar.proofs.NumberSound.{sign_here, first_is}
use Rattle.js_grammar.proofs.NumberSteps.{exponent_there, exponent_missing, fraction_there, fraction_missing}
use Rattle.js_grammar.proofs.NumberSteps.{behind_digits_point, behind_digits_other, suffix_there, suffix_missing}
use Rattle.js_grammar.proofs.NumberSteps.{legacy_octal_items, legacy_decimal_items, behind_prefix_broken}
use Rattle.js_grammar.proofs.NumberSteps.{behind_prefix_whole, zero_base, zero_legacy, zero_decimal, number_point}
use Rattle.js_grammar.proofs.NumberSteps.{number_zero, number_decimal, read_well, read_badly}
use Rattle.js_grammar.proofs.NumberWhole.{plain_text}
use Rattle.js_kind.specs.Digits.{is_digit_of}
use Rattle.js_kind.specs.Kinds.{is_identifier_name, is_string_kind, is_template_kind}
use Rattle.js_grammar.specs.ReLexed.{is_re_lexed}
use Rattle.js_grammar.specs.TokenText.{is_private_name}
use Rattle.js_kind.specs.declared.kind.Kind.{Kind}
use Rattle.js_kind.specs.declared.kind.Kind.TheVariants.{Eof, Decimal, DecimalBigInt, Float, Octal}

-- The text is the characters of the items and what is left behind them, and their kind is none of names.
pub record IsNumberCut (text : List ℕ) (number : Items) : Type 0 where
  pub here : text ≡ items_text number.items ++ number.rest
  pub unmarked : is_marked number.kind ≡ false

-- the kinds that are no name
unnamed : (is_marked Decimal ≡ false) × (is_marked DecimalBigInt ≡ false)
    × (is_marked Float ≡ false) × (is_marked Octal ≡ false) × (is_marked Eof ≡ false)
unfolding is_identifier_name is_private_name is_string_kind is_template_kind is_re_lexed
unnamed = (refl, refl, refl, refl, refl)

exponent_cut : (mark : ℕ) (text : List ℕ) → IsNumberCut (mark ∷ text) (exponent_items mark (sign_of text) text)
unfolding exponent_items
exponent_cut mark text =
    let sign = sign_text (sign_of text) in
    let rest = drop (length sign) text in
    record {
      here =
          ap (λ t. mark ∷ t)
          (sign_here text ∙ ap (λ t. sign ++ t) (run_text 10 rest) ∙ same sign (run 10 rest).text (run 10 rest).rest);
      unmarked = (sign_is_number (sign_of text)).unmarked;
    }
  where
    same : (xs ys zs : List ℕ) → xs ++ (ys ++ zs) ≡ (xs ++ (ys ++ [])) ++ zs
    same xs ys zs = rw append-nil (sym (append_assoc xs ys zs))

exponent_or_cut : (without : Kind) (text : List ℕ) → is_marked without ≡ false
    → IsNumberCut text (exponent_or without text)
exponent_or_cut without [] e = rw (exponent_missing without [] refl) (record { here = refl; unmarked = e })
exponent_or_cut without (c ∷ cs) e =
    elim (true_or_false (is_exponent_indicator c)) [
      | inl is ↦ rw (exponent_there without c cs is) (exponent_cut c cs)
      | inr none ↦ rw (exponent_missing without (c ∷ cs) none) (record { here = refl; unmarked = e })
    ]

-- one more item in front
behind : (xs text rest : List ℕ) (number : Items) → text ≡ xs ++ rest → IsNumberCut rest number
    → text ≡ (xs ++ items_text number.items) ++ number.rest
behind xs text rest number e cut =
    e ∙ ap (λ t. xs ++ t) cut.here ∙ sym (append_assoc xs (items_text number.items) number.rest)

fraction_cut : (text : List ℕ) → IsNumberCut text (fraction_items text)
fraction_cut text =
    elim (true_or_false (begins (is_digit_of 10) text)) [
      | inl digit ↦ (
          let digits = run 10 text in
          let more = exponent_or_cut Float digits.rest unnamed.2 in
          rw (fraction_there text digit) (record {
            here = behind digits.text text digits.rest (exponent_or Float digits.rest) (run_text 10 text) more;
            unmarked = more.unmarked;
          }))
      | inr none ↦ rw (fraction_missing text none) (exponent_or_cut Float text unnamed.2)
    ]

point_cut : (text : List ℕ) → begins (λ c. c == full_stop) text ≡ true → IsNumberCut text (point_items text)
unfolding point_items
point_cut text first = record {
  here = first_is full_stop text first ∙ ap (λ t. full_stop ∷ t) (fraction_cut (drop 1 text)).here;
  unmarked = unnamed.2;
}

behind_digits_cut : (text : List ℕ) → IsNumberCut text (behind_digits text)
behind_digits_cut text =
    elim (true_or_false (begins (λ c. c == full_stop) text)) [
      | inl first ↦ rw (behind_digits_point text first) (point_cut text first)
      | inr none ↦ rw (behind_digits_other text none) (exponent_or_cut Decimal text unnamed.0)
    ]

suffix_cut : (big : Kind) (without : Items) (text : List ℕ) → is_marked big ≡ false → IsNumberCut text without
    → IsNumberCut text (suffix_or big without text)
suffix_cut big without text e cut =
    elim (true_or_false (begins (λ c. c == latin_small_letter_n) text)) [
      | inl first ↦
          rw (suffix_there big without text first)
          (record { here = first_is latin_small_letter_n text first; unmarked = e })
      | inr none ↦ rw (suffix_missing big without text none) cut
    ]

decimal_cut : (text : List ℕ) → IsNumberCut text (decimal_items text)
unfolding decimal_items
decimal_cut text =
    let digits = integer text in
    let more = suffix_or DecimalBigInt (behind_digits digits.rest) digits.rest in
    let cut =
    suffix_cut DecimalBigInt (behind_digits digits.rest) digits.rest unnamed.1 (behind_digits_cut digits.rest) in
    record { here = behind digits.text text digits.rest more (integer_text text) cut; unmarked = cut.unmarked }

legacy_cut : (text : List ℕ) → IsNumberCut text (legacy_items text)
unfolding unseparated_digits
legacy_cut text =
    let digits = unseparated_digits text in
    elim (true_or_false (are_digits 8 digits.text)) [
      | inl octal ↦
          rw (legacy_octal_items text octal) (record {
            here = plain_text text ∙ ap (λ t. t ++ digits.rest) (sym (append-nil digits.text));
            unmarked = unnamed.3;
          })
      | inr some ↦ (
          let cut = behind_digits_cut digits.rest in
          rw (legacy_decimal_items text some) (record {
            here = behind digits.text text digits.rest (behind_digits digits.rest) (plain_text text) cut;
            unmarked = cut.unmarked;
          }))
    ]

-- The items reach so far, or to the end of the source where a digit is missing behind a prefix; the text begins with
-- their characters.
abbrev pub Reaches : List ℕ → Items → Type 0
Reaches text number =
    ((number.kind ≡ Eof) × (number.rest ≡ []) × ((left : List ℕ) × (text ≡ items_text number.items ++ left)))
    ⊎ IsNumberCut text number

prefixed_reaches : (c : ℕ) (cs : List ℕ) (base : Base) → base_of c ≡ Some base
    → Reaches (digit_zero ∷ c ∷ cs)
    (items-cons (whole (digit_zero ∷ c ∷ []) cs) (behind_prefix base (run base.radix cs)))
prefixed_reaches c cs base letter =
    let digits = run base.radix cs in
    let kinds = base_kinds c base letter in
    elim (true_or_false digits.lacks_digit) [
      | inl broken ↦
          rw (behind_prefix_broken base digits broken) (inl (
            refl,
            refl,
            (
              digits.rest,
              ap (λ t. digit_zero ∷ c ∷ t)
                  (run_text base.radix cs ∙ ap (λ xs. xs ++ digits.rest) (sym (append-nil digits.text))),
            ),
          ))
      | inr complete ↦ (
          let without = no_items base.kind digits.rest in
          let more = suffix_or base.big_kind without digits.rest in
          let cut =
          suffix_cut base.big_kind without digits.rest kinds.1.unmarked
          (record { here = refl; unmarked = kinds.0.unmarked }) in
          rw (behind_prefix_whole base digits complete) (inr (record {
            here = ap (λ t. digit_zero ∷ c ∷ t) (behind digits.text cs digits.rest more (run_text base.radix cs) cut);
            unmarked = cut.unmarked;
          })))
    ]

zero_reaches : (base : Option Base) (cs : List ℕ) → base_at cs ≡ base
    → Reaches (digit_zero ∷ cs) (zero_items base (digit_zero ∷ cs))
zero_reaches (Some base) [] e = absurd (cc)
zero_reaches (Some base) (c ∷ cs) e = rw (zero_base base (digit_zero ∷ c ∷ cs)) (prefixed_reaches c cs base e)
zero_reaches None cs e =
    elim (true_or_false (begins (is_digit_of 10) cs)) [
      | inl first ↦ rw (zero_legacy (digit_zero ∷ cs) first) (inr (legacy_cut (digit_zero ∷ cs)))
      | inr none ↦ rw (zero_decimal (digit_zero ∷ cs) none) (inr (decimal_cut (digit_zero ∷ cs)))
    ]

pub number_reaches : (text : List ℕ) → Reaches text (number_items text)
number_reaches [] =
    rw (number_decimal [] refl refl) (inr (decimal_cut []))
number_reaches (c ∷ cs) =
    elim (true_or_false (c == full_stop)) [
      | inl is ↦ rw (number_point (c ∷ cs) is) (inr (point_cut (c ∷ cs) is))
      | inr other ↦ elim (true_or_false (c == digit_zero)) [
        | inl is ↦ by_zero c cs (eqb-true c digit_zero is)
        | inr none ↦ rw (number_decimal (c ∷ cs) other none) (inr (decimal_cut (c ∷ cs)))
      ]
    ]
  where
    by_zero : (c : ℕ) (cs : List ℕ) → c ≡ digit_zero → Reaches (c ∷ cs) (number_items (c ∷ cs))
    by_zero c cs same =
        subst (λ d. Reaches (d ∷ cs) (number_items (d ∷ cs))) (sym same)
        (rw (number_zero (digit_zero ∷ cs) refl refl) (zero_reaches (base_at cs) cs refl))

point_characters : (text : List ℕ) → items_text (point_items text).items ≢ []
unfolding point_items
point_characters text e = cc

-- A number has characters.
some_characters : (text : List ℕ) → begins_number text ≡ true
    → begins may_not_follow_number (number_items text).rest ≡ false → IsNumberCut text (number_items text)
    → items_text (number_items text).items ≢ []
some_characters [] begun follows cut none = cc
some_characters (c ∷ cs) begun follows cut none =
    elim (true_or_false (c == full_stop)) [
      | inl is ↦ (let no : items_text (point_items (c ∷ cs)).items ≡ [] = rw (number_point (c ∷ cs) is) at none in
          point_characters (c ∷ cs) no)
      | inr other ↦ (
          let left : c ∷ cs ≡ (number_items (c ∷ cs)).rest =
          cut.here ∙ ap (λ xs. xs ++ (number_items (c ∷ cs)).rest) none in
          let digit : is_digit_of 10 c ≡ true = rw other at begun in
          let no : may_not_follow_number c ≡ false = ap (begins may_not_follow_number) left ∙ follows in
          let yes = digit_may_not_follow 10 c (omega arith) digit in
          cc)
    ]

-- What is read of a number is the rest of the source, or some characters; and it is of no kind of names.
pub record ReadsCharacters (here : List ℕ) (read : Reading) : Type 0 where
  pub leaves : ((read.kind ≡ Eof) × (read.rest ≡ [])) ⊎ ((xs : List ℕ) × (xs ≢ []) × (here ≡ xs ++ read.rest))
  pub unmarked : is_marked read.kind ≡ false

pub number_characters : (here : List ℕ) → begins_number here ≡ true
    → ReadsCharacters here (number_reading here)
number_characters here begun =
    let number = number_items here in
    elim (true_or_false (begins may_not_follow_number number.rest)) [
      | inl bad ↦
          rw (read_badly here number bad) (record { leaves = inl (refl, refl); unmarked = unnamed.4 })
      | inr well ↦
          rw (read_well here number well)
          (elim (number_reaches here) [
            | inl broken ↦
                (record { leaves = inl (broken.0, broken.1); unmarked = ap is_marked broken.0 ∙ unnamed.4 })
            | inr cut ↦ (record {
              leaves = inr (items_text number.items, some_characters here begun well cut, cut.here);
              unmarked = cut.unmarked;
            })
          ])
    ]

-- What was taken of a number is what stands before what is left.
pub number_taken : (here : List ℕ) → (number_reading here).taken ≡ before_rest here (number_reading here).rest
number_taken here =
    let number = number_items here in
    elim (true_or_false (begins may_not_follow_number number.rest)) [
      | inl bad ↦ rw (read_badly here number bad) refl
      | inr well ↦ rw (read_well here number well) refl
    ]
