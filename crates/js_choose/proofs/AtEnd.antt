-- A token `Eof` of a plain reading ends at the end of the text.
use Rattle.std.proofs.Common.{◌≡◌, ◌⊎◌, ℕ, Bool, true, false, not, ◌==◌, List, [], ◌∷◌, length, drop, refl, sym}
use Rattle.std.proofs.Common.{◌∙◌, ap, arith, length-drop, subst, Option, Some, None, inl, inr}
use Rattle.std.specs.Str.{IsCharBoundary, IsUtf8, encode_utf8_all}
use Rattle.js_text.specs.Ascii.{full_stop}
use Rattle.js_text.specs.Characters.{begins, from_place}
use Rattle.js_text.proofs.TextLemmas.{rest_bytes}
use Rattle.js_text.specs.declared.source_type.SourceType.{SourceType}
use Rattle.js_kind.specs.Digits.{is_digit_of}
use Rattle.js_kind.specs.Kinds.{is_identifier_name, is_number_kind}
use Rattle.js_kind.specs.Predicates.{is_eof}
use Rattle.js_kind.specs.TokenParts.{TokenParts}
use Rattle.js_kind.specs.declared.kind.Kind.{Kind}
use Rattle.js_kind.specs.declared.kind.Kind.TheVariants.{Decimal, DecimalBigInt, Eof, Float, Octal, Undetermined}
use Rattle.js_kind.proofs.NameKinds.{name_kind-is_identifier_name}
use Rattle.js_grammar.specs.Goals.{GoalReads, ReadsHere}
use Rattle.js_grammar.specs.Goals.ReadsPlainly.{hashbang, behind_gap}
use Rattle.js_grammar.specs.Name.{begins_name, items_reading, name_reading, no_private_name, private_name_of}
use Rattle.js_grammar.specs.Name.{private_reading}
use Rattle.js_grammar.specs.Number.{Base, are_digits, base_of, digit_zero, integer, is_exponent_indicator}
use Rattle.js_grammar.specs.Number.{latin_small_letter_n, may_not_follow_number, run, whole}
use Rattle.js_grammar.specs.NumberReads.{Items, base_at, behind_digits, behind_prefix, decimal_items, exponent_items}
use Rattle.js_grammar.specs.NumberReads.{exponent_or, items-cons, legacy_items, no_items, number_items}
use Rattle.js_grammar.specs.NumberReads.{number_reading, point_items, sign_of, suffix_or, unseparated_digits}
use Rattle.js_grammar.specs.NumberReads.{zero_items}
use Rattle.js_grammar.specs.Outcome.{Outcome}
use Rattle.js_grammar.specs.Punctuators.{Punctuator, punctuators, IsIn}
use Rattle.js_grammar.specs.Quoted.{begins_quoted, quoted_reading}
use Rattle.js_grammar.specs.Reading.{Reading}
use Rattle.js_grammar.specs.declared.goal.Goal.TheVariants.{Next as NextGoal}
use Rattle.js_grammar.proofs.HereReadings.{of_each_reading}
use Rattle.js_grammar.proofs.NumberItems.{true_or_false}
use Rattle.js_grammar.proofs.NumberKinds.{base_kinds, sign_is_number}
use Rattle.js_grammar.proofs.NumberSteps.{behind_digits_other, behind_digits_point, behind_prefix_broken}
use Rattle.js_grammar.proofs.NumberSteps.{behind_prefix_whole, exponent_missing, exponent_there}
use Rattle.js_grammar.proofs.NumberSteps.{legacy_decimal_items, legacy_octal_items, number_decimal}
use Rattle.js_grammar.proofs.NumberSteps.{number_point, number_zero, read_badly, read_well, suffix_missing}
use Rattle.js_grammar.proofs.NumberSteps.{suffix_there, zero_base, zero_decimal, zero_legacy}
use Rattle.js_grammar.proofs.PunctuatorLemmas.{passes_at}
use Rattle.js_grammar.proofs.QuotedValues.{quoted_kind_is}
use Rattle.std.proofs.lemmas.Bool.{eqb-true}
use Rattle.std.specs.List.{list_all}

-- a number is of a kind of numbers, or nothing is left behind it
abbrev IsCounted : Items → Type 0
IsCounted number = (is_number_kind number.kind ≡ true) ⊎ (number.rest ≡ [])

-- the kinds of numbers without a prefix
record AreCounted : Type 0 where
  decimal : is_number_kind Decimal ≡ true
  big : is_number_kind DecimalBigInt ≡ true
  float : is_number_kind Float ≡ true
  octal : is_number_kind Octal ≡ true

are_counted : AreCounted
unfolding is_number_kind
are_counted = record { decimal = refl; big = refl; float = refl; octal = refl }

exponent_counted : (mark : ℕ) (text : List ℕ) → IsCounted (exponent_items mark (sign_of text) text)
unfolding exponent_items
exponent_counted mark text = inl (sign_is_number (sign_of text)).is_number

exponent_or_counted : (without : Kind) (text : List ℕ) → is_number_kind without ≡ true
    → IsCounted (exponent_or without text)
exponent_or_counted without [] e = rw (exponent_missing without [] refl) (inl e)
exponent_or_counted without (c ∷ cs) e =
    elim (true_or_false (is_exponent_indicator c)) [
      | inl is ↦ rw (exponent_there without c cs is) (exponent_counted c cs)
      | inr none ↦ rw (exponent_missing without (c ∷ cs) none) (inl e)
    ]

point_counted : (text : List ℕ) → IsCounted (point_items text)
unfolding point_items
point_counted text = inl are_counted.float

behind_digits_counted : (text : List ℕ) → IsCounted (behind_digits text)
behind_digits_counted text =
    elim (true_or_false (begins (λ c. c == full_stop) text)) [
      | inl first ↦ rw (behind_digits_point text first) (point_counted text)
      | inr none ↦ rw (behind_digits_other text none) (exponent_or_counted Decimal text are_counted.decimal)
    ]

suffix_counted : (big : Kind) (without : Items) (text : List ℕ) → is_number_kind big ≡ true → IsCounted without
    → IsCounted (suffix_or big without text)
suffix_counted big without text e counted =
    elim (true_or_false (begins (λ c. c == latin_small_letter_n) text)) [
      | inl first ↦ rw (suffix_there big without text first) (inl e)
      | inr none ↦ rw (suffix_missing big without text none) counted
    ]

decimal_counted : (text : List ℕ) → IsCounted (decimal_items text)
unfolding decimal_items
decimal_counted text =
    let digits = integer text in
    suffix_counted DecimalBigInt (behind_digits digits.rest) digits.rest are_counted.big
    (behind_digits_counted digits.rest)

legacy_counted : (text : List ℕ) → IsCounted (legacy_items text)
unfolding unseparated_digits
legacy_counted text =
    let digits = unseparated_digits text in
    elim (true_or_false (are_digits 8 digits.text)) [
      | inl octal ↦ rw (legacy_octal_items text octal) (inl are_counted.octal)
      | inr some ↦ rw (legacy_decimal_items text some) (behind_digits_counted digits.rest)
    ]

prefixed_counted : (c : ℕ) (cs : List ℕ) (base : Base) → base_of c ≡ Some base
    → IsCounted (items-cons (whole (digit_zero ∷ c ∷ []) cs) (behind_prefix base (run base.radix cs)))
prefixed_counted c cs base letter =
    let digits = run base.radix cs in
    let kinds = base_kinds c base letter in
    elim (true_or_false digits.lacks_digit) [
      | inl broken ↦ rw (behind_prefix_broken base digits broken) (inr refl)
      | inr complete ↦
          rw (behind_prefix_whole base digits complete)
          (suffix_counted base.big_kind (no_items base.kind digits.rest) digits.rest kinds.1.is_number
          (inl kinds.0.is_number))
    ]

zero_counted : (base : Option Base) (cs : List ℕ) → base_at cs ≡ base
    → IsCounted (zero_items base (digit_zero ∷ cs))
zero_counted (Some base) [] e = absurd (cc)
zero_counted (Some base) (c ∷ cs) e = rw (zero_base base (digit_zero ∷ c ∷ cs)) (prefixed_counted c cs base e)
zero_counted None cs e =
    elim (true_or_false (begins (is_digit_of 10) cs)) [
      | inl first ↦ rw (zero_legacy (digit_zero ∷ cs) first) (legacy_counted (digit_zero ∷ cs))
      | inr none ↦ rw (zero_decimal (digit_zero ∷ cs) none) (decimal_counted (digit_zero ∷ cs))
    ]

number_counted : (text : List ℕ) → IsCounted (number_items text)
number_counted [] = rw (number_decimal [] refl refl) (decimal_counted [])
number_counted (c ∷ cs) =
    elim (true_or_false (c == full_stop)) [
      | inl is ↦ rw (number_point (c ∷ cs) is) (point_counted (c ∷ cs))
      | inr other ↦ elim (true_or_false (c == digit_zero)) [
        | inl is ↦ by_zero c cs (eqb-true c digit_zero is)
        | inr none ↦ rw (number_decimal (c ∷ cs) other none) (decimal_counted (c ∷ cs))
      ]
    ]
  where
    by_zero : (c : ℕ) (cs : List ℕ) → c ≡ digit_zero → IsCounted (number_items (c ∷ cs))
    by_zero c cs same =
        subst (λ d. IsCounted (number_items (d ∷ cs))) (sym same)
        (rw (number_zero (digit_zero ∷ cs) refl refl) (zero_counted (base_at cs) cs refl))

-- where a reading is `Eof`, nothing is left behind it
abbrev LeavesNothing : Reading → Type 0
LeavesNothing r = r.kind ≡ Eof → r.rest ≡ []

-- `Eof` is no number and no name
no_number : (kind : Kind) → is_number_kind kind ≡ true → ¬ (kind ≡ Eof)
unfolding is_number_kind
no_number kind is end = (let no : true ≡ false = sym is ∙ ap is_number_kind end in cc)

no_name : (kind : Kind) → is_identifier_name kind ≡ true → ¬ (kind ≡ Eof)
unfolding is_identifier_name
no_name kind is end = (let no : true ≡ false = sym is ∙ ap is_identifier_name end in cc)

number_leaves : (here : List ℕ) → LeavesNothing (number_reading here)
number_leaves here =
    let number = number_items here in
    elim (true_or_false (begins may_not_follow_number number.rest)) [
      | inl bad ↦ rw (read_badly here number bad) (λ end. refl)
      | inr well ↦ rw (read_well here number well) (λ end. by_kind (number_counted here) end)
    ]
  where
    by_kind : IsCounted (number_items here) → (number_items here).kind ≡ Eof → (number_items here).rest ≡ []
    by_kind (inl is) end = absurd (no_number (number_items here).kind is end)
    by_kind (inr none) end = none

private_leaves : (here : List ℕ) → LeavesNothing (private_reading here)
unfolding private_name_of
private_leaves here =
    elim (true_or_false (begins_name (drop 1 here)))
    [ inl begun ↦ rw begun (λ end. cc) | inr none ↦ rw none (unnamed (drop 1 here)) ]
  where
    unnamed : (cs : List ℕ) → LeavesNothing (no_private_name here cs)
    unnamed [] = λ end. refl
    unnamed (c ∷ cs) = λ end. refl

name_leaves : (here : List ℕ) → LeavesNothing (name_reading here)
unfolding items_reading
name_leaves here = λ end. absurd (no_name _ (name_kind-is_identifier_name _) end)

quoted_leaves : (here : List ℕ) → begins begins_quoted here ≡ true → LeavesNothing (quoted_reading here)
quoted_leaves [] begun = absurd (cc)
quoted_leaves (c ∷ cs) begun =
    λ end. absurd (quoted_kind_is (λ kind. ¬ (kind ≡ Eof)) (λ e. cc) (λ e. cc) (λ e. cc) (λ e. cc) c cs end)

-- no punctuator is `Eof`
punctuators_are_others : list_all (λ p. not (is_eof p.kind)) punctuators ≡ true
unfolding is_eof
punctuators_are_others = refl

not_the_end : (kind : Kind) → not (is_eof kind) ≡ true → ¬ (kind ≡ Eof)
unfolding is_eof
not_the_end kind e end = (let no : false ≡ true = sym (ap (λ k. not (is_eof k)) end) ∙ e in cc)

-- What is read where a gap has ended leaves nothing where it is `Eof`.
here_leaves : (t : SourceType) (line_has_ended : Bool) (here : List ℕ) (r : Reading)
    → ReadsHere t line_has_ended here r → LeavesNothing r
here_leaves t line_has_ended here r reads =
    of_each_reading LeavesNothing t line_has_ended here r (record {
      comment = λ end. refl;
      name = λ begun. name_leaves here;
      private = λ begun. private_leaves here;
      number = λ begun. number_leaves here;
      quoted = λ begun. quoted_leaves here begun;
      punctuator = λ p i e end. absurd (no_punctuator p i end);
      end = λ e end. refl;
      binary = λ c cs e end. refl;
      character = λ c cs e end. absurd (let no : Undetermined ≡ Eof = end in cc);
    }) reads
  where
    no_punctuator : (p : Punctuator) → IsIn p punctuators → ¬ (p.kind ≡ Eof)
    no_punctuator p i end =
        not_the_end p.kind (passes_at (λ q. not (is_eof q.kind)) p punctuators i punctuators_are_others) end

-- no character is left from a place on at the end of the text alone
nothing_left : (text : List ℕ) (place : ℕ) → IsUtf8 text → IsCharBoundary text place → from_place text place ≡ []
    → place ≡ length text
nothing_left text place u b none =
    let bytes : drop place text ≡ [] = sym (rest_bytes text place u b) ∙ ap encode_utf8_all none in
    omega (arith, ap length bytes, length-drop place text, b.0)

-- A token `Eof` of a plain reading ends at the end of the text.
pub plain_end : (text : List ℕ) (t : SourceType) (before : Option TokenParts) (place : ℕ) (o : Outcome) → IsUtf8 text
    → GoalReads text t NextGoal before place o → o.token.kind ≡ Eof → o.token.end ≡ length text
plain_end text t before place o u (hashbang begun read) end = absurd (cc)
plain_end text t before place o u (behind_gap begun read) end =
    let kind : read.reading.kind ≡ Eof = sym (ap (λ x. x.token.kind) read.outcome_is) ∙ end in
    nothing_left text o.token.end u read.end
    (sym read.rest ∙ here_leaves t read.line_has_ended (from_place text o.token.start) read.reading read.here kind)
