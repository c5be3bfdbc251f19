-- Which punctuator a text begins with depends on its first characters.
use Rattle.std.proofs.Common.{◌≡◌, ℕ, suc, ◌+◌, ◌-◌, ◌<◌, ◌≤◌, Bool, true, false, not, ◌==◌, ◌&&◌, List, [], ◌∷◌}
use Rattle.std.proofs.Common.{length, zero, subst}
use Rattle.std.proofs.Common.{refl, sym, ◌∙◌, ap, arith, inl, inr, Some, None}
use Rattle.std.specs.List.{list_all}
use Rattle.std.specs.Prelude.{codes, nat_le, if◌then◌else◌}
use Rattle.std.specs.Char.{is_ascii_digit}
use Rattle.std.proofs.lemmas.Bool.{eqb-true, leb-true}
use Rattle.js_text.specs.Ascii.{asterisk}
use Rattle.js_text.specs.Characters.{begins}
use Rattle.js_text.specs.SourceType.{is_module}
use Rattle.js_text.specs.declared.source_type.SourceType.{SourceType}
use Rattle.js_grammar.specs.Gap.{is_prefix}
use Rattle.js_grammar.specs.Punctuators.{Punctuator, is_spelled, punctuators, Exclusion, excludes, excludes_nothing}
use Rattle.js_grammar.specs.Punctuators.{excludes_digits, excludes_asterisk, excludes_reported_comment}
use Rattle.js_grammar.specs.Readings.{longest_of, longer}
use Rattle.js_grammar.proofs.Ahead.{AgreeFor, agree_less, agree_past, are_ascii, prefix_agrees}
use Rattle.js_grammar.proofs.NumberItems.{true_or_false}
use Rattle.js_grammar.proofs.Tests.{and_true}

-- a test that ASCII characters alone pass tells the same of both
first_agrees : (p : ℕ → Bool) → ((c : ℕ) → p c ≡ true → c < 128) → (n : ℕ) (ys zs : List ℕ)
    → AgreeFor (suc n) ys zs → begins p ys ≡ begins p zs
first_agrees p low n [] zs agree = absurd agree
first_agrees p low n (y ∷ ys) [] agree = absurd agree
first_agrees p low n (y ∷ ys) (z ∷ zs) (inl same) = ap p same.0
first_agrees p low n (y ∷ ys) (z ∷ zs) (inr wide) = none y wide.0 ∙ sym (none z wide.1)
  where
    none : (c : ℕ) → 128 ≤ c → p c ≡ false
    none c far =
        elim (true_or_false (p c)) [ inl is ↦ absurd (omega (arith, far, low c is)) | inr other ↦ other ]

digit_is_low : (c : ℕ) → is_ascii_digit c ≡ true → c < 128
digit_is_low c is = omega (arith, leb-true c 57 (and_true (nat_le 48 c) (nat_le c 57) is).1)

asterisk_is_low : (c : ℕ) → (c == asterisk) ≡ true → c < 128
asterisk_is_low c is = omega (arith, eqb-true c asterisk is)

-- whether a punctuator is spelled at the beginning of texts that go on alike
abbrev IsLocal : SourceType → Bool → Punctuator → Type 0
IsLocal t line_has_ended p =
    (ys zs : List ℕ) → AgreeFor 4 ys zs → is_spelled t line_has_ended ys p ≡ is_spelled t line_has_ended zs p

-- a choice behind a mark that both texts begin with
spelled_agrees : (mark ys zs : List ℕ) (b d : Bool) → is_prefix mark ys ≡ is_prefix mark zs
    → (is_prefix mark ys ≡ true → b ≡ d) → (is_prefix mark ys && not b) ≡ (is_prefix mark zs && not d)
spelled_agrees mark ys zs b d same excluded =
    elim (true_or_false (is_prefix mark ys)) [
      | inl is ↦ rw (is, sym same ∙ is, excluded is) refl
      | inr other ↦ rw (other, sym same ∙ other) refl
    ]

-- of so many characters it depends whether a text may not follow
abbrev room_for : Exclusion → ℕ
room_for excludes_nothing = 0
room_for excludes_digits = 1
room_for excludes_asterisk = 1
room_for excludes_reported_comment = 3

excludes_alike : (t : SourceType) (line_has_ended : Bool) (e : Exclusion) (ys zs : List ℕ) → AgreeFor (room_for e) ys zs
    → excludes e t line_has_ended ys ≡ excludes e t line_has_ended zs
excludes_alike t line_has_ended excludes_nothing ys zs agree = refl
excludes_alike t line_has_ended excludes_digits ys zs agree =
    first_agrees is_ascii_digit digit_is_low 0 ys zs agree
excludes_alike t line_has_ended excludes_asterisk ys zs agree =
    first_agrees (λ c. c == asterisk) asterisk_is_low 0 ys zs agree
excludes_alike t line_has_ended excludes_reported_comment ys zs agree =
    ap (λ b. b && (is_module t && line_has_ended)) (prefix_agrees 3 (codes "!--") ys zs refl (omega arith) agree)

-- a punctuator of few characters, all of ASCII
abbrev is_short : Punctuator → Bool
is_short p = are_ascii p.text && nat_le (length p.text + room_for p.exclusion) 4

-- texts that go on alike do so for fewer characters
agree_for_fewer : (m n k : ℕ) (ys zs : List ℕ) → k ≡ m + n → AgreeFor k ys zs → AgreeFor n ys zs
agree_for_fewer zero n k ys zs sum agree =
    let same : k ≡ n = omega (arith, sum) in subst (λ n. AgreeFor n ys zs) same agree
agree_for_fewer (suc m) n zero ys zs sum agree = absurd (omega (arith, sum))
agree_for_fewer (suc m) n (suc k) ys zs sum agree =
    agree_for_fewer m n k ys zs (omega (arith, sum)) (agree_less k ys zs agree)

is_local : (t : SourceType) (line_has_ended : Bool) (p : Punctuator) → is_short p ≡ true → IsLocal t line_has_ended p
is_local t line_has_ended p short ys zs agree =
    let both = and_true (are_ascii p.text) (nat_le (length p.text + room_for p.exclusion) 4) short in
    let room : length p.text + room_for p.exclusion ≤ 4 = leb-true _ 4 both.1 in
    let sum : 4 ≡ 4 - (length p.text + room_for p.exclusion) + (length p.text + room_for p.exclusion) =
    omega (arith, room) in
    let enough : AgreeFor (length p.text + room_for p.exclusion) ys zs =
    agree_for_fewer (4 - (length p.text + room_for p.exclusion)) (length p.text + room_for p.exclusion) 4 ys zs sum
    agree in
    spelled_agrees p.text ys zs _ _
    (prefix_agrees 4 p.text ys zs both.0 (omega (arith, room)) agree)
    (λ is. excludes_alike t line_has_ended p.exclusion _ _
    (agree_past (length p.text + room_for p.exclusion) (room_for p.exclusion) p.text ys zs both.0 refl enough is))

punctuators_are_short : list_all is_short punctuators ≡ true
punctuators_are_short = refl

longest_agrees : (t : SourceType) (line_has_ended : Bool) (ps : List Punctuator) (ys zs : List ℕ)
    → list_all is_short ps ≡ true → AgreeFor 4 ys zs
    → longest_of t line_has_ended ys ps ≡ longest_of t line_has_ended zs ps
longest_agrees t line_has_ended [] ys zs short agree = refl
longest_agrees t line_has_ended (p ∷ ps) ys zs short agree =
    let both = and_true (is_short p) (list_all is_short ps) short in
    ap (λ b. longer (if b then Some p else None) (longest_of t line_has_ended ys ps))
    (is_local t line_has_ended p both.0 ys zs agree)
    ∙ ap (longer (if is_spelled t line_has_ended zs p then Some p else None))
    (longest_agrees t line_has_ended ps ys zs both.1 agree)

-- The longest punctuator is the same.
pub punctuator_agrees : (t : SourceType) (line_has_ended : Bool) (ys zs : List ℕ) → AgreeFor 4 ys zs
    → longest_of t line_has_ended ys punctuators ≡ longest_of t line_has_ended zs punctuators
punctuator_agrees t line_has_ended ys zs =
    longest_agrees t line_has_ended punctuators ys zs punctuators_are_short
