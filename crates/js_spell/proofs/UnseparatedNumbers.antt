-- The steps of reading a number without a separator and without a fault.
use Rattle.std.proofs.Common.{◌≡◌, ℕ, ◌<◌, ◌≤◌, Bool, true, false, ◌||◌, ◌==◌, List, [], ◌∷◌, drop, refl, sym, ◌∙◌}
use Rattle.std.proofs.Common.{◌++◌, length, length-append}
use Rattle.std.proofs.Common.{ap, subst, arith, inl, inr, ltb, nat_le, not}
use Rattle.std.specs.Prelude.{◌⊎◌, MatchBool}
use Rattle.std.proofs.lemmas.Bool.{eqb-true, ne_eqb, ltb-true, ltb-false, le-leb}
use Rattle.std.specs.Char.{is_ascii_alphabetic, is_ascii_alphanumeric}
use Rattle.js_text.proofs.CharacterLemmas.{start_in_ascii, part_in_ascii}
use Rattle.js_text.specs.Ascii.{full_stop, low_line}
use Rattle.js_text.specs.Characters.{begins, from_place, is_identifier_part}
use Rattle.js_text.specs.declared.diagnostic.Diagnostic.{Diagnostic}
use Rattle.js_kind.specs.Digits.{is_digit_of}
use Rattle.js_kind.specs.TokenParts.{TokenParts}
use Rattle.js_kind.specs.declared.kind.Kind.{Kind}
use Rattle.js_kind.specs.declared.kind.Kind.TheVariants.{Decimal, Float, DecimalBigInt}
use Rattle.js_source.proofs.Classes.{same, same_true}
use Rattle.js_source.specs.Runs.{PassesRun, TellsClass}
use Rattle.js_source.specs.Search.{matches_at}
use Rattle.js_source.specs.Source.{At, rest, Reads, HasFirstByte}
use Rattle.js_grammar.specs.Number.{may_not_follow_number, digit_zero, latin_small_letter_n, is_exponent_indicator}
use Rattle.js_grammar.specs.NumberReads.{exponent_or}
use Rattle.js_grammar.specs.NumberReads.{behind_digits, decimal_items, fraction_items, number_items, suffix_or, base_at}
use Rattle.js_grammar.proofs.NumberClasses.{all_below, below, contraposed, ends_number}
use Rattle.js_grammar.proofs.NumberCuts.{NoPrefix, no_prefix_ended, no_prefix_suffix, no_prefix_point, no_prefix_mark}
use Rattle.js_grammar.proofs.NumberItems.{true_or_false}
use Rattle.js_spell.specs.Numeric.{PassesDigits, PassesGroups, ReadsRun, ReadsInteger, ReadsPart, ReadsEnd}
use Rattle.js_spell.specs.Numeric.{ReadsCut, MayGoOn, FollowsInteger, TakesExponentIndicator, TakesSign}
use Rattle.js_spell.specs.Numeric.{HasPrefix, base_of_prefix}
use Rattle.js_spell.specs.declared.numeric.Prefix.{Prefix}
use Rattle.js_spell.specs.declared.numeric.Passed.TheVariants.{Whole}
use Rattle.js_spell.specs.declared.spelt.SpeltValue.TheVariants.{Plain}
use Rattle.js_spell.proofs.EndSteps.{good_number_read, number_spells}
use Rattle.js_spell.specs.Spells.{Spells}
use Rattle.js_grammar.specs.NumberReads.{number_reading}
use Rattle.js_spell.proofs.LeadSteps.{zero_leads, other_leads}
use Rattle.js_spell.proofs.NumericSteps.{stops_digits, passes_whole, run_whole_read, integer_read}
use Rattle.js_spell.proofs.NumericSteps.{fraction_read, exponent_read, behind_point_read}
use Rattle.js_spell.proofs.NumericSteps.{behind_other_read, no_suffix_read, decimal_read}
use Rattle.js_spell.proofs.PrefixSteps.{led_read, prefixed_read, prefix_big_read, prefix_plain_read}

-- digits that no separator follows
groups_of_digits : (radix : ℕ) (old new : At) → PassesDigits radix old Whole new
    → PassesGroups radix old Whole new false false
groups_of_digits radix old new digits = record {
  text = digits.text;
  characters = digits.characters;
  here = digits.here;
  item = digits.item;
  separator = sym digits.separator;
}

pub plain_run_read : (radix : ℕ) (table : List Bool) (old new : At) (errors : List Diagnostic) → radix ≤ 16
    → TellsClass (is_digit_of radix) table → new.text ≡ old.text → PassesRun table old.text old.place new.place
    → begins (matches_at table) (rest new) ≡ false → begins (is_digit_of radix) (rest old) ≡ true
    → begins (λ c. c == low_line) (rest new) ≡ false → ReadsRun radix old new errors errors false false true
plain_run_read radix table old new errors small tells text run stops digit none =
    run_whole_read radix old new errors false false digit
    (groups_of_digits radix old new (passes_whole radix table old new small tells text run stops none))

-- the first character, by its byte
first_there : (p : ℕ → Bool) (x : Bool) (b : ℕ) (cs : List ℕ) → b < 128 → HasFirstByte b cs → p b ≡ x → begins p cs ≡ x
first_there p x b [] small first is = absurd first
first_there p x b (c ∷ cs) small first is = ap p (first.0 small) ∙ is

digit_is_no_point : is_digit_of 10 full_stop ≡ false
unfolding is_digit_of
digit_is_no_point = refl

pub no_point : (b : ℕ) (cs : List ℕ) → b < 128 → HasFirstByte b cs → is_digit_of 10 b ≡ true
    → begins (λ c. c == full_stop) cs ≡ false
no_point b cs small first digit =
    first_there (λ c. c == full_stop) false b cs small first
    (contraposed (b == full_stop) (is_digit_of 10 full_stop)
    (λ e. ap (is_digit_of 10) (sym (eqb-true b full_stop e)) ∙ digit) digit_is_no_point)

-- `0`
pub zero_passed : (b : ℕ) (old new : At) → b ≡ 48 → Reads old new b → Reads old new 48
zero_passed b old new is reads = subst (λ d. Reads old new d) is reads

pub zero_items_are : (b : ℕ) (old new : At) → b < 128 → HasFirstByte b (rest old) → is_digit_of 10 b ≡ true → b ≡ 48
    → Reads old new b → FollowsInteger (rest new) → number_items (rest old) ≡ decimal_items (rest old)
zero_items_are b old new small first digit is reads follows =
    let read = zero_passed b old new is reads in
    zero_leads (rest old) (no_point b (rest old) small first digit)
    (ap (begins (λ c. c == digit_zero)) read.here) (ap (λ t. base_at (drop 1 t)) read.here ∙ follows.base)
    (ap (λ t. begins (is_digit_of 10) (drop 1 t)) read.here ∙ follows.digit)

-- another digit
pub other_digit : (b : ℕ) (cs : List ℕ) → b < 128 → HasFirstByte b cs → (b ≡ 48 → ⊥)
    → begins (λ c. c == digit_zero) cs ≡ false
other_digit b cs small first other =
    first_there (λ c. c == digit_zero) false b cs small first (ne_eqb b digit_zero other)

pub other_items_are : (b : ℕ) (cs : List ℕ) → b < 128 → HasFirstByte b cs → is_digit_of 10 b ≡ true → (b ≡ 48 → ⊥)
    → number_items cs ≡ decimal_items cs
other_items_are b cs small first digit other =
    other_leads cs (no_point b cs small first digit) (other_digit b cs small first other)

pub integer_passed : (b : ℕ) (table : List Bool) (old new : At) (errors : List Diagnostic)
    → TellsClass (is_digit_of 10) table
    → new.text ≡ old.text → PassesRun table old.text old.place new.place → begins (matches_at table) (rest new) ≡ false
    → b < 128 → HasFirstByte b (rest old) → is_digit_of 10 b ≡ true → (b ≡ 48 → ⊥) → FollowsInteger (rest new)
    → ReadsInteger old new errors errors false false
integer_passed b table old new errors tells text run stops small first digit other follows =
    integer_read old new errors errors false false true (other_digit b (rest old) small first other)
    (plain_run_read 10 table old new errors (omega arith) tells text run stops
    (first_there (is_digit_of 10) true b (rest old) small first digit) follows.separator)

-- at least one digit was passed
pub digit_passed : (table : List Bool) (b : ℕ) (old new : At) → TellsClass (is_digit_of 10) table → new.text ≡ old.text
    → PassesRun table old.text old.place new.place → begins (matches_at table) (rest new) ≡ false → b < 128
    → HasFirstByte b (rest old) → is_digit_of 10 b ≡ true → length (rest new) < length (rest old)
digit_passed table b old new tells text run stops small first is =
    by_run run.run (run.here ∙ ap (λ t. run.run ++ from_place t new.place) (sym text))
  where
    by_run : (xs : List ℕ) → rest old ≡ xs ++ rest new → length (rest new) < length (rest old)
    by_run [] e =
        let digit = first_there (is_digit_of 10) true b (rest old) small first is in
        let none = ap (begins (is_digit_of 10)) e ∙ stops_digits 10 table (rest new) (omega arith) tells stops in
        let both : true ≡ false = sym digit ∙ none in absurd (cc)
    by_run (x ∷ xs) e = omega (arith, ap length e, length-append xs (rest new))

-- a fraction, and none
pub fraction_passed : (table : List Bool) (old mid new : At) (errors : List Diagnostic) (kind : Kind)
    → TellsClass (is_digit_of 10) table → mid.text ≡ old.text
    → PassesRun table old.text old.place mid.place
    → begins (matches_at table) (rest mid) ≡ false → begins (is_digit_of 10) (rest old) ≡ true
    → FollowsInteger (rest mid) → ReadsEnd mid new errors errors false false kind (exponent_or Float (rest mid))
    → ReadsPart old new errors errors false false (fraction_items (rest old))
fraction_passed table old mid new errors kind tells text run stops digit follows end =
    fraction_read old mid new errors errors errors false false false true kind digit
    (plain_run_read 10 table old mid errors (omega arith) tells text run stops digit follows.separator) end

-- an exponent
pub exponent_passed : (table : List Bool) (old marked signed new : At) (errors : List Diagnostic) (without kind : Kind)
    → TakesExponentIndicator old marked → TakesSign marked signed kind
    → TellsClass (is_digit_of 10) table → new.text ≡ signed.text → PassesRun table signed.text signed.place new.place
    → begins (matches_at table) (rest new) ≡ false → begins (is_digit_of 10) (rest signed) ≡ true
    → begins may_not_follow_number (rest new) ≡ false
    → ReadsEnd old new errors errors false false kind (exponent_or without (rest old))
exponent_passed table old marked signed new errors without kind mark sign tells text run stops digit end =
    exponent_read old marked signed new errors errors false false true without kind mark sign
    (plain_run_read 10 table signed new errors (omega arith) tells text run stops digit
    ((ends_number (rest new) end).run 10 (omega arith)).separator)

-- in ASCII letters, digits and two marks may not follow a number, and nothing else
abbrev is_ascii_follower : ℕ → Bool
is_ascii_follower c = is_digit_of 10 c || (is_ascii_alphabetic c || ((c == 36) || (c == 95)))

follower_in_ascii : (c : ℕ) → c < 128 → may_not_follow_number c ≡ is_ascii_follower c
unfolding may_not_follow_number
follower_in_ascii c small = ap (λ x. is_digit_of 10 c || x) (start_in_ascii c small)

-- what follows an integer: the end of the number, a point, a suffix, an exponent
follows_integer : (cs : List ℕ) → NoPrefix cs → FollowsInteger cs
follows_integer cs none =
    record { digit = none.stops.digit; separator = none.stops.separator; base = none.letter }

pub end_follows : (cs : List ℕ) → begins may_not_follow_number cs ≡ false → FollowsInteger cs
end_follows cs h = follows_integer cs (no_prefix_ended cs h)

pub point_follows : (old mid : At) → Reads old mid full_stop → FollowsInteger (rest old)
point_follows old mid read =
    subst FollowsInteger (sym read.here) (follows_integer (full_stop ∷ rest mid) (no_prefix_point (rest mid)))

pub suffix_follows : (old mid : At) → Reads old mid latin_small_letter_n → FollowsInteger (rest old)
suffix_follows old mid read =
    subst FollowsInteger (sym read.here)
    (follows_integer (latin_small_letter_n ∷ rest mid) (no_prefix_suffix (rest mid)))

pub exponent_follows : (old mid : At) → TakesExponentIndicator old mid → FollowsInteger (rest old)
exponent_follows old mid mark =
    follows_integer (rest old) (no_prefix_mark (rest old) (ap (begins is_exponent_indicator) mark.read.here ∙ mark.is))

-- what is read of it
pub behind_point : (old mid new : At) (errors : List Diagnostic) → Reads old mid full_stop
    → ReadsPart mid new errors errors false false (fraction_items (rest mid))
    → ReadsEnd old new errors errors false false Float
    (suffix_or DecimalBigInt (behind_digits (rest old)) (rest old))
behind_point old mid new errors read part =
    no_suffix_read old new errors errors false false DecimalBigInt Float (behind_digits (rest old))
    (ap (begins (λ c. c == latin_small_letter_n)) read.here)
    (behind_point_read old mid new errors errors false false read part)

pub behind_exponent : (old new : At) (errors : List Diagnostic) (kind : Kind)
    → begins (λ c. c == full_stop) (rest old) ≡ false → begins (λ c. c == latin_small_letter_n) (rest old) ≡ false
    → ReadsEnd old new errors errors false false kind (exponent_or Decimal (rest old))
    → ReadsEnd old new errors errors false false kind (suffix_or DecimalBigInt (behind_digits (rest old)) (rest old))
behind_exponent old new errors kind no_point no_suffix end =
    no_suffix_read old new errors errors false false DecimalBigInt kind (behind_digits (rest old)) no_suffix
    (behind_other_read old new errors errors false false kind no_point end)

-- a number with a prefix, and the suffix of one
pub prefixed_suffix : (prefix : Prefix) (radix : ℕ) (table : List Bool) (old mid here new : At)
    (errors : List Diagnostic) → radix ≡ (base_of_prefix prefix).radix → radix ≤ 16
    → (p : HasPrefix prefix (rest old)) → mid.text ≡ old.text → rest mid ≡ p.behind
    → TellsClass (is_digit_of radix) table → here.text ≡ mid.text → PassesRun table mid.text mid.place here.place
    → begins (matches_at table) (rest here) ≡ false → begins (is_digit_of radix) (rest mid) ≡ true
    → Reads here new latin_small_letter_n
    → ReadsCut old new errors errors false false (base_of_prefix prefix).big_kind (number_items (rest old))
prefixed_suffix prefix radix table old mid here new errors is small p text behind tells same run stops digit
    read =
    let base = base_of_prefix prefix in
    let digits : ReadsRun base.radix mid here errors errors false false true =
    subst (λ (r : ℕ). ReadsRun r mid here errors errors false false true) is
    (plain_run_read radix table mid here errors small tells same run stops digit
    (ap (begins (λ c. c == low_line)) read.here)) in
    prefixed_read prefix old mid new errors errors false false base.big_kind p text behind
    (prefix_big_read base mid here new errors errors false false digits read)

pub prefixed_alone : (prefix : Prefix) (radix : ℕ) (table : List Bool) (old mid here : At)
    (errors : List Diagnostic) → radix ≡ (base_of_prefix prefix).radix → radix ≤ 16
    → (p : HasPrefix prefix (rest old)) → mid.text ≡ old.text → rest mid ≡ p.behind
    → TellsClass (is_digit_of radix) table → here.text ≡ mid.text → PassesRun table mid.text mid.place here.place
    → begins (matches_at table) (rest here) ≡ false → begins (is_digit_of radix) (rest mid) ≡ true
    → begins may_not_follow_number (rest here) ≡ false
    → ReadsCut old here errors errors false false (base_of_prefix prefix).kind (number_items (rest old))
prefixed_alone prefix radix table old mid here errors is small p text behind tells same run stops digit end =
    let base = base_of_prefix prefix in
    let ends = ends_number (rest here) end in
    let digits : ReadsRun base.radix mid here errors errors false false true =
    subst (λ (r : ℕ). ReadsRun r mid here errors errors false false true) is
    (plain_run_read radix table mid here errors small tells same run stops digit (ends.run radix small).separator) in
    prefixed_read prefix old mid here errors errors false false base.kind p text behind
    (prefix_plain_read base mid here errors errors false false digits ends.suffix)

-- where nothing but its `0` would be left of a number, it has not ended
zero_is_one : is_ascii_follower digit_zero ≡ true
unfolding is_digit_of
zero_is_one = refl

pub prefix_goes_on : (prefix : Prefix) (cs : List ℕ) → HasPrefix prefix cs
    → begins may_not_follow_number cs ≡ false → ⊥
prefix_goes_on prefix cs p end =
    let zero : begins may_not_follow_number cs ≡ true =
    ap (begins may_not_follow_number) p.here ∙ follower_in_ascii digit_zero (omega arith) ∙ zero_is_one in
    cc

-- the whole number
pub decimal_cut : (old mid new : At) (errors : List Diagnostic) (kind : Kind)
    → number_items (rest old) ≡ decimal_items (rest old) → ReadsInteger old mid errors errors false false
    → ReadsEnd mid new errors errors false false kind
    (suffix_or DecimalBigInt (behind_digits (rest mid)) (rest mid))
    → ReadsCut old new errors errors false false kind (number_items (rest old))
decimal_cut old mid new errors kind items integer end =
    led_read old new errors errors false false kind (decimal_items (rest old)) items
    (decimal_read old mid new errors errors errors false false false kind integer end)

pub unseparated_number : (old new : At) (errors : List Diagnostic) (token : TokenParts) (kind : Kind)
    → ReadsCut old new errors errors false false kind (number_items (rest old))
    → begins may_not_follow_number (rest new) ≡ false
    → Spells (number_reading (rest old)) old.place old new errors errors token
    (record token { escaped = false; has_separator = false }) (record { kind = kind; value = Plain })
unseparated_number old new errors token kind cut ends =
    number_spells old new errors errors token (record token { escaped = false; has_separator = false }) kind false
    (good_number_read old new new errors errors errors false kind cut (ends, refl, refl)) refl

-- the parts of names are those
parts_are_followers
    : all_below (λ c. same (is_ascii_alphanumeric c || ((c == 36) || (c == 95))) (is_ascii_follower c)) 128 ≡ true
unfolding is_digit_of
parts_are_followers = refl

pub part_may_not_follow : (table : List Bool) (b : ℕ) → TellsClass is_identifier_part table → b < 128
    → matches_at table b ≡ may_not_follow_number b
part_may_not_follow table b tells small =
    tells.tells b small ∙ part_in_ascii b small
    ∙ same_true (is_ascii_alphanumeric b || ((b == 36) || (b == 95))) (is_ascii_follower b)
    (below (λ c. same (is_ascii_alphanumeric c || ((c == 36) || (c == 95))) (is_ascii_follower c)) 128 b
    parts_are_followers small)
    ∙ sym (follower_in_ascii b small)

pub follower_by_table : (table : List Bool) (b : ℕ) → TellsClass is_identifier_part table → b < 128
    → MatchBool (not (matches_at table b)) ((b < 128) × (may_not_follow_number b ≡ false))
    ((128 ≤ b) ⊎ (may_not_follow_number b ≡ true))
follower_by_table table b tells small = by_test (matches_at table b) refl
  where
    told : may_not_follow_number b ≡ matches_at table b
    told = sym (part_may_not_follow table b tells small)

    by_test : (x : Bool) → matches_at table b ≡ x
        → MatchBool (not (matches_at table b)) ((b < 128) × (may_not_follow_number b ≡ false))
        ((128 ≤ b) ⊎ (may_not_follow_number b ≡ true))
    by_test true e = rw e (inr (told ∙ e))
    by_test false e = rw e (small, told ∙ e)

-- the byte that is next tells whether a number may end here
pub end_by_byte : (x : Bool) (b : ℕ) (cs : List ℕ) → HasFirstByte b cs
    → MatchBool x ((b < 128) × (may_not_follow_number b ≡ false)) ((128 ≤ b) ⊎ (may_not_follow_number b ≡ true))
    → MatchBool x (begins may_not_follow_number cs ≡ false) (MayGoOn cs)
end_by_byte x b [] first is = absurd first
end_by_byte true b (c ∷ cs) first (small, none) = first_there may_not_follow_number false b (c ∷ cs) small first none
end_by_byte false b (c ∷ cs) first is =
    elim (true_or_false (ltb b 128)) [
      | inl low ↦ elim is [
        | inl wide ↦ (let small = ltb-true b 128 low in absurd (omega (arith, wide, small)))
        | inr goes ↦ inl (first_there may_not_follow_number true b (c ∷ cs) (ltb-true b 128 low) first goes)
      ]
      | inr high ↦ inr (wide_next (ltb-false b 128 high))
    ]
  where
    wide_next : 128 ≤ b → nat_le 128 c ≡ true
    wide_next wide =
        elim (true_or_false (ltb c 128)) [
          | inl low ↦ (
              let small = ltb-true c 128 low in
              let is : c ≡ b = first.1 small in
              absurd (omega (arith, is, wide, small)))
          | inr high ↦ le-leb 128 c (ltb-false c 128 high)
        ]
