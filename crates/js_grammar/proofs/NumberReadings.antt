-- What is read where a number begins: it is the longest spelling, or nothing is spelled.
use Rattle.std.proofs.Common.{None, ◌≡◌, ◌≢◌, ℕ, ◌≤◌, Bool, true, false, List, [], ◌∷◌, ◌++◌, ◌==◌, length, refl, sym}
use Rattle.std.proofs.Common.{◌∙◌, ap, subst, inl, inr, arith, Some}
use Rattle.std.specs.Prelude.{codes}
use Rattle.std.proofs.lemmas.Bool.{eqb-true}
use Rattle.std.proofs.lemmas.Bool.Decides.{nat_tests}
use Rattle.js_text.specs.Ascii.{full_stop, number_sign}
use Rattle.js_text.specs.Characters.{begins}
use Rattle.js_text.specs.declared.diagnostic.Diagnostic.{Diagnostic}
use Rattle.js_text.specs.declared.source_type.SourceType.{SourceType}
use Rattle.js_text.specs.declared.value.RowValue.TheVariants.{Nothing}
use Rattle.js_kind.specs.Digits.{is_digit_of}
use Rattle.js_kind.specs.declared.kind.Kind.{Kind}
use Rattle.js_grammar.specs.Gap.{is_prefix}
use Rattle.js_grammar.specs.Goals.{ReadsHere}
use Rattle.js_grammar.specs.Goals.ReadsHere.{spelled, recovers}
use Rattle.js_grammar.specs.Number.{may_not_follow_number, begins_number}
use Rattle.js_grammar.specs.NumberReads.{number_items, number_reading}
use Rattle.js_grammar.specs.Recovery.{recovered}
use Rattle.js_grammar.specs.Spelling.{Spelling, LongestSpelling, NothingSpelled}
use Rattle.js_grammar.specs.Spelling.Spelling.{number}
use Rattle.js_grammar.proofs.NumberSteps.{read_badly, read_well}
use Rattle.js_grammar.proofs.NumberBegins.{number_begins}
use Rattle.js_grammar.proofs.NumberItems.{true_or_false}
use Rattle.js_grammar.proofs.NumberKinds.{number_kind, unmarked_parts}
use Rattle.js_grammar.proofs.NumberLaws.{BeginsWithNumber, good_number_reading, number_is_read, clean_is_number}
use Rattle.js_grammar.proofs.NumberLaws.{one_number}
use Rattle.js_grammar.proofs.SpellingClasses.{only_number}
use Rattle.js_grammar.proofs.Flags.{has_no_escape, none_of_them}
use Rattle.js_grammar.proofs.Starts.{number_begins_no_named, named_false}
use Rattle.js_grammar.specs.Name.{begins_name}

-- the number that a text begins with is its longest spelling
pub longest_of_number : (t : SourceType) (line_has_ended : Bool) (here xs ys : List ℕ) (kind : Kind)
    → BeginsWithNumber here xs ys kind → LongestSpelling t line_has_ended here xs ys kind
longest_of_number t line_has_ended here xs ys kind b = record {
  here = b.here;
  spelling = number b.number b.follows;
  longest = λ us vs j e s. others us vs j e s;
}
  where
    others : (us vs : List ℕ) (j : Kind) → here ≡ us ++ vs → Spelling t line_has_ended us vs j
        → length us ≤ length xs
    others us vs j e s =
        let begun : begins_number here ≡ true = ap begins_number b.here ∙ number_begins xs ys kind b.number in
        let other = only_number t line_has_ended here us vs j begun e s in
        let same =
        one_number here xs ys kind us vs j b (record { here = e; number = other.number; follows = other.follows }) in
        omega (arith, ap length same.characters)

-- a number without a fault
good_number : (t : SourceType) (line_has_ended : Bool) (here xs ys : List ℕ) (kind : Kind)
    → BeginsWithNumber here xs ys kind
    → ReadsHere t line_has_ended here (good_number_reading xs kind ys)
good_number t line_has_ended here xs ys kind b =
    let kinds = number_kind xs kind b.number in
    let none = none_of_them kind (unmarked_parts kind kinds.unmarked).0 in
    spelled xs (longest_of_number t line_has_ended here xs ys kind b)
    (rw (
      kinds.is_number,
      has_no_escape kind xs
          (unmarked_parts kind kinds.unmarked).0,
      none.no_name,
      none.no_private_name,
      none.no_quoted,
    )
    refl)

digit_is_no_slash : (c : ℕ) → is_digit_of 10 c ≡ true → (c == 47) ≡ false
unfolding is_digit_of
digit_is_no_slash c e = grind (arith, nat_tests)

begins_no_comment : (here : List ℕ) → begins_number here ≡ true → is_prefix (codes "/*") here ≡ false
begins_no_comment [] begun = absurd (cc)
begins_no_comment (c ∷ cs) begun =
    elim (true_or_false (c == full_stop)) [
      | inl is ↦ subst (λ d. is_prefix (codes "/*") (d ∷ cs) ≡ false) (sym (eqb-true c full_stop is)) refl
      | inr other ↦ rw (digit_is_no_slash c (rw other at begun)) refl
    ]

-- where a number begins, no name and no private name does
no_named : (here : List ℕ) → begins_number here ≡ true
    → (begins_name here ≡ false) × (begins (λ c. c == number_sign) here ≡ false)
no_named here begun =
    let none = number_begins_no_named here begun in
    named_false here none

-- a number at fault
pub number_is_recovered : (here : List ℕ) → begins_number here ≡ true
    → recovered here ≡ Some (number_reading here)
number_is_recovered here begun =
    let none = no_named here begun in
    rw (begins_no_comment here begun, none.0, none.1, begun) refl

-- where a number has a fault, nothing is spelled
faulty_spells_nothing : (t : SourceType) (line_has_ended : Bool) (here : List ℕ)
    → begins_number here ≡ true → (number_reading here).diagnostics ≢ []
    → NothingSpelled t line_has_ended here
faulty_spells_nothing t line_has_ended here begun faults us vs kind e s =
    let is = only_number t line_has_ended here us vs kind begun e s in
    faults (ap (λ xs. (number_reading xs).diagnostics) e
    ∙ ap (λ r. r.diagnostics) (number_is_read us vs kind is.number is.follows))

-- What is read of a number is what is read where it begins.
pub number_reads_here : (t : SourceType) (line_has_ended : Bool) (here : List ℕ)
    → begins_number here ≡ true → ReadsHere t line_has_ended here (number_reading here)
number_reads_here t line_has_ended here begun = by_faults (number_reading here).diagnostics refl
  where
    by_faults : (faults : List Diagnostic) → (number_reading here).diagnostics ≡ faults
        → ReadsHere t line_has_ended here (number_reading here)
    by_faults [] e =
        let found = clean_is_number here begun e in
        let b = found.1 in
        let read = number_reading here in
        let same : read ≡ good_number_reading found.0 read.kind read.rest =
        ap number_reading b.here ∙ number_is_read found.0 read.rest read.kind b.number b.follows in
        subst (ReadsHere t line_has_ended here) (sym same)
        (good_number t line_has_ended here found.0 read.rest read.kind b)
    by_faults (d ∷ ds) e =
        recovers
        (faulty_spells_nothing t line_has_ended here begun (λ none. let no : d ∷ ds ≡ [] = sym e ∙ none in cc))
        (number_is_recovered here begun)

-- and so where nothing is spelled, it reports something
pub faulty_number_reports : (t : SourceType) (line_has_ended : Bool) (here : List ℕ)
    → begins_number here ≡ true → NothingSpelled t line_has_ended here → (number_reading here).diagnostics ≢ []
faulty_number_reports t line_has_ended here begun nothing e =
    let found = clean_is_number here begun e in
    let read = number_reading here in
    nothing found.0 read.rest read.kind found.1.here (number found.1.number found.1.follows)

-- No line ends in a number; it has no escape and no value, and is no regular expression.
pub number_flags : (here : List ℕ) → ((number_reading here).line_ended ≡ false)
    × ((number_reading here).escaped ≡ false) × ((number_reading here).value ≡ Nothing)
    × ((number_reading here).regex ≡ None)
number_flags here =
    let number = number_items here in
    elim (true_or_false (begins may_not_follow_number number.rest)) [
      | inl bad ↦ rw (read_badly here number bad) (refl, refl, refl, refl)
      | inr well ↦ rw (read_well here number well) (refl, refl, refl, refl)
    ]
