-- Where a gap has ended, the function that tells what is read there gives what is read there.
use Rattle.std.proofs.Common.{◌≡◌, ℕ, ◌<◌, ◌≤◌, Bool, true, false, ◌&&◌, ◌||◌, ◌==◌, nat_lt, nat_le}
use Rattle.std.proofs.Common.{List, [], ◌∷◌, refl, sym, ◌∙◌, subst, inl}
use Rattle.std.proofs.Common.{inr, Option, Some, None}
use Rattle.std.specs.Prelude.{codes, drop, if◌then◌else◌}
use Rattle.std.specs.Char.{is_ascii_digit}
use Rattle.std.specs.List.{list_any}
use Rattle.std.proofs.lemmas.Bool.{eqb-true, leb-false, ltb-false, or_cases}
use Rattle.js_text.specs.Ascii.{number_sign}
use Rattle.js_text.specs.Characters.{begins, is_white_space}
use Rattle.js_text.specs.declared.source_type.SourceType.{SourceType}
use Rattle.js_kind.specs.Digits.{is_digit_of}
use Rattle.js_kind.specs.declared.kind.Kind.TheVariants.{Dot}
use Rattle.js_kind.proofs.Digits.{digits_of_ten}
use Rattle.js_grammar.specs.Gap.{is_prefix, is_reported, whole_gap_piece}
use Rattle.js_grammar.specs.Goals.{ReadsHere}
use Rattle.js_grammar.specs.Goals.ReadsHere.{recovers}
use Rattle.js_grammar.specs.Name.{begins_name, private_reading}
use Rattle.js_grammar.specs.Number.{begins_number}
use Rattle.js_grammar.specs.Punctuators.{NoPunctuator, Punctuator, punctuators, before_no_digit, slash as slash_alone}
use Rattle.js_grammar.specs.Punctuators.{left_angle}
use Rattle.js_grammar.specs.Quoted.{begins_quoted}
use Rattle.js_grammar.specs.Reading.{Reading}
use Rattle.js_grammar.specs.Readings.{longest_of, punctuator_or_nothing, reading}
use Rattle.js_grammar.specs.Recovery.{binary_file, invalid_character, is_control_or_wide}
use Rattle.js_grammar.specs.Spelling.{begins_named}
use Rattle.js_grammar.proofs.GapLemmas.{none_behind}
use Rattle.js_grammar.proofs.HereReadings.{IsLongest, comment_spells_nothing, end_reads_here, longest_is}
use Rattle.js_grammar.proofs.HereReadings.{punctuator_reads_here}
use Rattle.js_grammar.proofs.NameReadings.{name_reads_here, private_reads_here}
use Rattle.js_grammar.proofs.NumberBegins.{digit_begins_number}
use Rattle.js_grammar.proofs.NumberItems.{true_or_false}
use Rattle.js_grammar.proofs.NumberReadings.{number_reads_here}
use Rattle.js_grammar.proofs.NumberSound.{first_is}
use Rattle.js_grammar.proofs.PieceLemmas.{piece-white}
use Rattle.js_grammar.proofs.Printable.{lone_characters, lone_begin, none_of, is_known, printable_known, known_at}
use Rattle.js_grammar.proofs.Printable.{spelled_there}
use Rattle.js_grammar.proofs.LongestPunctuators.{listed}
use Rattle.js_grammar.proofs.QuotedReadings.{quoted_reads_here}
use Rattle.js_grammar.proofs.ReadingLemmas.{by_choice}
use Rattle.js_grammar.proofs.SpellingClasses.{nothing_spelled}
use Rattle.js_grammar.proofs.Starts.{none_named}

digit_of_ten : (cs : List ℕ) → begins is_ascii_digit cs ≡ begins (is_digit_of 10) cs
digit_of_ten [] = refl
digit_of_ten (d ∷ ds) = digits_of_ten d

no_star : (cs : List ℕ) → is_prefix (codes "/*") (47 ∷ cs) ≡ false → begins (λ c. c == 42) cs ≡ false
no_star [] e = refl
no_star (c ∷ cs) e = by_test (c == 42) e
  where
    by_test : (b : Bool) → (b && true) ≡ false → b ≡ false
    by_test true h = absurd (cc)
    by_test false h = refl

either_false : (a b : Bool) → (a || b) ≡ false → (a ≡ false) × (b ≡ false)
either_false true b e = absurd (cc)
either_false false b e = (refl, e)

-- No printable character of ASCII stands where nothing is spelled.
no_printable : (t : SourceType) (line_has_ended : Bool) (c : ℕ) (cs : List ℕ)
    → whole_gap_piece t line_has_ended (c ∷ cs) ≡ None
    → begins_named c ≡ false → begins_number (c ∷ cs) ≡ false → begins_quoted c ≡ false
    → NoPunctuator t line_has_ended (c ∷ cs)
    → is_prefix (codes "/*") (c ∷ cs) ≡ false → is_control_or_wide c ≡ false → ⊥
no_printable t line_has_ended c cs gap no_name no_number no_quoted none no_comment printable =
    let ends = either_false (nat_lt c 32) (nat_le 127 c) printable in
    let low : 32 ≤ c = ltb-false c 32 ends.0 in
    let high : c < 127 = leb-false 127 c ends.1 in
    let behind = none_behind t line_has_ended (c ∷ cs) gap in
    let known = known_at is_known 32 95 c printable_known low high in
    elim (or_cases (begins_named c) _ known) [
      | inl start ↦ let no : true ≡ false = sym start ∙ no_name in cc
      | inr k1 ↦ elim (or_cases (is_white_space c) _ k1) [
        | inl white ↦ let no = sym behind.1 ∙ piece-white t line_has_ended c cs white in cc
        | inr k0 ↦ elim (or_cases (is_digit_of 10 c) _ k0) [
          | inl digit ↦ let begun = digit_begins_number (c ∷ cs) digit in cc
          | inr k2 ↦ elim (or_cases (begins_quoted c) _ k2) [
            | inl quoted ↦ let no : true ≡ false = sym quoted ∙ no_quoted in cc
            | inr k3 ↦ elim (or_cases (list_any (λ x. x == c) lone_characters) _ k3) [
              | inl lone ↦ none_of (λ x. NoPunctuator t line_has_ended (x ∷ cs) → ⊥) c lone_characters
                  (lone_begin t line_has_ended cs) lone none
              | inr k4 ↦ elim (or_cases (c == 46) _ k4) [
                | inl dotted ↦ let is : c ≡ 46 = eqb-true c 46 dotted in
                    spelled_there t line_has_ended (before_no_digit Dot) cs (listed refl)
                    (digit_of_ten cs ∙ subst (λ x. begins_number (x ∷ cs) ≡ false) is no_number)
                    (subst (λ x. NoPunctuator t line_has_ended (x ∷ cs)) is none)
                | inr k5 ↦ elim (or_cases (c == 47) _ k5) [
                  | inl slashed ↦ let is : c ≡ 47 = eqb-true c 47 slashed in
                      spelled_there t line_has_ended slash_alone cs (listed refl)
                      (no_star cs (subst (λ x. is_prefix (codes "/*") (x ∷ cs) ≡ false) is no_comment))
                      (subst (λ x. NoPunctuator t line_has_ended (x ∷ cs)) is none)
                  | inr angle ↦ let is : c ≡ 60 = eqb-true c 60 angle in
                      spelled_there t line_has_ended left_angle cs (listed refl)
                      (subst (λ x. is_reported t line_has_ended (x ∷ cs) ≡ false) is behind.0)
                      (subst (λ x. NoPunctuator t line_has_ended (x ∷ cs)) is none)
                ]
              ]
            ]
          ]
        ]
      ]
    ]

-- What the function gives is read there.
pub reading_is_here : (t : SourceType) (line_has_ended : Bool) (here : List ℕ)
    → whole_gap_piece t line_has_ended here ≡ None → ReadsHere t line_has_ended here (reading t line_has_ended here)
reading_is_here t line_has_ended here gap =
    by_choice Is (is_prefix (codes "/*") here) _ _
    (λ e. recovers (comment_spells_nothing t line_has_ended here e) (rw e refl))
    (λ no_comment. by_choice Is (begins_name here) _ _ (λ e. name_reads_here t line_has_ended here e)
    (λ no_name. by_choice Is (begins (λ c. c == number_sign) here) _ _
    (λ e. subst (λ h. ReadsHere t line_has_ended h (private_reading h)) (sym (first_is number_sign here e))
    (private_reads_here t line_has_ended (drop 1 here)))
    (λ no_private. by_choice Is (begins_number here) _ _ (λ e. number_reads_here t line_has_ended here e)
    (λ no_number. by_choice Is (begins begins_quoted here) _ _ (λ e. quoted_reads_here t line_has_ended here e)
    (λ no_quoted. other here gap no_comment (none_named here no_name no_private) no_name no_private no_number no_quoted
    (longest_of t line_has_ended here punctuators) (longest_is t line_has_ended here punctuators))))))
  where
    Is : Reading → Type 0
    Is r = ReadsHere t line_has_ended here r

    other : (here : List ℕ) → whole_gap_piece t line_has_ended here ≡ None → is_prefix (codes "/*") here ≡ false
        → begins begins_named here ≡ false → begins_name here ≡ false
        → begins (λ c. c == number_sign) here ≡ false → begins_number here ≡ false → begins begins_quoted here ≡ false
        → (found : Option Punctuator) → IsLongest t line_has_ended here punctuators found
        → ReadsHere t line_has_ended here (punctuator_or_nothing found here)
    other here gap no_comment no_named no_name no_private no_number no_quoted (Some p) is =
        punctuator_reads_here t line_has_ended here p is
    other [] gap no_comment no_named no_name no_private no_number no_quoted None is = end_reads_here t line_has_ended
    other (c ∷ cs) gap no_comment no_named no_name no_private no_number no_quoted None is =
        recovers
        (nothing_spelled t line_has_ended (c ∷ cs) (λ empty. cc) no_named no_number no_quoted is)
        (rw (no_comment, no_name, no_private, no_number, no_quoted) (character (c == 0xFFFD) (is_control_or_wide c) wide))
      where
        wide : is_control_or_wide c ≡ true
        wide =
            elim (true_or_false (is_control_or_wide c)) [
              | inl is_wide ↦ is_wide
              | inr printable ↦ absurd
                  (no_printable t line_has_ended c cs gap no_named no_number no_quoted is no_comment printable)
            ]

        character : (binary control : Bool) → control ≡ true
            → (if binary then Some (binary_file (c ∷ cs)) else
            (if control then Some (invalid_character c cs) else None))
            ≡ Some (if binary then binary_file (c ∷ cs) else invalid_character c cs)
        character true control e = refl
        character false true e = refl
        character false false e = absurd (cc)
