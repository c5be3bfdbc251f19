-- What is read where a gap has ended is what the function gives.
use Rattle.std.proofs.Common.{length-append}
use Rattle.std.specs.Str.{encode_utf8_all}
use Rattle.unicode_ident.proofs.Computing.{unicode_ident}
use Rattle.js_kind.specs.Digits.{is_digit_of}
use Rattle.js_kind.specs.Kinds.{is_number_kind}
use Rattle.js_grammar.specs.Spelling.Spelling.{end_of_source}
use Rattle.js_grammar.specs.TokenText.{is_valued}
use Rattle.std.proofs.Common.{◌≡◌, ℕ, ◌≤◌, Bool, true, false, not, ◌||◌, ◌==◌, List, [], ◌∷◌, ◌++◌, length}
use Rattle.std.proofs.Common.{drop, refl, sym, ◌∙◌, ap, subst, arith, inl, inr, Option, Some, None}
use Rattle.std.specs.Prelude.{codes, if◌then◌else◌, nat_lt, nat_le, IfSome}
use Rattle.std.specs.List.{list_all}
use Rattle.std.proofs.lemmas.Bool.Decides.{nat_tests}
use Rattle.js_text.specs.Ascii.{number_sign}
use Rattle.js_text.specs.Characters.{begins, is_identifier_start}
use Rattle.js_text.specs.declared.source_type.SourceType.{SourceType}
use Rattle.js_kind.specs.declared.kind.Kind.{Kind}
use Rattle.js_kind.specs.declared.kind.Kind.TheVariants.{Eof}
use Rattle.js_grammar.specs.Gap.{is_prefix}
use Rattle.js_grammar.specs.Goals.{ReadsHere, spelled_reading}
use Rattle.js_grammar.specs.Goals.ReadsHere.{spelled, recovers}
use Rattle.js_grammar.specs.Name.{begins_name, name_reading, private_reading}
use Rattle.js_grammar.specs.Number.{begins_number}
use Rattle.js_grammar.specs.NumberReads.{number_reading}
use Rattle.js_grammar.specs.Punctuators.{Punctuator, punctuators, IsIn, is_spelled, LongestPunctuator, NoPunctuator}
use Rattle.js_grammar.specs.Punctuators.{is_excluded}
use Rattle.js_grammar.specs.Quoted.{begins_quoted, quoted_reading}
use Rattle.js_grammar.specs.Reading.{Reading, read_up_to}
use Rattle.js_grammar.specs.Readings.{longer, longest_of, read_punctuator, nothing_reading, punctuator_or_nothing}
use Rattle.js_grammar.specs.Readings.{reading}
use Rattle.js_grammar.specs.Recovery.{recovered, is_control_or_wide, binary_file}
use Rattle.js_grammar.specs.Recovery.{invalid_character, unterminated_comment}
use Rattle.js_grammar.specs.Spelling.{NothingSpelled, begins_named}
use Rattle.js_grammar.proofs.Flags.{punctuator_unflagged, end_unflagged, has_no_escape, has_no_value}
use Rattle.js_grammar.proofs.NameReadings.{name_reads_here, private_reads_here}
use Rattle.js_grammar.proofs.NumberReadings.{number_reads_here}
use Rattle.js_grammar.proofs.NumberSound.{first_is}
use Rattle.js_grammar.proofs.QuotedReadings.{quoted_reads_here}
use Rattle.js_grammar.proofs.ReadingLemmas.{by_choice, taken_is}
use Rattle.js_grammar.proofs.SpellingClasses.{longest_of_punctuator, nothing_spelled}
use Rattle.js_grammar.proofs.Starts.{none_named}
use Rattle.js_grammar.proofs.Tests.{and_true, prefix_is}
use Rattle.js_grammar.proofs.Unique.{reading_unique}

-- What the longest of some punctuators is: it stands in the list and is spelled, and none that is spelled is longer; or
-- none is spelled.
abbrev pub IsLongest : SourceType → Bool → List ℕ → List Punctuator → Option Punctuator → Type 0
IsLongest t line_has_ended text ps None = list_all (λ q. not (is_spelled t line_has_ended text q)) ps ≡ true
IsLongest t line_has_ended text ps (Some p) =
    IsIn p ps × (is_spelled t line_has_ended text p ≡ true)
    × (list_all (λ q. not (is_spelled t line_has_ended text q) || nat_le (length q.text) (length p.text)) ps ≡ true)

at_most : (n m : ℕ) → n ≤ m → nat_le n m ≡ true
at_most n m e = grind (arith, nat_tests)

or_right : (a : Bool) → (a || true) ≡ true
or_right true = refl
or_right false = refl

-- a test that passes of all where it passes of less
weaker : (t : SourceType) (line_has_ended : Bool) (text : List ℕ) (ps : List Punctuator) (n m : ℕ) → n ≤ m
    → list_all (λ q. not (is_spelled t line_has_ended text q) || nat_le (length q.text) n) ps ≡ true
    → list_all (λ q. not (is_spelled t line_has_ended text q) || nat_le (length q.text) m) ps ≡ true
weaker t line_has_ended text [] n m h e = refl
weaker t line_has_ended text (q ∷ ps) n m h e =
    let both = and_true (not (is_spelled t line_has_ended text q) || nat_le (length q.text) n) _ e in
    rw (one (not (is_spelled t line_has_ended text q)) both.0) (weaker t line_has_ended text ps n m h both.1)
  where
    one : (b : Bool) → (b || nat_le (length q.text) n) ≡ true → (b || nat_le (length q.text) m) ≡ true
    one true e = refl
    one false e = grind (arith, nat_tests)

none_is_longer : (t : SourceType) (line_has_ended : Bool) (text : List ℕ) (ps : List Punctuator) (n : ℕ)
    → list_all (λ q. not (is_spelled t line_has_ended text q)) ps ≡ true
    → list_all (λ q. not (is_spelled t line_has_ended text q) || nat_le (length q.text) n) ps ≡ true
none_is_longer t line_has_ended text [] n e = refl
none_is_longer t line_has_ended text (q ∷ ps) n e =
    let both = and_true (not (is_spelled t line_has_ended text q)) _ e in
    rw both.0 (none_is_longer t line_has_ended text ps n both.1)

pub longest_is : (t : SourceType) (line_has_ended : Bool) (text : List ℕ) (ps : List Punctuator)
    → IsLongest t line_has_ended text ps (longest_of t line_has_ended text ps)
longest_is t line_has_ended text [] = refl
longest_is t line_has_ended text (p ∷ ps) =
    by_spelled (is_spelled t line_has_ended text p) refl (longest_of t line_has_ended text ps)
    (longest_is t line_has_ended text ps)
  where
    by_length : (q : Punctuator) → is_spelled t line_has_ended text p ≡ true
        → IsLongest t line_has_ended text ps (Some q) → (b : Bool) → nat_lt (length p.text) (length q.text) ≡ b
        → IsLongest t line_has_ended text (p ∷ ps) (if b then Some q else Some p)
    by_length q e is true less = (
      inr is.0,
      is.1,
      rw (at_most (length p.text) (length q.text) (grind (arith, nat_tests)), or_right) is.2,
    )
    by_length q e is false more = (
      inl refl,
      e,
      rw (at_most (length p.text) (length p.text) (omega arith), or_right)
          (weaker t line_has_ended text ps (length q.text) (length p.text) (grind (arith, nat_tests)) is.2),
    )

    by_spelled : (b : Bool) → is_spelled t line_has_ended text p ≡ b → (found : Option Punctuator)
        → IsLongest t line_has_ended text ps found
        → IsLongest t line_has_ended text (p ∷ ps) (longer (if b then Some p else None) found)
    by_spelled false e None is = rw e is
    by_spelled false e (Some q) is = (inr is.0, is.1, rw e is.2)
    by_spelled true e None is = (
      inl refl,
      e,
      rw (at_most (length p.text) (length p.text) (omega arith), or_right)
          (none_is_longer t line_has_ended text ps (length p.text) is),
    )
    by_spelled true e (Some q) is = by_length q e is (nat_lt (length p.text) (length q.text)) refl

not_true : (b : Bool) → not b ≡ true → b ≡ false
not_true true e = absurd (cc)
not_true false e = refl

-- the longest punctuator of the table that is spelled at the beginning of the text
abbrev longest_punctuator : (t : SourceType) (line_has_ended : Bool) (text : List ℕ) (p : Punctuator)
    → IsLongest t line_has_ended text punctuators (Some p)
    → LongestPunctuator t line_has_ended text (drop (length p.text) text) p.kind
longest_punctuator t line_has_ended text p is =
    let both =
    and_true (is_prefix p.text text) (not (is_excluded p t line_has_ended (drop (length p.text) text))) is.1 in
    record {
      it = p;
      in_table = is.0;
      here = prefix_is p.text text both.0;
      allowed = not_true _ both.1;
      kind = refl;
      longest = is.2;
    }

-- a spelling of a kind without a value and without flags
bare_spelling : (xs rest : List ℕ) (text : List ℕ) (kind : Kind) → text ≡ xs ++ rest → is_valued kind ≡ false
    → is_number_kind kind ≡ false → read_up_to kind text rest ≡ spelled_reading xs rest kind
bare_spelling xs rest text kind e none no_number =
    rw (
      taken_is text xs rest e,
      has_no_value kind xs rest (length (encode_utf8_all xs)) none,
      has_no_escape kind xs none,
      no_number,
    ) refl

-- and it begins the text
pub longest_stands : (t : SourceType) (line_has_ended : Bool) (text : List ℕ) (p : Punctuator)
    → IsLongest t line_has_ended text punctuators (Some p) → text ≡ p.text ++ drop (length p.text) text
longest_stands t line_has_ended text p is = (longest_punctuator t line_has_ended text p is).here

pub punctuator_reads_here : (t : SourceType) (line_has_ended : Bool) (text : List ℕ) (p : Punctuator)
    → IsLongest t line_has_ended text punctuators (Some p) → ReadsHere t line_has_ended text (read_punctuator text p)
punctuator_reads_here t line_has_ended text p is =
    let longest = longest_punctuator t line_has_ended text p is in
    let unflagged = punctuator_unflagged p p.kind is.0 refl in
    spelled p.text (longest_of_punctuator t line_has_ended text (drop (length p.text) text) p.kind longest)
    (bare_spelling p.text (drop (length p.text) text) text p.kind longest.here unflagged.no_value unflagged.no_number)

pub end_reads_here : (t : SourceType) (line_has_ended : Bool) → ReadsHere t line_has_ended [] (read_up_to Eof [] [])
end_reads_here t line_has_ended =
    spelled [] (record {
      here = refl;
      spelling = end_of_source refl refl refl;
      longest = λ us vs j e s. (let none : length us ≤ 0 = omega (arith, ap length e, length-append us vs) in none);
    })
    (bare_spelling [] [] [] Eof refl end_unflagged.no_value end_unflagged.no_number)

comment_has_no_punctuator : (t : SourceType) (line_has_ended : Bool) (cs : List ℕ)
    → NoPunctuator t line_has_ended (codes "/*" ++ cs)
comment_has_no_punctuator t line_has_ended cs = refl

comment_begins_none : (begins_named 47 ≡ false) × (is_digit_of 10 47 ≡ false)
unfolding is_identifier_start is_digit_of unicode_ident
comment_begins_none = (refl, refl)

-- where a comment begins, nothing is spelled
pub comment_spells_nothing : (t : SourceType) (line_has_ended : Bool) (here : List ℕ)
    → is_prefix (codes "/*") here ≡ true → NothingSpelled t line_has_ended here
comment_spells_nothing t line_has_ended here e =
    subst (NothingSpelled t line_has_ended) (sym (prefix_is (codes "/*") here e))
    (nothing_spelled t line_has_ended (codes "/*" ++ drop 2 here) (λ none. cc) comment_begins_none.0
    comment_begins_none.1 refl (comment_has_no_punctuator t line_has_ended (drop 2 here)))

-- a reading that recovers is what is read of the text, where this is so
by_recovery : (t : SourceType) (line_has_ended : Bool) (here : List ℕ) (r s : Reading)
    → ReadsHere t line_has_ended here r → NothingSpelled t line_has_ended here
    → IfSome (recovered here) (λ found. found ≡ s) → r ≡ s
by_recovery t line_has_ended here r s (spelled xs spelling is) nothing e =
    absurd (nothing xs r.rest r.kind spelling.here spelling.spelling)
by_recovery t line_has_ended here r s (recovers none found) nothing e =
    subst (λ some. IfSome some (λ found. found ≡ s)) found e

-- What is read where a gap has ended is what the function gives.
pub here_is_reading : (t : SourceType) (line_has_ended : Bool) (here : List ℕ) (r : Reading)
    → ReadsHere t line_has_ended here r → r ≡ reading t line_has_ended here
here_is_reading t line_has_ended here r reads =
    by_choice Is (is_prefix (codes "/*") here) _ _
    (λ e. by_recovery t line_has_ended here r (unterminated_comment here) reads
    (comment_spells_nothing t line_has_ended here e) (rw e refl))
    (λ no_comment. by_choice Is (begins_name here) _ _ (λ e. one (name_reads_here t line_has_ended here e))
    (λ no_name. by_choice Is (begins (λ c. c == number_sign) here) _ _
    (λ e. one (subst (λ h. ReadsHere t line_has_ended h (private_reading h)) (sym (first_is number_sign here e))
    (private_reads_here t line_has_ended (drop 1 here))))
    (λ no_private. by_choice Is (begins_number here) _ _ (λ e. one (number_reads_here t line_has_ended here e))
    (λ no_number. by_choice Is (begins begins_quoted here) _ _ (λ e. one (quoted_reads_here t line_has_ended here e))
    (λ no_quoted. other no_comment no_name no_private no_number no_quoted (longest_of t line_has_ended here punctuators)
    (longest_is t line_has_ended here punctuators))))))
  where
    Is : Reading → Type 0
    Is s = r ≡ s

    one : {s : Reading} → ReadsHere t line_has_ended here s → r ≡ s
    one reads' = reading_unique t line_has_ended here r _ reads reads'

    nothing : (c : ℕ) (cs : List ℕ) → here ≡ c ∷ cs → is_prefix (codes "/*") here ≡ false → begins_name here ≡ false
        → begins (λ c. c == number_sign) here ≡ false → begins_number here ≡ false → begins begins_quoted here ≡ false
        → NoPunctuator t line_has_ended here → r ≡ nothing_reading (c ∷ cs)
    nothing c cs e no_comment no_name no_private no_number no_quoted none =
        by_recovery t line_has_ended here r (nothing_reading (c ∷ cs)) reads
        (nothing_spelled t line_has_ended here (λ empty. let no : c ∷ cs ≡ [] = sym e ∙ empty in cc)
        (none_named here no_name no_private) no_number no_quoted none)
        (rw (no_comment, no_name, no_private, no_number, no_quoted, e) (character (c == 0xFFFD) (is_control_or_wide c)))
      where
        character : (binary wide : Bool)
            → IfSome (if binary then Some (binary_file (c ∷ cs))
            else if wide then Some (invalid_character c cs) else None)
            (λ found. found ≡ (if binary then binary_file (c ∷ cs) else invalid_character c cs))
        character true wide = refl
        character false true = refl
        character false false = tt

    at_end : (xs : List ℕ) → here ≡ xs → is_prefix (codes "/*") here ≡ false → begins_name here ≡ false
        → begins (λ c. c == number_sign) here ≡ false → begins_number here ≡ false → begins begins_quoted here ≡ false
        → NoPunctuator t line_has_ended here → r ≡ nothing_reading xs
    at_end [] e no_comment no_name no_private no_number no_quoted none =
        one (subst (λ h. ReadsHere t line_has_ended h (read_up_to Eof [] [])) (sym e) (end_reads_here t line_has_ended))
    at_end (c ∷ cs) e no_comment no_name no_private no_number no_quoted none =
        nothing c cs e no_comment no_name no_private no_number no_quoted none

    other : is_prefix (codes "/*") here ≡ false → begins_name here ≡ false
        → begins (λ c. c == number_sign) here ≡ false → begins_number here ≡ false → begins begins_quoted here ≡ false
        → (found : Option Punctuator) → IsLongest t line_has_ended here punctuators found
        → r ≡ punctuator_or_nothing found here
    other no_comment no_name no_private no_number no_quoted (Some p) is =
        one (punctuator_reads_here t line_has_ended here p is)
    other no_comment no_name no_private no_number no_quoted None is =
        at_end here refl no_comment no_name no_private no_number no_quoted is

-- What holds of each reading of the text.
pub record HoldsOfAll (P : Reading → Type 0) (here : List ℕ) : Type 0 where
  pub comment : P (unterminated_comment here)
  pub name : begins_name here ≡ true → P (name_reading here)
  pub private : begins (λ c. c == number_sign) here ≡ true → P (private_reading here)
  pub number : begins_number here ≡ true → P (number_reading here)
  pub quoted : begins begins_quoted here ≡ true → P (quoted_reading here)
  pub punctuator : (p : Punctuator) → IsIn p punctuators → here ≡ p.text ++ drop (length p.text) here
      → P (read_punctuator here p)
  pub end : here ≡ [] → P (read_up_to Eof [] [])
  pub binary : (c : ℕ) (cs : List ℕ) → here ≡ c ∷ cs → P (binary_file (c ∷ cs))
  pub character : (c : ℕ) (cs : List ℕ) → here ≡ c ∷ cs → P (invalid_character c cs)

pub of_function : (P : Reading → Type 0) (t : SourceType) (line_has_ended : Bool) (here : List ℕ) → HoldsOfAll P here
    → P (reading t line_has_ended here)
of_function P t line_has_ended here all =
    by_choice P (is_prefix (codes "/*") here) _ _ (λ _. all.comment)
    (λ _. by_choice P (begins_name here) _ _ all.name
    (λ _. by_choice P (begins (λ c. c == number_sign) here) _ _ all.private
    (λ _. by_choice P (begins_number here) _ _ all.number
    (λ _. by_choice P (begins begins_quoted here) _ _ all.quoted
    (λ _. other (longest_of t line_has_ended here punctuators) (longest_is t line_has_ended here punctuators))))))
  where
    nothing : (xs : List ℕ) → here ≡ xs → P (nothing_reading xs)
    nothing [] e = all.end e
    nothing (c ∷ cs) e = by_choice P (c == 0xFFFD) _ _ (λ _. all.binary c cs e) (λ _. all.character c cs e)

    other : (found : Option Punctuator) → IsLongest t line_has_ended here punctuators found
        → P (punctuator_or_nothing found here)
    other None is = nothing here refl
    other (Some p) is = all.punctuator p is.0 (longest_punctuator t line_has_ended here p is).here

-- So it holds of what is read where a gap has ended.
pub of_each_reading : (P : Reading → Type 0) (t : SourceType) (line_has_ended : Bool) (here : List ℕ) (r : Reading)
    → HoldsOfAll P here → ReadsHere t line_has_ended here r → P r
of_each_reading P t line_has_ended here r all reads =
    subst P (sym (here_is_reading t line_has_ended here r reads)) (of_function P t line_has_ended here all)
