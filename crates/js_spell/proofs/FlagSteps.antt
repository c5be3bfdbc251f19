-- The flags of regular expressions, as they are read.
use Rattle.std.proofs.Common.{◌≡◌, ℕ, ◌+◌, ◌<◌, ◌≤◌, Bool, true, false, not, ◌||◌, ◌==◌, List, [], ◌∷◌, ◌++◌, drop}
use Rattle.std.proofs.Common.{refl, sym, ◌∙◌, ap, arith, Some, inl, inr, ltb, append_assoc, append-nil}
use Rattle.std.specs.Prelude.{◌^◌}
use Rattle.std.proofs.lemmas.Bool.{lt-ltb, ltb-true, ltb-false}
use Rattle.js_text.specs.Ascii.{slash}
use Rattle.js_text.specs.Characters.{before_first, begins, from_first, is_identifier_part, is_line_terminator}
use Rattle.js_text.specs.declared.diagnostic.Diagnostic.{Diagnostic}
use Rattle.js_text.specs.declared.diagnostic.Diagnostic.TheVariants.{UnterminatedRegExp}
use Rattle.js_text.specs.declared.reg_exp_flags.RegExpFlags.{RegExpFlags}
use Rattle.js_text.specs.declared.reg_exp_flags.RegexInfo.{RegexInfo}
use Rattle.js_grammar.specs.RegularExpression.{behind_body, ends_flags, flag_reports, is_any, is_flag_character}
use Rattle.js_grammar.specs.RegularExpression.{letter_reports, no_flags, regular_expression, unterminated_expression}
use Rattle.js_grammar.specs.RegularExpression.{with_flags_behind, with_letters}
use Rattle.js_grammar.proofs.GoalReadings.{expression_terminated, expression_unterminated}
use Rattle.js_grammar.proofs.NumberSound.{first_is}
use Rattle.js_grammar.specs.Reading.{moved_regex, place_behind, read_up_to, reported_at, size_of}
use Rattle.js_grammar.specs.StringItems.{stretch}
use Rattle.js_grammar.proofs.Marks.{one_byte}
use Rattle.js_grammar.proofs.Moved.{any_moved, flag_reports_moved}
use Rattle.js_grammar.proofs.GoalReadings.{Leaves, body_leaves, leaves_dropped, leaves_from_first, leaves_then}
use Rattle.js_kind.specs.declared.kind.Kind.TheVariants.{RegExp}
use Rattle.std.specs.Option.{option_map}
use Rattle.std.specs.Char.{encode_utf8}
use Rattle.std.specs.Str.{encode_utf8_all}
use Rattle.std.proofs.Common.{add-zero, length-append, subst}
use Rattle.js_source.specs.Runs.{TellsClass}
use Rattle.js_source.specs.Source.{At, rest, HasFirstByte, StepsPast}
use Rattle.js_source.proofs.Places.{ascii_next, begins_with}
use Rattle.js_grammar.proofs.NumberItems.{true_or_false}
use Rattle.js_source.specs.Search.{matches_at}
use Rattle.js_text.specs.RegExpFlags.{flag_bits, flags_of_bits}
use Rattle.js_spell.specs.Breaks.{BreaksOff}
use Rattle.js_spell.specs.RegularExpression.{AddsLetter, BreaksLine, PassesBody, SpellsExpression, SpellsFlags}
use Rattle.js_spell.specs.RegularExpression.{TakesLetter}
use Rattle.js_spell.specs.RegularExpression.{flags_told}
use Rattle.js_spell.proofs.BreakSteps.{broken_first, broken_later}
use Rattle.js_spell.proofs.ExpressionSteps.{size_from_mark}
use Rattle.js_spell.proofs.NumericSteps.{leads_to}

-- the letters that are left
abbrev pub letters_left : At → List ℕ
letters_left s = before_first ends_flags (rest s)

-- Letters were read from a place to another: with those that are left, they come to what all of them come to.
pub record ReadsLetters (old now : At) (before after : List Diagnostic) (flags : RegExpFlags) (flags_error : Bool)
    : Type 0 where
  pub text : now.text ≡ old.text
  pub left : from_first ends_flags (rest old) ≡ from_first ends_flags (rest now)
  pub flags_are : with_letters no_flags (letters_left old) ≡ with_letters flags (letters_left now)
  pub more : List Diagnostic
  pub reported : after ≡ before ++ more
  pub reports : flag_reports no_flags old.place (letters_left old)
      ≡ more ++ flag_reports flags now.place (letters_left now)
  pub faulty : is_any (flag_reports no_flags old.place (letters_left old))
      ≡ (flags_error || is_any (flag_reports flags now.place (letters_left now)))
  pub onward : old.place ≤ now.place

pub no_letters : (s : At) (before : List Diagnostic) (flags : RegExpFlags) → flags ≡ no_flags
    → ReadsLetters s s before before flags false
no_letters s before flags none = record {
  text = refl;
  left = refl;
  flags_are = ap (λ f. with_letters f (letters_left s)) (sym none);
  more = [];
  reported = sym (append-nil before);
  reports = ap (λ f. flag_reports f s.place (letters_left s)) (sym none);
  faulty = ap (λ f. is_any (flag_reports f s.place (letters_left s))) (sym none);
  onward = omega arith;
}

any_of_two : (ds es : List Diagnostic) → is_any (ds ++ es) ≡ (is_any ds || is_any es)
any_of_two [] es = refl
any_of_two (d ∷ ds) es = refl

or_assoc : (a b c : Bool) → (a || (b || c)) ≡ ((a || b) || c)
or_assoc true b c = refl
or_assoc false b c = refl

pub one_letter : (old now next : At) (before between after : List Diagnostic) (flags more_flags : RegExpFlags)
    (flags_error is_faulty : Bool) (b : ℕ) → ReadsLetters old now before between flags flags_error
    → TakesLetter now next b → AddsLetter flags more_flags now.place b between after is_faulty
    → ReadsLetters old next before after more_flags (flags_error || is_faulty)
one_letter old now next before between after flags more_flags flags_error is_faulty b h taken adds =
    let here = taken.read.here in
    let goes_on : ends_flags b ≡ false = ap not taken.is_letter in
    let letters : letters_left now ≡ b ∷ letters_left next =
    ap (before_first ends_flags) here ∙ first goes_on in
    let reports : flag_reports flags now.place (letters_left now)
    ≡ letter_reports flags now.place b ++ flag_reports more_flags next.place (letters_left next) =
    ap (flag_reports flags now.place) letters
    ∙ ap (λ f. letter_reports flags now.place b ++ flag_reports f (now.place + 1) (letters_left next))
    (sym adds.flags)
    ∙ ap (λ p. letter_reports flags now.place b ++ flag_reports more_flags p (letters_left next)) (sym taken.place) in
    record {
      text = taken.read.text ∙ h.text;
      left = h.left ∙ ap (from_first ends_flags) here ∙ past goes_on;
      flags_are = h.flags_are ∙ ap (with_letters flags) letters
          ∙ ap (λ f. with_letters f (letters_left next)) (sym adds.flags);
      more = h.more ++ letter_reports flags now.place b;
      reported = adds.reports ∙ ap (λ ds. ds ++ letter_reports flags now.place b) h.reported
          ∙ append_assoc before h.more (letter_reports flags now.place b);
      reports = h.reports ∙ ap (λ ds. h.more ++ ds) reports
          ∙ sym (append_assoc h.more (letter_reports flags now.place b)
          (flag_reports more_flags next.place (letters_left next)));
      faulty = h.faulty ∙ ap (λ ds. flags_error || is_any ds) reports
          ∙ ap (λ c. flags_error || c)
          (any_of_two (letter_reports flags now.place b) (flag_reports more_flags next.place (letters_left next))
          ∙ ap (λ c. c || is_any (flag_reports more_flags next.place (letters_left next))) (sym adds.faulty))
          ∙ or_assoc flags_error is_faulty (is_any (flag_reports more_flags next.place (letters_left next)));
      onward = omega (arith, h.onward, taken.place);
    }
  where
    first : ends_flags b ≡ false → before_first ends_flags (b ∷ rest next) ≡ b ∷ letters_left next
    first e = rw e refl

    past : ends_flags b ≡ false → from_first ends_flags (b ∷ rest next) ≡ from_first ends_flags (rest next)
    past e = rw e refl

none_left : (text : List ℕ) → begins is_flag_character text ≡ false
    → (before_first ends_flags text ≡ []) × (from_first ends_flags text ≡ text)
none_left [] e = (refl, refl)
none_left (c ∷ cs) e = rw e (refl, refl)

or_nothing : (b : Bool) → (b || false) ≡ b
or_nothing true = refl
or_nothing false = refl

-- all letters were read
pub flags_read : (pattern_end : ℕ) (old new : At) (before after : List Diagnostic) (flags : RegExpFlags)
    (flags_error : Bool) (info : RegexInfo) → pattern_end + 1 ≡ old.place
    → ReadsLetters old new before after flags flags_error → begins is_flag_character (rest new) ≡ false
    → info ≡ record { pattern_end = pattern_end; flags = flags; flags_error = flags_error }
    → SpellsFlags pattern_end old new before after info
flags_read pattern_end old new before after flags flags_error info behind h ends info_is =
    let none = none_left (rest new) ends in
    let no_more : flag_reports flags new.place (letters_left new) ≡ [] = ap (flag_reports flags new.place) none.0 in
    let all = flag_reports no_flags old.place (letters_left old) in
    let at : flag_reports no_flags (pattern_end + 1) (letters_left old) ≡ all =
    ap (λ p. flag_reports no_flags p (letters_left old)) behind in
    let faulty : is_any (flag_reports no_flags (pattern_end + 1) (letters_left old)) ≡ flags_error =
    ap is_any at ∙ h.faulty ∙ ap (λ ds. flags_error || is_any ds) no_more ∙ or_nothing flags_error in
    let are : with_letters no_flags (letters_left old) ≡ flags =
    h.flags_are ∙ ap (with_letters flags) none.0 in
    record {
      text = h.text;
      left = h.left ∙ none.1;
      reports = h.reported
          ∙ ap (λ ds. before ++ ds)
          (sym (append-nil h.more) ∙ ap (λ ds. h.more ++ ds) (sym no_more) ∙ sym h.reports ∙ sym at);
      info_is =
          info_is ∙ ap (λ f. info_of f flags_error) (sym are)
          ∙ ap (λ e. info_of (with_letters no_flags (letters_left old)) e) (sym faulty);
    }
  where
    info_of : RegExpFlags → Bool → RegexInfo
    info_of f e = record { pattern_end = pattern_end; flags = f; flags_error = e }

-- a letter is a part of names in ASCII
pub letter_taken : (old new : At) (b : ℕ) → b < 128 → is_identifier_part b ≡ true
    → HasFirstByte b (rest old) → StepsPast old new → TakesLetter old new b
letter_taken old new b low part first past =
    let next = begins_with b (rest old) (ascii_next b (rest old) low first) in
    let step = past b next.0 next.1 in
    let here : rest old ≡ b ∷ rest new = next.1 ∙ ap (λ t. b ∷ t) (sym step.1) in
    record {
      read = record { text = step.0; here = here };
      is_letter = rw (part, lt-ltb b 128 low) refl;
      place = leads_to old new (b ∷ []) step.0 here ∙ ap (λ n. old.place + n) (one_byte b low);
    }

-- the place of a letter has one behind it
pub letter_place : (old new : At) (b at : ℕ) → at ≡ old.place → TakesLetter old new b → at + 1 < 2 ^ 32
letter_place old new b at is taken = omega (arith, is, taken.place, new.placed.boundary.0, new.placed.short)

-- the table of parts has ASCII characters alone
pub low_letter : (table : List Bool) (b : ℕ) → TellsClass is_identifier_part table → matches_at table b ≡ true → b < 128
low_letter table b tells is =
    elim (true_or_false (ltb b 128)) [
      | inl low ↦ ltb-true b 128 low
      | inr wide ↦ absurd (let no : true ≡ false = sym is ∙ tells.ascii b (ltb-false b 128 wide) in cc)
    ]

pub bits_are_none : (flags : RegExpFlags) → flag_bits flags ≡ 0 → flags ≡ no_flags
bits_are_none flags e = ap flags_of_bits e

-- a reading of letters that breaks off
pub letters_broken : (pattern_end : ℕ) (old now new : At) (before between after : List Diagnostic)
    (flags : RegExpFlags) (flags_error : Bool) (b : ℕ) → pattern_end + 1 ≡ old.place
    → ReadsLetters old now before between flags flags_error → TakesLetter now new b → after ≡ between
    → BreaksOff (flags_told pattern_end (rest old)) old new before after
letters_broken pattern_end old now new before between after flags flags_error b behind h taken same = record {
  text = taken.read.text ∙ h.text;
  more = h.more;
  reports = same ∙ h.reported;
  onward = omega (arith, h.onward, taken.place);
  rest_of = flag_reports flags now.place (letters_left now);
  beginning = sym h.reports ∙ ap (λ p. flag_reports no_flags p (letters_left old)) (sym behind);
}

-- the `/` that ends a pattern
pub slash_passed : (old mid new : At) (pattern_end : ℕ) → pattern_end ≡ mid.place → PassesBody old mid true
    → StepsPast mid new → pattern_end + 1 ≡ new.place
slash_passed old mid new pattern_end is passed past =
    let here = first_is slash (rest mid) passed.1 in
    let step = past slash (drop 1 (rest mid)) here in
    let way =
    leads_to mid new (slash ∷ []) step.0 (here ∙ ap (λ t. slash ∷ t) (sym step.1)) in
    omega (arith, is, way, one_byte slash (omega arith))

-- Where a body that a `/` ends was passed, and the `/` behind it.
record IsClosed (start : ℕ) (old mid behind : At) (pattern_end : ℕ) : Type 0 where
  pub text : behind.text ≡ mid.text
  pub read : regular_expression (rest old) ≡ with_flags_behind (slash ∷ rest old) (rest mid)
  pub step : drop 1 (rest mid) ≡ rest behind
  pub end : start + size_of (read_up_to RegExp (slash ∷ rest old) (rest mid)) ≡ pattern_end

closed_read : (start : ℕ) (old mid behind : At) (pattern_end : ℕ) → start + 1 ≡ old.place → pattern_end ≡ mid.place
    → PassesBody old mid true → StepsPast mid behind
    → IsClosed start old mid behind pattern_end
closed_read start old mid behind pattern_end begun ends passed past =
    let here = first_is slash (rest mid) passed.1 in
    let step = past slash (drop 1 (rest mid)) here in
    let closed : begins (λ c. c == slash) (behind_body (rest old)) ≡ true =
    ap (begins (λ c. c == slash)) passed.0 ∙ passed.1 in
    record {
      text = step.0;
      read = expression_terminated (slash ∷ rest old) (behind_body (rest old)) closed
          ∙ ap (with_flags_behind (slash ∷ rest old)) passed.0;
      step = sym step.1;
      end =
          size_from_mark slash start old mid RegExp (omega arith) begun passed.2.text
          (subst (Leaves (rest old)) passed.0 (body_leaves (rest old)))
          ∙ sym ends;
    }

-- what is reported of the flags of the whole is what is reported of them where they stand
told_of_flags : (start : ℕ) (old mid behind : At) (pattern_end : ℕ) → IsClosed start old mid behind pattern_end
    → reported_at start (regular_expression (rest old)) ≡ flags_told pattern_end (rest behind)
told_of_flags start old mid behind pattern_end closed =
    let size = size_of (read_up_to RegExp (slash ∷ rest old) (rest mid)) in
    let letters = before_first ends_flags (drop 1 (rest mid)) in
    let at : start + (size + 1) ≡ pattern_end + 1 = omega (arith, closed.end) in
    ap (reported_at start) closed.read ∙ sym (flag_reports_moved no_flags start (size + 1) letters)
    ∙ ap (λ n. flag_reports no_flags n letters) at
    ∙ ap (λ t. flag_reports no_flags (pattern_end + 1) (before_first ends_flags t)) closed.step

-- A body that a `/` ends, and the flags behind it.
pub expression_closed : (start : ℕ) (old mid behind new : At) (before after : List Diagnostic) (info : RegexInfo)
    (pattern_end : ℕ) → start + 1 ≡ old.place → pattern_end ≡ mid.place
    → PassesBody old mid true → StepsPast mid behind
    → SpellsFlags pattern_end behind new before after info
    → SpellsExpression (regular_expression (rest old)) start old new before after info
expression_closed start old mid behind new before after info pattern_end begun ends passed past flags =
    let closed = closed_read start old mid behind pattern_end begun ends passed past in
    let size = size_of (read_up_to RegExp (slash ∷ rest old) (rest mid)) in
    let letters = before_first ends_flags (drop 1 (rest mid)) in
    let told = told_of_flags start old mid behind pattern_end closed in
    let faulty : is_any (flag_reports no_flags (size + 1) letters) ≡ is_any (flags_told pattern_end (rest behind)) =
    sym (any_moved start (flag_reports no_flags (size + 1) letters))
    ∙ ap is_any (sym (ap (reported_at start) closed.read) ∙ told) in
    record {
      text = flags.text ∙ closed.text ∙ passed.2.text;
      left = ap (λ r. r.rest) closed.read ∙ ap (from_first ends_flags) closed.step ∙ flags.left;
      reports = flags.reports ∙ ap (λ ds. before ++ ds) (sym told);
      info_is = ap (λ r. option_map (moved_regex start) r.regex) closed.read
          ∙ ap (λ n. Some (info_of n (with_letters no_flags letters)
          (is_any (flag_reports no_flags (size + 1) letters))))
          closed.end
          ∙ ap (λ t. Some (info_of pattern_end (with_letters no_flags (before_first ends_flags t))
          (is_any (flag_reports no_flags (size + 1) letters)))) closed.step
          ∙ ap (λ b. Some (info_of pattern_end (with_letters no_flags (letters_left behind)) b)) faulty
          ∙ ap Some (sym flags.info_is);
    }
  where
    info_of : ℕ → RegExpFlags → Bool → RegexInfo
    info_of n f e = record { pattern_end = n; flags = f; flags_error = e }

-- Flags that broke off, behind a body that a `/` ends.
pub flags_broken : (start : ℕ) (old mid behind new : At) (before after : List Diagnostic) (pattern_end : ℕ)
    → start + 1 ≡ old.place → pattern_end ≡ mid.place
    → PassesBody old mid true → StepsPast mid behind → mid.place ≤ behind.place
    → BreaksOff (flags_told pattern_end (rest behind)) behind new before after
    → BreaksOff (reported_at start (regular_expression (rest old))) old new before after
flags_broken start old mid behind new before after pattern_end begun ends passed past onward broken =
    let closed = closed_read start old mid behind pattern_end begun ends passed past in
    rw (told_of_flags start old mid behind pattern_end closed)
    (broken_later (flags_told pattern_end (rest behind)) old behind new before after
    (closed.text ∙ passed.2.text) (omega (arith, passed.2.onward, onward)) broken)

-- The report that a body has no end broke off.
pub body_broken : (start : ℕ) (old mid new : At) (before after : List Diagnostic) → PassesBody old mid false
    → BreaksOff [] mid new before after
    → BreaksOff (reported_at start (regular_expression (rest old))) old new before after
body_broken start old mid new before after passed broken =
    let told = reported_at start (regular_expression (rest old)) in
    broken_first told old new before after
    (broken_later [] old mid new before after passed.1.text passed.1.onward broken)

-- A body that has no end.
pub expression_broken : (start : ℕ) (old mid new : At) (before after : List Diagnostic) (info : RegexInfo)
    → start + 1 ≡ old.place → PassesBody old mid false
    → BreaksLine start mid new before after info
    → SpellsExpression (regular_expression (rest old)) start old new before after info
expression_broken start old mid new before after info begun passed breaks =
    let whole = slash ∷ rest old in
    let text : breaks.behind.text ≡ old.text = breaks.same ∙ passed.1.text in
    let read : regular_expression (rest old) ≡ unterminated_expression whole =
    expression_unterminated whole (behind_body (rest old)) passed.0 in
    let line : drop 1 (from_first is_line_terminator (rest old)) ≡ rest breaks.behind =
    sym (breaks.stepped ∙ ap (drop 1) (sym passed.1.line)) in
    let left : Leaves (rest old) (rest breaks.behind) =
    subst (Leaves (rest old)) line
    (leaves_then (rest old) (from_first is_line_terminator (rest old))
    (drop 1 (from_first is_line_terminator (rest old)))
    (leaves_from_first is_line_terminator (rest old)) (leaves_dropped 1 (from_first is_line_terminator (rest old)))) in
    let reported : start + size_of (read_up_to RegExp whole (drop 1 (from_first is_line_terminator (rest old))))
    ≡ breaks.behind.place =
    ap (λ t. start + size_of (read_up_to RegExp whole t)) line
    ∙ size_from_mark slash start old breaks.behind RegExp (omega arith) begun text left in
    let end : start + place_behind 0 whole ≡ new.place =
    omega (
      arith,
      begun,
      leads_to old new (rest old) (breaks.text ∙ passed.1.text)
          (sym (append-nil (rest old)) ∙ ap (λ t. rest old ++ t) (sym breaks.nothing)),
      one_byte slash (omega arith),
      length-append (encode_utf8 slash) (encode_utf8_all (rest old)),
      length-append (encode_utf8 slash) [],
    ) in
    record {
      text = breaks.text ∙ passed.1.text;
      left = ap (λ r. r.rest) read ∙ sym breaks.nothing;
      reports = breaks.reports ∙ ap (λ n. before ++ UnterminatedRegExp (stretch start n) ∷ []) (sym reported)
          ∙ ap (λ n. before ++ UnterminatedRegExp (stretch n
          (start + size_of (read_up_to RegExp whole (drop 1 (from_first is_line_terminator (rest old)))))) ∷ [])
          (sym (add-zero start))
          ∙ ap (λ r. before ++ reported_at start r) (sym read);
      info_is = ap (λ r. option_map (moved_regex start) r.regex) read
          ∙ ap (λ n. Some (info_of n)) end ∙ ap Some (sym breaks.info_is);
    }
  where
    info_of : ℕ → RegexInfo
    info_of n = record { pattern_end = n; flags = no_flags; flags_error = false }
