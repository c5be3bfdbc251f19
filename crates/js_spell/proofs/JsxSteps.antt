-- Angles and parts of JSX, as they are read.
use Rattle.std.proofs.Common.{◌≡◌, ℕ, ◌<◌, ◌≤◌, Bool, true, false, not, ◌&&◌, ◌||◌, ◌==◌, List, [], ◌∷◌, ◌++◌, length}
use Rattle.std.proofs.Common.{drop, refl, sym, ◌∙◌, ap, subst, arith, Option, Some, inl, inr, append-nil}
use Rattle.std.specs.Prelude.{codes, IfOk, Result, if◌then◌else◌}
use Rattle.std.proofs.lemmas.Bool.Decides.{nat_tests}
use Rattle.js_text.specs.Ascii.{equals_sign, greater_than_sign, hyphen_minus, less_than_sign}
use Rattle.js_text.specs.Characters.{begins, from_first, from_place, is_identifier_part}
use Rattle.js_text.specs.declared.diagnostic.Diagnostic.{Diagnostic}
use Rattle.js_text.specs.declared.diagnostic.Diagnostic.TheVariants.{UnexpectedJsxEnd, UnterminatedString}
use Rattle.js_text.proofs.TextLemmas.{from_first-cons, from_first-found, length-from_first}
use Rattle.js_kind.specs.declared.kind.Kind.{Kind}
use Rattle.js_kind.specs.declared.kind.Kind.TheVariants.{Eof, GtEq, RAngle, ShiftRight, Str}
use Rattle.js_kind.specs.declared.kind.Kind.TheVariants.{ShiftRight3, ShiftRight3Eq, ShiftRightEq}
use Rattle.js_grammar.specs.Angle.{angle_reading, punctuator_reading, right_angles}
use Rattle.js_kind.specs.Kinds.{kind_text}
use Rattle.js_grammar.specs.Gap.{is_prefix}
use Rattle.js_grammar.specs.Jsx.{begins_child, ends_jsx_name, ends_jsx_text, jsx_child_reading, reported, angles_among}
use Rattle.js_grammar.specs.Jsx.{jsx_string_before, jsx_string_reading, jsx_text_before, jsx_text_reading}
use Rattle.js_grammar.specs.Jsx.{jsx_child_warnings}
use Rattle.js_grammar.proofs.GoalReadings.{Leaves, leaves_from_first}
use Rattle.js_grammar.specs.Name.{is_no_part}
use Rattle.js_grammar.specs.NumberReads.{empty_span}
use Rattle.js_grammar.specs.Reading.{Reading, place_behind, read_up_to, reported_at, size_of}
use Rattle.js_grammar.specs.StringItems.{is_quote, stretch}
use Rattle.js_grammar.specs.UnicodeEscape.{left_curly_bracket}
use Rattle.js_grammar.proofs.NumberItems.{true_or_false}
use Rattle.js_source.specs.Runs.{PassesRun, TellsClass}
use Rattle.js_source.specs.Search.{matches_at}
use Rattle.js_source.specs.Source.{At, rest, HasFirstByte, Reads, StepsPast, BeginsWith}
use Rattle.js_source.proofs.Places.{ascii_next, begins_with}
use Rattle.js_source.proofs.RunSteps.{from_first-run}
use Rattle.js_spell.specs.Spells.{ReadsAs}
use Rattle.js_spell.specs.Goals.{SpellsAngle, SpellsJsxString, StopsAt, TakesEquals, text_warnings}
use Rattle.js_spell.specs.Goals.{TakesJsxQuote, ends_of, equals_kind}
use Rattle.js_spell.specs.declared.jsx.Text.{Text}
use Rattle.js_spell.specs.declared.jsx.Text.TheVariants.{Child, DoubleQuoted, SingleQuoted}
use Rattle.js_spell.proofs.ExpressionSteps.{size_to}
use Rattle.std.proofs.Common.{add-zero, ◌+◌}
use Rattle.js_spell.proofs.NumericSteps.{leads_to}
use Rattle.js_spell.proofs.OrdinaryCharacters.{wide_first}

-- a mark that does not begin a text
no_prefix : (c : ℕ) (cs text : List ℕ) → begins (λ d. d == c) text ≡ false → is_prefix (c ∷ cs) text ≡ false
no_prefix c cs [] e = refl
no_prefix c cs (d ∷ ds) e = rw e refl

-- a mark of one character
one_prefix : (c : ℕ) (text : List ℕ) → is_prefix (c ∷ []) text ≡ begins (λ d. d == c) text
one_prefix c [] = refl
one_prefix c (d ∷ ds) = and_true_right (d == c)
  where
    and_true_right : (b : Bool) → (b && true) ≡ b
    and_true_right true = refl
    and_true_right false = refl

-- a punctuator that was read from the text on
abbrev pub IsAngle : List ℕ → Kind → List ℕ → Type 0
IsAngle text kind left =
    angle_reading right_angles text ≡ Some (read_up_to kind text left)

abbrev behind_equals : Bool → List ℕ → List ℕ
behind_equals is_there text = if is_there then drop 1 text else text

-- a punctuator of the kind, where the test holds, or else another
abbrev or_else : Bool → Kind → List ℕ → Option Reading → Option Reading
or_else is_there kind text other = if is_there then Some (punctuator_reading kind text) else other

-- the one with a `=`, or that without it
chosen : (alone assigned : Kind) (text left : List ℕ) (is_there : Bool)
    → drop (length (kind_text assigned)) text ≡ drop 1 left → drop (length (kind_text alone)) text ≡ left
    → or_else is_there assigned text (Some (punctuator_reading alone text))
    ≡ Some (read_up_to (equals_kind is_there alone assigned) text (behind_equals is_there left))
chosen alone assigned text left true e f = rw e refl
chosen alone assigned text left false e f = rw f refl

-- the punctuators with and without `=` behind so many `>`
three : (text : List ℕ) → IsAngle (greater_than_sign ∷ greater_than_sign ∷ greater_than_sign ∷ text)
    (equals_kind (begins (λ c. c == equals_sign) text) ShiftRight3 ShiftRight3Eq)
    (behind_equals (begins (λ c. c == equals_sign) text) text)
three text =
    let whole = greater_than_sign ∷ greater_than_sign ∷ greater_than_sign ∷ text in
    ap (λ b. or_else b ShiftRight3Eq whole (Some (punctuator_reading ShiftRight3 whole))) (one_prefix equals_sign text)
    ∙ chosen ShiftRight3 ShiftRight3Eq whole text (begins (λ c. c == equals_sign) text) refl refl

two : (text : List ℕ) → begins (λ c. c == greater_than_sign) text ≡ false
    → IsAngle (greater_than_sign ∷ greater_than_sign ∷ text)
    (equals_kind (begins (λ c. c == equals_sign) text) ShiftRight ShiftRightEq)
    (behind_equals (begins (λ c. c == equals_sign) text) text)
two text none =
    let whole = greater_than_sign ∷ greater_than_sign ∷ text in
    let shift : Bool → Option Reading = λ b. or_else b ShiftRightEq whole
    (Some (punctuator_reading ShiftRight whole)) in
    ap (λ b. or_else b ShiftRight3Eq whole
    (or_else (is_prefix (codes ">") text) ShiftRight3 whole (shift (is_prefix (codes "=") text))))
    (no_prefix greater_than_sign (codes "=") text none)
    ∙ ap (λ b. or_else b ShiftRight3 whole (shift (is_prefix (codes "=") text)))
    (no_prefix greater_than_sign [] text none)
    ∙ ap shift (one_prefix equals_sign text)
    ∙ chosen ShiftRight ShiftRightEq whole text (begins (λ c. c == equals_sign) text) refl refl

one : (text : List ℕ) → begins (λ c. c == greater_than_sign) text ≡ false
    → IsAngle (greater_than_sign ∷ text)
    (equals_kind (begins (λ c. c == equals_sign) text) RAngle GtEq)
    (behind_equals (begins (λ c. c == equals_sign) text) text)
one text none =
    let whole = greater_than_sign ∷ text in
    let alone : Bool → Option Reading = λ b. or_else b GtEq whole (Some (punctuator_reading RAngle whole)) in
    let shifts : Bool → Option Reading = λ b. or_else b ShiftRight whole (alone (is_prefix (codes "=") text)) in
    let assigned : Bool → Option Reading = λ b. or_else b ShiftRightEq whole (shifts (is_prefix (codes ">") text)) in
    let longer : Bool → Option Reading = λ b. or_else b ShiftRight3 whole (assigned (is_prefix (codes ">=") text)) in
    ap (λ b. or_else b ShiftRight3Eq whole (longer (is_prefix (codes ">>") text)))
    (no_prefix greater_than_sign (codes ">=") text none)
    ∙ ap longer (no_prefix greater_than_sign (codes ">") text none)
    ∙ ap assigned (no_prefix greater_than_sign (codes "=") text none)
    ∙ ap shifts (no_prefix greater_than_sign [] text none)
    ∙ ap alone (one_prefix equals_sign text)
    ∙ chosen RAngle GtEq whole text (begins (λ c. c == equals_sign) text) refl refl

angle_read_of : (front : List ℕ) (old mid new : At) (kind alone assigned : Kind) → mid.text ≡ old.text
    → rest old ≡ front ++ rest mid
    → IsAngle (greater_than_sign ∷ (front ++ rest mid))
    (equals_kind (begins (λ c. c == equals_sign) (rest mid)) alone assigned)
    (behind_equals (begins (λ c. c == equals_sign) (rest mid)) (rest mid))
    → TakesEquals mid new alone assigned kind → SpellsAngle old new kind
angle_read_of front old mid new kind alone assigned text here is takes =
    let whole = greater_than_sign ∷ (front ++ rest mid) in
    record {
      text = takes.text ∙ text;
      read = ap (λ t. angle_reading right_angles (greater_than_sign ∷ t)) here ∙ is
          ∙ ap (λ k. Some (read_up_to k whole (behind_equals (begins (λ c. c == equals_sign) (rest mid)) (rest mid))))
          (sym takes.kind_is)
          ∙ ap (λ t. Some (read_up_to kind whole t)) (sym takes.left)
          ∙ ap (λ t. Some (read_up_to kind (greater_than_sign ∷ t) (rest new))) (sym here);
    }

pub right_angle : (old new : At) (kind : Kind) → begins (λ c. c == greater_than_sign) (rest old) ≡ false
    → TakesEquals old new RAngle GtEq kind → SpellsAngle old new kind
right_angle old new kind none takes =
    angle_read_of [] old old new kind RAngle GtEq refl refl (one (rest old) none) takes

pub shift_right : (old mid new : At) (kind : Kind) → Reads old mid greater_than_sign
    → begins (λ c. c == greater_than_sign) (rest mid) ≡ false → TakesEquals mid new ShiftRight ShiftRightEq kind
    → SpellsAngle old new kind
shift_right old mid new kind read none takes =
    angle_read_of (codes ">") old mid new kind ShiftRight ShiftRightEq read.text read.here (two (rest mid) none)
    takes

-- parts of names are parts of names of JSX
pub past_parts : (text : List ℕ) → from_first ends_jsx_name text ≡ from_first ends_jsx_name (from_first is_no_part text)
past_parts [] = refl
past_parts (c ∷ cs) =
    elim (true_or_false (is_identifier_part c)) [
      | inl is ↦ (
          let goes_on : ends_jsx_name c ≡ false = rw is refl in
          let part : is_no_part c ≡ false = rw is refl in
          from_first-cons ends_jsx_name c cs goes_on ∙ past_parts cs
          ∙ ap (from_first ends_jsx_name) (sym (from_first-cons is_no_part c cs part)))
      | inr none ↦ (
          let no_part : is_no_part c ≡ true = rw none refl in
          ap (from_first ends_jsx_name) (sym (from_first-found is_no_part c cs no_part)))
    ]

-- where no part stands
pub no_part_begins : (text : List ℕ) → begins is_identifier_part (from_first is_no_part text) ≡ false
no_part_begins [] = refl
no_part_begins (c ∷ cs) =
    elim (true_or_false (is_identifier_part c)) [
      | inl is ↦ (let part : is_no_part c ≡ false = rw is refl in
          ap (begins is_identifier_part) (from_first-cons is_no_part c cs part) ∙ no_part_begins cs)
      | inr none ↦ (let no_part : is_no_part c ≡ true = rw none refl in
          ap (begins is_identifier_part) (from_first-found is_no_part c cs no_part) ∙ none)
    ]

hyphen_goes_on : (c : ℕ) → (c == hyphen_minus) ≡ true → ends_jsx_name c ≡ false
hyphen_goes_on c e = rw e (or_true (is_identifier_part c))
  where
    or_true : (b : Bool) → not (b || true) ≡ false
    or_true true = refl
    or_true false = refl

pub past_hyphen : (old new : At) → Reads old new hyphen_minus
    → from_first ends_jsx_name (rest old) ≡ from_first ends_jsx_name (rest new)
past_hyphen old new read =
    ap (from_first ends_jsx_name) read.here
    ∙ from_first-cons ends_jsx_name hyphen_minus (rest new) (hyphen_goes_on hyphen_minus refl)

not_true : (a : Bool) → not a ≡ true → a ≡ false
not_true true e = absurd (cc)
not_true false e = refl

not_false : (a : Bool) → not a ≡ false → a ≡ true
not_false true e = refl
not_false false e = absurd (cc)

pub text_run : (within : Text) (table : List Bool) (old new : At) → TellsClass (λ b. not (ends_of within b)) table
    → new.text ≡ old.text → PassesRun table old.text old.place new.place
    → from_first (ends_of within) (rest old) ≡ from_first (ends_of within) (rest new)
text_run within table old new tells text run =
    ap (from_first (ends_of within)) (run.here ∙ ap (λ t. run.run ++ from_place t new.place) (sym text))
    ∙ from_first-run (ends_of within) table
    (λ b low m. not_true (ends_of within b) (sym (tells.tells b low) ∙ m)) run.run (rest new) run.all

-- a character beyond ASCII ends no text
wide_goes_on : (within : Text) (c : ℕ) → 128 ≤ c → ends_of within c ≡ false
wide_goes_on Child c h = grind (arith, nat_tests)
wide_goes_on DoubleQuoted c h = grind (arith, nat_tests)
wide_goes_on SingleQuoted c h = grind (arith, nat_tests)

pub text_wide : (within : Text) (b : ℕ) (old new : At) → 128 ≤ b → HasFirstByte b (rest old) → StepsPast old new
    → from_first (ends_of within) (rest old) ≡ from_first (ends_of within) (rest new)
text_wide within b old new h first past = of (rest old) refl first
  where
    of : (text : List ℕ) → rest old ≡ text → HasFirstByte b text
        → from_first (ends_of within) (rest old) ≡ from_first (ends_of within) (rest new)
    of [] here first = absurd first
    of (c ∷ cs) here first =
        ap (from_first (ends_of within)) here
        ∙ from_first-cons (ends_of within) c cs (wide_goes_on within c (wide_first b c cs h first))
        ∙ ap (from_first (ends_of within)) (sym (past c cs here).1)

-- a character that was passed leaves the text as it was
pub past_text : (b : ℕ) (old new : At) → HasFirstByte b (rest old) → StepsPast old new → new.text ≡ old.text
past_text b old new first past = of (rest old) refl first
  where
    of : (text : List ℕ) → rest old ≡ text → HasFirstByte b text → new.text ≡ old.text
    of [] here first = absurd first
    of (c ∷ cs) here first = (past c cs here).0

-- the byte at which a run stops
pub text_stops : (within : Text) (table : List Bool) (b : ℕ) (text : List ℕ)
    → TellsClass (λ b. not (ends_of within b)) table → b < 128
    → HasFirstByte b text → begins (matches_at table) text ≡ false → StopsAt within b text
text_stops within table b text tells low first stop =
    let next = ascii_next b text low first in
    let found = begins_with b text next in
    let ended : matches_at table b ≡ false = ap (begins (matches_at table)) (sym found.1) ∙ stop in
    record { next = next; ends = not_false (ends_of within b) (sym (tells.tells b low) ∙ ended) }

pub stopped : (within : Text) (b : ℕ) (text : List ℕ) → StopsAt within b text
    → from_first (ends_of within) text ≡ text
stopped within b text stop =
    let found = begins_with b text stop.next in
    ap (from_first (ends_of within)) found.1 ∙ from_first-found (ends_of within) b found.0 stop.ends ∙ sym found.1

text_before : (old new : At) (b : ℕ) → rest new ≡ from_first ends_jsx_text (rest old) → BeginsWith b (rest new)
    → (ds : List ℕ) × (rest new ≡ b ∷ ds) × (jsx_text_reading (rest old) ≡ jsx_text_before (rest old) (b ∷ ds))
text_before old new b left next =
    let found = begins_with b (rest new) next in
    (found.0, found.1, ap (jsx_text_before (rest old)) (sym left ∙ found.1))

pub text_before_other : (old new : At) (before after : List Diagnostic) (b at : ℕ) → new.text ≡ old.text
    → rest new ≡ from_first ends_jsx_text (rest old)
    → BeginsWith b (rest new) → begins_child b ≡ false → at ≡ new.place
    → after ≡ before ++ UnexpectedJsxEnd b (empty_span at) ∷ []
    → ReadsAs (jsx_text_reading (rest old)) old.place old new before after Eof
text_before_other old new before after b at text left next none is e =
    let found = text_before old new b left next in
    let size = size_of (read_up_to Eof (rest old) (b ∷ found.0)) in
    let read : jsx_text_reading (rest old)
    ≡ reported Eof (rest old) (b ∷ found.0) (UnexpectedJsxEnd b (empty_span size)) = found.2 ∙ (rw none refl) in
    let leaves : Leaves (rest old) (rest new) =
    subst (Leaves (rest old)) (sym left) (leaves_from_first ends_jsx_text (rest old)) in
    let place : old.place + size ≡ at =
    ap (λ t. old.place + size_of (read_up_to Eof (rest old) t)) (sym found.1) ∙ size_to old new Eof text leaves
    ∙ sym is in
    record {
      text = text;
      kind_is = ap (λ r. r.kind) read;
      left = ap (λ r. r.rest) read ∙ sym found.1;
      reports = e ∙ ap (λ n. before ++ UnexpectedJsxEnd b (empty_span n) ∷ []) (sym place)
          ∙ ap (λ r. before ++ reported_at old.place r) (sym read);
    }

-- neither
pub child_text : (text : List ℕ) → begins (λ c. c == less_than_sign) text ≡ false
    → begins (λ c. c == left_curly_bracket) text ≡ false → jsx_child_reading text ≡ jsx_text_reading text
child_text [] a b = refl
child_text (c ∷ cs) a b = rw (a, b) refl

-- the parts behind a `-`
pub fewer_behind : (old mid new : At) → Reads old mid hyphen_minus → rest new ≡ from_first is_no_part (rest mid)
    → length (rest new) < length (rest old)
fewer_behind old mid new read left =
    omega (arith, ap length read.here, ap length left, length-from_first is_no_part (rest mid))

-- what ends a class of characters ends any that is the same
same_class : (p q : ℕ → Bool) → ((c : ℕ) → p c ≡ q c) → (text : List ℕ) → from_first p text ≡ from_first q text
same_class p q same [] = refl
same_class p q same (c ∷ cs) =
    elim (true_or_false (q c)) [
      | inl is ↦ from_first-found p c cs (same c ∙ is) ∙ sym (from_first-found q c cs is)
      | inr none ↦ from_first-cons p c cs (same c ∙ none) ∙ same_class p q same cs ∙ sym (from_first-cons q c cs none)
    ]

string_found : (old mid : At) (within : Text) (quote : TakesJsxQuote old mid within) → begins is_quote (rest old) ≡ true
    → (left : List ℕ) → left ≡ from_first (ends_of within) (rest mid)
    → jsx_string_reading (rest old) ≡ Some (jsx_string_before (rest old) left)
string_found old mid within quote is left e =
    let q = quote.quote in
    let here = quote.read.here in
    let quoted : is_quote q ≡ true = ap (begins is_quote) (sym here) ∙ is in
    ap jsx_string_reading here ∙ read q (rest mid) quoted
    ∙ ap (λ t. Some (jsx_string_before (q ∷ rest mid) t))
    (sym (same_class (ends_of within) (λ c. c == q) quote.ends (rest mid)) ∙ sym e)
    ∙ ap (λ t. Some (jsx_string_before t left)) (sym here)
  where
    read : (q : ℕ) (cs : List ℕ) → is_quote q ≡ true
        → jsx_string_reading (q ∷ cs) ≡ Some (jsx_string_before (q ∷ cs) (from_first (λ d. d == q) cs))
    read q cs e = rw e refl

pub string_closed : (old mid here new : At) (within : Text) (errors : List Diagnostic) (b : ℕ)
    → begins is_quote (rest old) ≡ true → TakesJsxQuote old mid within → here.text ≡ mid.text
    → rest here ≡ from_first (ends_of within) (rest mid) → StopsAt within b (rest here) → StepsPast here new
    → SpellsJsxString old new errors errors Str
string_closed old mid here new within errors b is quote text left stop past =
    let found = begins_with b (rest here) stop.next in
    let step = past b found.0 found.1 in
    record {
      found = jsx_string_before (rest old) (b ∷ found.0);
      read =
          string_found old mid within quote is (rest here) left
          ∙ ap (λ t. Some (jsx_string_before (rest old) t)) found.1;
      spells = record {
        text = step.0 ∙ text ∙ quote.read.text;
        kind_is = refl;
        left = sym step.1;
        reports = sym (append-nil errors);
      };
    }

behind_from_start : (place : ℕ) (text : List ℕ) → place_behind place text ≡ place + place_behind 0 text
behind_from_start place text = omega arith

pub string_open : (old mid new : At) (within : Text) (before after : List Diagnostic) (start : ℕ)
    → begins is_quote (rest old) ≡ true → TakesJsxQuote old mid within → new.text ≡ mid.text
    → rest new ≡ from_first (ends_of within) (rest mid) → rest new ≡ [] → start ≡ old.place
    → after ≡ before ++ UnterminatedString (stretch start new.place) ∷ []
    → SpellsJsxString old new before after Eof
string_open old mid new within before after start is quote text left none at e =
    let whole : new.place ≡ place_behind old.place (rest old) =
    leads_to old new (rest old) (text ∙ quote.read.text)
    (sym (append-nil (rest old)) ∙ ap (λ t. rest old ++ t) (sym none)) in
    record {
      found = jsx_string_before (rest old) [];
      read =
          string_found old mid within quote is (rest new) left
          ∙ ap (λ t. Some (jsx_string_before (rest old) t)) none;
      spells = record {
        text = text ∙ quote.read.text;
        kind_is = refl;
        left = sym none;
        reports = e ∙ ap (λ n. before ++ UnterminatedString (stretch n new.place) ∷ []) (at ∙ sym (add-zero old.place))
            ∙ ap (λ n. before ++ UnterminatedString (stretch (old.place + 0) n) ∷ [])
            (whole ∙ behind_from_start old.place (rest old));
      };
    }

-- a child that begins with no mark
pub child_of_text : {E : Type 0} (r : Result Kind E) (old mid behind new : At) (before after : List Diagnostic)
    → begins (λ c. c == less_than_sign) (rest old) ≡ false → mid ≡ old
    → begins (λ c. c == left_curly_bracket) (rest mid) ≡ false → behind ≡ mid
    → IfOk r (ReadsAs (jsx_text_reading (rest behind)) behind.place behind new before after)
    → IfOk r (ReadsAs (jsx_child_reading (rest old)) old.place old new before after)
child_of_text r old mid behind new before after angle first bracket second reads =
    let same : behind ≡ old = second ∙ first in
    let text : jsx_child_reading (rest old) ≡ jsx_text_reading (rest old) =
    child_text (rest old) angle (ap (λ s. begins (λ c. c == left_curly_bracket) (rest s)) (sym first) ∙ bracket) in
    subst (λ read. IfOk r (ReadsAs read old.place old new before after)) (sym text)
    (subst (λ s. IfOk r (ReadsAs (jsx_text_reading (rest s)) s.place s new before after)) same reads)

-- what it is warned of is what its text is
pub warnings_of_text : (old mid behind : At) → begins (λ c. c == less_than_sign) (rest old) ≡ false → mid ≡ old
    → begins (λ c. c == left_curly_bracket) (rest mid) ≡ false → behind ≡ mid
    → text_warnings behind.place (rest behind) ≡ jsx_child_warnings old.place (rest old)
warnings_of_text old mid behind angle first bracket second =
    let text : jsx_child_reading (rest old) ≡ jsx_text_reading (rest old) =
    child_text (rest old) angle (ap (λ s. begins (λ c. c == left_curly_bracket) (rest s)) (sym first) ∙ bracket) in
    ap (λ (s : At). text_warnings s.place (rest s)) (second ∙ first)
    ∙ ap (λ (r : Reading). angles_among old.place r.taken) (sym text)
