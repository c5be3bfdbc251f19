-- The parts of regular expressions, as they are passed.
use Rattle.std.proofs.Common.{◌+◌}
use Rattle.std.proofs.Common.{length-append}
use Rattle.std.specs.Char.{encode_utf8}
use Rattle.std.specs.Str.{encode_utf8_all}
use Rattle.js_kind.specs.declared.kind.Kind.{Kind}
use Rattle.js_grammar.specs.Reading.{read_up_to, size_of}
use Rattle.js_grammar.proofs.GoalReadings.{Leaves}
use Rattle.js_grammar.proofs.Marks.{one_byte}
use Rattle.js_grammar.proofs.ReadingLemmas.{taken_is}
use Rattle.js_spell.proofs.NumericSteps.{leads_to}
use Rattle.std.proofs.Common.{◌≡◌, ℕ, ◌<◌, ◌≤◌, Bool, true, false, not, ◌||◌, ◌==◌, List, [], ◌∷◌, ◌++◌, length, drop}
use Rattle.std.proofs.Common.{refl, sym, ◌∙◌, ap, arith, Some, None, inl, inr}
use Rattle.std.proofs.lemmas.Bool.{eqb-true}
use Rattle.std.proofs.lemmas.Bool.Decides.{nat_tests}
use Rattle.js_text.specs.Ascii.{backslash, slash}
use Rattle.js_text.specs.Characters.{begins, from_first, from_place, is_line_terminator}
use Rattle.js_text.proofs.TextLemmas.{from_first-cons}
use Rattle.js_grammar.specs.RegularExpression.{behind_all, behind_body_character, behind_bracket}
use Rattle.js_grammar.specs.RegularExpression.{behind_class, behind_class_character, left_square_bracket}
use Rattle.js_grammar.specs.RegularExpression.{right_square_bracket}
use Rattle.js_grammar.proofs.GoalReadings.{FindsParts, finds_body_characters, finds_class_characters, no_part, one_part}
use Rattle.js_grammar.proofs.NumberItems.{true_or_false}
use Rattle.js_grammar.proofs.NumberSound.{first_is}
use Rattle.js_source.specs.Runs.{IsRun, PassesRun, TellsClass}
use Rattle.js_source.specs.Source.{At, rest, HasFirstByte, StepsPast}
use Rattle.js_source.proofs.RunSteps.{from_first-run}
use Rattle.js_spell.specs.RegularExpression.{IsAtLineEnd, PassesBackslash, PassesBody, PassesClass, PassesParts}
use Rattle.js_spell.specs.RegularExpression.{StaysInLine, is_line_end, marks, part_of}
use Rattle.js_spell.specs.declared.regular_expression.Within.{Within}
use Rattle.js_spell.specs.declared.regular_expression.Within.TheVariants.{Body, Class}
use Rattle.js_spell.proofs.NameSteps.{run_fewer}
use Rattle.js_spell.proofs.OrdinaryCharacters.{wide_first}

finds_of : (within : Within) → FindsParts (part_of within)
finds_of Body = finds_body_characters
finds_of Class = finds_class_characters

or_false : (a b : Bool) → (a || b) ≡ false → (a ≡ false) × (b ≡ false)
or_false true b e = absurd (cc)
or_false false b e = (refl, e)

not_true : (a : Bool) → not a ≡ true → a ≡ false
not_true true e = absurd (cc)
not_true false e = refl

-- a character that stands for itself is a part
character_part : (within : Within) (c : ℕ) (cs : List ℕ) → marks within c ≡ false
    → part_of within (c ∷ cs) ≡ Some cs
character_part Body c cs e =
    let first = or_false (c == backslash) _ e in
    let second = or_false (c == left_square_bracket) _ first.1 in
    let third = or_false (c == slash) _ second.1 in
    rw (first.0, second.0, third.0, third.1) refl
character_part Class c cs e =
    let first = or_false (c == backslash) _ e in
    let second = or_false (c == right_square_bracket) _ first.1 in
    rw (first.0, second.0, second.1) refl

-- and ends no line
in_line : (within : Within) (c : ℕ) → marks within c ≡ false → is_line_terminator c ≡ false
in_line Body c e =
    let first = or_false (c == backslash) _ e in
    let second = or_false (c == left_square_bracket) _ first.1 in
    (or_false (c == slash) _ second.1).1
in_line Class c e =
    let first = or_false (c == backslash) _ e in
    (or_false (c == right_square_bracket) _ first.1).1

-- none of the marks ends a line
marks_in_line : (is_line_terminator backslash ≡ false) × (is_line_terminator left_square_bracket ≡ false)
    × (is_line_terminator right_square_bracket ≡ false) × (is_line_terminator slash ≡ false)
unfolding is_line_terminator
marks_in_line = (refl, refl, refl, refl)

stays : (s : At) → StaysInLine s s
stays s = record { text = refl; line = refl; onward = omega arith; fewer = omega arith }

stays_then : (a b c : At) → StaysInLine a b → StaysInLine b c → StaysInLine a c
stays_then a b c h g = record {
  text = g.text ∙ h.text;
  line = h.line ∙ g.line;
  onward = omega (arith, h.onward, g.onward);
  fewer = omega (arith, h.fewer, g.fewer);
}

-- one character of the line
stays_past : (old new : At) (c : ℕ) (cs : List ℕ) → rest old ≡ c ∷ cs → is_line_terminator c ≡ false
    → StepsPast old new → old.place ≤ new.place → StaysInLine old new
stays_past old new c cs here e past onward =
    let step = past c cs here in
    record {
      text = step.0;
      line = ap (from_first is_line_terminator) here ∙ from_first-cons is_line_terminator c cs e
          ∙ ap (from_first is_line_terminator) (sym step.1);
      onward = onward;
      fewer = omega (arith, ap length here, ap length step.1);
    }

pub passes_then : (within : Within) (a b c : At) → PassesParts within a b → PassesParts within b c
    → PassesParts within a c
passes_then within a b c h g = record { stays = stays_then a b c h.stays g.stays; left = h.left ∙ g.left }

run_left : (within : Within) (table : List Bool) (run left : List ℕ) → TellsClass (λ b. not (marks within b)) table
    → IsRun table run → behind_all (part_of within) (run ++ left) ≡ behind_all (part_of within) left
run_left within table [] left tells is = refl
run_left within table (b ∷ bs) left tells is =
    one_part (part_of within) (finds_of within) (b ∷ (bs ++ left)) (bs ++ left)
    (character_part within b (bs ++ left) (not_true (marks within b) (sym (tells.tells b is.0) ∙ is.1)))
    ∙ run_left within table bs left tells is.2

pub passes_run : (within : Within) (table : List Bool) (old new : At) → TellsClass (λ b. not (marks within b)) table
    → new.text ≡ old.text → PassesRun table old.text old.place new.place → PassesParts within old new
passes_run within table old new tells text run =
    let here : rest old ≡ run.run ++ rest new =
    run.here ∙ ap (λ t. run.run ++ from_place t new.place) (sym text) in
    record {
      stays = record {
        text = text;
        line =
            ap (from_first is_line_terminator) here
            ∙ from_first-run is_line_terminator table
            (λ b low m. in_line within b (not_true (marks within b) (sym (tells.tells b low) ∙ m))) run.run (rest new)
            run.all;
        onward = run.onward;
        fewer = run_fewer table old new text run;
      };
      left = ap (behind_all (part_of within)) here ∙ run_left within table run.run (rest new) tells run.all;
    }

-- a character beyond ASCII stands for itself where it ends no line
wide_unmarked : (within : Within) (c : ℕ) → 128 ≤ c → is_line_terminator c ≡ false → marks within c ≡ false
wide_unmarked Body c h e = rw e (grind (arith, nat_tests))
wide_unmarked Class c h e = rw e (grind (arith, nat_tests))

pub passes_wide : (within : Within) (b : ℕ) (old new : At) → 128 ≤ b → HasFirstByte b (rest old)
    → begins is_line_terminator (rest old) ≡ false → StepsPast old new → old.place ≤ new.place
    → PassesParts within old new × (length (rest new) < length (rest old))
passes_wide within b old new h first in_line past onward = of (rest old) refl first in_line
  where
    of : (text : List ℕ) → rest old ≡ text → HasFirstByte b text → begins is_line_terminator text ≡ false
        → PassesParts within old new × (length (rest new) < length (rest old))
    of [] here first e = absurd first
    of (c ∷ cs) here first e =
        let step = past c cs here in
        let unmarked = wide_unmarked within c (wide_first b c cs h first) e in (
          record {
            stays = stays_past old new c cs here e past onward;
            left =
                one_part (part_of within) (finds_of within) (rest old) cs
                (ap (part_of within) here ∙ character_part within c cs unmarked)
                ∙ ap (behind_all (part_of within)) (sym step.1);
          },
          omega (arith, ap length here, ap length step.1),
        )

-- a `\` and a character of the line are a part
escaped_part : (within : Within) (c : ℕ) (cs : List ℕ) → is_line_terminator c ≡ false
    → part_of within (backslash ∷ c ∷ cs) ≡ Some cs
escaped_part Body c cs e = rw e refl
escaped_part Class c cs e = rw e refl

pub passes_backslash : (within : Within) (old new : At) → PassesBackslash old new true → PassesParts within old new
    × (length (rest new) < length (rest old))
passes_backslash within old new passed =
    let whole = passed.whole refl in
    let c = whole.0 in
    let here = whole.1 in
    let e = whole.2 in (
      record {
        stays = record {
          text = passed.text;
          line =
              ap (from_first is_line_terminator) here
              ∙ from_first-cons is_line_terminator backslash (c ∷ rest new) marks_in_line.0
              ∙ from_first-cons is_line_terminator c (rest new) e;
          onward = passed.onward;
          fewer = omega (arith, ap length here);
        };
        left =
            one_part (part_of within) (finds_of within) (rest old) (rest new)
            (ap (part_of within) here ∙ escaped_part within c (rest new) e);
      },
      omega (arith, ap length here),
    )

-- where the line ends, it ends here
line_ends : (text : List ℕ) → is_line_end text ≡ true → from_first is_line_terminator text ≡ text
line_ends [] e = refl
line_ends (c ∷ cs) e = rw e refl

-- what ends a line is none of the marks that do not
other : (mark c : ℕ) → is_line_terminator mark ≡ false → is_line_terminator c ≡ true → (c == mark) ≡ false
other mark c none e =
    elim (true_or_false (c == mark)) [
      | inl is ↦ absurd (let no : true ≡ false = sym e ∙ ap is_line_terminator (eqb-true c mark is) ∙ none in cc)
      | inr differs ↦ differs
    ]

-- no part begins where the line ends
no_part_at_end : (within : Within) (text : List ℕ) → is_line_end text ≡ true → part_of within text ≡ None
no_part_at_end Body [] e = refl
no_part_at_end Class [] e = refl
no_part_at_end Body (c ∷ cs) e =
    rw (
      other backslash c marks_in_line.0 e,
      other left_square_bracket c marks_in_line.1 e,
      other slash c marks_in_line.3 e,
      e,
    ) refl
no_part_at_end Class (c ∷ cs) e =
    rw (other backslash c marks_in_line.0 e, other right_square_bracket c marks_in_line.2 e, e) refl

-- nor where a `\` stands before the end of the line
no_part_at_backslash : (within : Within) (left : List ℕ) → is_line_end left ≡ true
    → part_of within (backslash ∷ left) ≡ None
no_part_at_backslash Body [] e = refl
no_part_at_backslash Class [] e = refl
no_part_at_backslash Body (c ∷ cs) e = rw e refl
no_part_at_backslash Class (c ∷ cs) e = rw e refl

-- what ends a line begins nothing else
not_at_end : (mark : ℕ) (text : List ℕ) → is_line_terminator mark ≡ false → is_line_end text ≡ true
    → begins (λ c. c == mark) text ≡ false
not_at_end mark [] none e = refl
not_at_end mark (c ∷ cs) none e = other mark c none e

class_open : (text left : List ℕ) → behind_all behind_class_character text ≡ left
    → begins (λ c. c == right_square_bracket) left ≡ false → behind_class text ≡ None
class_open text left e none = ap behind_bracket e ∙ (rw none refl)

pub class_closes : (old mid new : At) → PassesParts Class old mid
    → begins (λ c. c == right_square_bracket) (rest mid) ≡ true → StepsPast mid new → mid.place ≤ new.place
    → PassesClass old new true
class_closes old mid new passed closed past onward =
    let here = first_is right_square_bracket (rest mid) closed in
    let step = past right_square_bracket (drop 1 (rest mid)) here in
    let none : behind_class_character (rest mid) ≡ None = ap behind_class_character here in
    let left = passed.left ∙ no_part behind_class_character (rest mid) none in
    let behind : behind_bracket (rest mid) ≡ Some (drop 1 (rest mid)) = rw closed refl in (
      ap behind_bracket left ∙ behind ∙ ap Some (sym step.1),
      stays_then old mid new passed.stays
          (stays_past mid new right_square_bracket (drop 1 (rest mid)) here marks_in_line.2 past onward),
    )

-- a line that ends right behind a `\`
broken_at_backslash : (old mid new : At) → StaysInLine old mid → PassesBackslash mid new false → IsAtLineEnd old new
broken_at_backslash old mid new stays passed =
    let broken = passed.broken refl in
    record {
      text = passed.text ∙ stays.text;
      line = stays.line ∙ ap (from_first is_line_terminator) broken.0
          ∙ from_first-cons is_line_terminator backslash (rest new) marks_in_line.0 ∙ line_ends (rest new) broken.1;
      onward = omega (arith, stays.onward, passed.onward);
    }

broken_here : (old new : At) → StaysInLine old new → is_line_end (rest new) ≡ true → IsAtLineEnd old new
broken_here old new stays e = record {
  text = stays.text;
  line = stays.line ∙ line_ends (rest new) e;
  onward = stays.onward;
}

-- what is left where a `\` is the last character of a line
left_at_backslash : (within : Within) (old mid new : At) → PassesParts within old mid → PassesBackslash mid new false
    → behind_all (part_of within) (rest old) ≡ backslash ∷ rest new
left_at_backslash within old mid new passed slash =
    let broken = slash.broken refl in
    passed.left
    ∙ no_part (part_of within) (rest mid)
    (ap (part_of within) broken.0 ∙ no_part_at_backslash within (rest new) broken.1)
    ∙ broken.0

left_at_end : (within : Within) (old new : At) → PassesParts within old new → is_line_end (rest new) ≡ true
    → behind_all (part_of within) (rest old) ≡ rest new
left_at_end within old new passed e =
    passed.left ∙ no_part (part_of within) (rest new) (no_part_at_end within (rest new) e)

pub class_breaks_at_backslash : (old mid new : At) → PassesParts Class old mid → PassesBackslash mid new false
    → PassesClass old new false
class_breaks_at_backslash old mid new passed slash = (
  class_open (rest old) (backslash ∷ rest new) (left_at_backslash Class old mid new passed slash) refl,
  broken_at_backslash old mid new passed.stays slash,
)

pub class_breaks : (old new : At) → PassesParts Class old new → is_line_end (rest new) ≡ true
    → PassesClass old new false
class_breaks old new passed e = (
  class_open (rest old) (rest new) (left_at_end Class old new passed e)
      (not_at_end right_square_bracket (rest new) marks_in_line.2 e),
  broken_here old new passed.stays e,
)

pub body_breaks_at_backslash : (old mid new : At) → PassesParts Body old mid → PassesBackslash mid new false
    → PassesBody old new false
body_breaks_at_backslash old mid new passed broken = (
  ap (begins (λ c. c == slash)) (left_at_backslash Body old mid new passed broken),
  broken_at_backslash old mid new passed.stays broken,
)

pub body_breaks : (old new : At) → PassesParts Body old new → is_line_end (rest new) ≡ true → PassesBody old new false
body_breaks old new passed e = (
  ap (begins (λ c. c == slash)) (left_at_end Body old new passed e)
      ∙ not_at_end slash (rest new) marks_in_line.3 e,
  broken_here old new passed.stays e,
)

-- the `[` of a class
opening_past : (mid behind : At) → begins (λ c. c == left_square_bracket) (rest mid) ≡ true → StepsPast mid behind
    → mid.place ≤ behind.place → (rest mid ≡ left_square_bracket ∷ rest behind) × StaysInLine mid behind
opening_past mid behind opened past onward =
    let here = first_is left_square_bracket (rest mid) opened in
    let step = past left_square_bracket (drop 1 (rest mid)) here in (
      here ∙ ap (λ t. left_square_bracket ∷ t) (sym step.1),
      stays_past mid behind left_square_bracket (drop 1 (rest mid)) here marks_in_line.1 past onward,
    )

pub body_class : (old mid behind new : At) → PassesParts Body old mid
    → begins (λ c. c == left_square_bracket) (rest mid) ≡ true → StepsPast mid behind → mid.place ≤ behind.place
    → PassesClass behind new true → PassesParts Body old new × (length (rest new) < length (rest mid))
body_class old mid behind new passed opened past onward closed =
    let opening = opening_past mid behind opened past onward in
    let part : behind_body_character (rest mid) ≡ Some (rest new) =
    ap behind_body_character opening.0 ∙ closed.0 in (
      record {
        stays =
            stays_then old mid new passed.stays
            (stays_then mid behind new opening.1 closed.1);
        left = passed.left ∙ one_part behind_body_character finds_body_characters (rest mid) (rest new) part;
      },
      omega (arith, ap length opening.0, closed.1.fewer),
    )

pub body_breaks_in_class : (old mid behind new : At) → PassesParts Body old mid
    → begins (λ c. c == left_square_bracket) (rest mid) ≡ true → StepsPast mid behind → mid.place ≤ behind.place
    → PassesClass behind new false → PassesBody old new false
body_breaks_in_class old mid behind new passed opened past onward unclosed =
    let opening = opening_past mid behind opened past onward in
    let none : behind_body_character (rest mid) ≡ None = ap behind_body_character opening.0 ∙ unclosed.0 in
    let before = stays_then old mid behind passed.stays opening.1 in (
      ap (begins (λ c. c == slash)) (passed.left ∙ no_part behind_body_character (rest mid) none ∙ opening.0),
      record {
        text = unclosed.1.text ∙ before.text;
        line = before.line ∙ unclosed.1.line;
        onward = omega (arith, before.onward, unclosed.1.onward);
      },
    )

-- the bytes up to a place lead there
pub size_to : (old new : At) (kind : Kind) → new.text ≡ old.text
    → Leaves (rest old) (rest new) → old.place + size_of (read_up_to kind (rest old) (rest new)) ≡ new.place
size_to old new kind text left =
    omega (
      arith,
      leads_to old new left.0 text left.1,
      ap (λ xs. length (encode_utf8_all xs)) (taken_is (rest old) left.0 (rest new) left.1),
    )

-- and so do those from a mark of one byte on, which stands before
pub size_from_mark : (mark start : ℕ) (old new : At) (kind : Kind) → mark < 128 → start + 1 ≡ old.place
    → new.text ≡ old.text → Leaves (rest old) (rest new)
    → start + size_of (read_up_to kind (mark ∷ rest old) (rest new)) ≡ new.place
size_from_mark mark start old new kind low begun text left =
    omega (
      arith,
      begun,
      leads_to old new left.0 text left.1,
      ap (λ xs. length (encode_utf8_all xs))
          (taken_is (mark ∷ rest old) (mark ∷ left.0) (rest new) (ap (λ t. mark ∷ t) left.1)),
      one_byte mark low,
      length-append (encode_utf8 mark) (encode_utf8_all left.0),
      length-append (encode_utf8 mark) [],
    )
