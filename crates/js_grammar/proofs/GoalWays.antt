-- The ways in which goals read: plainly, a part of a template, or a token without an escape.
use Rattle.std.proofs.lemmas.Str.{length-le-encodes}
use Rattle.std.proofs.Common.{◌≢◌, ◌+◌, [], length}
use Rattle.std.proofs.Common.{◌≡◌, ℕ, ◌<◌, ◌≤◌, Bool, true, false, List, ◌∷◌, ◌++◌, refl, sym, ◌∙◌, ap, subst, arith}
use Rattle.std.proofs.Common.{Option, None, Some}
use Rattle.std.specs.Prelude.{IfSome}
use Rattle.std.specs.List.{list_all}
use Rattle.std.specs.Str.{IsCharBoundary, IsUtf8}
use Rattle.js_text.specs.Characters.{from_place}
use Rattle.js_text.specs.declared.source_type.SourceType.{SourceType}
use Rattle.js_kind.specs.Kinds.{kind_text}
use Rattle.js_kind.specs.TokenParts.{TokenParts}
use Rattle.js_kind.specs.declared.kind.Kind.{Kind}
use Rattle.js_grammar.specs.Angle.{angle_reading, right_angles, first_left_angle, first_right_angle}
use Rattle.js_grammar.specs.Reading.{Reading, size_of, moved_value}
use Rattle.js_grammar.specs.Goals.{GoalReads, ReadsAgain, ReadsAngle, ReadsAttributeString, ReadsAttributeValue}
use Rattle.js_grammar.specs.Goals.{ReadsExpression}
use Rattle.js_grammar.specs.Goals.{ReadsFrom, ReadsJsxName, ReadsOn, ReadsPart, ReadsPlainly, line_has_ended_behind}
use Rattle.js_grammar.specs.Goals.{ReadsJsxChild, with_warnings}
use Rattle.js_grammar.specs.Goals.ReadsAttributeValue.{string, plain}
use Rattle.js_grammar.specs.Goals.ReadsPlainly.{behind_gap}
use Rattle.js_grammar.specs.Jsx.{jsx_child_reading, jsx_name_reading, jsx_string_reading, jsx_child_warnings}
use Rattle.js_grammar.specs.Outcome.{Outcome, outcome_at}
use Rattle.js_grammar.specs.RegularExpression.{regular_expression_reading}
use Rattle.js_grammar.specs.ReLexed.{HasSpelling, is_re_lexed}
use Rattle.js_grammar.specs.TokenText.{is_private_name, is_quoted, closing_length}
use Rattle.js_kind.specs.declared.kind.Kind.TheVariants.{Eof, Str}
use Rattle.js_grammar.specs.TokenText.{unescaped_value}
use Rattle.js_grammar.specs.declared.goal.Goal.{Goal}
use Rattle.js_grammar.specs.declared.goal.Goal.TheVariants.{First, Next, TemplateTail as TailGoal}
use Rattle.js_grammar.specs.declared.goal.Goal.TheVariants.{RegularExpression, RightAngle, TypeScriptLeftAngle}
use Rattle.js_grammar.specs.declared.goal.Goal.TheVariants.{TypeScriptRightAngle, JsxIdentifier, JsxChild}
use Rattle.js_grammar.specs.declared.goal.Goal.TheVariants.{JsxAttributeValue}
use Rattle.js_grammar.proofs.GoalReadings.{IsBetweenQuotes, IsRead, angle_is_read, angles, attribute_is_read}
use Rattle.js_grammar.proofs.GoalReadings.{child_is_read, expression_read, is_angle, jsx_name_is_read}
use Rattle.js_grammar.proofs.ReadingLemmas.{unescaped_value_moved}
use Rattle.js_grammar.proofs.Spans.{IsSpan, part_span, plainly_places, plainly_span, taken_span}

-- A token without an escape was read from its start on: what is known of it.
pub record Takes (text : List ℕ) (o : Outcome) : Type 0 where
  pub begins : IsCharBoundary text o.token.start
  pub end : IsCharBoundary text o.token.end
  pub span : IsUtf8 text → IsSpan o.token
  pub escaped : o.token.escaped ≡ false
  pub value : o.value ≡ unescaped_value o.token.kind o.token.start o.token.end
  pub no_private : is_private_name o.token.kind ≡ false
  pub spelling : HasSpelling text o.token
  pub quotes : is_quoted o.token.kind ≡ true
      → IsBetweenQuotes (from_place text o.token.start) (from_place text o.token.end) o.token.kind

pub found_is_read : (text : List ℕ) (read : Option Reading) (found : Reading) → read ≡ Some found
    → IfSome read (IsRead text) → IsRead text found
found_is_read text read found e is = subst (λ r. IfSome r (IsRead text)) e is

-- the mark that ends a string of an attribute is among its bytes
quotes_size : (text : List ℕ) (found : Reading) (is : IsRead text found) → is_quoted found.kind ≡ true
    → closing_length found.kind ≤ size_of found
quotes_size text found is quoted =
    let string : found.kind ≡ Str = (is.quotes quoted).kind_is in
    let some = some_length found.taken (is.taken.some (λ end. let no : Str ≡ Eof = sym string ∙ end in cc)) in
    omega (arith, ap closing_length string, length-le-encodes found.taken, some)
  where
    some_length : (xs : List ℕ) → xs ≢ [] → 0 < length xs
    some_length [] some = absurd (some refl)
    some_length (x ∷ xs) some = omega arith

-- what was read from the start on, from this place of it
outcome_takes : (text : List ℕ) (line_has_ended : Bool) (start : ℕ) (found : Reading) (o : Outcome)
    → IsCharBoundary text start → IsCharBoundary text o.token.end → found.rest ≡ from_place text o.token.end
    → IsRead (from_place text start) found → o ≡ outcome_at line_has_ended start found → Takes text o
outcome_takes text line_has_ended start found o begins end rest is outcome =
    let at : o.token.start ≡ start = ap (λ x. x.token.start) outcome in
    let kind : o.token.kind ≡ found.kind = ap (λ x. x.token.kind) outcome in
    let ends : o.token.end ≡ start + size_of found = ap (λ x. x.token.end) outcome in
    let here : from_place text start ≡ found.taken ++ from_place text o.token.end =
    is.taken.here ∙ ap (λ r. found.taken ++ r) rest in
    record {
      begins = subst (IsCharBoundary text) (sym at) begins;
      end = end;
      span = λ u.
          let way = taken_span text start o.token.end found u begins end rest is.taken in
          record {
            ordered = subst (λ (n : ℕ). n ≤ o.token.end) (sym at) way.0;
            some_text =
                λ some. subst (λ (n : ℕ). n < o.token.end) (sym at) (way.1 (λ e. some (kind ∙ e)));
          };
      escaped = ap (λ x. x.token.escaped) outcome ∙ is.escaped;
      value = ap (λ x. x.value) outcome ∙ ap (moved_value start) is.value
          ∙ unescaped_value_moved found.kind start (size_of found) (quotes_size (from_place text start) found is)
          ∙ ap (λ n. unescaped_value found.kind start n) (sym ends)
          ∙ ap (λ k. unescaped_value k start o.token.end) (sym kind)
          ∙ ap (λ n. unescaped_value o.token.kind n o.token.end) (sym at);
      no_private = ap is_private_name kind ∙ is.no_private;
      spelling = λ again.
          ap (from_place text) at ∙ here
          ∙ ap (λ xs. xs ++ from_place text o.token.end)
          (is.spelling (ap is_re_lexed (sym kind) ∙ again) ∙ ap kind_text (sym kind));
      quotes = λ quoted.
          let between = is.quotes (ap is_quoted (sym kind) ∙ quoted) in
          record {
            quote = between.quote;
            is_quote = between.is_quote;
            inner = between.inner;
            here = ap (from_place text) at ∙ between.here
                ∙ ap (λ r. between.quote ∷ (between.inner ++ (between.quote ∷ r))) rest;
            kind_is = kind ∙ between.kind_is;
          };
    }

pub from_takes : (text : List ℕ) (line_has_ended : Bool) (start : ℕ) (read : Option Reading) (o : Outcome)
    → IfSome read (IsRead (from_place text start)) → ReadsFrom text line_has_ended start read o → Takes text o
from_takes text line_has_ended start read o is reads =
    outcome_takes text line_has_ended start reads.found o reads.begins reads.end reads.rest
    (found_is_read (from_place text start) read reads.found reads.read_is is) reads.outcome_is

pub jsx_name_takes : (text : List ℕ) (name : TokenParts) (o : Outcome) → ReadsJsxName text name o → Takes text o
jsx_name_takes text name o reads =
    let from = reads.reads in
    let behind = from_place text name.end in
    outcome_takes text false name.start from.found o from.begins from.end from.rest
    (subst (λ h. IsRead h from.found) (sym reads.here)
    (found_is_read (reads.part ++ behind) (jsx_name_reading reads.part behind) from.found from.read_is
    (jsx_name_is_read reads.part behind))) from.outcome_is

string_takes : (text : List ℕ) (t : SourceType) (before : Option TokenParts) (place : ℕ) (o : Outcome)
    → ReadsAttributeString text t before place o → Takes text o
string_takes text t before place o reads =
    let start = o.token.start in
    let took =
    from_takes text reads.line_has_ended start (jsx_string_reading (from_place text start)) reads.string
    (attribute_is_read (from_place text start)) reads.reads in
    rw (reads.outcome_is) (record {
      begins = took.begins;
      end = took.end;
      span = took.span;
      escaped = took.escaped;
      value = took.value;
      no_private = took.no_private;
      spelling = took.spelling;
      quotes = took.quotes;
    })

-- How a reading was made.
pub data Way (text : List ℕ) (t : SourceType) (before : Option TokenParts) (place : ℕ) (o : Outcome) : Type 0 where
  plainly : (goal : Goal) → ReadsPlainly text t goal before place o → Way text t before place o
  part_on : (start : ℕ) → ReadsPart text start o → Way text t before place o
  alone : Takes text o → Way text t before place o

-- the ways of readings of a token that is read again
again : (text : List ℕ) (t : SourceType) (place : ℕ) (reads : ℕ → Outcome → Type 0) (before : Option TokenParts)
    (o : Outcome) → ((start : ℕ) → reads start o → Way text t before place o) → ReadsAgain reads before o
    → Way text t before place o
again text t place reads None o way r = absurd r
again text t place reads (Some token) o way r = way token.start r

on : (text : List ℕ) (t : SourceType) (place : ℕ) (reads : TokenParts → Outcome → Type 0) (before : Option TokenParts)
    (o : Outcome) → ((name : TokenParts) → reads name o → Way text t before place o) → ReadsOn reads before o
    → Way text t before place o
on text t place reads None o way r = absurd r
on text t place reads (Some token) o way r = way token r

angle_way : (text : List ℕ) (t : SourceType) (place : ℕ) (before : Option TokenParts) (kinds : List Kind) (o : Outcome)
    → list_all is_angle kinds ≡ true → ReadsAgain (ReadsAngle text kinds) before o
    → Way text t before place o
angle_way text t place before kinds o all reads =
    again text t place (ReadsAngle text kinds) before o
    (λ start r. alone (from_takes text false start (angle_reading kinds (from_place text start)) o
    (angle_is_read kinds (from_place text start) all) r)) reads

attribute_way : (text : List ℕ) (t : SourceType) (before : Option TokenParts) (place : ℕ) (o : Outcome)
    → ReadsAttributeValue text t before place o → Way text t before place o
attribute_way text t before place o (string reads) = alone (string_takes text t before place o reads)
attribute_way text t before place o (plain no_quote reads) = plainly Next (behind_gap refl reads)

-- warnings change nothing of a token
child_takes : (text : List ℕ) (line_has_ended : Bool) (place : ℕ) (o : Outcome)
    → ReadsJsxChild text line_has_ended place o → Takes text o
child_takes text line_has_ended place o reads =
    subst (Takes text) (sym reads.outcome_is)
    (warned
    (from_takes text line_has_ended place (Some (jsx_child_reading (from_place text place))) reads.child
    (child_is_read (from_place text place)) reads.reads))
  where
    warned : Takes text reads.child
        → Takes text (with_warnings (jsx_child_warnings place (from_place text place)) reads.child)
    warned t = record {
      begins = t.begins;
      end = t.end;
      span = t.span;
      escaped = t.escaped;
      value = t.value;
      no_private = t.no_private;
      spelling = t.spelling;
      quotes = t.quotes;
    }

pub ways : (text : List ℕ) (t : SourceType) (goal : Goal) (before : Option TokenParts) (place : ℕ) (o : Outcome)
    → GoalReads text t goal before place o → Way text t before place o
ways text t First before place o reads = plainly First reads
ways text t Next before place o reads = plainly Next reads
ways text t TailGoal before place o reads = again text t place (ReadsPart text) before o part_on reads
ways text t RegularExpression before place o reads =
    again text t place (ReadsExpression text) before o
    (λ start r. alone (from_takes text false start (regular_expression_reading (from_place text start)) o
    (expression_read (from_place text start)) r)) reads
ways text t RightAngle before place o reads = angle_way text t place before right_angles o angles.longest reads
ways text t TypeScriptLeftAngle before place o reads =
    angle_way text t place before first_left_angle o angles.left reads
ways text t TypeScriptRightAngle before place o reads =
    angle_way text t place before first_right_angle o angles.right reads
ways text t JsxIdentifier before place o reads =
    on text t place (ReadsJsxName text) before o (λ name r. alone (jsx_name_takes text name o r)) reads
ways text t JsxChild before place o reads =
    alone (child_takes text (line_has_ended_behind before) place o reads)
ways text t JsxAttributeValue before place o reads = attribute_way text t before place o reads

-- Each token that is read has a span in order, with a byte at least but for the end of the source.
pub goal_reads_span : (text : List ℕ) (t : SourceType) (goal : Goal) (before : Option TokenParts) (place : ℕ)
    (o : Outcome) → IsUtf8 text
    → GoalReads text t goal before place o → IsSpan o.token
goal_reads_span text t goal before place o u reads = by_way (ways text t goal before place o reads)
  where
    by_way : Way text t before place o → IsSpan o.token
    by_way (plainly goal reads) = plainly_span text t goal before place o u reads
    by_way (part_on start reads) = part_span text start o u reads
    by_way (alone took) = took.span u

-- and its ends are places
pub goal_reads_places : (text : List ℕ) (t : SourceType) (goal : Goal) (before : Option TokenParts) (place : ℕ)
    (o : Outcome) → IsUtf8 text
    → GoalReads text t goal before place o → IsCharBoundary text o.token.start × IsCharBoundary text o.token.end
goal_reads_places text t goal before place o u reads = by_way (ways text t goal before place o reads)
  where
    by_way : Way text t before place o → IsCharBoundary text o.token.start × IsCharBoundary text o.token.end
    by_way (plainly goal reads) = plainly_places text t goal before place o u reads
    by_way (part_on start reads) =
        let at : o.token.start ≡ start = ap (λ x. x.token.start) reads.outcome_is in
        (subst (IsCharBoundary text) (sym at) reads.begins, reads.end)
    by_way (alone took) = (took.begins, took.end)
