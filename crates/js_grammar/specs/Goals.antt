-- What a reading of each goal gives.
use Rattle.std.specs.Prelude.{◌≡◌, ℕ, ◌≤◌, Bool, true, false, List, [], ◌∷◌, Option, Some, None, is_none, ◌↔◌}
use Rattle.std.specs.Prelude.{◌++◌, length}
use Rattle.std.specs.Str.{IsCharBoundary, encode_utf8_all}
use Rattle.js_text.specs.Characters.{begins, from_place}
use Rattle.js_text.specs.declared.source_type.SourceType.{SourceType}
use Rattle.js_text.specs.declared.span.Span.{Span}
use Rattle.js_text.specs.declared.value.RowValue.TheVariants.{Nothing}
use Rattle.js_grammar.specs.Angle.{angle_reading, right_angles, first_left_angle, first_right_angle}
use Rattle.js_grammar.specs.Gap.{Piece, WholeGap}
use Rattle.js_grammar.specs.Jsx.{jsx_name_reading, jsx_child_reading, jsx_child_warnings, jsx_string_reading}
use Rattle.js_grammar.specs.RegularExpression.{regular_expression_reading}
use Rattle.js_grammar.specs.Hashbang.{begins_hashbang, IsHashbang}
use Rattle.js_grammar.specs.Outcome.{Outcome, joined, no_findings, gap_findings, outcome_at}
use Rattle.js_grammar.specs.Reads.{PlainReads}
use Rattle.js_grammar.specs.Reading.{Reading}
use Rattle.js_grammar.specs.Recovery.{recovered}
use Rattle.js_grammar.specs.Spelling.{LongestSpelling, NothingSpelled, is_escaped, has_separator, value_of}
use Rattle.js_grammar.specs.declared.goal.Goal.{Goal}
use Rattle.js_grammar.specs.declared.goal.Goal.TheVariants.{First, Next, TemplateTail as TailGoal}
use Rattle.js_grammar.specs.declared.goal.Goal.TheVariants.{RegularExpression, RightAngle, TypeScriptLeftAngle}
use Rattle.js_grammar.specs.declared.goal.Goal.TheVariants.{TypeScriptRightAngle, JsxIdentifier, JsxChild}
use Rattle.js_grammar.specs.declared.goal.Goal.TheVariants.{JsxAttributeValue}
use Rattle.js_grammar.specs.StringItems.{is_quote}
use Rattle.js_grammar.specs.Template.{template_part_reading}
use Rattle.js_grammar.specs.UnicodeEscape.{right_curly_bracket}
use Rattle.js_kind.specs.TokenParts.{TokenParts}
use Rattle.js_kind.specs.declared.kind.Kind.{Kind}
use Rattle.js_kind.specs.declared.kind.Kind.TheVariants.{TemplateMiddle, TemplateTail}

-- what is read where these characters are spelled, with this kind, and this is left behind them
abbrev pub spelled_reading : List ℕ → List ℕ → Kind → Reading
spelled_reading xs rest kind = record {
  taken = xs;
  rest = rest;
  kind = kind;
  line_ended = false;
  escaped = is_escaped kind xs;
  has_separator = has_separator kind xs;
  value = value_of kind xs rest (length (encode_utf8_all xs));
  regex = None;
  diagnostics = [];
}

-- Where a gap has ended: the longest spelling, which reports nothing, or else what is read to recover.
pub data ReadsHere (t : SourceType) (line_has_ended : Bool) (here : List ℕ) (reading : Reading) : Type 0 where
  spelled : (xs : List ℕ) → LongestSpelling t line_has_ended here xs reading.rest reading.kind
      → reading ≡ spelled_reading xs reading.rest reading.kind → ReadsHere t line_has_ended here reading
  recovers : NothingSpelled t line_has_ended here → recovered here ≡ Some reading
      → ReadsHere t line_has_ended here reading

-- an outcome, with a whole gap of these pieces at the place before its token
abbrev pub with_gap : SourceType → Option TokenParts → ℕ → List Piece → Outcome → Outcome
with_gap t before place pieces outcome =
    record outcome { findings = joined (gap_findings t before place pieces outcome.token) outcome.findings }

-- A line has ended before the first token of a lexer, and before no other.
abbrev pub line_has_ended_behind : Option TokenParts → Bool
line_has_ended_behind before = is_none before

-- A token behind a whole gap; `before` is the token before the gap, if there is one.
pub record ReadsBehindGap (text : List ℕ) (t : SourceType) (before : Option TokenParts) (place : ℕ) (outcome : Outcome)
    : Type 0 where
  pub pieces : List Piece
  pub line_has_ended : Bool
  pub gap : WholeGap t (line_has_ended_behind before) (from_place text place) pieces line_has_ended
      (from_place text outcome.token.start)
  pub start : IsCharBoundary text outcome.token.start
  pub end : IsCharBoundary text outcome.token.end
  pub reading : Reading
  pub here : ReadsHere t line_has_ended (from_place text outcome.token.start) reading
  pub rest : reading.rest ≡ from_place text outcome.token.end
  pub outcome_is : outcome
      ≡ with_gap t before place pieces (outcome_at line_has_ended outcome.token.start reading)

-- a token that is read with nothing beside it
abbrev pub token_alone : TokenParts → Outcome
token_alone token = record { token = token; value = Nothing; regex = None; findings = no_findings }

-- The hashbang comment that a source begins with.
pub record ReadsHashbang (text : List ℕ) (line_has_ended : Bool) (outcome : Outcome) : Type 0 where
  pub is_hashbang : IsHashbang text outcome.token
  pub is_on_new_line : outcome.token.is_on_new_line ≡ line_has_ended
  pub escaped : outcome.token.escaped ≡ false
  pub has_separator : outcome.token.has_separator ≡ false
  pub alone : outcome ≡ token_alone outcome.token

-- The reading of the first or the plain goal from a place on; `before` is the token before its gap, if there is one.
pub data ReadsPlainly (text : List ℕ) (t : SourceType) (goal : Goal) (before : Option TokenParts) (place : ℕ)
    (outcome : Outcome) : Type 0 where
  hashbang : begins_hashbang goal text place ≡ true → ReadsHashbang text (line_has_ended_behind before) outcome
      → ReadsPlainly text t goal before place outcome
  behind_gap : begins_hashbang goal text place ≡ false
      → ReadsBehindGap text t before place outcome
      → ReadsPlainly text t goal before place outcome

-- what is read of a part of a template from the `}` on that begins it
abbrev pub next_part : List ℕ → Reading
next_part here = template_part_reading TemplateMiddle TemplateTail here

-- The next part of a template, from the `}` on that stands at the start: no gap is before it.
pub record ReadsPart (text : List ℕ) (start : ℕ) (outcome : Outcome) : Type 0 where
  pub begins : IsCharBoundary text start
  pub behind : List ℕ
  pub here : from_place text start ≡ right_curly_bracket ∷ behind
  pub end : IsCharBoundary text outcome.token.end
  pub rest : (next_part (from_place text start)).rest ≡ from_place text outcome.token.end
  pub outcome_is : outcome ≡ outcome_at false start (next_part (from_place text start))

-- A token is read again, from its start.
abbrev pub ReadsAgain : (ℕ → Outcome → Type 0) → Option TokenParts → Outcome → Type 0
ReadsAgain reads None outcome = ⊥
ReadsAgain reads (Some token) outcome = reads token.start outcome

-- A token from the start on, of which this was read, if there is one.
pub record ReadsFrom (text : List ℕ) (line_has_ended : Bool) (start : ℕ) (read : Option Reading) (outcome : Outcome)
    : Type 0 where
  pub begins : IsCharBoundary text start
  pub found : Reading
  pub read_is : read ≡ Some found
  pub end : IsCharBoundary text outcome.token.end
  pub rest : found.rest ≡ from_place text outcome.token.end
  pub outcome_is : outcome ≡ outcome_at line_has_ended start found

-- The regular expression that begins at the start.
abbrev pub ReadsExpression : List ℕ → ℕ → Outcome → Type 0
ReadsExpression text start outcome =
    ReadsFrom text false start (regular_expression_reading (from_place text start)) outcome

-- The first of these punctuators that the start begins with.
abbrev pub ReadsAngle : List ℕ → List Kind → ℕ → Outcome → Type 0
ReadsAngle text kinds start outcome = ReadsFrom text false start (angle_reading kinds (from_place text start)) outcome

-- The name of JSX that goes on behind a name.
pub record ReadsJsxName (text : List ℕ) (name : TokenParts) (outcome : Outcome) : Type 0 where
  pub ordered : name.start ≤ name.end
  pub name_end : IsCharBoundary text name.end
  pub part : List ℕ
  pub here : from_place text name.start ≡ part ++ from_place text name.end
  pub reads : ReadsFrom text false name.start (jsx_name_reading part (from_place text name.end)) outcome

-- what was read, and these warnings
abbrev pub with_warnings : List Span → Outcome → Outcome
with_warnings warnings outcome = record outcome { findings = record outcome.findings { warnings = warnings } }

-- What JSX has between tags, from the place on, with a warning of each `>` in it.
pub record ReadsJsxChild (text : List ℕ) (line_has_ended : Bool) (place : ℕ) (outcome : Outcome) : Type 0 where
  pub child : Outcome
  pub reads : ReadsFrom text line_has_ended place (Some (jsx_child_reading (from_place text place))) child
  pub outcome_is : outcome ≡ with_warnings (jsx_child_warnings place (from_place text place)) child

-- The string of an attribute, behind a whole gap; `before` is the token before the gap, if there is one.
pub record ReadsAttributeString (text : List ℕ) (t : SourceType) (before : Option TokenParts) (place : ℕ)
    (outcome : Outcome) : Type 0 where
  pub pieces : List Piece
  pub line_has_ended : Bool
  pub gap : WholeGap t (line_has_ended_behind before) (from_place text place) pieces line_has_ended
      (from_place text outcome.token.start)
  pub string : Outcome
  pub reads : ReadsFrom text line_has_ended outcome.token.start
      (jsx_string_reading (from_place text outcome.token.start)) string
  pub outcome_is : outcome ≡ with_gap t before place pieces string

-- The value of an attribute: a string, where a quote stands behind the whole gap, or a token of the plain goal.
pub data ReadsAttributeValue (text : List ℕ) (t : SourceType) (before : Option TokenParts) (place : ℕ)
    (outcome : Outcome) : Type 0 where
  string : ReadsAttributeString text t before place outcome → ReadsAttributeValue text t before place outcome
  plain : begins is_quote (from_place text outcome.token.start) ≡ false
      → ReadsBehindGap text t before place outcome → ReadsAttributeValue text t before place outcome

-- A name is read on, from its end.
abbrev pub ReadsOn : (TokenParts → Outcome → Type 0) → Option TokenParts → Outcome → Type 0
ReadsOn reads None outcome = ⊥
ReadsOn reads (Some token) outcome = reads token outcome

-- The reading of a goal. Where a gap may come first, or what JSX has between tags, it begins at the place, and `before`
-- is the token before, if there is one; that of another goal reads `before` again, from its start.
abbrev pub GoalReads : List ℕ → SourceType → Goal → Option TokenParts → ℕ → Outcome → Type 0
GoalReads text t First before place outcome = ReadsPlainly text t First before place outcome
GoalReads text t Next before place outcome = ReadsPlainly text t Next before place outcome
GoalReads text t TailGoal before place outcome = ReadsAgain (ReadsPart text) before outcome
GoalReads text t RegularExpression before place outcome = ReadsAgain (ReadsExpression text) before outcome
GoalReads text t RightAngle before place outcome = ReadsAgain (ReadsAngle text right_angles) before outcome
GoalReads text t TypeScriptLeftAngle before place outcome =
    ReadsAgain (ReadsAngle text first_left_angle) before outcome
GoalReads text t TypeScriptRightAngle before place outcome =
    ReadsAgain (ReadsAngle text first_right_angle) before outcome
GoalReads text t JsxIdentifier before place outcome = ReadsOn (ReadsJsxName text) before outcome
GoalReads text t JsxChild before place outcome =
    ReadsJsxChild text (line_has_ended_behind before) place outcome
GoalReads text t JsxAttributeValue before place outcome = ReadsAttributeValue text t before place outcome

-- What the grammar says of a reading of the first or the plain goal: it has no diagnostic exactly where the grammar
-- reads a token, and then it is this one.
pub record AgreesWithGrammar (text : List ℕ) (t : SourceType) (goal : Goal) (before : Option TokenParts) (place : ℕ)
    (outcome : Outcome) : Type 0 where
  pub clean : (outcome.findings.diagnostics ≡ [])
      ↔ ((token : TokenParts) × PlainReads text t goal (line_has_ended_behind before) place token)
  pub plain : outcome.findings.diagnostics ≡ []
      → PlainReads text t goal (line_has_ended_behind before) place outcome.token
