-- What is read again is no hashbang comment, so it is collected where tokens are.
use Rattle.std.proofs.Common.{◌≡◌, ℕ, Bool, true, false, not, ◌==◌, List, [], ◌∷◌, refl, sym, ◌∙◌, ap, subst, inl, inr}
use Rattle.std.proofs.Common.{Option, None, Some}
use Rattle.std.specs.Prelude.{IfSome, if◌then◌else◌}
use Rattle.std.specs.List.{list_all}
use Rattle.std.specs.Option.{option_map}
use Rattle.std.proofs.lemmas.Bool.{and_parts}
use Rattle.js_text.specs.Ascii.{hyphen_minus, slash}
use Rattle.js_text.specs.Characters.{begins, from_place}
use Rattle.js_text.specs.declared.source_type.SourceType.{SourceType}
use Rattle.js_kind.specs.Kinds.{kind_text}
use Rattle.js_kind.specs.TokenParts.{TokenParts}
use Rattle.js_kind.specs.declared.kind.Kind.{Kind}
use Rattle.js_kind.specs.declared.kind.Kind.TheVariants.{RegExp, TemplateMiddle, TemplateTail}
use Rattle.js_grammar.specs.Angle.{angle_reading, right_angles, first_left_angle, first_right_angle}
use Rattle.js_grammar.specs.Gap.{is_prefix}
use Rattle.js_grammar.specs.Reading.{Reading, moved_regex}
use Rattle.js_grammar.specs.Goals.{GoalReads, ReadsAgain, ReadsAngle, ReadsFrom, next_part}
use Rattle.js_grammar.specs.Jsx.{jsx_name_reading}
use Rattle.js_grammar.specs.Outcome.{Outcome}
use Rattle.js_grammar.specs.Reads.{is_onward}
use Rattle.js_grammar.specs.RegularExpression.{behind_body, regular_expression, regular_expression_reading}
use Rattle.js_grammar.specs.Template.{template_items}
use Rattle.js_grammar.specs.UnicodeEscape.{right_curly_bracket}
use Rattle.js_grammar.specs.declared.goal.Goal.{Goal}
use Rattle.js_grammar.specs.declared.goal.Goal.TheVariants.{First, Next as NextGoal, TemplateTail as TailGoal}
use Rattle.js_grammar.specs.declared.goal.Goal.TheVariants.{RegularExpression, RightAngle, TypeScriptLeftAngle}
use Rattle.js_grammar.specs.declared.goal.Goal.TheVariants.{TypeScriptRightAngle, JsxIdentifier, JsxChild}
use Rattle.js_grammar.specs.declared.goal.Goal.TheVariants.{JsxAttributeValue}
use Rattle.js_grammar.proofs.GoalReadings.{expression_terminated, expression_unterminated}
use Rattle.js_grammar.proofs.NumberItems.{true_or_false}
use Rattle.js_grammar.proofs.QuotedValues.{part_flags, part_kind_is}
use Rattle.js_lexer.specs.Lexer.{is_hashbang}

-- what was read is no hashbang comment, and no regular expression
pub record IsPlainRead (r : Reading) : Type 0 where
  pub no_regex : r.regex ≡ None
  pub no_hashbang : is_hashbang r.kind ≡ false

pub found_is : (P : Reading → Type 0) (read : Option Reading) (found : Reading) → read ≡ Some found → IfSome read P
    → P found
found_is P read found e is = subst (λ r. IfSome r P) e is

abbrev pub no_hashbangs : Kind → Bool
no_hashbangs kind = not (is_hashbang kind)

pub by_reading : (P : Reading → Type 0) (b : Bool) (x y : Reading) → P x → P y → P (if b then x else y)
by_reading P true x y h k = h
by_reading P false x y h k = k

pub by_found : (P : Reading → Type 0) (b : Bool) (x y : Option Reading) → IfSome x P → IfSome y P
    → IfSome (if b then x else y) P
by_found P true x y h k = h
by_found P false x y h k = k

pub none_of : (kind : Kind) → no_hashbangs kind ≡ true → is_hashbang kind ≡ false
none_of kind e = by_flag (is_hashbang kind) e
  where
    by_flag : (b : Bool) → not b ≡ true → b ≡ false
    by_flag true e = absurd (cc)
    by_flag false e = refl

angle_plain : (kinds : List Kind) (text : List ℕ) → list_all no_hashbangs kinds ≡ true
    → IfSome (angle_reading kinds text) IsPlainRead
angle_plain [] text all = tt
angle_plain (k ∷ ks) text all =
    let both = and_parts (no_hashbangs k) (list_all no_hashbangs ks) all in
    by_found IsPlainRead (is_prefix (kind_text k) text) _ _
    (record { no_regex = refl; no_hashbang = none_of k both.0 }) (angle_plain ks text both.1)

name_plain : (part text : List ℕ) → IfSome (jsx_name_reading part text) IsPlainRead
name_plain part text =
    by_found IsPlainRead (begins (λ c. c == hyphen_minus) text) _ None
    (record { no_regex = refl; no_hashbang = refl }) tt

-- what was read is a regular expression
abbrev IsExpression : Reading → Type 0
IsExpression r = r.kind ≡ RegExp

expression_of_kind : (text : List ℕ) → (regular_expression text).kind ≡ RegExp
expression_of_kind text =
    elim (true_or_false (begins (λ c. c == slash) (behind_body text))) [
      | inl e ↦ ap (λ (r : Reading). r.kind) (expression_terminated (slash ∷ text) (behind_body text) e)
      | inr e ↦ ap (λ (r : Reading). r.kind) (expression_unterminated (slash ∷ text) (behind_body text) e)
    ]

expression_kind : (text : List ℕ) → IfSome (regular_expression_reading text) IsExpression
expression_kind [] = tt
expression_kind (c ∷ cs) = by_found IsExpression (c == slash) _ None (expression_of_kind cs) tt

pub from_plain : (text : List ℕ) (line_has_ended : Bool) (start : ℕ) (read : Option Reading) (o : Outcome)
    → IfSome read IsPlainRead → ReadsFrom text line_has_ended start read o
    → (o.regex ≡ None) × (is_hashbang o.token.kind ≡ false)
from_plain text line_has_ended start read o is reads =
    let found = found_is IsPlainRead read reads.found reads.read_is is in (
      ap (λ x. x.regex) reads.outcome_is ∙ ap (option_map (moved_regex start)) found.no_regex,
      ap (λ x. is_hashbang x.token.kind) reads.outcome_is ∙ found.no_hashbang,
    )

-- the lists of angles
pub record AnglesAreNone : Type 0 where
  pub longest : list_all no_hashbangs right_angles ≡ true
  pub left : list_all no_hashbangs first_left_angle ≡ true
  pub right : list_all no_hashbangs first_right_angle ≡ true

pub angles_are_none : AnglesAreNone
angles_are_none = record { longest = refl; left = refl; right = refl }

pub angle_again : (text : List ℕ) (kinds : List Kind) (before : Option TokenParts) (o : Outcome)
    → list_all no_hashbangs kinds ≡ true → ReadsAgain (ReadsAngle text kinds) before o
    → (o.regex ≡ None) × (is_hashbang o.token.kind ≡ false)
angle_again text kinds None o all reads = absurd reads
angle_again text kinds (Some token) o all reads =
    from_plain text false token.start (angle_reading kinds (from_place text token.start)) o
    (angle_plain kinds (from_place text token.start) all) reads

pub name_again : (text : List ℕ) (t : SourceType) (before : Option TokenParts) (place : ℕ) (o : Outcome)
    → GoalReads text t JsxIdentifier before place o → (o.regex ≡ None) × (is_hashbang o.token.kind ≡ false)
name_again text t None place o reads = absurd reads
name_again text t (Some token) place o reads =
    from_plain text false token.start (jsx_name_reading reads.part (from_place text token.end)) o
    (name_plain reads.part (from_place text token.end)) reads.reads

part_plain : (here behind : List ℕ) → here ≡ right_curly_bracket ∷ behind → IsPlainRead (next_part here)
part_plain here behind e =
    subst (λ h. IsPlainRead (next_part h)) (sym e)
    (record {
      no_regex = (part_flags TemplateMiddle TemplateTail (right_curly_bracket ∷ behind) (template_items behind)).2;
      no_hashbang =
          part_kind_is (λ kind. is_hashbang kind ≡ false) TemplateMiddle TemplateTail refl refl refl
          right_curly_bracket behind;
    })

pub part_again : (text : List ℕ) (t : SourceType) (before : Option TokenParts) (place : ℕ) (o : Outcome)
    → GoalReads text t TailGoal before place o → (o.regex ≡ None) × (is_hashbang o.token.kind ≡ false)
part_again text t None place o reads = absurd reads
part_again text t (Some token) place o reads =
    let part = part_plain (from_place text token.start) reads.behind reads.here in (
      ap (λ x. x.regex) reads.outcome_is ∙ ap (option_map (moved_regex token.start)) part.no_regex,
      ap (λ x. is_hashbang x.token.kind) reads.outcome_is ∙ part.no_hashbang,
    )

pub expression_again : (text : List ℕ) (t : SourceType) (before : Option TokenParts) (place : ℕ) (o : Outcome)
    → GoalReads text t RegularExpression before place o → o.token.kind ≡ RegExp
expression_again text t None place o reads = absurd reads
expression_again text t (Some token) place o reads =
    ap (λ x. x.token.kind) reads.outcome_is
    ∙ found_is IsExpression (regular_expression_reading (from_place text token.start)) reads.found
    reads.read_is (expression_kind (from_place text token.start))

-- What is read again is collected, where tokens are.
pub again_is_collected : (text : List ℕ) (t : SourceType) (goal : Goal) (before : Option TokenParts) (place : ℕ)
    (o : Outcome) → is_onward goal ≡ false → GoalReads text t goal before place o → is_hashbang o.token.kind ≡ false
again_is_collected text t First before place o again reads = absurd (cc)
again_is_collected text t NextGoal before place o again reads = absurd (cc)
again_is_collected text t JsxChild before place o again reads = absurd (cc)
again_is_collected text t JsxAttributeValue before place o again reads = absurd (cc)
again_is_collected text t RegularExpression before place o again reads =
    ap is_hashbang (expression_again text t before place o reads)
again_is_collected text t RightAngle before place o again reads =
    (angle_again text right_angles before o angles_are_none.longest reads).1
again_is_collected text t TypeScriptLeftAngle before place o again reads =
    (angle_again text first_left_angle before o angles_are_none.left reads).1
again_is_collected text t TypeScriptRightAngle before place o again reads =
    (angle_again text first_right_angle before o angles_are_none.right reads).1
again_is_collected text t JsxIdentifier before place o again reads = (name_again text t before place o reads).1
again_is_collected text t TailGoal before place o again reads = (part_again text t before place o reads).1
