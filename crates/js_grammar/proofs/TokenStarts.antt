-- Where the token of a reading starts: that of a goal that goes on no earlier than the place from which it is read, and
-- one that is read again where it started before.
use Rattle.std.proofs.Common.{◌≡◌, ℕ, ◌≤◌, Bool, true, false, List, refl, ◌∙◌, ap, arith, zero, suc, Option, Some}
use Rattle.std.specs.Str.{IsUtf8, IsCharBoundary}
use Rattle.js_text.specs.declared.source_type.SourceType.{SourceType}
use Rattle.js_kind.specs.TokenParts.{TokenParts}
use Rattle.js_grammar.specs.Goals.{GoalReads, ReadsAttributeValue, ReadsBehindGap, ReadsFrom, ReadsPlainly}
use Rattle.js_grammar.specs.Goals.{line_has_ended_behind}
use Rattle.js_grammar.specs.Goals.ReadsAttributeValue.{string, plain}
use Rattle.js_grammar.specs.Goals.ReadsPlainly.{hashbang, behind_gap}
use Rattle.js_grammar.specs.Hashbang.{begins_hashbang}
use Rattle.js_grammar.specs.Outcome.{Outcome}
use Rattle.js_grammar.specs.Reading.{Reading}
use Rattle.js_grammar.specs.Reads.{is_onward}
use Rattle.js_grammar.specs.declared.goal.Goal.{Goal}
use Rattle.js_grammar.specs.declared.goal.Goal.TheVariants.{First, Next, TemplateTail, RegularExpression, RightAngle}
use Rattle.js_grammar.specs.declared.goal.Goal.TheVariants.{TypeScriptLeftAngle, TypeScriptRightAngle, JsxIdentifier}
use Rattle.js_grammar.specs.declared.goal.Goal.TheVariants.{JsxChild, JsxAttributeValue}
use Rattle.js_grammar.proofs.AtPlaces.{gap_end}

behind_its_gap : (text : List ℕ) (t : SourceType) (before : Option TokenParts) (place : ℕ) (o : Outcome) → IsUtf8 text
    → IsCharBoundary text place → ReadsBehindGap text t before place o → place ≤ o.token.start
behind_its_gap text t before place o u b reads =
    let end =
    gap_end text t (line_has_ended_behind before) reads.line_has_ended place o.token.start reads.pieces u b reads.start
    reads.gap in omega (arith, end)

-- a hashbang begins where its text does
pub hashbang_place : (goal : Goal) (text : List ℕ) (place : ℕ) → begins_hashbang goal text place ≡ true → place ≡ 0
hashbang_place First text zero e = refl
hashbang_place First text (suc place) e = absurd (cc)
hashbang_place Next text place e = absurd (cc)
hashbang_place TemplateTail text place e = absurd (cc)
hashbang_place RegularExpression text place e = absurd (cc)
hashbang_place RightAngle text place e = absurd (cc)
hashbang_place TypeScriptLeftAngle text place e = absurd (cc)
hashbang_place TypeScriptRightAngle text place e = absurd (cc)
hashbang_place JsxIdentifier text place e = absurd (cc)
hashbang_place JsxChild text place e = absurd (cc)
hashbang_place JsxAttributeValue text place e = absurd (cc)

plainly_onward : (text : List ℕ) (t : SourceType) (goal : Goal) (before : Option TokenParts) (place : ℕ) (o : Outcome)
    → IsUtf8 text → IsCharBoundary text place → ReadsPlainly text t goal before place o → place ≤ o.token.start
plainly_onward text t goal before place o u b (hashbang begins read) =
    let none : place ≡ 0 = hashbang_place goal text place begins in omega (arith, none)
plainly_onward text t goal before place o u b (behind_gap begins read) = behind_its_gap text t before place o u b read

attribute_onward : (text : List ℕ) (t : SourceType) (before : Option TokenParts) (place : ℕ) (o : Outcome)
    → IsUtf8 text → IsCharBoundary text place → ReadsAttributeValue text t before place o → place ≤ o.token.start
attribute_onward text t before place o u b (string read) =
    let start : read.string.token.start ≡ o.token.start = ap (λ x. x.token.start) read.reads.outcome_is in
    let end =
    gap_end text t (line_has_ended_behind before) read.line_has_ended place o.token.start read.pieces u b
    read.reads.begins read.gap in omega (arith, end)
attribute_onward text t before place o u b (plain no_quote read) = behind_its_gap text t before place o u b read

-- A token of a goal that goes on starts at the place from which it is read, or behind that.
pub reads_onward : (text : List ℕ) (t : SourceType) (goal : Goal) (before : Option TokenParts) (place : ℕ) (o : Outcome)
    → is_onward goal ≡ true → IsUtf8 text → IsCharBoundary text place → GoalReads text t goal before place o
    → place ≤ o.token.start
reads_onward text t First before place o onward u b reads = plainly_onward text t First before place o u b reads
reads_onward text t Next before place o onward u b reads = plainly_onward text t Next before place o u b reads
reads_onward text t TemplateTail before place o onward u b reads = absurd (cc)
reads_onward text t RegularExpression before place o onward u b reads = absurd (cc)
reads_onward text t RightAngle before place o onward u b reads = absurd (cc)
reads_onward text t TypeScriptLeftAngle before place o onward u b reads = absurd (cc)
reads_onward text t TypeScriptRightAngle before place o onward u b reads = absurd (cc)
reads_onward text t JsxIdentifier before place o onward u b reads = absurd (cc)
reads_onward text t JsxChild before place o onward u b reads =
    let start : o.token.start ≡ place =
    ap (λ x. x.token.start) reads.outcome_is ∙ ap (λ x. x.token.start) reads.reads.outcome_is in omega (arith, start)
reads_onward text t JsxAttributeValue before place o onward u b reads =
    attribute_onward text t before place o u b reads

from_start : (text : List ℕ) (line_has_ended : Bool) (start : ℕ) (read : Option Reading) (o : Outcome)
    → ReadsFrom text line_has_ended start read o → o.token.start ≡ start
from_start text line_has_ended start read o reads = ap (λ x. x.token.start) reads.outcome_is

-- A token that is read again starts where it started before.
pub starts_again : (text : List ℕ) (t : SourceType) (goal : Goal) (before : TokenParts) (place : ℕ) (o : Outcome)
    → is_onward goal ≡ false → GoalReads text t goal (Some before) place o → o.token.start ≡ before.start
starts_again text t First before place o again reads = absurd (cc)
starts_again text t Next before place o again reads = absurd (cc)
starts_again text t TemplateTail before place o again reads = ap (λ x. x.token.start) reads.outcome_is
starts_again text t RegularExpression before place o again reads = from_start text _ before.start _ o reads
starts_again text t RightAngle before place o again reads = from_start text _ before.start _ o reads
starts_again text t TypeScriptLeftAngle before place o again reads = from_start text _ before.start _ o reads
starts_again text t TypeScriptRightAngle before place o again reads = from_start text _ before.start _ o reads
starts_again text t JsxIdentifier before place o again reads = from_start text _ before.start _ o reads.reads
starts_again text t JsxChild before place o again reads = absurd (cc)
starts_again text t JsxAttributeValue before place o again reads = absurd (cc)
