-- The last live token of a session whose commands give rows which stay.
use Rattle.std.proofs.Common.{◌≡◌, ◌≢◌, ℕ, Bool, true, false, ◌&&◌, ◌||◌, List, []}
use Rattle.std.proofs.Common.{refl, sym, ◌∙◌, ap, subst, Option, Some, None}
use Rattle.std.specs.Prelude.{MatchBool}
use Rattle.std.proofs.lemmas.Bool.{and_parts}
use Rattle.js_text.specs.Characters.{from_place}
use Rattle.js_text.specs.SourceType.{is_module}
use Rattle.js_text.specs.declared.source_type.SourceType.{SourceType}
use Rattle.js_kind.specs.TokenParts.{TokenParts}
use Rattle.js_grammar.specs.Angle.{angle_reading, first_left_angle, first_right_angle, right_angles}
use Rattle.js_grammar.specs.Goals.{GoalReads, ReadsFrom}
use Rattle.js_grammar.specs.Jsx.{jsx_name_reading}
use Rattle.js_grammar.specs.Outcome.{Outcome}
use Rattle.js_grammar.specs.ReLexed.{HasSpelling, fits}
use Rattle.js_grammar.specs.Reading.{Reading}
use Rattle.js_grammar.specs.Reads.{is_onward}
use Rattle.js_grammar.specs.RegularExpression.{regular_expression_reading}
use Rattle.js_grammar.specs.declared.goal.Goal.{Goal}
use Rattle.js_grammar.specs.declared.goal.Goal.TheVariants.{First, Next, TemplateTail, RegularExpression, RightAngle}
use Rattle.js_grammar.specs.declared.goal.Goal.TheVariants.{TypeScriptLeftAngle, TypeScriptRightAngle, JsxIdentifier}
use Rattle.js_grammar.specs.declared.goal.Goal.TheVariants.{JsxChild, JsxAttributeValue}
use Rattle.js_grammar.proofs.KindTexts.{goal_reads_spelling}
use Rattle.js_lexer.specs.Lexer.{IsOnPlaces, token_or_default}
use Rattle.js_session.specs.declared.command.Command.{Command}
use Rattle.js_session.specs.declared.command.Command.TheVariants.{Next as NextCommand, JsxChild as ChildCommand}
use Rattle.js_session.specs.declared.command.Command.TheVariants.{JsxAttr, Regex, TemplateTail as TailCommand, JsxName}
use Rattle.js_session.specs.declared.command.Command.TheVariants.{RAngle, TsLAngle, TsRAngle, Peek, Mark, Rewind, Commit}
use Rattle.js_session.specs.declared.row.Row.{Row}
use Rattle.js_session.specs.Effects.{effect_of, is_lasting}
use Rattle.js_session.specs.declared.command.Effect.{Effect}
use Rattle.js_session.specs.declared.command.Effect.TheVariants.{Reads, Peeks, ReLexes, Opens, Rewinds, Commits}
use Rattle.js_session.specs.Live.{State, after_row, last_live, outcome_of}
use Rattle.js_session.specs.Report.{IsNotTaken, IsOfEffect, IsReLexed}
use Rattle.js_session.proofs.LiveLemmas.{last_or-push}
use Rattle.js_session.proofs.LocalRuns.{replaced_last}
use Rattle.js_rewrite.specs.Faults.{may_rewrite}

-- nothing is reported in a row
abbrev pub IsQuiet : Row → Type 0
IsQuiet row = row.diagnostics ≡ []

-- The effects of commands with which a source of the type is written anew.
abbrev pub Rewrites : SourceType → Effect → Type 0
Rewrites t (Reads goal) = (is_onward goal ≡ true) × (goal ≢ First) × (goal ≡ JsxChild → is_module t ≡ true)
Rewrites t (Peeks goal) = ⊥
Rewrites t (ReLexes goal) = (is_onward goal ≡ false) × (goal ≡ TypeScriptLeftAngle → is_module t ≡ true)
Rewrites t Opens = ⊥
Rewrites t Rewinds = ⊥
Rewrites t Commits = ⊥

module_only : (b : Bool) → (true && (b || false)) ≡ true → b ≡ true
module_only true e = refl
module_only false e = absurd (cc)

pub rewrites : (t : SourceType) (c : Command) → may_rewrite t c ≡ true → Rewrites t (effect_of c)
rewrites t NextCommand e = (refl, λ no. absurd (cc), λ no. absurd (cc))
rewrites t ChildCommand e = (refl, λ no. absurd (cc), λ is. module_only (is_module t) e)
rewrites t JsxAttr e = (refl, λ no. absurd (cc), λ no. absurd (cc))
rewrites t Regex e = (refl, λ no. absurd (cc))
rewrites t TailCommand e = (refl, λ no. absurd (cc))
rewrites t JsxName e = (refl, λ no. absurd (cc))
rewrites t RAngle e = (refl, λ no. absurd (cc))
rewrites t TsLAngle e = (refl, λ is. module_only (is_module t) e)
rewrites t TsRAngle e = (refl, λ no. absurd (cc))
rewrites t Peek e = absurd (cc)
rewrites t Mark e = absurd (cc)
rewrites t Rewind e = absurd (cc)
rewrites t Commit e = absurd (cc)

pub lasting_of : (t : SourceType) (c : Command) → may_rewrite t c ≡ true → is_lasting c ≡ true
lasting_of t c e = (and_parts (is_lasting c) _ e).0

-- A token that is the last live one, and lies on the text with its spelling.
pub record IsLast (text : List ℕ) (s : State) (token : TokenParts) : Type 0 where
  pub last_is : last_live s.now ≡ Some token
  pub lies : IsOnPlaces text token
  pub spelled : HasSpelling text token

-- the token of a row is the last one behind it
pub last_behind : (text : List ℕ) (t : SourceType) (effect : Effect) (row : Row) (s : State) (token : TokenParts)
    → Rewrites t effect → IsLast text s token → IsOnPlaces text row.token → IsOfEffect text t s.now effect row
    → IsLast text (after_row effect row s) row.token
last_behind text t (Reads goal) row s token on l lies is = record {
  last_is = last_or-push None s.now.tokens row.token;
  lies = lies;
  spelled = goal_reads_spelling text t goal (last_live s.now) row.place (outcome_of row) is.reads;
}
last_behind text t (Peeks goal) row s token on l lies is = absurd on
last_behind text t Opens row s token on l lies is = absurd on
last_behind text t Rewinds row s token on l lies is = absurd on
last_behind text t Commits row s token on l lies is = absurd on
last_behind text t (ReLexes goal) row s token on l lies is =
    by_flag (fits text goal (token_or_default (last_live s.now))) is
  where
    by_flag : (b : Bool) → MatchBool b (IsReLexed text t s.now goal row) (IsNotTaken s.now row)
        → IsLast text (after_row (ReLexes goal) row s) row.token
    by_flag true is =
        rw is.taken (record {
          last_is = replaced_last s.now.tokens token row.token l.last_is;
          lies = lies;
          spelled =
              goal_reads_spelling text t goal (last_live s.now) (token_or_default (last_live s.now)).start
              (outcome_of row) is.reads;
        })
    by_flag false is =
        let same : row.token ≡ token = is.token ∙ ap token_or_default l.last_is in
        rw is.taken (record {
          last_is = l.last_is ∙ ap Some (sym same);
          lies = lies;
          spelled = subst (HasSpelling text) (sym same) l.spelled;
        })

-- A token that is read again starts where it did, and no comment is found.
pub record StartsThere (start : ℕ) (o : Outcome) : Type 0 where
  pub no_comment : o.findings.comments ≡ []
  pub start_is : o.token.start ≡ start

from_starts : (text : List ℕ) (ended : Bool) (start : ℕ) (read : Option Reading) (o : Outcome)
    → ReadsFrom text ended start read o → StartsThere start o
from_starts text ended start read o found = record {
  no_comment = ap (λ (x : Outcome). x.findings.comments) found.outcome_is;
  start_is = ap (λ (x : Outcome). x.token.start) found.outcome_is;
}

pub again_starts : (text : List ℕ) (t : SourceType) (goal : Goal) (token : TokenParts) (place : ℕ) (o : Outcome)
    → is_onward goal ≡ false → GoalReads text t goal (Some token) place o → StartsThere token.start o
again_starts text t First token place o off read = absurd (cc)
again_starts text t Next token place o off read = absurd (cc)
again_starts text t TemplateTail token place o off read = record {
  no_comment = ap (λ (x : Outcome). x.findings.comments) read.outcome_is;
  start_is = ap (λ (x : Outcome). x.token.start) read.outcome_is;
}
again_starts text t RegularExpression token place o off read =
    from_starts text false token.start (regular_expression_reading (from_place text token.start)) o read
again_starts text t RightAngle token place o off read =
    from_starts text false token.start (angle_reading right_angles (from_place text token.start)) o read
again_starts text t TypeScriptLeftAngle token place o off read =
    from_starts text false token.start (angle_reading first_left_angle (from_place text token.start)) o read
again_starts text t TypeScriptRightAngle token place o off read =
    from_starts text false token.start (angle_reading first_right_angle (from_place text token.start)) o read
again_starts text t JsxIdentifier token place o off read =
    from_starts text false token.start (jsx_name_reading read.part (from_place text token.end)) o read.reads
again_starts text t JsxChild token place o off read = absurd (cc)
again_starts text t JsxAttributeValue token place o off read = absurd (cc)

-- where a row that read the token again starts, and what a row holds that did not
pub taken_starts : (text : List ℕ) (t : SourceType) (goal : Goal) (s : State) (token : TokenParts) (row : Row)
    → is_onward goal ≡ false → last_live s.now ≡ Some token → IsOfEffect text t s.now (ReLexes goal) row
    → row.taken ≡ true → StartsThere token.start (outcome_of row)
taken_starts text t goal s token row off last is taken =
    by_flag (fits text goal (token_or_default (last_live s.now))) is
  where
    by_flag : (b : Bool) → MatchBool b (IsReLexed text t s.now goal row) (IsNotTaken s.now row)
        → StartsThere token.start (outcome_of row)
    by_flag true is =
        again_starts text t goal token token.start (outcome_of row) off
        (subst (λ l. GoalReads text t goal l (token_or_default l).start (outcome_of row)) last is.reads)
    by_flag false is = absurd (let no : true ≡ false = sym taken ∙ is.taken in cc)

pub not_taken_is : (text : List ℕ) (t : SourceType) (goal : Goal) (s : State) (row : Row)
    → IsOfEffect text t s.now (ReLexes goal) row → row.taken ≡ false → IsNotTaken s.now row
not_taken_is text t goal s row is taken = by_flag (fits text goal (token_or_default (last_live s.now))) is
  where
    by_flag : (b : Bool) → MatchBool b (IsReLexed text t s.now goal row) (IsNotTaken s.now row) → IsNotTaken s.now row
    by_flag true is = absurd (let no : true ≡ false = sym is.taken ∙ taken in cc)
    by_flag false is = is
