-- What is read of goals beside the plain one: which tokens they read again, of which kinds, and what is known of them
-- as regular expressions.
use Rattle.std.proofs.Common.{◌≡◌, ℕ, true, false, ◌==◌, List, [], ◌∷◌, refl, sym, ◌∙◌, ap}
use Rattle.std.proofs.Common.{Option, None, Some}
use Rattle.std.specs.Prelude.{IfSome}
use Rattle.std.specs.List.{list_all}
use Rattle.std.specs.Option.{option_map}
use Rattle.std.proofs.lemmas.Bool.{and_parts}
use Rattle.js_text.specs.Ascii.{less_than_sign}
use Rattle.js_text.specs.Characters.{begins, from_first, from_place}
use Rattle.js_text.specs.declared.source_type.SourceType.{SourceType}
use Rattle.js_kind.specs.Kinds.{is_identifier_name, is_one_of, keywords}
use Rattle.js_kind.specs.TokenParts.{TokenParts}
use Rattle.js_kind.specs.declared.kind.Kind.{Kind}
use Rattle.js_kind.specs.declared.kind.Kind.TheVariants.{Eof, Ident}
use Rattle.js_kind.proofs.Members.{name_passes, one_passes}
use Rattle.js_grammar.specs.Reading.{moved_regex}
use Rattle.js_grammar.specs.Goals.{GoalReads, ReadsAttributeValue, ReadsBehindGap}
use Rattle.js_grammar.specs.Goals.{ReadsPlainly}
use Rattle.js_grammar.specs.Goals.ReadsAttributeValue.{string as attribute_string, plain as attribute_plain}
use Rattle.js_grammar.specs.Goals.ReadsPlainly.{hashbang, behind_gap}
use Rattle.js_grammar.specs.Jsx.{begins_child, jsx_child_reading, jsx_string_before}
use Rattle.js_grammar.specs.Jsx.{jsx_string_reading, jsx_text_before, ends_jsx_text}
use Rattle.js_grammar.specs.Outcome.{Outcome}
use Rattle.js_grammar.specs.ReLexed.{again_kinds, fits}
use Rattle.js_grammar.specs.Reads.{is_onward}
use Rattle.js_grammar.specs.StringItems.{is_quote}
use Rattle.js_grammar.specs.UnicodeEscape.{left_curly_bracket}
use Rattle.js_grammar.specs.declared.goal.Goal.{Goal}
use Rattle.js_grammar.specs.declared.goal.Goal.TheVariants.{First, Next as NextGoal, TemplateTail as TailGoal}
use Rattle.js_grammar.specs.declared.goal.Goal.TheVariants.{RegularExpression, RightAngle, TypeScriptLeftAngle}
use Rattle.js_grammar.specs.declared.goal.Goal.TheVariants.{TypeScriptRightAngle, JsxIdentifier, JsxChild}
use Rattle.js_grammar.specs.declared.goal.Goal.TheVariants.{JsxAttributeValue}
use Rattle.js_grammar.proofs.Values.{here_no_regex}
use Rattle.js_lexer.specs.Goals.{IsBehindName}
use Rattle.js_lexer.specs.Lexer.{IsBehindFor, LexerState, is_hashbang, kind_of_last, token_or_default}
use Rattle.js_lexer.proofs.ReadAgain.{IsPlainRead, again_is_collected, by_found, by_reading}
use Rattle.js_lexer.proofs.ReadAgain.{from_plain, no_hashbangs, none_of}

text_plain : (text left : List ℕ) → IsPlainRead (jsx_text_before text left)
text_plain text [] = record { no_regex = refl; no_hashbang = refl }
text_plain text (c ∷ cs) =
    by_reading IsPlainRead (begins_child c) _ _ (record { no_regex = refl; no_hashbang = refl })
    (record { no_regex = refl; no_hashbang = refl })

child_plain : (text : List ℕ) → IsPlainRead (jsx_child_reading text)
child_plain [] = record { no_regex = refl; no_hashbang = refl }
child_plain (c ∷ cs) =
    by_reading IsPlainRead (c == less_than_sign) _ _ (record { no_regex = refl; no_hashbang = refl })
    (by_reading IsPlainRead (c == left_curly_bracket) _ _ (record { no_regex = refl; no_hashbang = refl })
    (text_plain (c ∷ cs) (from_first ends_jsx_text (c ∷ cs))))

string_plain : (text : List ℕ) → IfSome (jsx_string_reading text) IsPlainRead
string_plain [] = tt
string_plain (c ∷ cs) =
    by_found IsPlainRead (is_quote c) _ None (closed (from_first (λ d. d == c) cs)) tt
  where
    closed : (left : List ℕ) → IsPlainRead (jsx_string_before (c ∷ cs) left)
    closed [] = record { no_regex = refl; no_hashbang = refl }
    closed (d ∷ ds) = record { no_regex = refl; no_hashbang = refl }

-- a goal that goes on finds no regular expression
gap_regex : (text : List ℕ) (t : SourceType) (before : Option TokenParts) (place : ℕ) (o : Outcome)
    → ReadsBehindGap text t before place o → o.regex ≡ None
gap_regex text t before place o read =
    ap (λ x. x.regex) read.outcome_is
    ∙ ap (option_map (moved_regex o.token.start))
    (here_no_regex t read.line_has_ended (from_place text o.token.start) read.reading read.here)

plain_regex : (text : List ℕ) (t : SourceType) (goal : Goal) (before : Option TokenParts) (place : ℕ) (o : Outcome)
    → ReadsPlainly text t goal before place o → o.regex ≡ None
plain_regex text t goal before place o (hashbang begins read) = ap (λ x. x.regex) read.alone
plain_regex text t goal before place o (behind_gap begins read) = gap_regex text t before place o read

attribute_regex : (text : List ℕ) (t : SourceType) (before : Option TokenParts) (place : ℕ) (o : Outcome)
    → ReadsAttributeValue text t before place o → o.regex ≡ None
attribute_regex text t before place o (attribute_string read) =
    ap (λ x. x.regex) read.outcome_is
    ∙ (from_plain text read.line_has_ended o.token.start
    (jsx_string_reading (from_place text o.token.start)) read.string
    (string_plain (from_place text o.token.start)) read.reads).0
attribute_regex text t before place o (attribute_plain no_quote read) = gap_regex text t before place o read

pub onward_regex : (text : List ℕ) (t : SourceType) (goal : Goal) (before : Option TokenParts) (place : ℕ) (o : Outcome)
    → is_onward goal ≡ true → GoalReads text t goal before place o → o.regex ≡ None
onward_regex text t First before place o onward reads = plain_regex text t First before place o reads
onward_regex text t NextGoal before place o onward reads = plain_regex text t NextGoal before place o reads
onward_regex text t TailGoal before place o onward reads = absurd (cc)
onward_regex text t RegularExpression before place o onward reads = absurd (cc)
onward_regex text t RightAngle before place o onward reads = absurd (cc)
onward_regex text t TypeScriptLeftAngle before place o onward reads = absurd (cc)
onward_regex text t TypeScriptRightAngle before place o onward reads = absurd (cc)
onward_regex text t JsxIdentifier before place o onward reads = absurd (cc)
onward_regex text t JsxChild before place o onward reads =
    ap (λ x. x.regex) reads.outcome_is
    ∙ (from_plain text _ place (Some (jsx_child_reading (from_place text place))) reads.child
    (child_plain (from_place text place)) reads.reads).0
onward_regex text t JsxAttributeValue before place o onward reads = attribute_regex text t before place o reads

-- names are no hashbang comments
names_pass : list_all no_hashbangs (Ident ∷ keywords) ≡ true
names_pass = refl

name_is_none : (kind : Kind) → is_identifier_name kind ≡ true → is_hashbang kind ≡ false
name_is_none kind is = none_of kind (name_passes no_hashbangs kind names_pass is)

end_is_no_name : is_identifier_name Eof ≡ false
unfolding is_identifier_name
end_is_no_name = refl

-- no goal may read the end of the source again
end_is_read_once : (goal : Goal) → is_one_of (again_kinds goal) Eof ≡ false
end_is_read_once First = refl
end_is_read_once NextGoal = refl
end_is_read_once TailGoal = refl
end_is_read_once RegularExpression = refl
end_is_read_once RightAngle = refl
end_is_read_once TypeScriptLeftAngle = refl
end_is_read_once TypeScriptRightAngle = refl
end_is_read_once JsxIdentifier = refl
end_is_read_once JsxChild = refl
end_is_read_once JsxAttributeValue = refl

-- A kind that fits is that of a token, and not of a hashbang comment.
some_of : (goal : Goal) (last : Option TokenParts) → list_all no_hashbangs (again_kinds goal) ≡ true
    → is_one_of (again_kinds goal) (token_or_default last).kind ≡ true
    → (t : TokenParts) × (last ≡ Some t) × (is_hashbang t.kind ≡ false)
some_of goal None all e = absurd (let no : true ≡ false = sym e ∙ end_is_read_once goal in cc)
some_of goal (Some t) all e = (t, refl, none_of t.kind (one_passes no_hashbangs (again_kinds goal) t.kind all e))

pub fits_some : (text : List ℕ) (goal : Goal) (last : Option TokenParts)
    → fits text goal (token_or_default last) ≡ true
    → (t : TokenParts) × (last ≡ Some t) × (is_hashbang t.kind ≡ false)
fits_some text First last e = absurd (cc)
fits_some text NextGoal last e = absurd (cc)
fits_some text JsxChild last e = absurd (cc)
fits_some text JsxAttributeValue last e = absurd (cc)
fits_some text TailGoal last e = some_of TailGoal last refl e
fits_some text RegularExpression last e = some_of RegularExpression last refl e
fits_some text RightAngle last e = some_of RightAngle last refl e
fits_some text TypeScriptLeftAngle last e = some_of TypeScriptLeftAngle last refl e
fits_some text TypeScriptRightAngle last e = some_of TypeScriptRightAngle last refl e
fits_some text JsxIdentifier None e =
    absurd (let no : true ≡ false = sym (and_parts (is_identifier_name Eof) _ e).0 ∙ end_is_no_name in cc)
fits_some text JsxIdentifier (Some t) e =
    (t, refl, name_is_none t.kind (and_parts (is_identifier_name t.kind) _ e).0)

-- a goal that a token fits reads it again
fits_again : (text : List ℕ) (goal : Goal) (token : TokenParts) → fits text goal token ≡ true → is_onward goal ≡ false
fits_again text First token e = absurd (cc)
fits_again text NextGoal token e = absurd (cc)
fits_again text JsxChild token e = absurd (cc)
fits_again text JsxAttributeValue token e = absurd (cc)
fits_again text TailGoal token e = refl
fits_again text RegularExpression token e = refl
fits_again text RightAngle token e = refl
fits_again text TypeScriptLeftAngle token e = refl
fits_again text TypeScriptRightAngle token e = refl
fits_again text JsxIdentifier token e = refl

-- and what is read again of it is none either
pub re_lexed_collected : (text : List ℕ) (t : SourceType) (goal : Goal) (before : Option TokenParts) (place : ℕ)
    (o : Outcome) → fits text goal (token_or_default before) ≡ true → GoalReads text t goal before place o
    → is_hashbang o.token.kind ≡ false
re_lexed_collected text t goal before place o e reads =
    again_is_collected text t goal before place o (fits_again text goal (token_or_default before) e) reads

-- What is read again does not depend on the place behind the token.
pub from_any_place : (text : List ℕ) (t : SourceType) (goal : Goal) (before : Option TokenParts) (p q : ℕ) (o : Outcome)
    → fits text goal (token_or_default before) ≡ true → GoalReads text t goal before p o
    → GoalReads text t goal before q o
from_any_place text t First before p q o e reads = absurd (cc)
from_any_place text t NextGoal before p q o e reads = absurd (cc)
from_any_place text t JsxChild before p q o e reads = absurd (cc)
from_any_place text t JsxAttributeValue before p q o e reads = absurd (cc)
from_any_place text t RegularExpression before p q o e reads = reads
from_any_place text t RightAngle before p q o e reads = reads
from_any_place text t TypeScriptLeftAngle before p q o e reads = reads
from_any_place text t TypeScriptRightAngle before p q o e reads = reads
from_any_place text t JsxIdentifier before p q o e reads = reads
from_any_place text t TailGoal before p q o e reads = reads

-- a lexer stands behind its last token, which the goal may read again
pub stands_for : (goal : Goal) (l : LexerState) → is_one_of (again_kinds goal) (kind_of_last l) ≡ true
    → l.place ≡ (token_or_default l.last).end → IsBehindFor goal l
stands_for goal l one at = by_last l.last refl
  where
    by_last : (last : Option TokenParts) → l.last ≡ last → IsBehindFor goal l
    by_last None e =
        let end : is_one_of (again_kinds goal) (kind_of_last l) ≡ false =
        ap (λ o. is_one_of (again_kinds goal) (token_or_default o).kind) e ∙ end_is_read_once goal in
        absurd (let no : true ≡ false = sym one ∙ end in cc)
    by_last (Some t) e = record {
      token = t;
      last = e;
      kind_is = ap (λ o. is_one_of (again_kinds goal) (token_or_default o).kind) (sym e) ∙ one;
      place = at ∙ ap (λ o. (token_or_default o).end) e;
    }

-- a lexer stands behind its last token, a name
pub name_stands : (l : LexerState) (told : TokenParts) (start : ℕ) → told ≡ token_or_default l.last
    → is_identifier_name told.kind ≡ true → start ≡ told.start → l.place ≡ (token_or_default l.last).end
    → IsBehindName start l
name_stands l told start is name starts at = by_last l.last refl
  where
    by_last : (last : Option TokenParts) → l.last ≡ last → IsBehindName start l
    by_last None e =
        let end : is_identifier_name told.kind ≡ false =
        ap (λ t. is_identifier_name t.kind) is ∙ ap (λ o. is_identifier_name (token_or_default o).kind) e
        ∙ end_is_no_name in
        absurd (let no : true ≡ false = sym name ∙ end in cc)
    by_last (Some t) e =
        let same : told ≡ t = is ∙ ap token_or_default e in
        record {
          token = t;
          last = e;
          kind_is = ap (λ x. is_identifier_name x.kind) (sym same) ∙ name;
          start_is = ap (λ x. x.start) (sym same) ∙ sym starts;
          place = at ∙ ap (λ o. (token_or_default o).end) e;
        }
