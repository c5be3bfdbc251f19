-- Which commands are chosen, and that each of them may come.
use Rattle.std.proofs.Common.{◌≡◌, ℕ, ◌<◌, ◌&&◌, Bool, true, false, List, [], ◌∷◌, refl, sym, ◌∙◌, ap, subst, ◌==◌}
use Rattle.std.proofs.Common.{arith, add-zero, get_or, drop, length, length-drop, not, slice_get, Option, Some, None}
use Rattle.std.proofs.lemmas.Bool.{and_parts, eq-eqb, eqb-true}
use Rattle.std.proofs.lemmas.List.{get_or-drop}
use Rattle.std.proofs.lemmas.Option.{get_or_from_slice_get, slice_get_within}
use Rattle.std.proofs.lemmas.Str.{IsUtf8-drop, char_from_byte, encodes-chars}
use Rattle.std.specs.List.{last_or}
use Rattle.std.specs.Prelude.{is_some, if◌then◌else◌}
use Rattle.std.specs.Str.{IsCharBoundary, IsUtf8, encode_utf8_all}
use Rattle.js_text.specs.Ascii.{hyphen_minus}
use Rattle.js_text.specs.Characters.{begins, from_place}
use Rattle.js_kind.specs.Kinds.{is_identifier_name, is_one_of}
use Rattle.js_kind.specs.Predicates.{is_eof}
use Rattle.js_kind.specs.TokenParts.{TokenParts}
use Rattle.js_kind.specs.declared.kind.Kind.TheVariants.{Eof}
use Rattle.js_grammar.specs.ReLexed.{again_kinds}
use Rattle.js_grammar.specs.Reads.{is_onward}
use Rattle.js_grammar.specs.declared.goal.Goal.{Goal}
use Rattle.js_grammar.specs.declared.goal.Goal.TheVariants.{First, Next as NextGoal, RegularExpression}
use Rattle.js_grammar.specs.declared.goal.Goal.TheVariants.{TemplateTail as TailGoal, JsxIdentifier}
use Rattle.js_grammar.specs.declared.goal.Goal.TheVariants.{JsxChild as ChildGoal, JsxAttributeValue}
use Rattle.js_lexer.specs.Lexer.{token_or_default}
use Rattle.js_session.specs.declared.command.Command.{Command}
use Rattle.js_session.specs.declared.command.Command.TheVariants.{Next, JsxChild, JsxAttr, JsxName, Regex}
use Rattle.js_session.specs.declared.command.Command.TheVariants.{TemplateTail}
use Rattle.js_session.specs.declared.command.Effect.TheVariants.{Reads}
use Rattle.js_session.specs.Effects.{effect_of}
use Rattle.js_choose.specs.LastTokens.{but_last}
use Rattle.js_choose.specs.Rules.{IsDue, IsRule, MayReadOn}
use Rattle.js_choose.specs.Rules.IsDue.{reads_on, reads_again}
use Rattle.js_jsx.specs.Choice.{begins_child, begins_expression, begins_value, choice, choice_at_end, choice_behind}
use Rattle.js_jsx.specs.Choice.{ends_substitution, goes_on_as_name, is_dash, is_in_template, reads_behind}
use Rattle.js_jsx.specs.Classes.{class_of}
use Rattle.js_jsx.specs.Scopes.{is_children, is_code, is_tag, passes, top}
use Rattle.js_jsx.specs.States.{State, ends, state_of}

-- Where the byte at a place is a `-`, so is the character.
dash_at : (text : List ℕ) (place : ℕ) → IsUtf8 text → IsCharBoundary text place
    → slice_get text place ≡ Some hyphen_minus → begins (λ c. c == hyphen_minus) (from_place text place) ≡ true
dash_at text place utf8 boundary at = by_first (from_place text place) refl
  where
    bytes : encode_utf8_all (from_place text place) ≡ drop place text
    bytes = encodes-chars (drop place text) (IsUtf8-drop text place utf8 boundary)

    some : 0 < length (drop place text)
    some =
        omega (arith, length-drop place text, slice_get_within text place hyphen_minus at)

    first_byte : get_or (drop place text) 0 0 ≡ hyphen_minus
    first_byte =
        get_or-drop place text 0 0 ∙ ap (λ i. get_or text i 0) (add-zero place)
        ∙ get_or_from_slice_get text place hyphen_minus 0 at

    by_first : (xs : List ℕ) → from_place text place ≡ xs → begins (λ c. c == hyphen_minus) xs ≡ true
    by_first [] e =
        let none : drop place text ≡ [] = sym bytes ∙ ap encode_utf8_all e in
        absurd (omega (arith, some, ap length none))
    by_first (c ∷ cs) e =
        let is : c ≡ get_or (drop place text) 0 0 =
        char_from_byte (drop place text) (encode_utf8_all cs) c (sym bytes ∙ ap encode_utf8_all e)
        (omega (arith, first_byte)) some in
        eq-eqb c hyphen_minus (is ∙ first_byte)

dash_is : (byte : Option ℕ) → is_dash byte ≡ true → byte ≡ Some hyphen_minus
dash_is None e = absurd (cc)
dash_is (Some b) e = ap Some (eqb-true b hyphen_minus e)

some_is : (byte : Option ℕ) → is_some byte ≡ true → (b : ℕ) × (byte ≡ Some b)
some_is None e = absurd (cc)
some_is (Some b) e = (b, refl)

-- the last of these tokens is this one
abbrev IsLast : List TokenParts → TokenParts → Type 0
IsLast tokens last = last_or None tokens ≡ Some last

same_token : (a b : TokenParts) → Some a ≡ Some b → a ≡ b
same_token a b e = cc

-- Behind a last token that is no end the next one may be read.
may_read_on : (text : List ℕ) (tokens : List TokenParts) (goal : Goal) (last : TokenParts) → IsLast tokens last
    → is_eof last.kind ≡ false → (other : TokenParts) → IsLast tokens other → MayReadOn text goal other
unfolding is_eof
may_read_on text tokens goal last is no_end other is_other =
    let same : last ≡ other = same_token last other (sym is ∙ is_other) in
    let no : ¬ (other.kind ≡ Eof) =
    λ end. absurd (let both : true ≡ false = sym (ap is_eof (ap (λ t. t.kind) same ∙ end)) ∙ no_end in
    cc) in
    record { plain = λ end. absurd (no end); inside = λ end. absurd (no end) }

-- and behind an end that has a byte behind it, by a plain step
may_read_behind_end : (text : List ℕ) (tokens : List TokenParts) (last : TokenParts) (byte : ℕ) → IsLast tokens last
    → slice_get text last.end ≡ Some byte → (other : TokenParts) → IsLast tokens other
    → MayReadOn text NextGoal other
may_read_behind_end text tokens last byte is at other is_other =
    let same : last ≡ other = same_token last other (sym is ∙ is_other) in
    record {
      plain = λ end. refl;
      inside = λ end. subst (λ (t : TokenParts). t.end < length text) same (slice_get_within text last.end byte at);
    }

-- how the next token is read, by a goal that reads on
record ReadsBy (command : Command) : Type 0 where
  goal : Goal
  effect : effect_of command ≡ Reads goal
  onward : is_onward goal ≡ true
  not_first : ¬ (goal ≡ First)

reads_by : (value child : Bool) → ReadsBy (if value then JsxAttr else if child then JsxChild else Next)
reads_by true child = record { goal = JsxAttributeValue; effect = refl; onward = refl; not_first = λ first. cc }
reads_by false true = record { goal = ChildGoal; effect = refl; onward = refl; not_first = λ first. cc }
reads_by false false = record { goal = NextGoal; effect = refl; onward = refl; not_first = λ first. cc }

and_true : (a b : Bool) → a ≡ true → b ≡ true → (a && b) ≡ true
and_true a b ea eb = rw (ea, eb) refl

-- each command that is chosen behind a last token may come
due_behind : (text : List ℕ) (tokens : List TokenParts) (state : State) (last : TokenParts) (command : Command)
    → IsLast tokens last → choice_behind (slice_get text last.end) state (Some last) ≡ Some command
    → IsDue text tokens command
due_behind text tokens state last command is e =
    by_tests (is_eof last.kind) (ends_substitution state last.kind)
    (goes_on_as_name (slice_get text last.end) state last.kind) (begins_expression state last.kind) refl refl refl
    refl e
  where
    by_end : (children some : Bool) → is_some (slice_get text last.end) ≡ some
        → (if children && some then Some Next else None) ≡ Some command → IsDue text tokens command
    by_end true true at e =
        let byte = some_is (slice_get text last.end) at in
        let is_next : command ≡ Next = cc in
        reads_on NextGoal (ap effect_of is_next) refl (λ first. cc)
        (may_read_behind_end text tokens last byte.0 is byte.1)
    by_end true false at e = absurd (cc)
    by_end false some at e = absurd (cc)

    by_tests : (end tail name regex : Bool) → is_eof last.kind ≡ end → ends_substitution state last.kind ≡ tail
        → goes_on_as_name (slice_get text last.end) state last.kind ≡ name → begins_expression state last.kind ≡ regex
        → (if end then choice_at_end (slice_get text last.end) state
        else if tail then Some TemplateTail
        else if name then Some JsxName
        else if regex then Some Regex
        else Some (reads_behind state (class_of last.kind))) ≡ Some command
        → IsDue text tokens command
    by_tests true tail name regex e1 e2 e3 e4 e =
        by_end (passes is_children (top state.scopes)) (is_some (slice_get text last.end)) refl e
    by_tests false true name regex e1 e2 e3 e4 e =
        let both = and_parts (is_one_of (again_kinds TailGoal) last.kind) (is_in_template state) e2 in
        let is_tail : command ≡ TemplateTail = cc in
        reads_again TailGoal (ap effect_of is_tail) refl last is (λ _ _. both.0)
    by_tests false false true regex e1 e2 e3 e4 e =
        let parts =
        and_parts (is_identifier_name last.kind && passes is_tag (top state.scopes))
        (is_dash (slice_get text last.end)) e3 in
        let both = and_parts (is_identifier_name last.kind) (passes is_tag (top state.scopes)) parts.0 in
        let at = dash_is (slice_get text last.end) parts.1 in
        let is_name : command ≡ JsxName = cc in
        reads_again JsxIdentifier (ap effect_of is_name) refl last is
        (λ utf8 lies. and_true _ _ both.0 (dash_at text last.end utf8 lies.end at))
    by_tests false false false true e1 e2 e3 e4 e =
        let parts =
        and_parts (is_one_of (again_kinds RegularExpression) last.kind && is_code (top state.scopes))
        (not (ends state)) e4 in
        let both =
        and_parts (is_one_of (again_kinds RegularExpression) last.kind) (is_code (top state.scopes)) parts.0 in
        let is_regex : command ≡ Regex = cc in
        reads_again RegularExpression (ap effect_of is_regex) refl last is (λ _ _. both.0)
    by_tests false false false false e1 e2 e3 e4 e =
        let by = reads_by (begins_value state (class_of last.kind)) (begins_child state (class_of last.kind)) in
        let reads : command ≡ reads_behind state (class_of last.kind) = cc in
        reads_on by.goal (ap effect_of reads ∙ by.effect) by.onward by.not_first
        (may_read_on text tokens by.goal last is e1)

-- each command that is chosen may come
pub each_is_due : IsRule choice
each_is_due text tokens command e = by_last (last_or None tokens) refl e
  where
    by_last : (o : Option TokenParts) → last_or None tokens ≡ o
        → choice_behind (slice_get text (token_or_default o).end) (state_of (but_last tokens)) o ≡ Some command
        → IsDue text tokens command
    by_last None is e =
        let is_next : command ≡ Next = cc in
        reads_on NextGoal (ap effect_of is_next) refl (λ first. cc)
        (λ last l. absurd (let no : None ≡ Some last = sym is ∙ l in cc))
    by_last (Some last) is e = due_behind text tokens (state_of (but_last tokens)) last command is e
