-- Code, where nothing is open but braces: what is chosen there by the class of the last token.
use Rattle.std.proofs.Common.{◌≡◌, ◌∷◌, ℕ, ◌&&◌, not, Bool, true, false, refl, sym, ◌∙◌, ap}
use Rattle.std.proofs.Common.{Option, Some, None, if◌then◌else◌}
use Rattle.std.specs.Prelude.{is_some}
use Rattle.js_kind.specs.Kinds.{is_identifier_name, is_one_of}
use Rattle.js_kind.specs.Predicates.{is_eof}
use Rattle.js_kind.specs.TokenParts.{TokenParts}
use Rattle.js_kind.specs.declared.kind.Kind.{Kind}
use Rattle.js_kind.specs.declared.kind.Kind.TheVariants as kinds
use Rattle.js_grammar.specs.ReLexed.{again_kinds}
use Rattle.js_grammar.specs.declared.goal.Goal.TheVariants.{RegularExpression, TemplateTail as TailGoal}
use Rattle.js_session.specs.declared.command.Command.{Command}
use Rattle.js_session.specs.declared.command.Command.TheVariants.{Next, JsxAttr, JsxChild, JsxName, Regex}
use Rattle.js_session.specs.declared.command.Command.TheVariants.{TemplateTail}
use Rattle.js_jsx.specs.declared.change.Change.{Change}
use Rattle.js_jsx.specs.declared.class.TokenClass.{TokenClass}
use Rattle.js_jsx.specs.declared.class.TokenClass.TheVariants as classes
use Rattle.js_jsx.specs.declared.scope.Scope.{Scope}
use Rattle.js_jsx.specs.declared.scope.Scope.TheVariants.{Block, Template, Container, OpeningTag, ClosingTag}
use Rattle.js_jsx.specs.declared.scope.Scope.TheVariants.{TypeArguments, Children}
use Rattle.js_jsx.specs.declared.change.TagPlace.TheVariants.{Later}
use Rattle.js_jsx.specs.Changes.{change_in_code, changed, closed, next_place}
use Rattle.js_jsx.specs.Choice.{begins_child, begins_value, choice_at_end, choice_behind, goes_on_as_name}
use Rattle.js_jsx.specs.Choice.{is_dash, is_in_template, reads_behind}
use Rattle.js_jsx.specs.Classes.{class_of, is_equal}
use Rattle.js_jsx.specs.InCode.{choice_in_code}
use Rattle.js_jsx.specs.Scopes.{is_children, is_code, is_tag, is_types, passes, top}
use Rattle.js_jsx.specs.States.{State, behind, change_at, change_of, ends, is_plain, may_open}
use Rattle.js_jsx.proofs.PlainLemmas.{behind_change, no_children_in_code, no_middle, no_tag_in_code, plain_parts}

-- what the class of a kind tells
abbrev is_end : TokenClass → Bool
is_end classes.End = true
is_end _ = false

abbrev is_right_curly : TokenClass → Bool
is_right_curly classes.RightCurly = true
is_right_curly _ = false

abbrev is_any_slash : TokenClass → Bool
is_any_slash classes.Slash = true
is_any_slash classes.SlashEqual = true
is_any_slash _ = false

end_by_class : (kind : Kind) → is_eof kind ≡ is_end (class_of kind)
unfolding class_of is_eof
end_by_class kinds.Eof = refl
end_by_class _ = refl

tail_by_class : (kind : Kind) → is_one_of (again_kinds TailGoal) kind ≡ is_right_curly (class_of kind)
unfolding class_of
tail_by_class kinds.RCurly = refl
tail_by_class _ = refl

slash_by_class : (kind : Kind) → is_one_of (again_kinds RegularExpression) kind ≡ is_any_slash (class_of kind)
unfolding class_of
slash_by_class kinds.Slash = refl
slash_by_class _ = refl

-- what a token does in code
change_at_code : (o : Option Scope) (state : State) (class : TokenClass) → is_code o ≡ true
    → change_at o state class ≡ change_in_code (may_open state) class
change_at_code None state class code = refl
change_at_code (Some Block) state class code = refl
change_at_code (Some Template) state class code = refl
change_at_code (Some Container) state class code = refl
change_at_code (Some OpeningTag) state class code = absurd (cc)
change_at_code (Some ClosingTag) state class code = absurd (cc)
change_at_code (Some TypeArguments) state class code = absurd (cc)
change_at_code (Some Children) state class code = absurd (cc)

no_types_in_code : (o : Option Scope) → is_code o ≡ true → passes is_types o ≡ false
no_types_in_code None code = refl
no_types_in_code (Some Block) code = refl
no_types_in_code (Some Template) code = refl
no_types_in_code (Some Container) code = refl
no_types_in_code (Some OpeningTag) code = absurd (cc)
no_types_in_code (Some ClosingTag) code = absurd (cc)
no_types_in_code (Some TypeArguments) code = absurd (cc)
no_types_in_code (Some Children) code = absurd (cc)

-- children are open behind a token of the class with the change
abbrev are_children_behind : State → TokenClass → Change → Bool
are_children_behind state class change = passes is_children (top (changed change class state.scopes))

-- how the next token is read behind one of the class in code
reads_in_code : (state : State) (class : TokenClass) → is_code (top state.scopes) ≡ true
    → reads_behind state class
    ≡ (if are_children_behind state class (change_in_code (may_open state) class) then JsxChild else Next)
reads_in_code state class code =
    ap (λ (value : Bool). if value then JsxAttr else if begins_child state class then JsxChild else Next) no_value
    ∙ ap (λ (child : Bool). if child then JsxChild else Next) child
  where
    no_value : begins_value state class ≡ false
    no_value = no_middle (is_equal class) (passes is_tag (top state.scopes)) _ (no_tag_in_code (top state.scopes) code)

    child : begins_child state class ≡ are_children_behind state class (change_in_code (may_open state) class)
    child =
        ap (λ (types : Bool). not types && are_children_behind state class (change_of state class))
        (no_types_in_code (top state.scopes) code)
        ∙ ap (are_children_behind state class) (change_at_code (top state.scopes) state class code)

-- what is chosen, by the tests of a last token
abbrev chosen : Option ℕ → State → Bool → Bool → Bool → Bool → TokenClass → Option Command
chosen next state end tail name slash class =
    if end then choice_at_end next state
    else if tail && is_in_template state then Some TemplateTail
    else if name then Some JsxName
    else if slash && is_code (top state.scopes) && not (ends state) then Some Regex
    else Some (reads_behind state class)

at_slash : (code ended : Bool) (command : Command) → code ≡ true → command ≡ Next
    → (if true && code && not ended then Some Regex else Some command) ≡ Some (if ended then Next else Regex)
at_slash true true command e is = ap Some is
at_slash true false command e is = refl
at_slash false ended command e is = absurd (cc)

by_class : (next : Option ℕ) (state : State) (class : TokenClass) → is_code (top state.scopes) ≡ true
    → chosen next state (is_end class) (is_right_curly class) false (is_any_slash class) class
    ≡ choice_in_code state class
by_class next state class code = by class
  where
    no_child : passes is_children (top state.scopes) ≡ false
    no_child = no_children_in_code (top state.scopes) code

    next_of : (child : Bool) → child ≡ false → (if child then JsxChild else Next) ≡ Next
    next_of true e = absurd (cc)
    next_of false e = refl

    plain : (c : TokenClass) → are_children_behind state c (change_in_code (may_open state) c) ≡ false
        → reads_behind state c ≡ Next
    plain c none = reads_in_code state c code ∙ next_of _ none

    at_angle : (may : Bool)
        → are_children_behind state classes.LeftAngle (change_in_code may classes.LeftAngle) ≡ false
    at_angle true = refl
    at_angle false = no_child

    by : (c : TokenClass) → chosen next state (is_end c) (is_right_curly c) false (is_any_slash c) c
        ≡ choice_in_code state c
    by classes.End = ap (λ (child : Bool). if child && is_some next then Some Next else None) no_child
    by classes.LeftAngle = ap Some (plain classes.LeftAngle (at_angle (may_open state)))
    by classes.RightAngle = ap Some (plain classes.RightAngle no_child)
    by classes.LeftCurly = ap Some (plain classes.LeftCurly refl)
    by classes.RightCurly =
        ap (λ (command : Command). if is_in_template state then Some TemplateTail else Some command)
        (reads_in_code state classes.RightCurly code)
    by classes.TemplateHead = ap Some (plain classes.TemplateHead refl)
    by classes.TemplateMiddle = ap Some (plain classes.TemplateMiddle no_child)
    by classes.TemplateTail = ap Some (reads_in_code state classes.TemplateTail code)
    by classes.Slash =
        at_slash (is_code (top state.scopes)) (ends state) (reads_behind state classes.Slash) code
        (plain classes.Slash no_child)
    by classes.SlashEqual =
        at_slash (is_code (top state.scopes)) (ends state) (reads_behind state classes.SlashEqual) code
        (plain classes.SlashEqual no_child)
    by classes.Equal = ap Some (plain classes.Equal no_child)
    by classes.Comma = ap Some (plain classes.Comma no_child)
    by classes.Semicolon = ap Some (plain classes.Semicolon no_child)
    by classes.RightBracket = ap Some (plain classes.RightBracket no_child)
    by classes.Extends = ap Some (plain classes.Extends no_child)
    by classes.Bang = ap Some (plain classes.Bang no_child)
    by classes.Other = ap Some (plain classes.Other no_child)

-- The command behind a last token in code is told by its class.
pub code_choice : (next : Option ℕ) (state : State) (token : TokenParts) → is_code (top state.scopes) ≡ true
    → choice_in_code state (class_of token.kind) ≡ choice_behind next state (Some token)
code_choice next state token code =
    let kind = token.kind in
    let class = class_of kind in
    let tail = is_one_of (again_kinds TailGoal) kind in
    let name = goes_on_as_name next state kind in
    let slash = is_one_of (again_kinds RegularExpression) kind in
    sym
    (ap (λ (b : Bool). chosen next state b tail name slash class) (end_by_class kind)
    ∙ ap (λ (b : Bool). chosen next state (is_end class) b name slash class) (tail_by_class kind)
    ∙ ap (λ (b : Bool). chosen next state (is_end class) (is_right_curly class) b slash class)
    (no_middle (is_identifier_name kind) (passes is_tag (top state.scopes)) (is_dash next)
    (no_tag_in_code (top state.scopes) code))
    ∙ ap (λ (b : Bool). chosen next state (is_end class) (is_right_curly class) false b class) (slash_by_class kind)
    ∙ by_class next state class code)

-- What is kept behind a `{` in code, and behind a `}`.
pub behind_left_curly : (state : State) (token : TokenParts) → is_plain state ≡ true
    → class_of token.kind ≡ classes.LeftCurly
    → record state { scopes = Block ∷ state.scopes; place = Later; before = token.kind } ≡ behind state token
behind_left_curly state token plain is =
    let parts = plain_parts state plain in
    sym
    (ap (λ (class : TokenClass). behind_change state token class (change_of state class)) is
    ∙ ap (behind_change state token classes.LeftCurly)
    (change_at_code (top state.scopes) state classes.LeftCurly parts.code)
    ∙ ap (λ (b : Bool). record {
      scopes = Block ∷ state.scopes;
      place = Later;
      has_ended = b;
      before = token.kind;
    }) (sym parts.no_more))

pub behind_right_curly : (state : State) (token : TokenParts) → is_plain state ≡ true
    → class_of token.kind ≡ classes.RightCurly
    → record state { scopes = closed classes.RightCurly state.scopes; before = token.kind } ≡ behind state token
behind_right_curly state token plain is =
    let parts = plain_parts state plain in
    sym
    (ap (λ (class : TokenClass). behind_change state token class (change_of state class)) is
    ∙ ap (behind_change state token classes.RightCurly)
    (change_at_code (top state.scopes) state classes.RightCurly parts.code)
    ∙ ap (λ (tag : Bool). record {
      scopes = closed classes.RightCurly state.scopes;
      place = if tag then next_place state.place classes.RightCurly else state.place;
      has_ended = false;
      before = token.kind;
    }) (no_tag_in_code (top state.scopes) parts.code)
    ∙ ap (λ (b : Bool). record {
      scopes = closed classes.RightCurly state.scopes;
      place = state.place;
      has_ended = b;
      before = token.kind;
    }) (sym parts.no_more))
