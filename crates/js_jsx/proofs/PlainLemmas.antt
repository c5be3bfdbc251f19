-- Idle tokens outside of tags and children: what is kept behind them, and what is chosen.
use Rattle.std.proofs.Common.{◌≡◌, ℕ, ◌&&◌, ◌||◌, not, Bool, true, false, refl, sym, ◌∙◌, ap}
use Rattle.std.proofs.Common.{Option, Some, None, drop, if◌then◌else◌}
use Rattle.std.proofs.lemmas.Bool.{and_parts, or_parts}
use Rattle.js_kind.specs.Kinds.{is_identifier_name, is_one_of}
use Rattle.js_kind.specs.Predicates.{is_eof}
use Rattle.js_kind.specs.TokenParts.{TokenParts}
use Rattle.js_kind.specs.declared.kind.Kind.{Kind}
use Rattle.js_kind.specs.declared.kind.Kind.TheVariants as kinds
use Rattle.js_grammar.specs.ReLexed.{again_kinds}
use Rattle.js_grammar.specs.declared.goal.Goal.TheVariants.{RegularExpression, TemplateTail as TailGoal}
use Rattle.js_session.specs.declared.command.Command.TheVariants.{Next, JsxAttr, JsxChild, JsxName, Regex}
use Rattle.js_session.specs.declared.command.Command.TheVariants.{TemplateTail}
use Rattle.js_jsx.specs.declared.change.Change.{Change}
use Rattle.js_jsx.specs.declared.change.Change.TheVariants.{Stays}
use Rattle.js_jsx.specs.declared.class.TokenClass.{TokenClass}
use Rattle.js_jsx.specs.declared.class.TokenClass.TheVariants.{RightAngle, TemplateMiddle, Equal, Comma}
use Rattle.js_jsx.specs.declared.class.TokenClass.TheVariants.{Semicolon, RightBracket, Extends, Other}
use Rattle.js_jsx.specs.declared.scope.Scope.{Scope}
use Rattle.js_jsx.specs.declared.scope.Scope.TheVariants.{Block, Template, Container, OpeningTag, ClosingTag}
use Rattle.js_jsx.specs.declared.scope.Scope.TheVariants.{TypeArguments, Children}
use Rattle.js_jsx.specs.Changes.{change_in_code, changed, closes, ends_element, next_place, place_behind, stays}
use Rattle.js_jsx.specs.Choice.{begins_child, begins_value, choice_at_end, choice_behind, goes_on_as_name}
use Rattle.js_jsx.specs.Choice.{is_dash, is_in_template, kept_last, reads_behind}
use Rattle.js_jsx.specs.Classes.{class_of, is_bang, is_equal, is_idle}
use Rattle.js_jsx.specs.Scopes.{is_children, is_code, is_tag, is_types, passes, top}
use Rattle.js_jsx.specs.States.{State, behind, behind_last, change_at, change_of, ends, is_plain, may_open}
use Rattle.js_jsx.specs.States.{takes_bang}

-- what is known of a kind whose tokens are idle
abbrev is_marked : Kind → Bool
is_marked kind =
    is_eof kind || (is_one_of (again_kinds TailGoal) kind || is_one_of (again_kinds RegularExpression) kind)

idle_unmarked : (kind : Kind) → (is_idle (class_of kind) && is_marked kind) ≡ false
unfolding class_of is_eof
idle_unmarked kinds.Eof = refl
idle_unmarked _ = refl

and_none : (a b : Bool) → (a && b) ≡ false → a ≡ true → b ≡ false
and_none true b e is = e
and_none false b e is = absurd (cc)

record IsUnmarked (kind : Kind) : Type 0 where
  eof : is_eof kind ≡ false
  tail : is_one_of (again_kinds TailGoal) kind ≡ false
  slash : is_one_of (again_kinds RegularExpression) kind ≡ false

unmarked : (kind : Kind) → is_idle (class_of kind) ≡ true → IsUnmarked kind
unmarked kind idle =
    let first =
    or_parts (is_eof kind) (is_one_of (again_kinds TailGoal) kind || is_one_of (again_kinds RegularExpression) kind)
    (and_none (is_idle (class_of kind)) (is_marked kind) (idle_unmarked kind) idle) in
    let rest =
    or_parts (is_one_of (again_kinds TailGoal) kind) (is_one_of (again_kinds RegularExpression) kind) first.1 in
    record { eof = first.0; tail = rest.0; slash = rest.1 }

-- what is known of a class whose tokens are idle
record IsIdleClass (class : TokenClass) : Type 0 where
  bang : is_bang class ≡ false
  stays : (may : Bool) → change_in_code may class ≡ Stays
  shuts : (scope : Option Scope) → closes class scope ≡ false

idle_class : (class : TokenClass) → is_idle class ≡ true → IsIdleClass class
idle_class RightAngle is = record { bang = refl; stays = λ may. refl; shuts = λ scope. refl }
idle_class TemplateMiddle is = record { bang = refl; stays = λ may. refl; shuts = λ scope. refl }
idle_class Equal is = record { bang = refl; stays = λ may. refl; shuts = λ scope. refl }
idle_class Comma is = record { bang = refl; stays = λ may. refl; shuts = λ scope. refl }
idle_class Semicolon is = record { bang = refl; stays = λ may. refl; shuts = λ scope. refl }
idle_class RightBracket is = record { bang = refl; stays = λ may. refl; shuts = λ scope. refl }
idle_class Extends is = record { bang = refl; stays = λ may. refl; shuts = λ scope. refl }
idle_class Other is = record { bang = refl; stays = λ may. refl; shuts = λ scope. refl }
idle_class _ is = absurd (cc)

-- Such a token does nothing outside of tags and children.
stays_in_code : (o : Option Scope) (state : State) (class : TokenClass) → IsIdleClass class → is_code o ≡ true
    → change_at o state class ≡ Stays
stays_in_code None state class idle code = idle.stays (may_open state)
stays_in_code (Some Block) state class idle code = idle.stays (may_open state)
stays_in_code (Some Template) state class idle code = idle.stays (may_open state)
stays_in_code (Some Container) state class idle code = idle.stays (may_open state)
stays_in_code (Some OpeningTag) state class idle code = absurd (cc)
stays_in_code (Some ClosingTag) state class idle code = absurd (cc)
stays_in_code (Some TypeArguments) state class idle code = absurd (cc)
stays_in_code (Some Children) state class idle code = absurd (cc)

-- In code neither a tag nor children were opened last.
pub no_tag_in_code : (o : Option Scope) → is_code o ≡ true → passes is_tag o ≡ false
no_tag_in_code None code = refl
no_tag_in_code (Some Block) code = refl
no_tag_in_code (Some Template) code = refl
no_tag_in_code (Some Container) code = refl
no_tag_in_code (Some OpeningTag) code = absurd (cc)
no_tag_in_code (Some ClosingTag) code = absurd (cc)
no_tag_in_code (Some TypeArguments) code = absurd (cc)
no_tag_in_code (Some Children) code = absurd (cc)

pub no_children_in_code : (o : Option Scope) → is_code o ≡ true → passes is_children o ≡ false
no_children_in_code None code = refl
no_children_in_code (Some Block) code = refl
no_children_in_code (Some Template) code = refl
no_children_in_code (Some Container) code = refl
no_children_in_code (Some OpeningTag) code = absurd (cc)
no_children_in_code (Some ClosingTag) code = absurd (cc)
no_children_in_code (Some TypeArguments) code = absurd (cc)
no_children_in_code (Some Children) code = absurd (cc)

not_true : (b : Bool) → not b ≡ true → b ≡ false
not_true false e = refl
not_true true e = absurd (cc)

pub record IsPlain (state : State) : Type 0 where
  pub code : is_code (top state.scopes) ≡ true
  pub no_more : state.has_ended ≡ false

pub plain_parts : (state : State) → is_plain state ≡ true → IsPlain state
plain_parts state plain =
    let both = and_parts (is_code (top state.scopes)) (not state.has_ended) plain in
    record { code = both.0; no_more = not_true state.has_ended both.1 }

-- what is kept behind a token of a class with a change
abbrev pub behind_change : State → TokenParts → TokenClass → Change → State
behind_change state token class change = record {
  scopes = changed change class state.scopes;
  place = place_behind (passes is_tag (top state.scopes)) state.place class change;
  has_ended = ends_element change
      || (is_bang class && not token.is_on_new_line && takes_bang state.before && ends state);
  before = token.kind;
}

plain_behind : (state : State) (token : TokenParts) → is_plain state ≡ true → is_idle (class_of token.kind) ≡ true
    → behind state token ≡ record state { before = token.kind }
plain_behind state token plain idle =
    let class = class_of token.kind in
    let parts = plain_parts state plain in
    let is = idle_class class idle in
    ap (behind_change state token class) (stays_in_code (top state.scopes) state class is parts.code)
    ∙ by_tests (closes class (top state.scopes)) (passes is_tag (top state.scopes)) (is_bang class)
    (is.shuts (top state.scopes)) (no_tag_in_code (top state.scopes) parts.code) is.bang
    ∙ ap (λ (b : Bool). record state { has_ended = b; before = token.kind }) (sym parts.no_more)
  where
    by_tests : (closes_one tag bang : Bool) → closes_one ≡ false → tag ≡ false → bang ≡ false
        → record {
          scopes = if closes_one then drop 1 state.scopes else state.scopes;
          place = if tag then next_place state.place (class_of token.kind) else state.place;
          has_ended = false || (bang && not token.is_on_new_line && takes_bang state.before && ends state);
          before = token.kind;
        }
        ≡ record state { has_ended = false; before = token.kind }
    by_tests false false false e1 e2 e3 = refl
    by_tests true tag bang e1 e2 e3 = absurd (cc)
    by_tests false true bang e1 e2 e3 = absurd (cc)
    by_tests false false true e1 e2 e3 = absurd (cc)

-- The end of the source has a class of its own.
end_is_not_idle : (kind : Kind) → kind ≡ kinds.Eof → is_idle (class_of kind) ≡ false
unfolding class_of
end_is_not_idle kind is = ap (λ k. is_idle (class_of k)) is

-- Such a last token changes nothing but what the last token is.
pub plain_step : (state : State) (has_last : Bool) (last : TokenParts) → (has_last ≡ false → last.kind ≡ kinds.Eof)
    → is_plain state ≡ true → is_idle (class_of last.kind) ≡ true
    → record state { before = last.kind } ≡ behind_last state (kept_last has_last last)
plain_step state true last none plain idle = sym (plain_behind state last plain idle)
plain_step state false last none plain idle =
    absurd (let no : true ≡ false = sym idle ∙ end_is_not_idle last.kind (none refl) in
    cc)

pub no_middle : (a b c : Bool) → b ≡ false → (a && b && c) ≡ false
no_middle true b c e = rw e refl
no_middle false b c e = refl

no_second : (a b : Bool) → b ≡ false → (a && b) ≡ false
no_second true b e = e
no_second false b e = refl

-- how the next token is read behind such a one
plain_reads : (state : State) (class : TokenClass) → is_plain state ≡ true → is_idle class ≡ true
    → reads_behind state class ≡ Next
plain_reads state class plain idle =
    by_tests (begins_value state class) (begins_child state class) no_value no_child
  where
    code : is_code (top state.scopes) ≡ true
    code = (plain_parts state plain).code

    no_value : begins_value state class ≡ false
    no_value =
        no_middle (is_equal class) (passes is_tag (top state.scopes)) (stays (change_of state class))
        (no_tag_in_code (top state.scopes) code)

    left_open : changed (change_of state class) class state.scopes ≡ state.scopes
    left_open =
        ap (λ change. changed change class state.scopes)
        (stays_in_code (top state.scopes) state class (idle_class class idle) code)
        ∙ ap (λ b. if b then drop 1 state.scopes else state.scopes)
        ((idle_class class idle).shuts (top state.scopes))

    no_child : begins_child state class ≡ false
    no_child =
        no_second (not (passes is_types (top state.scopes)))
        (passes is_children (top (changed (change_of state class) class state.scopes)))
        (ap (λ scopes. passes is_children (top scopes)) left_open ∙ no_children_in_code (top state.scopes) code)

    by_tests : (value child : Bool) → value ≡ false → child ≡ false
        → (if value then JsxAttr else if child then JsxChild else Next) ≡ Next
    by_tests false false e1 e2 = refl
    by_tests true child e1 e2 = absurd (cc)
    by_tests false true e1 e2 = absurd (cc)

plain_choice : (next : Option ℕ) (state : State) (token : TokenParts) → is_plain state ≡ true
    → is_idle (class_of token.kind) ≡ true → choice_behind next state (Some token) ≡ Some Next
plain_choice next state token plain idle =
    by_tests (is_eof token.kind) (is_one_of (again_kinds TailGoal) token.kind)
    (goes_on_as_name next state token.kind) (is_one_of (again_kinds RegularExpression) token.kind)
    (unmarked token.kind idle).eof (unmarked token.kind idle).tail
    (no_middle (is_identifier_name token.kind) (passes is_tag (top state.scopes)) (is_dash next)
    (no_tag_in_code (top state.scopes) (plain_parts state plain).code))
    (unmarked token.kind idle).slash
  where
    by_tests : (end tail name slash : Bool) → end ≡ false → tail ≡ false → name ≡ false → slash ≡ false
        → (if end then choice_at_end next state
        else if tail && is_in_template state then Some TemplateTail
        else if name then Some JsxName
        else if slash && is_code (top state.scopes) && not (ends state) then Some Regex
        else Some (reads_behind state (class_of token.kind))) ≡ Some Next
    by_tests false false false false e1 e2 e3 e4 = ap Some (plain_reads state (class_of token.kind) plain idle)
    by_tests true tail name slash e1 e2 e3 e4 = absurd (cc)
    by_tests false true name slash e1 e2 e3 e4 = absurd (cc)
    by_tests false false true slash e1 e2 e3 e4 = absurd (cc)
    by_tests false false false true e1 e2 e3 e4 = absurd (cc)

-- Behind such a last token the next one is read.
pub plain_command : (next : Option ℕ) (state : State) (has_last : Bool) (last : TokenParts) → is_plain state ≡ true
    → is_idle (class_of last.kind) ≡ true → choice_behind next state (kept_last has_last last) ≡ Some Next
plain_command next state true last plain idle = plain_choice next state last plain idle
plain_command next state false last plain idle = refl
