-- Which command comes next, by the tokens so far and the byte behind the last one.
use Rattle.std.specs.Prelude.{◌==◌, ℕ, Bool, false, not, ◌&&◌, ◌||◌, List, Option, Some, None, is_some, if◌then◌else◌}
use Rattle.std.specs.List.{last_or}
use Rattle.js_text.specs.Ascii.{hyphen_minus}
use Rattle.js_kind.specs.Kinds.{is_identifier_name, is_one_of}
use Rattle.js_kind.specs.Predicates.{is_eof}
use Rattle.js_kind.specs.TokenParts.{TokenParts}
use Rattle.js_kind.specs.declared.kind.Kind.{Kind}
use Rattle.js_grammar.specs.ReLexed.{again_kinds}
use Rattle.js_grammar.specs.declared.goal.Goal.TheVariants.{RegularExpression, TemplateTail as TailGoal}
use Rattle.js_session.specs.declared.command.Command.{Command}
use Rattle.js_session.specs.declared.command.Command.TheVariants.{Next, JsxChild, JsxAttr, JsxName, Regex}
use Rattle.js_session.specs.declared.command.Command.TheVariants.{TemplateTail}
use Rattle.js_choose.specs.LastTokens.{but_last, byte_behind}
use Rattle.js_jsx.specs.declared.class.TokenClass.{TokenClass}
use Rattle.js_jsx.specs.declared.class.TokenClass.TheVariants.{RightCurly}
use Rattle.js_jsx.specs.Changes.{changed, stays, was_no_tag}
use Rattle.js_jsx.specs.Classes.{class_of, is_equal}
use Rattle.js_jsx.specs.Scopes.{is_children, is_code, is_tag, is_template, is_types, last_brace, passes, top}
use Rattle.js_jsx.specs.States.{State, change_of, ends, state_of}

-- what was opened last is a tag that goes on up to a `}`, and this ends a substitution
abbrev pub is_tag_in_template : State → Bool
is_tag_in_template state =
    not (was_no_tag state.place RightCurly) && passes is_template (last_brace state.scopes)

-- A `}` ends a substitution: what was opened last is one, or a tag that this `}` leaves unended.
abbrev pub is_in_template : State → Bool
is_in_template state =
    passes is_template (top state.scopes) || (passes is_tag (top state.scopes) && is_tag_in_template state)

abbrev pub ends_substitution : State → Kind → Bool
ends_substitution state kind = is_one_of (again_kinds TailGoal) kind && is_in_template state

-- the byte is a `-`
abbrev pub is_dash : Option ℕ → Bool
is_dash None = false
is_dash (Some byte) = byte == hyphen_minus

-- a name in a tag goes on with a `-`
abbrev pub goes_on_as_name : Option ℕ → State → Kind → Bool
goes_on_as_name next state kind =
    is_identifier_name kind && passes is_tag (top state.scopes) && is_dash next

-- a `/` or `/=` begins a regular expression
abbrev pub begins_expression : State → Kind → Bool
begins_expression state kind =
    is_one_of (again_kinds RegularExpression) kind && is_code (top state.scopes) && not (ends state)

-- the next token is read as the value of an attribute
abbrev pub begins_value : State → TokenClass → Bool
begins_value state class = is_equal class && passes is_tag (top state.scopes) && stays (change_of state class)

-- the next token is read as a child
abbrev pub begins_child : State → TokenClass → Bool
begins_child state class =
    not (passes is_types (top state.scopes))
    && passes is_children (top (changed (change_of state class) class state.scopes))

-- how the next token is read behind one of the class
abbrev pub reads_behind : State → TokenClass → Command
reads_behind state class =
    if begins_value state class then JsxAttr
    else if begins_child state class then JsxChild
    else Next

-- Behind an end nothing follows, but where it ends the text of a child inside the source.
abbrev pub choice_at_end : Option ℕ → State → Option Command
choice_at_end next state = if passes is_children (top state.scopes) && is_some next then Some Next else None

-- The command behind a last token, where this is kept of those before it, and this byte follows. None: no command
-- follows. Where there is no token yet, one is read.
abbrev pub choice_behind : Option ℕ → State → Option TokenParts → Option Command
choice_behind next state None = Some Next
choice_behind next state (Some last) =
    if is_eof last.kind then choice_at_end next state
    else if ends_substitution state last.kind then Some TemplateTail
    else if goes_on_as_name next state last.kind then Some JsxName
    else if begins_expression state last.kind then Some Regex
    else Some (reads_behind state (class_of last.kind))

-- the command behind these tokens of the text; None: no command follows
abbrev pub choice : List ℕ → List TokenParts → Option Command
choice text tokens = choice_behind (byte_behind text tokens) (state_of (but_last tokens)) (last_or None tokens)

-- What a chooser keeps of the tokens so far: what is kept of all but the last one, and the last one.
pub record Chooser : Type 0 where
  pub state : State
  pub last : Option TokenParts

abbrev pub chooser_of : List TokenParts → Chooser
chooser_of tokens = record { state = state_of (but_last tokens); last = last_or None tokens }

-- the same once the last token is passed: all are kept
abbrev pub chooser_behind : List TokenParts → Chooser
chooser_behind tokens = record { state = state_of tokens; last = last_or None tokens }

-- the last one, where it is known whether there is one
abbrev pub kept_last : Bool → TokenParts → Option TokenParts
kept_last has_last last = if has_last then Some last else None
