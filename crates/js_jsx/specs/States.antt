-- What is kept of the tokens so far.
use Rattle.std.specs.Prelude.{Bool, true, false, not, ◌&&◌, ◌||◌, List, [], ◌∷◌, Option, Some, None, is_some}
use Rattle.std.specs.Prelude.{if◌then◌else◌}
use Rattle.js_kind.specs.Kinds.{is_identifier_name, is_one_of}
use Rattle.js_kind.specs.TokenParts.{TokenParts}
use Rattle.js_kind.specs.declared.kind.Kind.{Kind}
use Rattle.js_kind.specs.declared.kind.Kind.TheVariants.{Eof, RBrack, New, Class, Function}
use Rattle.js_choose.specs.Operands.{ends_operand}
use Rattle.js_jsx.specs.declared.change.Change.{Change}
use Rattle.js_jsx.specs.declared.change.Change.TheVariants.{EndsTags}
use Rattle.js_jsx.specs.declared.change.TagPlace.{TagPlace}
use Rattle.js_jsx.specs.declared.change.TagPlace.TheVariants.{Later}
use Rattle.js_jsx.specs.declared.class.TokenClass.{TokenClass}
use Rattle.js_jsx.specs.declared.scope.Scope.{Scope}
use Rattle.js_jsx.specs.declared.scope.Scope.TheVariants.{Block, Template, Container, OpeningTag, ClosingTag}
use Rattle.js_jsx.specs.declared.scope.Scope.TheVariants.{TypeArguments, Children}
use Rattle.js_jsx.specs.Changes.{change_in_children, change_in_code, change_in_types, changed}
use Rattle.js_jsx.specs.Changes.{ends_element, ends_tags, in_place_of_tag, change_within_tag, place_behind, was_no_tag}
use Rattle.js_jsx.specs.Classes.{class_of, is_bang}
use Rattle.js_jsx.specs.Scopes.{is_code, is_tag, last_brace, passes, top}

-- What is open, the scope that was opened last first; which of its own tokens comes next in that one, if it is a tag;
-- whether an operand has ended though the last token does not tell; and the kind of the last token, `Eof` where there
-- is none.
pub record State : Type 0 where
  pub scopes : List Scope
  pub place : TagPlace
  pub has_ended : Bool
  pub before : Kind

-- at first nothing is open
abbrev pub first_state : State
first_state = record { scopes = []; place = Later; has_ended = false; before = Eof }

-- an operand may have ended
abbrev pub ends : State → Bool
ends state = state.has_ended || ends_operand state.before

-- the words behind which type parameters may stand
unfoldable pub takes_types : Kind → Bool
takes_types kind = is_one_of (New ∷ Class ∷ Function ∷ []) kind

-- a `<` opens a tag: no operand has ended, and no type parameters are meant
abbrev pub may_open : State → Bool
may_open state = not (ends state) && not (takes_types state.before)

-- a brace is open
abbrev pub has_brace : State → Bool
has_brace state = is_some (last_brace state.scopes)

-- What a token of the class does in a tag, or in what was taken for one.
abbrev pub change_in_tag : Bool → State → TokenClass → Change
change_in_tag closing state class =
    if ends_tags class then EndsTags
    else if was_no_tag state.place class then in_place_of_tag (change_in_code (may_open state) class)
    else change_within_tag closing (has_brace state) state.place (class_of state.before) class

-- what a token of the class does, by the scope that was opened last
abbrev pub change_at : Option Scope → State → TokenClass → Change
change_at None state class = change_in_code (may_open state) class
change_at (Some Block) state class = change_in_code (may_open state) class
change_at (Some Template) state class = change_in_code (may_open state) class
change_at (Some Container) state class = change_in_code (may_open state) class
change_at (Some OpeningTag) state class = change_in_tag false state class
change_at (Some ClosingTag) state class = change_in_tag true state class
change_at (Some TypeArguments) state class = change_in_types class
change_at (Some Children) state class = change_in_children (has_brace state) class

abbrev pub change_of : State → TokenClass → Change
change_of state class = change_at (top state.scopes) state class

-- the kind is that of a `]`
unfoldable pub is_right_bracket : Kind → Bool
is_right_bracket kind = is_one_of (RBrack ∷ []) kind

-- the tokens with which an operand ends behind which a `!` on their line leaves it ended
abbrev pub takes_bang : Kind → Bool
takes_bang kind = is_identifier_name kind || is_right_bracket kind

-- a `!` that leaves an operand ended
abbrev pub keeps_operand : State → TokenParts → Bool
keeps_operand state token =
    is_bang (class_of token.kind) && not token.is_on_new_line && takes_bang state.before && ends state

-- what is kept behind one token more
abbrev pub behind : State → TokenParts → State
behind state token =
    let class = class_of token.kind in
    let change = change_of state class in
    record {
      scopes = changed change class state.scopes;
      place = place_behind (passes is_tag (top state.scopes)) state.place class change;
      has_ended = ends_element change || keeps_operand state token;
      before = token.kind;
    }

-- what is kept behind these tokens, where this was kept before them
abbrev pub states_from : State → List TokenParts → State
states_from state [] = state
states_from state (token ∷ tokens) = states_from (behind state token) tokens

-- what is kept of these tokens
abbrev pub state_of : List TokenParts → State
state_of tokens = states_from first_state tokens

-- the same behind a last token, if there is one
abbrev pub behind_last : State → Option TokenParts → State
behind_last state None = state
behind_last state (Some token) = behind state token

-- Outside of tags and children, and where no operand has ended but by its last token: idle tokens change nothing but
-- what the last token is.
abbrev pub is_plain : State → Bool
is_plain state = is_code (top state.scopes) && not state.has_ended
