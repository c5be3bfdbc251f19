-- Tokens that another goal may read again.
use Rattle.std.specs.Prelude.{◌≡◌, ℕ, Bool, true, List, [], ◌∷◌, ◌++◌, ◌==◌, ◌&&◌}
use Rattle.std.specs.List.{flat_map}
use Rattle.js_text.specs.Ascii.{hyphen_minus}
use Rattle.js_text.specs.Characters.{begins, from_place}
use Rattle.js_kind.specs.Kinds.{is_identifier_name, is_one_of, kind_text}
use Rattle.js_kind.specs.TokenParts.{TokenParts}
use Rattle.js_kind.specs.declared.kind.Kind.{Kind}
use Rattle.js_kind.specs.declared.kind.Kind.TheVariants.{RCurly, Slash, SlashEq, RAngle, ShiftLeft, LtEq}
use Rattle.js_kind.specs.declared.kind.Kind.TheVariants.{ShiftLeftEq, ShiftRight, ShiftRight3}
use Rattle.js_grammar.specs.declared.goal.Goal.{Goal}
use Rattle.js_grammar.specs.declared.goal.Goal.TheVariants.{First, Next, TemplateTail, RegularExpression, RightAngle}
use Rattle.js_grammar.specs.declared.goal.Goal.TheVariants.{TypeScriptLeftAngle, TypeScriptRightAngle, JsxIdentifier}
use Rattle.js_grammar.specs.declared.goal.Goal.TheVariants.{JsxChild, JsxAttributeValue}

-- The kinds of the tokens that the goal may read again, each of which has one spelling: a `}` as a part of a template,
-- a `/` or `/=` as a regular expression, a `>` as the longest angle, and a compound angle as its first character. The
-- other goals read on. A name of JSX does so behind names, which have many spellings.
abbrev pub again_kinds : Goal → List Kind
again_kinds First = []
again_kinds Next = []
again_kinds TemplateTail = RCurly ∷ []
again_kinds RegularExpression = Slash ∷ SlashEq ∷ []
again_kinds RightAngle = RAngle ∷ []
again_kinds TypeScriptLeftAngle = ShiftLeft ∷ LtEq ∷ ShiftLeftEq ∷ []
again_kinds TypeScriptRightAngle = ShiftRight ∷ ShiftRight3 ∷ []
again_kinds JsxIdentifier = []
again_kinds JsxChild = []
again_kinds JsxAttributeValue = []

-- the goals that read such tokens again
abbrev pub again_goals : List Goal
again_goals =
    TemplateTail ∷ RegularExpression ∷ RightAngle ∷ TypeScriptLeftAngle ∷ TypeScriptRightAngle ∷ []

-- the kinds of tokens that one of them may read again
abbrev pub re_lexed_kinds : List Kind
re_lexed_kinds = flat_map again_kinds again_goals

-- tokens of the kind may be read again
unfoldable pub is_re_lexed : Kind → Bool
is_re_lexed kind = is_one_of re_lexed_kinds kind

-- The text of a token that may be read again is the spelling of its kind.
abbrev pub HasSpelling : List ℕ → TokenParts → Type 0
HasSpelling text token =
    is_re_lexed token.kind ≡ true
    → from_place text token.start ≡ kind_text token.kind ++ from_place text token.end

-- The token fits the goal: it may be read again by its kind, or, as a name of JSX, is a name with a `-` behind it.
abbrev pub fits : List ℕ → Goal → TokenParts → Bool
fits text JsxIdentifier token =
    is_identifier_name token.kind && begins (λ c. c == hyphen_minus) (from_place text token.end)
fits text goal token = is_one_of (again_kinds goal) token.kind
