-- The hashbang comment that a source may begin with (ECMA-262 12.5).
use Rattle.std.specs.Prelude.{◌≡◌, ℕ, Bool, false, List, zero, suc, codes}
use Rattle.std.specs.Str.{IsCharBoundary}
use Rattle.js_text.specs.Characters.{from_place, from_first, is_line_terminator}
use Rattle.js_kind.specs.TokenParts.{TokenParts}
use Rattle.js_kind.specs.declared.kind.Kind.TheVariants.{HashbangComment}
use Rattle.js_grammar.specs.Gap.{is_prefix}
use Rattle.js_grammar.specs.declared.goal.Goal.{Goal}
use Rattle.js_grammar.specs.declared.goal.Goal.TheVariants.{First, Next, TemplateTail}
use Rattle.js_grammar.specs.declared.goal.Goal.TheVariants.{RegularExpression, RightAngle, TypeScriptLeftAngle}
use Rattle.js_grammar.specs.declared.goal.Goal.TheVariants.{TypeScriptRightAngle, JsxIdentifier, JsxChild}
use Rattle.js_grammar.specs.declared.goal.Goal.TheVariants.{JsxAttributeValue}

-- A hashbang stands at the place, for this goal: the first reading of a source alone may find one.
abbrev pub begins_hashbang : Goal → List ℕ → ℕ → Bool
begins_hashbang First text zero = is_prefix (codes "#!") (from_place text zero)
begins_hashbang First text (suc place) = false
begins_hashbang Next text place = false
begins_hashbang TemplateTail text place = false
begins_hashbang RegularExpression text place = false
begins_hashbang RightAngle text place = false
begins_hashbang TypeScriptLeftAngle text place = false
begins_hashbang TypeScriptRightAngle text place = false
begins_hashbang JsxIdentifier text place = false
begins_hashbang JsxChild text place = false
begins_hashbang JsxAttributeValue text place = false

-- The token is the hashbang comment, from the start of the text up to the next line terminator, or to the end.
pub record IsHashbang (text : List ℕ) (token : TokenParts) : Type 0 where
  pub kind : token.kind ≡ HashbangComment
  pub start : token.start ≡ 0
  pub end : IsCharBoundary text token.end
  pub up_to_line_end : from_place text token.end ≡ from_first is_line_terminator (from_place text 0)
