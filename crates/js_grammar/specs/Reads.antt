-- What a plain step reads where it reads without a fault.
use Rattle.std.specs.Prelude.{◌≡◌, ℕ, Bool, true, false, List}
use Rattle.std.specs.Str.{IsCharBoundary}
use Rattle.js_text.specs.Characters.{from_place}
use Rattle.js_text.specs.declared.source_type.SourceType.{SourceType}
use Rattle.js_grammar.specs.Gap.{LongestGap}
use Rattle.js_grammar.specs.Hashbang.{begins_hashbang, IsHashbang}
use Rattle.js_grammar.specs.Spelling.{LongestSpelling}
use Rattle.js_grammar.specs.declared.goal.Goal.{Goal}
use Rattle.js_grammar.specs.declared.goal.Goal.TheVariants.{First, Next, TemplateTail}
use Rattle.js_grammar.specs.declared.goal.Goal.TheVariants.{RegularExpression, RightAngle, TypeScriptLeftAngle}
use Rattle.js_grammar.specs.declared.goal.Goal.TheVariants.{TypeScriptRightAngle, JsxIdentifier, JsxChild}
use Rattle.js_grammar.specs.declared.goal.Goal.TheVariants.{JsxAttributeValue}
use Rattle.js_kind.specs.TokenParts.{TokenParts}

-- the goals whose readings the grammar's plain readings decide
abbrev pub is_plain : Goal → Bool
is_plain First = true
is_plain Next = true
is_plain TemplateTail = false
is_plain RegularExpression = false
is_plain RightAngle = false
is_plain TypeScriptLeftAngle = false
is_plain TypeScriptRightAngle = false
is_plain JsxIdentifier = false
is_plain JsxChild = false
is_plain JsxAttributeValue = false

-- the goals that read on from a place, and not the last token again
abbrev pub is_onward : Goal → Bool
is_onward First = true
is_onward Next = true
is_onward TemplateTail = false
is_onward RegularExpression = false
is_onward RightAngle = false
is_onward TypeScriptLeftAngle = false
is_onward TypeScriptRightAngle = false
is_onward JsxIdentifier = false
is_onward JsxChild = true
is_onward JsxAttributeValue = true

-- The token stands behind the longest gap from the place on, and is the longest spelling there.
pub record IsSpelled (text : List ℕ) (t : SourceType) (line_has_ended : Bool) (place : ℕ)
    (token : TokenParts) : Type 0 where
  pub gap : LongestGap t line_has_ended (from_place text place) token.is_on_new_line (from_place text token.start)
  pub start : IsCharBoundary text token.start
  pub spelled : List ℕ
  pub spelling : LongestSpelling t token.is_on_new_line (from_place text token.start) spelled
      (from_place text token.end) token.kind
  pub end : IsCharBoundary text token.end

-- The grammar reads the token from the place on, where the flag tells whether a line has ended before the place.
pub data PlainReads (text : List ℕ) (t : SourceType) (goal : Goal) (line_has_ended : Bool) (place : ℕ)
    (token : TokenParts)
    : Type 0 where
  hashbang : begins_hashbang goal text place ≡ true → IsHashbang text token → token.is_on_new_line ≡ line_has_ended
      → PlainReads text t goal line_has_ended place token
  spelled : begins_hashbang goal text place ≡ false → IsSpelled text t line_has_ended place token
      → PlainReads text t goal line_has_ended place token

-- two tokens with one span, kind and newline flag
pub record SameReading (a b : TokenParts) : Type 0 where
  pub start : a.start ≡ b.start
  pub end : a.end ≡ b.end
  pub kind : a.kind ≡ b.kind
  pub is_on_new_line : a.is_on_new_line ≡ b.is_on_new_line
