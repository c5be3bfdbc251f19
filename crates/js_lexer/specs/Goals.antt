-- Tokens that a lexer reads again for goals beside the plain one.
use Rattle.std.specs.Prelude.{◌≡◌, ℕ, ◌==◌, true, false, Option, Some, None}
use Rattle.js_text.specs.Ascii.{hyphen_minus}
use Rattle.js_text.specs.Characters.{begins, from_place}
use Rattle.js_kind.specs.Kinds.{is_identifier_name}
use Rattle.js_kind.specs.TokenParts.{TokenParts}
use Rattle.js_grammar.specs.declared.goal.Goal.TheVariants.{JsxIdentifier, RegularExpression}
use Rattle.js_lexer.specs.Lexer.{LexerState, LexesAgain}
use Rattle.js_reader.specs.Goals.{info_of}
use Rattle.js_reader.specs.declared.regex.RegexToken.{RegexToken}

-- The lexer stands behind its last token, a name that begins at the start.
pub record IsBehindName (start : ℕ) (l : LexerState) : Type 0 where
  pub token : TokenParts
  pub last : l.last ≡ Some token
  pub kind_is : is_identifier_name token.kind ≡ true
  pub start_is : token.start ≡ start
  pub place : l.place ≡ token.end

-- A regular expression was read in the place of the last token.
pub record ReadsRegex (old : LexerState) (found : RegexToken) (new : LexerState) : Type 0 where
  pub again : LexesAgain RegularExpression old found.token new
  pub info : again.outcome.regex ≡ Some (info_of found)

-- A name of JSX was read on, in the place of the last token; or no `-` is next, and nothing has changed.
abbrev pub ReadsName : LexerState → Option TokenParts → LexerState → Type 0
ReadsName old None new = (begins (λ c. c == hyphen_minus) (from_place old.text old.place) ≡ false) × (new ≡ old)
ReadsName old (Some token) new =
    (begins (λ c. c == hyphen_minus) (from_place old.text old.place) ≡ true) × LexesAgain JsxIdentifier old token new
