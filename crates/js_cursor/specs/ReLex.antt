-- Tokens that a cursor reads again as tokens of another goal.
use Rattle.std.specs.Prelude.{◌≡◌, ℕ, ◌&&◌, ◌||◌, Bool, ◌==◌, is_none}
use Rattle.js_text.specs.Ascii.{hyphen_minus}
use Rattle.js_text.specs.Characters.{begins, from_place}
use Rattle.js_text.specs.declared.reg_exp_flags.RegExpFlags.{RegExpFlags}
use Rattle.js_kind.specs.Kinds.{is_one_of}
use Rattle.js_kind.specs.declared.kind.Kind.{Kind}
use Rattle.js_grammar.specs.ReLexed.{again_kinds}
use Rattle.js_grammar.specs.declared.goal.Goal.{Goal}
use Rattle.js_lexer.specs.Goals.{ReadsRegex}
use Rattle.js_lexer.specs.Lexer.{LexesAgain}
use Rattle.js_cursor.specs.Cursor.{CursorState, is_at, is_at_token_end}

-- No fatal error stands, and the lexer stands where the current token ends.
abbrev pub is_free : CursorState → Bool
is_free c = is_none c.fatal && is_at_token_end c

-- and the goal may read the token again
abbrev pub may_re_lex : Goal → CursorState → Bool
may_re_lex goal c = is_one_of (again_kinds goal) c.token.kind && is_free c

-- The current token was read again for the goal, and the new one stands in its place.
pub record ReLexes (goal : Goal) (old new : CursorState) : Type 0 where
  pub read : LexesAgain goal old.lexer new.token new.lexer
  pub others : new ≡ record old { lexer = new.lexer; token = new.token }

-- the `-` is next with which a name of JSX goes on
abbrev pub is_at_hyphen : CursorState → Bool
is_at_hyphen c = begins (λ ch. ch == hyphen_minus) (from_place c.lexer.text c.lexer.place)

-- A re-lex to the first angle of a compound answers whether an angle is current: it is one, or such a compound begins
-- with it and may be read again.
abbrev pub is_angle : Kind → Goal → CursorState → Bool
is_angle angle goal c = is_none c.fatal && (is_at angle c || may_re_lex goal c)

-- The regular expression was read that begins with the current token.
pub record ReadsExpression (old : CursorState) (pattern_end : ℕ) (flags : RegExpFlags) (flags_error : Bool)
    (new : CursorState) : Type 0 where
  pub read : ReadsRegex old.lexer
      (record { token = new.token; pattern_end = pattern_end; flags = flags; flags_error = flags_error }) new.lexer
  pub others : new ≡ record old { lexer = new.lexer; token = new.token }
