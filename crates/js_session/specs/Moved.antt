-- A row, so many bytes further on, and texts that stand behind something more.
use Rattle.std.specs.Prelude.{◌≡◌, ℕ, ◌+◌, List, ◌++◌, length, Some}
use Rattle.std.specs.Str.{IsUtf8}
use Rattle.js_kind.specs.TokenParts.{TokenParts}
use Rattle.js_grammar.specs.Moved.{moved_outcome, moved_token}
use Rattle.js_lexer.specs.Lexer.{IsOnPlaces}
use Rattle.js_session.specs.Live.{Live, last_live, outcome_of, row_of}
use Rattle.js_session.specs.declared.row.Row.{Row}

-- the row with each of its places so many bytes further on
abbrev pub moved_row : ℕ → Row → Row
moved_row by row = row_of row.command (by + row.place) row.taken (moved_outcome by (outcome_of row))

-- A text that stands alone and behind a front: what is live in each has the same last token, which lies on the text,
-- and in the whole it is as many bytes further on as the front has.
pub record StandBehind (front text : List ℕ) (token : TokenParts) (a b : Live) : Type 0 where
  pub utf8 : IsUtf8 text
  pub whole_utf8 : IsUtf8 (front ++ text)
  pub lies : IsOnPlaces text token
  pub last_is : last_live a ≡ Some token
  pub moved_last : last_live b ≡ Some (moved_token (length front) token)
