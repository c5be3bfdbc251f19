-- A source without comments, and with no more white space than its tokens need.
use Rattle.std.specs.Prelude.{ℕ, Bool, true, false, ◌==◌, List, [], ◌∷◌, ◌++◌, drop, Option, Some, None}
use Rattle.std.specs.Prelude.{if◌then◌else◌, slice_get, slice_range}
use Rattle.std.specs.List.{filter, last_or}
use Rattle.std.specs.Str.{chars}
use Rattle.js_text.specs.Ascii.{line_feed}
use Rattle.js_kind.specs.TokenParts.{TokenParts}
use Rattle.js_grammar.specs.Blanks.{space}
use Rattle.js_lexer.specs.Lexer.{token_or_default}
use Rattle.js_session.specs.Effects.{row_effect}
use Rattle.js_session.specs.declared.command.Effect.{Effect}
use Rattle.js_session.specs.declared.command.Effect.TheVariants.{Reads, Peeks, ReLexes, Opens, Rewinds, Commits}
use Rattle.js_session.specs.declared.report.Report.{Report}
use Rattle.js_session.specs.declared.row.Row.{Row}
use Rattle.js_rewrite.specs.Space.{need_space}

-- the effects that make one token more live
abbrev pub reads_on : Effect → Bool
reads_on (Reads goal) = true
reads_on (Peeks goal) = false
reads_on (ReLexes goal) = false
reads_on Opens = false
reads_on Rewinds = false
reads_on Commits = false

-- The row is the first, or a step that reads one token more. Without marks and peeks each live token has one such row,
-- which first read it, in the same order.
abbrev pub first_reads : Row → Bool
first_reads row = reads_on (row_effect row.command)

-- the text of the token
abbrev pub token_text : List ℕ → TokenParts → List ℕ
token_text source token = slice_range source token.start token.end

-- What stands before a token, which this row first read, and behind the token before it: nothing, where the row read it
-- right at its place; a line end, where a line ended before it; a space, where the two need one; else nothing.
abbrev pub separator_behind : List ℕ → TokenParts → Row → TokenParts → List ℕ
separator_behind source before row token =
    if row.token.start == row.place then []
    else if row.token.is_on_new_line then line_feed ∷ []
    else if need_space before.kind (last_or None (chars (token_text source before)))
    (slice_get (chars (token_text source token)) 0) then space ∷ []
    else []

-- the same, and nothing before the first token
abbrev pub separator : List ℕ → Option TokenParts → Row → TokenParts → List ℕ
separator source None row token = []
separator source (Some before) row token = separator_behind source before row token

-- the tokens, each with what stands before it, and the rest of the source behind the last one
abbrev pub squeezed : List ℕ → Option TokenParts → List Row → List TokenParts → List ℕ
squeezed source before [] tokens = drop (token_or_default before).end source
squeezed source before (row ∷ rows) [] = drop (token_or_default before).end source
squeezed source before (row ∷ rows) (token ∷ tokens) =
    separator source before row token
    ++ (token_text source token ++ squeezed source (Some token) rows tokens)

-- the text of the live tokens of a report, and the rest of the source behind the last one
abbrev pub squeeze_text : List ℕ → Report → List ℕ
squeeze_text source report = squeezed source None (filter first_reads report.rows) report.tokens
