-- What the command `check` tells of a source.
use Rattle.std.specs.Prelude.{◌≡◌, ℕ, ◌+◌, List, [], ◌++◌, codes, Option, Some, None}
use Rattle.std.specs.Fmt.{decimal}
use Rattle.std.specs.List.{flat_map}
use Rattle.js_grammar.specs.Outcome.{Findings}
use Rattle.js_text.specs.Diagnostic.{diagnostic_span}
use Rattle.js_text.specs.declared.diagnostic.Diagnostic.{Diagnostic}
use Rattle.js_text.specs.declared.span.Span.{Span}
use Rattle.js_lines.specs.Columns.{back_within, front_within}
use Rattle.js_lines.specs.Lines.{CursorOf, Lines, back_at, front_at, last_line, line_content, position_of}
use Rattle.js_lines.specs.declared.columns.ColumnUnit.TheVariants.{Bytes, Characters}
use Rattle.js_lines.specs.declared.columns.Position.{Position}
use Rattle.js_lines.specs.declared.line_ends.LineEnds.TheVariants.{EcmaScript}
use Rattle.js_totsenak.specs.Excerpt.{excerpt, most_shown}
use Rattle.js_totsenak.specs.Messages.{message_of, warning_message}

-- a place behind a name, as `:3:14: `; lines and columns are counted from 1, columns in characters
unfoldable pub place_text : Position → List ℕ
place_text p = codes ":" ++ decimal (p.line + 1) ++ codes ":" ++ decimal (p.column + 1) ++ codes ": "

-- the place of an offset of the text
abbrev pub place_of : List ℕ → ℕ → Position
place_of text offset = position_of EcmaScript Characters text offset

-- the cursor that tells places of the text
abbrev pub in_characters : Lines → CursorOf
in_characters lines = record { lines = lines; unit = Characters }

-- the start of the text
abbrev pub text_start : Position
text_start = record { line = 0; column = 0 }

-- what stands around an offset on its line of the text, with a mark under it
abbrev pub excerpt_at : List ℕ → ℕ → List ℕ
excerpt_at text offset =
    excerpt (back_within most_shown (last_line EcmaScript (front_at text offset) (back_at text offset)))
    (front_within Bytes most_shown (line_content EcmaScript (back_at text offset)))

-- A message about a place: its line and column, what is told, and the line of the text beneath. One about the whole
-- file stands at its start, with no line beneath.
abbrev pub message_at : List ℕ → List ℕ → List ℕ → Option Span → List ℕ
message_at name text told None = name ++ place_text text_start ++ told ++ codes "\n"
message_at name text told (Some span) =
    name ++ place_text (place_of text span.start) ++ told ++ codes "\n" ++ excerpt_at text span.start

-- the message about a diagnostic, behind a label
abbrev pub labelled_text : List ℕ → List ℕ → List ℕ → Diagnostic → List ℕ
labelled_text name text label d = message_at name text (label ++ message_of d) (diagnostic_span d)

-- the message about a warning
abbrev pub warning_text : List ℕ → List ℕ → Span → List ℕ
warning_text name text span = message_at name text warning_message (Some span)

-- nothing is told of what was found
pub record IsClean (found : Findings) : Type 0 where
  pub diagnostics : found.diagnostics ≡ []
  pub deferred : found.deferred ≡ []
  pub warnings : found.warnings ≡ []

-- What is told of a source: a message for each diagnostic, for each that counts in a module alone, and for each
-- warning.
abbrev pub check_text : List ℕ → List ℕ → Findings → List ℕ
check_text name text found =
    flat_map (labelled_text name text []) found.diagnostics
    ++ flat_map (labelled_text name text (codes "warning: ")) found.deferred
    ++ flat_map (warning_text name text) found.warnings
