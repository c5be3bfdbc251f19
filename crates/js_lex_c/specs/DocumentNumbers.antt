-- The numbers of rules that choose goals, of line ends and of units of columns, as C passes them.
use Rattle.std.specs.Prelude.{ℕ}
use Rattle.js_lines.specs.declared.columns.ColumnUnit.{ColumnUnit}
use Rattle.js_lines.specs.declared.columns.ColumnUnit.TheVariants.{Bytes, Characters, Utf16Units}
use Rattle.js_lines.specs.declared.line_ends.LineEnds.{LineEnds}
use Rattle.js_lines.specs.declared.line_ends.LineEnds.TheVariants.{EcmaScript, LineFeeds, LanguageServer}
use Rattle.js_document_c.specs.declared.chosen.Goals.{Goals}
use Rattle.js_document_c.specs.declared.chosen.Goals.TheVariants.{Auto, Jsx}

abbrev pub goals_number : Goals → ℕ
goals_number Auto = 0
goals_number Jsx = 1

-- how many rules there are: no number from this on is one
abbrev pub goals_count : ℕ
goals_count = 2

abbrev pub line_ends_number : LineEnds → ℕ
line_ends_number EcmaScript = 0
line_ends_number LineFeeds = 1
line_ends_number LanguageServer = 2

-- how many kinds of line ends there are: no number from this on is one
abbrev pub line_ends_count : ℕ
line_ends_count = 3

abbrev pub column_unit_number : ColumnUnit → ℕ
column_unit_number Bytes = 0
column_unit_number Characters = 1
column_unit_number Utf16Units = 2

-- how many units of columns there are: no number from this on is one
abbrev pub column_unit_count : ℕ
column_unit_count = 3
