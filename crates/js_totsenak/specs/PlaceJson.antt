-- Places of a source as members of objects of JSON.
use Rattle.std.specs.Prelude.{ℕ, ◌+◌, List, ◌++◌, codes, Option, Some, None}
use Rattle.js_lines.specs.declared.columns.Position.{Position}
use Rattle.js_text.specs.declared.span.Span.{Span}
use Rattle.js_totsenak.specs.Check.{place_of}
use Rattle.js_totsenak.specs.Members.{null_member, number_member}

-- where a stretch starts and ends, in bytes
unfoldable pub span_members : Span → List ℕ
span_members span = number_member (codes "start") span.start ++ number_member (codes "end") span.end

-- a line and a column, counted from 1, columns in characters
unfoldable pub position_members : Position → List ℕ
position_members p = number_member (codes "line") (p.line + 1) ++ number_member (codes "column") (p.column + 1)

-- where a stretch of the text starts and ends, and the line and the column of its start
unfoldable pub stretch_members : List ℕ → Span → List ℕ
stretch_members text span = span_members span ++ position_members (place_of text span.start)

-- the same of no stretch
unfoldable pub no_stretch : List ℕ
no_stretch =
    null_member (codes "start") ++ null_member (codes "end") ++ null_member (codes "line")
    ++ null_member (codes "column")

abbrev pub stretch_or_null : List ℕ → Option Span → List ℕ
stretch_or_null text None = no_stretch
stretch_or_null text (Some span) = stretch_members text span
