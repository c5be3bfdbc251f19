-- What is found, a line for each.
use Rattle.std.specs.Prelude.{ℕ, List, [], ◌++◌, codes}
use Rattle.std.specs.Fmt.{decimal}
use Rattle.std.specs.List.{flat_map}
use Rattle.js_text.specs.declared.span.Span.{Span}
use Rattle.js_text.specs.declared.value.RowValue.{RowValue}
use Rattle.js_text.specs.declared.value.RowValue.TheVariants as value
use Rattle.js_totsenak.specs.Check.{place_of}
use Rattle.js_totsenak.specs.Tokens.{place_head}
use Rattle.js_totsenak.specs.ValueJson.{value_json}
use Rattle.js_imports.specs.declared.found.Found.{Found}
use Rattle.js_imports.specs.declared.found.Role.{Role}
use Rattle.js_imports.specs.declared.found.Role.TheVariants as role

-- the name of what is found
abbrev pub role_name : Role → List ℕ
role_name role.Nothing = codes "nothing"
role_name role.StaticImport = codes "static"
role_name role.DynamicImport = codes "dynamic"
role_name role.ImportMeta = codes "meta"
role_name role.Require = codes "require"
role_name role.ExportFrom = codes "export-from"
role_name role.ExportName = codes "export"
role_name role.ExportPattern = codes "export-pattern"

-- a specifier or a name as a string of JSON, and `null` where there is none
abbrev pub value_or_null : List ℕ → RowValue → List ℕ
value_or_null source value.Nothing = codes "null"
value_or_null source (value.Slice span) = value_json source (value.Slice span)
value_or_null source (value.Units units) = value_json source (value.Units units)
value_or_null source value.Bad = codes "null"

-- where a stretch starts and ends, in bytes, as `12-34`
abbrev pub stretch : Span → List ℕ
stretch span = decimal span.start ++ codes "-" ++ decimal span.end

-- where the argument or the pattern stands of what has no specifier and no name
abbrev pub unnamed_as : Role → Span → List ℕ
unnamed_as role.ImportMeta span = []
unnamed_as _ span = codes " " ++ stretch span

abbrev pub unnamed : Found → List ℕ
unnamed x = unnamed_as x.role x.part

-- what the line of something that is found ends with
abbrev pub line_end : List ℕ → RowValue → List ℕ → List ℕ
line_end source value.Nothing none = none
line_end source v none = codes " " ++ value_or_null source v

abbrev pub line_end_of : List ℕ → Found → List ℕ
line_end_of source x = line_end source x.value (unnamed x)

-- The line of something that is found: its line and column, what it is, and its specifier or its name, or else where its
-- argument or its pattern stands.
unfoldable pub found_line : List ℕ → Found → List ℕ
found_line source x =
    place_head (place_of source x.span.start) ++ role_name x.role ++ line_end_of source x ++ codes "\n"

-- the lines of what is found
abbrev pub found_lines : List ℕ → List Found → List ℕ
found_lines source found = flat_map (found_line source) found
