-- What is found as JSON, an object for each.
use Rattle.std.specs.Prelude.{ℕ, ◌+◌, List, ◌++◌, codes}
use Rattle.std.specs.Fmt.{decimal}
use Rattle.std.specs.List.{flat_map}
use Rattle.js_lines.specs.declared.columns.Position.{Position}
use Rattle.js_text.specs.declared.span.Span.{Span}
use Rattle.js_totsenak.specs.Check.{place_of}
use Rattle.js_imports.specs.declared.found.Found.{Found}
use Rattle.js_imports.specs.declared.found.Role.{Role}
use Rattle.js_imports.specs.declared.found.Role.TheVariants as role
use Rattle.js_imports_text.specs.Lines.{role_name, value_or_null}

-- the name of the member that holds what is imported or exported
abbrev pub value_name : Role → List ℕ
value_name role.ExportName = codes "name"
value_name role.ExportPattern = codes "name"
value_name _ = codes "specifier"

-- where it starts and ends, in bytes
abbrev pub span_members : Span → List ℕ
span_members span = codes ",\"start\":" ++ decimal span.start ++ codes ",\"end\":" ++ decimal span.end

-- its line and its column, counted from 1, columns in characters
abbrev pub place_members : Position → List ℕ
place_members p = codes ",\"line\":" ++ decimal (p.line + 1) ++ codes ",\"column\":" ++ decimal (p.column + 1)

-- where its specifier, its argument, its name or its pattern starts and ends, in bytes
abbrev pub part_members : Span → List ℕ
part_members span = codes ",\"part_start\":" ++ decimal span.start ++ codes ",\"part_end\":" ++ decimal span.end

-- what the object of something that is found begins with
unfoldable pub found_head : Found → List ℕ
found_head x = codes "{\"type\":\"" ++ role_name x.role ++ codes "\"" ++ span_members x.span

-- its specifier or its name, and `null` where it has none
unfoldable pub value_member : List ℕ → Found → List ℕ
value_member source x = codes ",\"" ++ value_name x.role ++ codes "\":" ++ value_or_null source x.value

-- the object of something that is found
unfoldable pub found_json : List ℕ → Found → List ℕ
found_json source x =
    found_head x ++ place_members (place_of source x.span.start) ++ part_members x.part ++ value_member source x
    ++ codes "}\n"

-- the objects of what is found, each on a line of its own
abbrev pub found_objects : List ℕ → List Found → List ℕ
found_objects source found = flat_map (found_json source) found
