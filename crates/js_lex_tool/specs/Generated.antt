-- Sources of numbered lines, and the summary of a report.
use Rattle.std.specs.Prelude.{ℕ, List, ◌++◌, codes, length}
use Rattle.std.specs.Fmt.{decimal}
use Rattle.std.specs.List.{flat_map, range_with_len}
use Rattle.js_session.specs.declared.report.Report.{Report}

-- at most so many lines
abbrev pub most_lines : ℕ
most_lines = 20000

-- the line with this number, as `let a1 = 1 * 2; // 1`
unfoldable pub generated_line : ℕ → List ℕ
generated_line i =
    codes "let a" ++ decimal i ++ codes " = " ++ decimal i ++ codes " * 2; // " ++ decimal i ++ codes "\n"

-- so many lines, numbered from 1 on
abbrev pub generated : ℕ → List ℕ
generated lines = flat_map generated_line (range_with_len 1 lines)

-- what a source of so many lines and bytes came to: how many rows there are, and how much is live
abbrev pub gen_summary : ℕ → ℕ → Report → List ℕ
gen_summary lines bytes report =
    codes "gen " ++ decimal lines ++ codes " bytes " ++ decimal bytes ++ codes " rows "
    ++ decimal (length report.rows) ++ codes " tokens " ++ decimal (length report.tokens) ++ codes " comments "
    ++ decimal (length report.comments) ++ codes " diagnostics " ++ decimal (length report.diagnostics) ++ codes "\n"

-- the summary of a report of so many generated lines
abbrev pub summary_of : ℕ → Report → List ℕ
summary_of lines report = gen_summary lines (length (generated lines)) report
