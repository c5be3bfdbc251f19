use Rattle.std.proofs.Common.{ap, arith, sym, ◌∙◌}
use Rattle.js_lines.proofs.LineLemmas.{rounded}
use Rattle.js_lines.specs.Columns.{length_in}
use Rattle.js_lines.specs.declared.columns.ColumnUnit.TheVariants.{Bytes}
use Rattle.js_lines.proofs.columns.ColumnUnit.bytes_within.Goals as goal

pub overflow_cast-result : goal.overflow_cast-result
overflow_cast-result c =
    omega (arith, c.floor_char_boundary.ensures.boundary.0, c.requires)

pub returns-in-Bytes : goal.returns-in-Bytes
returns-in-Bytes c =
    let floor = c.floor_char_boundary in
    let found = rounded c.args.text.now c.args.column floor.result c.utf8.text floor.ensures.bound
    floor.ensures.boundary floor.ensures.nearest in
    rw c.in-Bytes.is (sym (ap (length_in Bytes) found.0 ∙ found.3))
