use Rattle.std.proofs.Common.{arith}
use Rattle.std.specs.Str.{chars}
use Rattle.js_lines.proofs.ColumnLemmas.{front-le}
use Rattle.js_lines.proofs.LineLemmas.{bytes_of_text}
use Rattle.js_lines.proofs.table.LineTable.offset.Goals as goal

pub overflow_add-result : goal.overflow_add-result
overflow_add-result c =
    let line = c.content_from-line.result.now in
    omega (
      arith,
      c.bytes_within.ensures,
      front-le c.args.unit c.args.position.column (chars line),
      bytes_of_text line c.content_from-line.utf8,
      c.content_from-line.ensures.within,
      c.content_from-line.ensures.short,
    )
