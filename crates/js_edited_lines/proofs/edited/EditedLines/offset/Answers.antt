use Rattle.std.proofs.Common.{arith}
use Rattle.std.specs.Str.{chars}
use Rattle.js_lines.proofs.ColumnLemmas.{front-le}
use Rattle.js_lines.proofs.LineLemmas.{bytes_of_text}
use Rattle.js_edited_lines.proofs.edited.EditedLines.offset.Goals as goal

pub overflow_add-result : goal.overflow_add-result
overflow_add-result c =
    let line = c.content-line.result.now in
    omega (
      arith,
      c.bytes_within.ensures,
      front-le c.args.unit c.args.position.column (chars line),
      bytes_of_text line c.content-line.utf8,
      c.content-line.ensures.within,
      c.requires.are.short,
    )
