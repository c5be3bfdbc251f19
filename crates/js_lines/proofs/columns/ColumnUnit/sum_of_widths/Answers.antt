use Rattle.std.proofs.Common.{ap, arith}
use Rattle.std.specs.Str.{chars}
use Rattle.js_lines.proofs.ColumnLemmas.{length_in-le}
use Rattle.js_lines.proofs.LineLemmas.{bytes_of_text}
use Rattle.js_lines.specs.Columns.{length_in}
use Rattle.js_lines.proofs.columns.ColumnUnit.sum_of_widths.Goals as goal

pub overflow_add-length : goal.overflow_add-length
overflow_add-length c =
    omega (
      arith,
      c.loop-c.invariant,
      c.width_of-length.ensures,
      ap (length_in c.args.self) c.in-Some.ensures.some.here,
      length_in-le c.args.self (chars c.args.text.now),
      bytes_of_text c.args.text.now c.utf8.text,
      c.requires,
    )
