use Rattle.std.proofs.Common.{arith}
use Rattle.std.specs.Str.{chars}
use Rattle.js_lines.proofs.ColumnLemmas.{length_in-le}
use Rattle.js_lines.proofs.LineLemmas.{bytes_of_text}
use Rattle.js_lines.proofs.columns.ColumnUnit.length_of.Goals as goal

pub returns-in-Bytes-clause-value : goal.returns-in-Bytes-clause-value
returns-in-Bytes-clause-value c = rw c.in-Bytes.is (bytes_of_text c.args.text.now c.utf8.text)

pub returns-in-Characters : goal.returns-in-Characters
returns-in-Characters c = record {
  value = c.sum_of_widths.ensures;
  bound = omega (
    arith,
    c.sum_of_widths.ensures,
    length_in-le c.args.self (chars c.args.text.now),
    bytes_of_text c.args.text.now c.utf8.text,
  );
}
