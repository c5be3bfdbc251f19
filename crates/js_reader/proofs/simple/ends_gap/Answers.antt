use Rattle.js_reader.proofs.SimpleReadings.{mark_ends}
use Rattle.js_reader.proofs.simple.ends_gap.Goals as goal

pub returns-then-symbols-b : goal.returns-then-symbols-b
returns-then-symbols-b c =
    mark_ends c.args.symbols.now c.args.b c.args.line_has_ended _ c.requires.symbols c.if-symbols-b.true c.requires.next
