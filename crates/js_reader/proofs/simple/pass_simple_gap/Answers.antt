use Rattle.js_reader.proofs.SimpleReadings.{byte_met, starts_name, tells_ends}
use Rattle.js_reader.proofs.simple.pass_simple_gap.Goals as goal

pub returns-then-tables-next : goal.returns-then-tables-next
returns-then-tables-next c =
    let tables = c.args.tables.now in
    let b = c.in-Some.next in (
      byte_met b c.args.source.now c.loop-next.source c.args.line_has_ended.now c.loop-next.line_has_ended
          c.loop-next.invariant
          (tells_ends tables.starts b c.loop-next.line_has_ended _ tables.name_starts c.if-tables-next.true
          c.in-Some.ensures.some)
          c.in-Some.ensures.some,
      starts_name tables.starts b tables.name_starts c.if-tables-next.true,
    )

pub returns-then-ends_gap : goal.returns-then-ends_gap
returns-then-ends_gap c =
    byte_met c.in-Some.next c.args.source.now c.loop-next.source c.args.line_has_ended.now c.loop-next.line_has_ended
    c.loop-next.invariant c.if-ends_gap.ensures c.in-Some.ensures.some
