use Rattle.std.proofs.Common.{arith}
use Rattle.js_document.proofs.FromSession.{rows_long}
use Rattle.js_document.proofs.read.rows_from_start.Goals as goal

pub read_from_first-requires-clause-begun : goal.read_from_first-requires-clause-begun
read_from_first-requires-clause-begun g c = (c.args.source_type, _, c.in-Ok.ensures.ok)

pub entries_of_session-requires : goal.entries_of_session-requires
entries_of_session-requires g c = c.in_ok-left.ensures.states

pub returns-clause-rows : goal.returns-clause-rows
returns-clause-rows g c =
    c.in_ok-left.ensures.ok c.args.source_type _ c.in_ok-rows.rows.items c.in-Ok.ensures.ok c.in_ok-rows.ensures.rows
    c.in_ok-rows.ensures.states

pub returns-clause-ticks : goal.returns-clause-ticks
returns-clause-ticks g c =
    let begun = c.in-Ok.ensures.ticks in
    let ticks = c.in_ok-left.ensures.ticks in
    let rows =
    rows_long c.in_ok-rows.rows.items c.read_from_first.new.session.rows c.in_ok-rows.ensures.rows in
    omega (arith, begun, ticks, rows)
