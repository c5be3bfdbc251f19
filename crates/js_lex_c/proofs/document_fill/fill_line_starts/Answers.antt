use Rattle.std.proofs.Common.{◌+◌, arith}
use Rattle.js_lex_c.proofs.LineFill.{next_start, no_more_lines, start_put, starts_out}
use Rattle.js_lex_c.proofs.document_fill.fill_line_starts.Goals as goal

pub returns-in_default-checked_add : goal.returns-in_default-checked_add
returns-in_default-checked_add c =
    let kept = c.loop-place.invariant in
    let starts = c.args.lines.now.starts in
    let from = c.args.from in
    let place = c.loop-place.place in
    let next = next_start starts from place c.loop-place.line c.in-Some.start kept.0 c.in-Some.ensures.start in
    starts_out starts c.args.room.now c.put.new.room from (place + 1)
    (no_more_lines starts from place c.loop-place.line c.requires kept.0
    (omega (arith, c.in_default-checked_add.ensures)))
    (start_put starts c.args.room.now c.loop-place.room c.put.new.room from place c.in-Some.start next kept.1 c.put.ensures)

pub loop-place-preserved : goal.loop-place-preserved
loop-place-preserved c =
    let kept = c.loop-place.invariant in
    let starts = c.args.lines.now.starts in
    let from = c.args.from in
    let place = c.loop-place.place in
    let next = next_start starts from place c.loop-place.line c.in-Some.start kept.0 c.in-Some.ensures.start in (
      omega (arith, kept.0, c.in-Some-checked_add.ensures),
      start_put starts c.args.room.now c.loop-place.room c.put.new.room from place c.in-Some.start next kept.1
          c.put.ensures,
      omega (arith, next.within),
    )
