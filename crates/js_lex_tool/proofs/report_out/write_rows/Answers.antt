use Rattle.std.proofs.Common.{◌+◌, ◌++◌, drop, string_bytes, ap, arith}
use Rattle.std.proofs.lemmas.List.{drop_all}
use Rattle.std.proofs.lemmas.Result.{err_from_is_err_and}
use Rattle.js_lex_tool.specs.ReportText.{row_line, row_lines}
use Rattle.js_lex_tool.proofs.Held.{nothing_handed, line_handed, line_stopped, all_handed, row_next, slices_next}
use Rattle.js_lex_tool.proofs.report_out.write_rows.Goals as goal

pub loop-index-init : goal.loop-index-init
loop-index-init g c = (
  nothing_handed (string_bytes c.args.held.now) (row_lines c.args.source.now 0 c.args.rows.now)
      (g.O.ByteOut.state c.args.output.now),
  c.requires,
)

pub loop-index-preserved : goal.loop-index-preserved
loop-index-preserved g c =
    let state = g.O.ByteOut.state in
    let source = c.args.source.now in
    let rows = c.args.rows.now in
    let i = c.loop-index.index in
    let row = c.index-rows-index.result in
    let next = row_next source rows i row (omega arith) c.index-rows-index.is in (
      line_handed (string_bytes c.args.held.now ++ row_lines source 0 rows) (string_bytes c.loop-index.held)
          (row_line source i row) (row_lines source (i + 1) (drop (i + 1) rows)) (string_bytes c.write_row.new.held)
          (state c.args.output.now) (state c.loop-index.output) (state c.write_row.new.output)
          (rw next at c.loop-index.invariant.0) c.in_ok-write_row.ensures,
      slices_next source rows i row (omega arith) c.loop-index.invariant.1,
    )

pub returns-in_err-write_row : goal.returns-in_err-write_row
returns-in_err-write_row g c =
    let state = g.O.ByteOut.state in
    let source = c.args.source.now in
    let rows = c.args.rows.now in
    let i = c.loop-index.index in
    let row = c.index-rows-index.result in
    let next = row_next source rows i row (omega arith) c.index-rows-index.is in
    let p = err_from_is_err_and c.from_residual.result c.from_residual.ensures.1 in
    rw (p.1, p.2)
    (line_stopped (string_bytes c.args.held.now ++ row_lines source 0 rows) (string_bytes c.loop-index.held)
    (row_line source i row) (row_lines source (i + 1) (drop (i + 1) rows)) (state c.args.output.now)
    (state c.loop-index.output) (state c.write_row.new.output) _ (rw next at c.loop-index.invariant.0)
    c.in_err-write_row.ensures)

pub returns : goal.returns
returns g c =
    let state = g.O.ByteOut.state in
    let source = c.args.source.now in
    let rows = c.args.rows.now in
    let i = c.loop-index.index in
    all_handed (string_bytes c.args.held.now ++ row_lines source 0 rows) (string_bytes c.loop-index.held)
    (row_lines source i (drop i rows)) (state c.args.output.now) (state c.loop-index.output)
    (ap (row_lines source i) (drop_all i rows (omega arith))) c.loop-index.invariant.0
