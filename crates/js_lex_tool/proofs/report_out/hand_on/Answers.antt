use Rattle.std.proofs.Common.{append-nil, string_bytes}
use Rattle.js_lex_tool.proofs.Held.{hands_nothing, hands_all}
use Rattle.js_lex_tool.proofs.report_out.hand_on.Goals as goal

pub returns-then-len-lt-PIECE : goal.returns-then-len-lt-PIECE
returns-then-len-lt-PIECE g c = hands_nothing (string_bytes c.args.held.now) (g.O.ByteOut.state c.args.output.now)

pub returns-in-Ok : goal.returns-in-Ok
returns-in-Ok g c =
    let state = g.O.ByteOut.state in
    hands_all (string_bytes c.args.held.now) (string_bytes c.clear.new.self) (state c.args.output.now)
    (state c.write_piece.new.output) c.clear.ensures.bytes (rw c.as_str.ensures.value at c.in-Ok.ensures)

pub returns-in-Err : goal.returns-in-Err
returns-in-Err g c = rw append-nil (rw c.as_str.ensures.value at c.in-Err.ensures)
