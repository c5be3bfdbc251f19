use Rattle.std.proofs.Common.{refl}
use Rattle.js_process.proofs.Pieces.{err_behind}
use Rattle.js_process.proofs.status.write_both.Goals as goal

pub returns-clause-prefix : goal.returns-clause-prefix
returns-clause-prefix g c =
    let state = g.E.ByteOut.state in
    err_behind c.write_all-2.result (state c.args.output.now) (state c.write_all.new.output)
    (state c.write_all-2.new.output) c.as_bytes.result.now c.as_bytes-2.result.now
    _ (rw (c.as_bytes.ensures.value, c.as_bytes-2.ensures.value) refl) c.in_ok-write_all.ensures.all.written
    c.write_all-2.ensures.prefix
