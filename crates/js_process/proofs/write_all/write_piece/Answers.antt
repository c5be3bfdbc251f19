use Rattle.js_process.proofs.Writing.{unflushed}
use Rattle.js_process.proofs.write_all.write_piece.Goals as goal

pub returns : goal.returns
returns g c =
    let state = g.O.ByteOut.state in
    let wrote = c.write_bytes.ensures in
    let bytes = c.as_bytes.ensures.value in
    unflushed c.write_bytes.result c.args.piece.now (state c.args.output.now) (state c.write_bytes.new.output)
    (rw bytes at wrote.all) (rw bytes at wrote.prefix) wrote.fault wrote.no_fault wrote.stays_open wrote.closes
