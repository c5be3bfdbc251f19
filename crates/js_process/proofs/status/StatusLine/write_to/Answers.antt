use Rattle.std.proofs.Common.{◌≡◌, ◌++◌, codes, arith}
use Rattle.std.proofs.lemmas.Grind.{common_steps}
use Rattle.js_process.proofs.Pieces.{err_behind}
use Rattle.js_process.proofs.status.StatusLine.write_to.Goals as goal

pub returns-clause-prefix : goal.returns-clause-prefix
returns-clause-prefix g c =
    let state = g.E.ByteOut.state in
    let program = c.self.inside.program.now ++ codes ": " in
    let reason = c.self.inside.reason.now ++ codes "\n" in
    let line : c.args.self.now ++ codes "\n" ≡ program ++ reason = grind (arith, common_steps) in
    err_behind c.write_both-2.result (state c.args.output.now) (state c.write_both.new.output)
    (state c.write_both-2.new.output) program reason _ line c.in_ok-write_both.ensures.all.written
    c.write_both-2.ensures.prefix
