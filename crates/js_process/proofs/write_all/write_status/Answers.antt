use Rattle.js_process.proofs.Pieces.{writes_whole}
use Rattle.js_process.proofs.write_all.write_status.Goals as goal

pub returns-in-Ok-clause-text : goal.returns-in-Ok-clause-text
returns-in-Ok-clause-text g c = writes_whole _ _ c.args.text.now _ (rw c.as_bytes.ensures.value at c.in-Ok.ensures.all)
