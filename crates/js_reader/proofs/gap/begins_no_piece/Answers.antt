use Rattle.js_reader.proofs.PartSteps.{tells_none}
use Rattle.js_reader.proofs.gap.begins_no_piece.Goals as goal

pub returns : goal.returns
returns c = tells_none c.args.symbols.now c.args.b c.requires
