use Rattle.std.proofs.Common.{refl}
use Rattle.js_reader.proofs.PartSteps.{tells_starts}
use Rattle.js_reader.proofs.tables.starts.Goals as goal

pub returns : goal.returns
returns c = tells_starts _ refl refl
