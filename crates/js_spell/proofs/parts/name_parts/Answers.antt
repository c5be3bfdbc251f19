use Rattle.std.proofs.Common.{refl}
use Rattle.js_spell.proofs.NameSteps.{tells_parts}
use Rattle.js_spell.proofs.parts.name_parts.Goals as goal

pub returns : goal.returns
returns c = tells_parts _ refl refl
