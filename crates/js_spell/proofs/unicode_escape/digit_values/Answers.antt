use Rattle.std.proofs.Common.{refl}
use Rattle.js_spell.proofs.EscapeSteps.{tells_values}
use Rattle.js_spell.proofs.unicode_escape.digit_values.Goals as goal

pub returns : goal.returns
returns c = tells_values _ refl
