use Rattle.std.proofs.Common.{arith}
use Rattle.std.proofs.lemmas.Bool.Decides.{nat_tests}
use Rattle.js_trivia.proofs.Licences.{seven_hold_none}
use Rattle.js_trivia.proofs.classes.is_licensed.Goals as goal

pub returns-else-rest-ge8 : goal.returns-else-rest-ge8
returns-else-rest-ge8 c =
    grind (arith, nat_tests, seven_hold_none c.past_blocks-rest.result.now c.if-rest-ge8.false)
