use Rattle.js_grammar.proofs.LocalGoals.{goal_local}
use Rattle.js_grammar.proofs.laws.a_reading_is_local.Goals as goal

pub returns : goal.returns
returns c front rest other t goal before place o u v =
    goal_local front rest other t goal before place o (record { utf8 = u; other_utf8 = v })
