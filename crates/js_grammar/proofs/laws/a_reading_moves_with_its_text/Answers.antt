use Rattle.js_grammar.proofs.MovedReadings.{goal_moves}
use Rattle.js_grammar.proofs.laws.a_reading_moves_with_its_text.Goals as goal

pub returns-clause-forward : goal.returns-clause-forward
returns-clause-forward c text other t goal before place by o u v not_first stands =
    (goal_moves text other t goal before place by not_first
    (record { utf8 = u; other_utf8 = v; stands = stands })).forward o

pub returns-clause-back : goal.returns-clause-back
returns-clause-back c text other t goal before place by o u v not_first stands =
    (goal_moves text other t goal before place by not_first
    (record { utf8 = u; other_utf8 = v; stands = stands })).back o
