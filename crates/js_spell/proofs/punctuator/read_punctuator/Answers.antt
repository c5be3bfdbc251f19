use Rattle.std.proofs.Common.{refl}
use Rattle.js_spell.proofs.punctuator.read_punctuator.Goals as goal

pub returns-in-46 : goal.returns-in-46
returns-in-46 c = λ t line_has_ended none. c.read_dot.ensures t line_has_ended

pub returns-in-47 : goal.returns-in-47
returns-in-47 c = λ t line_has_ended none. c.read_slash.ensures t line_has_ended

-- each family has its punctuators, by the table of all
pub read_only-requires-clause-family : goal.read_only-requires-clause-family
read_only-requires-clause-family c = refl

pub read_only-requires-in-41-clause-family : goal.read_only-requires-in-41-clause-family
read_only-requires-in-41-clause-family c = refl

pub read_only-requires-in-44-clause-family : goal.read_only-requires-in-44-clause-family
read_only-requires-in-44-clause-family c = refl

pub read_only-requires-in-58-clause-family : goal.read_only-requires-in-58-clause-family
read_only-requires-in-58-clause-family c = refl

pub read_only-requires-in-59-clause-family : goal.read_only-requires-in-59-clause-family
read_only-requires-in-59-clause-family c = refl

pub read_only-requires-in-62-clause-family : goal.read_only-requires-in-62-clause-family
read_only-requires-in-62-clause-family c = refl

pub read_only-requires-in-64-clause-family : goal.read_only-requires-in-64-clause-family
read_only-requires-in-64-clause-family c = refl

pub read_only-requires-in-91-clause-family : goal.read_only-requires-in-91-clause-family
read_only-requires-in-91-clause-family c = refl

pub read_only-requires-in-93-clause-family : goal.read_only-requires-in-93-clause-family
read_only-requires-in-93-clause-family c = refl

pub read_only-requires-in-123-clause-family : goal.read_only-requires-in-123-clause-family
read_only-requires-in-123-clause-family c = refl

pub read_only-requires-in-125-clause-family : goal.read_only-requires-in-125-clause-family
read_only-requires-in-125-clause-family c = refl

pub read_only-requires-in-126-clause-family : goal.read_only-requires-in-126-clause-family
read_only-requires-in-126-clause-family c = refl

pub read_assigned-requires-clause-family : goal.read_assigned-requires-clause-family
read_assigned-requires-clause-family c = refl

pub read_assigned-requires-in-94-clause-family : goal.read_assigned-requires-in-94-clause-family
read_assigned-requires-in-94-clause-family c = refl

pub read_repeated-requires-clause-family : goal.read_repeated-requires-clause-family
read_repeated-requires-clause-family c = refl

pub read_repeated-requires-in-45-clause-family : goal.read_repeated-requires-in-45-clause-family
read_repeated-requires-in-45-clause-family c = refl

pub read_doubled-requires-clause-family : goal.read_doubled-requires-clause-family
read_doubled-requires-clause-family c = refl

pub read_doubled-requires-in-42-clause-family : goal.read_doubled-requires-in-42-clause-family
read_doubled-requires-in-42-clause-family c = refl

pub read_doubled-requires-in-60-clause-family : goal.read_doubled-requires-in-60-clause-family
read_doubled-requires-in-60-clause-family c = refl
