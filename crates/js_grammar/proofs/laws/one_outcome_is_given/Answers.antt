use Rattle.js_grammar.proofs.Unique.{goal_reads_unique}
use Rattle.js_grammar.proofs.laws.one_outcome_is_given.Goals as goal

pub returns : goal.returns
returns c = goal_reads_unique
