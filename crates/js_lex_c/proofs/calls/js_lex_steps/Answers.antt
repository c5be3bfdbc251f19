use Rattle.js_lex_c.specs.Faults.{StepsFaultCause}
use Rattle.js_lex_c.specs.Held.{held}
use Rattle.js_lex_c.specs.Lists.{Answers, StepLists}
use Rattle.js_lex_c.proofs.AnswerLemmas.{answers}
use Rattle.js_lex_c.proofs.ExactLemmas.{steps_completely, steps_exactly, steps_unknown}
use Rattle.js_lex_c.proofs.calls.js_lex_steps.Goals as goal

answer : (c : goal.After-end)
    → Answers c.args.source_type (StepLists c.args.source.now c.args.source_type c.args.commands.now)
    (StepsFaultCause c.args.source.now c.args.source_type c.args.commands.now) c.end.result (held c.args.out.now)
    (held c.fill_steps-found.new.out) c.end.new.counts
answer c =
    answers c.args.source_type (StepLists c.args.source.now c.args.source_type c.args.commands.now)
    (StepsFaultCause c.args.source.now c.args.source_type c.args.commands.now) c.fill_steps-found.result c.end.result
    (held c.args.out.now) (held c.fill_steps-found.new.out) c.end.new.counts c.fill_steps-found.ensures.fills
    c.end.ensures

pub returns-clause-answer : goal.returns-clause-answer
returns-clause-answer c = answer c

pub returns-clause-exact : goal.returns-clause-exact
returns-clause-exact c =
    steps_exactly c.args.source.now c.args.source_type c.args.commands.now c.end.result (held c.args.out.now)
    (held c.fill_steps-found.new.out) c.end.new.counts (answer c)

pub returns-clause-complete : goal.returns-clause-complete
returns-clause-complete c =
    steps_completely c.args.source.now c.args.source_type c.args.commands.now c.end.result (held c.args.out.now)
    (held c.fill_steps-found.new.out) c.end.new.counts (answer c)

pub returns-clause-unknown : goal.returns-clause-unknown
returns-clause-unknown c =
    steps_unknown c.args.source.now c.args.source_type c.args.commands.now c.end.result (held c.args.out.now)
    (held c.fill_steps-found.new.out) c.end.new.counts (answer c)
