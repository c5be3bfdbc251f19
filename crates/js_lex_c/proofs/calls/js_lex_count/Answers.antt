use Rattle.js_lex_c.specs.Faults.{AutoFaultCause}
use Rattle.js_lex_c.specs.Held.{held}
use Rattle.js_lex_c.specs.Lists.{AutoLists}
use Rattle.js_lex_c.proofs.AnswerLemmas.{without_room}
use Rattle.js_lex_c.proofs.calls.js_lex_count.Goals as goal

pub returns-clause-answer : goal.returns-clause-answer
returns-clause-answer c =
    without_room c.args.source_type (AutoLists c.args.source.now c.args.source_type)
    (AutoFaultCause c.args.source.now c.args.source_type) c.js_lex_auto.result (held c.js_lex_auto.new.out)
    c.js_lex_auto.new.counts c.js_lex_auto.ensures.answer
