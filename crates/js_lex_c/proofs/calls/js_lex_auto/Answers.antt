use Rattle.js_lex_c.specs.Faults.{AutoFaultCause}
use Rattle.js_lex_c.specs.Held.{held}
use Rattle.js_lex_c.specs.Lists.{Answers, AutoLists}
use Rattle.js_lex_c.proofs.AnswerLemmas.{answers}
use Rattle.js_lex_c.proofs.CountLemmas.{auto_fills}
use Rattle.js_lex_c.proofs.ExactLemmas.{auto_completely, auto_exactly, auto_readable, auto_unknown}
use Rattle.js_lex_c.proofs.calls.js_lex_auto.Goals as goal

answer : (c : goal.After-end) → Answers c.args.source_type (AutoLists c.args.source.now c.args.source_type)
    (AutoFaultCause c.args.source.now c.args.source_type) c.end.result (held c.args.out.now)
    (held c.fill_auto-found.new.out) c.end.new.counts
answer c =
    let source = c.args.source.now in
    let number = c.args.source_type in
    let old = held c.args.out.now in
    let new = held c.fill_auto-found.new.out in
    let found = c.fill_auto-found.result in
    answers number (AutoLists source number) (AutoFaultCause source number) found c.end.result old new c.end.new.counts
    (auto_fills source number (AutoFaultCause source number) old new found c.fill_auto-found.ensures.fills)
    c.end.ensures

pub returns-clause-answer : goal.returns-clause-answer
returns-clause-answer c = answer c

pub returns-clause-exact : goal.returns-clause-exact
returns-clause-exact c =
    auto_exactly c.args.source.now c.args.source_type (AutoLists c.args.source.now c.args.source_type) c.end.result
    (held c.args.out.now) (held c.fill_auto-found.new.out) c.end.new.counts
    (auto_readable c.args.source.now c.args.source_type) (answer c)

pub returns-clause-complete : goal.returns-clause-complete
returns-clause-complete c =
    auto_completely c.args.source.now c.args.source_type (AutoLists c.args.source.now c.args.source_type) c.end.result
    (held c.args.out.now) (held c.fill_auto-found.new.out) c.end.new.counts
    (auto_readable c.args.source.now c.args.source_type) (answer c)

pub returns-clause-unknown : goal.returns-clause-unknown
returns-clause-unknown c =
    auto_unknown c.args.source.now c.args.source_type (AutoLists c.args.source.now c.args.source_type) c.end.result
    (held c.args.out.now) (held c.fill_auto-found.new.out) c.end.new.counts
    (auto_readable c.args.source.now c.args.source_type) (answer c)
