use Rattle.js_session.specs.Faults.{Cause}
use Rattle.js_lex_c.proofs.AnswerLemmas.{broken_leaves, broken_stays, gives_followed, stays_report}
use Rattle.js_lex_c.proofs.lex.put_followed.Goals as goal

pub returns-in-Ok-clause-fills : goal.returns-in-Ok-clause-fills
returns-in-Ok-clause-fills c =
    gives_followed c.args.source.now c.args.source_type c.args.commands.now c.args.filler.now c.read_steps.new.taker
    c.requires c.in-Ok.ensures.ok.1 c.in-Ok.ensures.taken

pub returns-in-Ok-clause-places : goal.returns-in-Ok-clause-places
returns-in-Ok-clause-places c =
    let taken = c.in-Ok.ensures.taken in
    (stays_report c.args.filler.now c.read_steps.new.taker c.args.commands.now taken.report c.requires taken.taken).stay

pub returns-in-Ok-clause-same : goal.returns-in-Ok-clause-same
returns-in-Ok-clause-same c =
    let taken = c.in-Ok.ensures.taken in
    (stays_report c.args.filler.now c.read_steps.new.taker c.args.commands.now taken.report c.requires taken.taken).same

pub returns-in-Err-clause-fills : goal.returns-in-Err-clause-fills
returns-in-Err-clause-fills c =
    broken_leaves (Cause c.args.source.now c.args.commands.now) c.in-Err.fault c.args.filler.now
    c.read_steps.new.taker c.requires (λ e. e) c.in-Err.ensures.cause

pub returns-in-Err-clause-places : goal.returns-in-Err-clause-places
returns-in-Err-clause-places c =
    (broken_stays (Cause c.args.source.now c.args.commands.now) c.in-Err.fault c.args.filler.now
    c.read_steps.new.taker c.requires c.in-Err.ensures.cause).stay

pub returns-in-Err-clause-same : goal.returns-in-Err-clause-same
returns-in-Err-clause-same c =
    (broken_stays (Cause c.args.source.now c.args.commands.now) c.in-Err.fault c.args.filler.now
    c.read_steps.new.taker c.requires c.in-Err.ensures.cause).same
