use Rattle.std.proofs.Common.{◌≡◌, ◌⊎◌, sym, subst}
use Rattle.js_session.specs.Faults.{SourceCause}
use Rattle.js_session.specs.declared.fault.LexFault.TheVariants.{Memory}
use Rattle.js_choose.specs.Faults.{as_lex_fault}
use Rattle.js_lex_c.specs.Held.{held}
use Rattle.js_lex_c.specs.Lists.{LexFaultLeaves}
use Rattle.js_lex_c.proofs.AnswerLemmas.{broken_choice, broken_leaves, broken_stays, gives_chosen, stays_report}
use Rattle.js_lex_c.proofs.lex.put_chosen.Goals as goal

pub returns-in-Ok-clause-fills : goal.returns-in-Ok-clause-fills
returns-in-Ok-clause-fills g c =
    gives_chosen g.G.ChooseGoals.choice c.args.source.now c.args.source_type c.args.filler.now
    c.read_chosen.new.taker c.requires c.in-Ok.ensures.taken

pub returns-in-Ok-clause-places : goal.returns-in-Ok-clause-places
returns-in-Ok-clause-places g c =
    let taken = c.in-Ok.ensures.taken in
    (stays_report c.args.filler.now c.read_chosen.new.taker taken.commands taken.report c.requires taken.taken).stay

pub returns-in-Ok-clause-same : goal.returns-in-Ok-clause-same
returns-in-Ok-clause-same g c =
    let taken = c.in-Ok.ensures.taken in
    (stays_report c.args.filler.now c.read_chosen.new.taker taken.commands taken.report c.requires taken.taken).same

pub returns-in-Err-clause-fills : goal.returns-in-Err-clause-fills
returns-in-Err-clause-fills g c =
    let source = c.args.source.now in
    let start = c.args.filler.now in
    let new = c.read_chosen.new.taker in
    subst
    (λ f. ((f ≡ Memory) ⊎ SourceCause source f) × LexFaultLeaves f (held start.out.now) (held new.out.now))
    (sym c.as_lex_fault.ensures)
    (broken_leaves (SourceCause source) (as_lex_fault c.in-Err.fault) start new c.requires (λ e. e)
    (broken_choice source c.in-Err.fault start new c.in-Err.ensures.cause))

pub returns-in-Err-clause-places : goal.returns-in-Err-clause-places
returns-in-Err-clause-places g c =
    let source = c.args.source.now in
    let start = c.args.filler.now in
    let new = c.read_chosen.new.taker in
    (broken_stays (SourceCause source) (as_lex_fault c.in-Err.fault) start new c.requires
    (broken_choice source c.in-Err.fault start new c.in-Err.ensures.cause)).stay

pub returns-in-Err-clause-same : goal.returns-in-Err-clause-same
returns-in-Err-clause-same g c =
    let source = c.args.source.now in
    let start = c.args.filler.now in
    let new = c.read_chosen.new.taker in
    (broken_stays (SourceCause source) (as_lex_fault c.in-Err.fault) start new c.requires
    (broken_choice source c.in-Err.fault start new c.in-Err.ensures.cause)).same
