use Rattle.std.proofs.Common.{arith, inr, subst, sym, take}
use Rattle.js_document.specs.InTurn.{EditsInTurn}
use Rattle.js_document.proofs.InTurnLemmas.{exactly_refused, in_turn_more, none_left, only_memory, refused_by, why_refused}
use Rattle.js_document.proofs.document.Document.edit_all.Goals as goal

pub loop-made-preserved : goal.loop-made-preserved
loop-made-preserved g c =
    let before = c.loop-made.invariant.at_least in
    let more = c.in-Ok.ensures.at_least in
    record {
      in_turn =
          in_turn_more g.K.KeepGoals.choice g.K.KeepGoals.alike c.args.self.now c.args.edits.now c.loop-made.made _
          c.args.steps.now c.loop-made.steps c.edit.new.steps c.loop-made.self c.edit.new.self c.loop-made-test.true
          c.loop-made.invariant.in_turn c.in-Ok.ensures.ok;
      at_least = omega (arith, before, more);
    }

pub returns-in-Err-clause-err : goal.returns-in-Err-clause-err
returns-in-Err-clause-err g c = record {
  is_there = c.loop-made-test.true;
  ticks = c.loop-made.steps;
  made =
      subst
      (EditsInTurn g.K.KeepGoals.choice g.K.KeepGoals.alike c.args.self.now (take c.loop-made.made c.args.edits.now)
      c.args.steps.now c.loop-made.steps) (sym c.in-Err.ensures.err) c.loop-made.invariant.in_turn;
  at_least = c.in-Err.ensures.at_least;
  refused = c.in-Err.ensures.refused;
}

pub returns-in-Err-clause-cause : goal.returns-in-Err-clause-cause
returns-in-Err-clause-cause g c =
    why_refused g.K.KeepGoals.choice g.K.KeepGoals.alike c.args.self.now c.args.edits.now c.loop-made.made _
    c.args.steps.now c.loop-made.steps c.loop-made.self c.in-Err.fault c.loop-made-test.true
    c.loop-made.invariant.in_turn
    (refused_by c.loop-made.self.text _ c.edit.result c.in-Err.fault c.in-Err.is c.in-Err.ensures.cause
    c.edit.ensures.exact c.edit.ensures.complete)

pub returns-in-Err-clause-exact : goal.returns-in-Err-clause-exact
returns-in-Err-clause-exact g c =
    exactly_refused g.K.KeepGoals.choice g.K.KeepGoals.alike c.args.self.now c.args.edits.now c.loop-made.made _
    c.args.steps.now c.loop-made.steps c.loop-made.self c.in-Err.fault c.loop-made-test.true
    c.loop-made.invariant.in_turn
    (refused_by c.loop-made.self.text _ c.edit.result c.in-Err.fault c.in-Err.is c.in-Err.ensures.cause
    c.edit.ensures.exact c.edit.ensures.complete)

pub returns-in-Err-clause-complete : goal.returns-in-Err-clause-complete
returns-in-Err-clause-complete g c = λ may.
    inr
    (only_memory g.K.KeepGoals.choice g.K.KeepGoals.alike c.args.self.now c.args.edits.now c.loop-made.made _
    c.args.steps.now c.loop-made.steps c.loop-made.self c.in-Err.fault c.loop-made-test.true
    c.loop-made.invariant.in_turn
    (refused_by c.loop-made.self.text _ c.edit.result c.in-Err.fault c.in-Err.is c.in-Err.ensures.cause
    c.edit.ensures.exact c.edit.ensures.complete) may)

pub returns-clause-exact : goal.returns-clause-exact
returns-clause-exact g c = λ index fault cause.
    let past = c.loop-made-test.false in
    let few = c.loop-made.auto.made-end in
    absurd
    (none_left g.K.KeepGoals.choice g.K.KeepGoals.alike c.args.self.now c.args.edits.now c.loop-made.made
    c.args.steps.now c.loop-made.steps c.loop-made.self index fault (omega (arith, past, few))
    c.loop-made.invariant.in_turn cause)
