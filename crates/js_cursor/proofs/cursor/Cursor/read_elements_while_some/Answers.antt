use Rattle.std.proofs.Common.{◌<◌, ◌^◌, ap, refl, sym, ◌∙◌, subst, arith}
use Rattle.std.specs.Prelude.{Ok}
use Rattle.js_cursor.specs.declared.fault.ListFault.TheVariants.{Stuck}
use Rattle.js_cursor.specs.Failing.FailsInRounds.{in_item, stuck}
use Rattle.js_cursor.specs.Lists.{Given, IsRound, LeadingOn, Present, Rounds}
use Rattle.js_cursor.proofs.FailingSteps.{lacking}
use Rattle.js_cursor.proofs.RoundSteps.{goes_on_if-refl, leaves_less, round-push, stuck_as_told, then_read}
use Rattle.js_cursor.proofs.cursor.Cursor.read_elements_while_some.Goals as goal

pub loop-close-init : goal.loop-close-init
loop-close-init g c = record {
  rounds =
      subst
      (λ xs. Rounds (LeadingOn (IsRound (Present (Given g.F.FallibleElement.reads)) c.args.close)) c.args.f.now
      c.args.self.now xs c.args.f.now
      c.args.self.now) (sym c.new-elements.ensures.items) refl;
  goes_on = goes_on_if-refl _ c.args.self.now;
}

pub loop-close-smaller : goal.loop-close-smaller
loop-close-smaller g c =
    let short : c.loop-close.self.token.start < 2 ^ 32 = omega arith in
    leaves_less c.args.close c.loop-close.self c.try_read.new.cursor short
    (sym c.is_at_end_of_list.ensures ∙ c.loop-close-test.true)
    (stuck_as_told c.loop-close.self c.try_read.new.cursor c.cur_start-start.result c.is_stuck_at.result _
    c.cur_start-start.ensures.start c.is_stuck_at.ensures c.if-is_stuck_at.false)

pub loop-close-preserved : goal.loop-close-preserved
loop-close-preserved g c = record {
  rounds =
      round-push (Present (Given g.F.FallibleElement.reads)) c.args.close c.args.f.now c.args.self.now
      c.loop-close.elements.items _
      c.loop-close.f c.loop-close.self c.in-Some.element c.try_read.new.self c.try_read.new.cursor
      c.loop-close.invariant.rounds (sym c.is_at_end_of_list.ensures ∙ c.loop-close-test.true)
      (subst (λ o. g.F.FallibleElement.reads c.loop-close.f c.loop-close.self (Ok o) c.try_read.new.self
      c.try_read.new.cursor) c.in-Some.is c.in-Ok.ensures.reads)
      (stuck_as_told c.loop-close.self c.try_read.new.cursor c.cur_start-start.result c.is_stuck_at.result _
      c.cur_start-start.ensures.start c.is_stuck_at.ensures c.if-is_stuck_at.false)
      c.in_ok-push_last-in-Some.ensures;
  goes_on =
      then_read g.F.FallibleElement.reads c.args.self.now c.loop-close.self c.loop-close.f _ c.try_read.new.self
      c.try_read.new.cursor c.loop-close.invariant.goes_on c.in-Ok.ensures.reads c.in-Ok.ensures.places;
}

pub returns-in-Err-clause-goes_on : goal.returns-in-Err-clause-goes_on
returns-in-Err-clause-goes_on g c =
    then_read g.F.FallibleElement.reads c.args.self.now c.loop-close.self c.loop-close.f _ c.try_read.new.self
    c.try_read.new.cursor c.loop-close.invariant.goes_on c.in-Err.ensures.reads c.in-Err.ensures.places

pub returns-then-is_stuck_at-clause-goes_on : goal.returns-then-is_stuck_at-clause-goes_on
returns-then-is_stuck_at-clause-goes_on g c =
    then_read g.F.FallibleElement.reads c.args.self.now c.loop-close.self c.loop-close.f _ c.try_read.new.self
    c.try_read.new.cursor c.loop-close.invariant.goes_on c.in-Ok.ensures.reads c.in-Ok.ensures.places

pub returns-in_err-push_last-in-Some-clause-goes_on : goal.returns-in_err-push_last-in-Some-clause-goes_on
returns-in_err-push_last-in-Some-clause-goes_on g c =
    then_read g.F.FallibleElement.reads c.args.self.now c.loop-close.self c.loop-close.f _ c.try_read.new.self
    c.try_read.new.cursor c.loop-close.invariant.goes_on c.in-Ok.ensures.reads c.in-Ok.ensures.places

pub returns-clause-goes_on : goal.returns-clause-goes_on
returns-clause-goes_on g c = c.loop-close.invariant.goes_on

pub returns-in-Err-clause-err : goal.returns-in-Err-clause-err
returns-in-Err-clause-err g c =
    in_item c.loop-close.elements.items c.loop-close.f c.loop-close.self c.loop-close.self
    c.loop-close.invariant.rounds (sym c.is_at_end_of_list.ensures ∙ c.loop-close-test.true, refl)
    c.in-Err.ensures.reads

pub returns-then-is_stuck_at-clause-err : goal.returns-then-is_stuck_at-clause-err
returns-then-is_stuck_at-clause-err g c =
    stuck c.loop-close.elements.items c.loop-close.f c.loop-close.self c.loop-close.invariant.rounds c.in-Some.element
    (record {
      is_open = sym c.is_at_end_of_list.ensures ∙ c.loop-close-test.true;
      read = (subst (λ o. g.F.FallibleElement.reads c.loop-close.f c.loop-close.self (Ok o) c.try_read.new.self
          c.try_read.new.cursor) c.in-Some.is c.in-Ok.ensures.reads);
    })
    (stuck_as_told c.loop-close.self c.try_read.new.cursor c.cur_start-start.result c.is_stuck_at.result _
    c.cur_start-start.ensures.start c.is_stuck_at.ensures c.if-is_stuck_at.true)
    (ap Stuck c.cur_start.ensures.start)

pub returns-in_err-push_last-in-Some-clause-err : goal.returns-in_err-push_last-in-Some-clause-err
returns-in_err-push_last-in-Some-clause-err g c =
    lacking _ _ c.from_residual.ensures.1
    (in_item c.loop-close.elements.items c.loop-close.f c.loop-close.self c.loop-close.self
    c.loop-close.invariant.rounds (sym c.is_at_end_of_list.ensures ∙ c.loop-close-test.true, refl)
    (c.in-Ok.read, c.in-Ok.ensures.reads))

pub returns-in-None-clause-goes_on : goal.returns-in-None-clause-goes_on
returns-in-None-clause-goes_on g c =
    then_read g.F.FallibleElement.reads c.args.self.now c.loop-close.self c.loop-close.f _ c.try_read.new.self
    c.try_read.new.cursor c.loop-close.invariant.goes_on c.in-Ok.ensures.reads c.in-Ok.ensures.places
