use Rattle.std.proofs.Common.{◌<◌, ◌^◌, ◌++◌, [], ◌∷◌, refl, sym, ◌∙◌, ap, subst, append_assoc, append-nil, arith}
use Rattle.js_cursor.specs.ListSteps.{GoesBehind}
use Rattle.js_cursor.specs.Lists.{Given, GoesOn, IsSeparated, IsSeparatedRound, LeadingOn}
use Rattle.js_cursor.specs.Failing.FailsInRounds.{before_item, in_item, stuck}
use Rattle.js_cursor.specs.declared.fault.ListFault.TheVariants.{Stuck}
use Rattle.js_cursor.proofs.FailingSteps.{lacking}
use Rattle.js_cursor.proofs.RoundSteps.{goes_on_behind, goes_on_if-refl, leaves_less, rounds-push, stuck_as_told}
use Rattle.js_cursor.proofs.RoundSteps.{then_read}
use Rattle.js_cursor.proofs.cursor.Cursor.read_separated.Goals as goal

pub elements-init : goal.elements-init
elements-init g c =
    ([], refl, sym (append-nil c.args.elements.now.items), goes_on_if-refl _ c.args.self.now)

pub elements-smaller : goal.elements-smaller
elements-smaller g c =
    let before = c.elements.self in
    let after = c.try_read.new.cursor in
    let short : c.elements.self.token.start < 2 ^ 32 = omega arith in
    let separated : IsSeparated c.args.close c.args.separator c.elements.self c.delimited_list_goes_on.new.self =
    subst
    (λ b. GoesBehind c.args.close c.args.separator c.args.opening_span c.elements.self b
    c.delimited_list_goes_on.new.self)
    c.in-Element.is c.in_ok-delimited_list_goes_on.ensures.step in
    leaves_less c.args.close before after short separated.is_open
    (stuck_as_told before after c.cur_start-start.result c.is_stuck_at.result _ c.cur_start-start.ensures.start
    c.is_stuck_at.ensures c.if-is_stuck_at.false)

pub elements-preserved : goal.elements-preserved
elements-preserved g c =
    let before = c.elements.self in
    let after = c.try_read.new.cursor in
    let Q = LeadingOn (IsSeparatedRound (Given g.F.FallibleElement.reads) c.args.close c.args.separator) in
    let separated : IsSeparated c.args.close c.args.separator c.elements.self c.delimited_list_goes_on.new.self =
    subst
    (λ b. GoesBehind c.args.close c.args.separator c.args.opening_span c.elements.self b
    c.delimited_list_goes_on.new.self)
    c.in-Element.is c.in_ok-delimited_list_goes_on.ensures.step in
    let more = c.elements.invariant.0 in (
      more ++ c.in-Ok.element ∷ [],
      rounds-push Q c.args.f.now c.args.self.now more c.elements.f before c.in-Ok.element c.try_read.new.self after
          c.elements.invariant.1 (
            record { between = c.delimited_list_goes_on.new.self; separated = separated; read = c.in-Ok.ensures.reads },
            stuck_as_told before after c.cur_start-start.result c.is_stuck_at.result _ c.cur_start-start.ensures.start
                c.is_stuck_at.ensures c.if-is_stuck_at.false,
          ),
      c.in_ok-push_last.ensures ∙ ap (λ ys. ys ++ c.in-Ok.element ∷ []) c.elements.invariant.2
          ∙ append_assoc c.args.elements.now.items more (c.in-Ok.element ∷ []),
      then_read g.F.FallibleElement.reads c.args.self.now c.delimited_list_goes_on.new.self c.elements.f _
          c.try_read.new.self c.try_read.new.cursor
          (goes_on_behind (GoesOn g.F.FallibleElement.reads) c.args.self.now c.elements.self
          c.delimited_list_goes_on.new.self c.elements.invariant.3 c.in_ok-delimited_list_goes_on.ensures.onward)
          c.in-Ok.ensures.reads c.in-Ok.ensures.places,
    )

pub returns-in_err-delimited_list_goes_on-clause-goes_on : goal.returns-in_err-delimited_list_goes_on-clause-goes_on
returns-in_err-delimited_list_goes_on-clause-goes_on g c =
    goes_on_behind (GoesOn g.F.FallibleElement.reads) c.args.self.now c.elements.self
    c.delimited_list_goes_on.new.self c.elements.invariant.3 c.in_err-delimited_list_goes_on.ensures.onward

pub returns-in-End-clause-goes_on : goal.returns-in-End-clause-goes_on
returns-in-End-clause-goes_on g c =
    goes_on_behind (GoesOn g.F.FallibleElement.reads) c.args.self.now c.elements.self
    c.delimited_list_goes_on.new.self c.elements.invariant.3 c.in_ok-delimited_list_goes_on.ensures.onward

pub returns-in-Err-clause-goes_on : goal.returns-in-Err-clause-goes_on
returns-in-Err-clause-goes_on g c =
    then_read g.F.FallibleElement.reads c.args.self.now c.delimited_list_goes_on.new.self c.elements.f _
    c.try_read.new.self c.try_read.new.cursor
    (goes_on_behind (GoesOn g.F.FallibleElement.reads) c.args.self.now c.elements.self
    c.delimited_list_goes_on.new.self c.elements.invariant.3 c.in_ok-delimited_list_goes_on.ensures.onward)
    c.in-Err.ensures.reads c.in-Err.ensures.places

pub returns-then-is_stuck_at-clause-goes_on : goal.returns-then-is_stuck_at-clause-goes_on
returns-then-is_stuck_at-clause-goes_on g c =
    then_read g.F.FallibleElement.reads c.args.self.now c.delimited_list_goes_on.new.self c.elements.f _
    c.try_read.new.self c.try_read.new.cursor
    (goes_on_behind (GoesOn g.F.FallibleElement.reads) c.args.self.now c.elements.self
    c.delimited_list_goes_on.new.self c.elements.invariant.3 c.in_ok-delimited_list_goes_on.ensures.onward)
    c.in-Ok.ensures.reads c.in-Ok.ensures.places

pub returns-in_err-push_last-clause-goes_on : goal.returns-in_err-push_last-clause-goes_on
returns-in_err-push_last-clause-goes_on g c =
    then_read g.F.FallibleElement.reads c.args.self.now c.delimited_list_goes_on.new.self c.elements.f _
    c.try_read.new.self c.try_read.new.cursor
    (goes_on_behind (GoesOn g.F.FallibleElement.reads) c.args.self.now c.elements.self
    c.delimited_list_goes_on.new.self c.elements.invariant.3 c.in_ok-delimited_list_goes_on.ensures.onward)
    c.in-Ok.ensures.reads c.in-Ok.ensures.places

pub returns-in_err-delimited_list_goes_on-clause-err : goal.returns-in_err-delimited_list_goes_on-clause-err
returns-in_err-delimited_list_goes_on-clause-err g c =
    lacking _ _ c.from_residual.ensures.1
    (before_item refl c.elements.invariant.0 c.elements.self c.elements.invariant.1
    c.in_err-delimited_list_goes_on.ensures.err)

pub returns-in-Err-clause-err : goal.returns-in-Err-clause-err
returns-in-Err-clause-err g c =
    let separated : IsSeparated c.args.close c.args.separator c.elements.self c.delimited_list_goes_on.new.self =
    subst
    (λ b. GoesBehind c.args.close c.args.separator c.args.opening_span c.elements.self b
    c.delimited_list_goes_on.new.self)
    c.in-Element.is c.in_ok-delimited_list_goes_on.ensures.step in
    in_item c.elements.invariant.0 c.elements.f c.elements.self c.delimited_list_goes_on.new.self c.elements.invariant.1
    separated c.in-Err.ensures.reads

pub returns-then-is_stuck_at-clause-err : goal.returns-then-is_stuck_at-clause-err
returns-then-is_stuck_at-clause-err g c =
    let separated : IsSeparated c.args.close c.args.separator c.elements.self c.delimited_list_goes_on.new.self =
    subst
    (λ b. GoesBehind c.args.close c.args.separator c.args.opening_span c.elements.self b
    c.delimited_list_goes_on.new.self)
    c.in-Element.is c.in_ok-delimited_list_goes_on.ensures.step in
    stuck c.elements.invariant.0 c.elements.f c.elements.self c.elements.invariant.1 c.in-Ok.element
    (record { between = c.delimited_list_goes_on.new.self; separated = separated; read = c.in-Ok.ensures.reads })
    (stuck_as_told c.elements.self c.try_read.new.cursor c.cur_start-start.result c.is_stuck_at.result _
    c.cur_start-start.ensures.start c.is_stuck_at.ensures c.if-is_stuck_at.true)
    (ap Stuck c.cur_start.ensures.start)

pub returns-in_err-push_last-clause-err : goal.returns-in_err-push_last-clause-err
returns-in_err-push_last-clause-err g c =
    let separated : IsSeparated c.args.close c.args.separator c.elements.self c.delimited_list_goes_on.new.self =
    subst
    (λ b. GoesBehind c.args.close c.args.separator c.args.opening_span c.elements.self b
    c.delimited_list_goes_on.new.self)
    c.in-Element.is c.in_ok-delimited_list_goes_on.ensures.step in
    lacking _ _ c.from_residual-in_err-push_last.ensures.1
    (in_item c.elements.invariant.0 c.elements.f c.elements.self c.delimited_list_goes_on.new.self
    c.elements.invariant.1 separated (c.in-Ok.element, c.in-Ok.ensures.reads))
