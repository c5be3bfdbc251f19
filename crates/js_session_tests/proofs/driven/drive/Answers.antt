use Rattle.std.proofs.Common.{[], ◌∷◌, sym, ap, subst}
use Rattle.js_session.specs.declared.command.Command.TheVariants.{Mark, Next, Rewind, Peek}
use Rattle.js_session.specs.Session.{SessionState, HasRun}
use Rattle.js_session_tests.proofs.driven.drive.Goals as goal

pub returns : goal.returns
returns g c = λ text t collects begun.
    let reserved =
    subst (HasRun text t collects []) (sym c.in_ok-reserve_marks.ensures.rest)
    (c.reserving_marks_is_no_command.ensures.from_start text t collects [] c.args.session.now
    c.reserve_marks.new.self.spare begun) in
    let follow = c.each_call_is_one_command_more.ensures text t collects in
    let marked =
    follow [] Mark c.reserve_marks.new.self c.mark.new.self reserved (λ closes. absurd cc) c.mark.ensures in
    let read =
    follow (Mark ∷ []) Next c.mark.new.self c.step.new.self marked (λ closes. absurd cc) c.in_ok-step.ensures.ok in
    let back =
    follow (Mark ∷ Next ∷ []) Rewind c.step.new.self c.rewind.new.self read
    (λ closes none.
    absurd
    (let stays = ap (λ (s : SessionState). s.state.marks) c.in_ok-step.ensures.ok.after in
    let opened = ap (λ (s : SessionState). s.state.marks) c.mark.ensures in cc))
    c.rewind.ensures.state in
    follow (Mark ∷ Next ∷ Rewind ∷ []) Peek c.rewind.new.self c.step-2.new.self back (λ closes. absurd cc)
    c.in_ok-step-2.ensures.ok
