use Rattle.std.proofs.Common.{◌++◌, ◌∙◌, refl, arith}
use Rattle.js_session.proofs.LastingRuns.{lasting_steps}
use Rattle.js_document.proofs.LoopLemmas.{last_here, told_end, told_joined, told_lasts, told_less, told_lies, told_on}
use Rattle.js_document.proofs.ReadLemmas.{so_far_start}
use Rattle.js_document.proofs.TrieLemmas.{more_still, none_more}
use Rattle.js_document.proofs.read.read_on.Goals as goal

pub loop-command-init : goal.loop-command-init
loop-command-init g c = record {
  so_far = λ front goes.
      so_far_start g.K.KeepGoals.choice g.met.K.KeepGoals.is_rule g.K.KeepGoals.knows g.K.KeepGoals.alike
      g.met.K.KeepGoals.stays front c.args.open.now c.args.joining.now c.args.session.now c.args.states.now.items
      c.args.steps.now c.args.text.now c.args.last c.args.state goes;
  more = none_more c.args.open.now;
  onward = omega arith;
}

pub step-requires : goal.step-requires
step-requires g c =
    lasting_steps c.in-Some.command
    (told_lasts g.K.KeepGoals.choice g.met.K.KeepGoals.is_rule g.K.KeepGoals.knows g.K.KeepGoals.alike
    g.met.K.KeepGoals.stays c.args.joining.now c.requires.goes.0 c.args.text.now c.args.open.now c.args.session.now
    c.args.states.now.items c.args.steps.now c.args.last c.args.state c.requires.goes.1 c.loop-command.open
    c.loop-command.session c.loop-command.states.items c.loop-command.last c.loop-command.state c.loop-command.steps
    (c.loop-command.invariant.so_far c.requires.goes.0 c.requires.goes.1)
    c.in-Some.command c.in-Some.ensures)

pub state_behind-requires-clause-lasting : goal.state_behind-requires-clause-lasting
state_behind-requires-clause-lasting g c =
    told_lasts g.K.KeepGoals.choice g.met.K.KeepGoals.is_rule g.K.KeepGoals.knows g.K.KeepGoals.alike
    g.met.K.KeepGoals.stays c.args.joining.now c.requires.goes.0 c.args.text.now c.args.open.now c.args.session.now
    c.args.states.now.items c.args.steps.now c.args.last c.args.state c.requires.goes.1 c.loop-command.open
    c.loop-command.session c.loop-command.states.items c.loop-command.last c.loop-command.state c.loop-command.steps
    (c.loop-command.invariant.so_far c.requires.goes.0 c.requires.goes.1)
    c.in-Some.command c.in-Some.ensures

pub state_behind-requires-clause-known : goal.state_behind-requires-clause-known
state_behind-requires-clause-known g c = (
  c.requires.goes.0 ++ c.loop-command.session.state.now.tokens,
  (c.loop-command.invariant.so_far c.requires.goes.0 c.requires.goes.1).known_last,
  last_here g.K.KeepGoals.choice g.met.K.KeepGoals.is_rule g.K.KeepGoals.knows g.K.KeepGoals.alike
      g.met.K.KeepGoals.stays c.args.joining.now c.requires.goes.0 c.args.text.now c.args.open.now c.args.session.now
      c.args.states.now.items c.args.steps.now c.args.last c.args.state c.requires.goes.1 c.loop-command.open
      c.loop-command.session c.loop-command.states.items c.loop-command.last c.loop-command.state c.loop-command.steps
      (c.loop-command.invariant.so_far c.requires.goes.0 c.requires.goes.1),
)

pub joined_by-requires-clause-ordered : goal.joined_by-requires-clause-ordered
joined_by-requires-clause-ordered g c =
    (told_lies g.K.KeepGoals.choice g.met.K.KeepGoals.is_rule g.K.KeepGoals.knows g.K.KeepGoals.alike
    g.met.K.KeepGoals.stays c.args.joining.now c.requires.goes.0 c.args.text.now c.args.open.now c.args.session.now
    c.args.states.now.items c.args.steps.now c.args.last c.args.state c.requires.goes.1 c.loop-command.open
    c.loop-command.session c.loop-command.states.items c.loop-command.last c.loop-command.state c.loop-command.steps
    (c.loop-command.invariant.so_far c.requires.goes.0 c.requires.goes.1)
    c.in-Some.command c.in-Some.ensures
    c.step.new.self c.in_ok-step.ensures.ok c.last_token-last.result
    (λ rows row is. c.last_token-last.ensures rows row (c.rows.ensures.rows ∙ is))).ordered

pub joined_by-requires-clause-fits : goal.joined_by-requires-clause-fits
joined_by-requires-clause-fits g c =
    let lies = told_lies g.K.KeepGoals.choice g.met.K.KeepGoals.is_rule g.K.KeepGoals.knows g.K.KeepGoals.alike
    g.met.K.KeepGoals.stays c.args.joining.now c.requires.goes.0 c.args.text.now c.args.open.now c.args.session.now
    c.args.states.now.items c.args.steps.now c.args.last c.args.state c.requires.goes.1 c.loop-command.open
    c.loop-command.session c.loop-command.states.items c.loop-command.last c.loop-command.state c.loop-command.steps
    (c.loop-command.invariant.so_far c.requires.goes.0 c.requires.goes.1)
    c.in-Some.command c.in-Some.ensures
    c.step.new.self c.in_ok-step.ensures.ok c.last_token-last.result
    (λ rows row is. c.last_token-last.ensures rows row (c.rows.ensures.rows ∙ is)) in
    let fits = c.requires.fits in
    omega (arith, lies.end.0, fits)

pub loop-command-smaller : goal.loop-command-smaller
loop-command-smaller g c =
    told_less g.K.KeepGoals.choice g.met.K.KeepGoals.is_rule g.K.KeepGoals.knows g.K.KeepGoals.alike
    g.met.K.KeepGoals.stays c.args.joining.now c.requires.goes.0 c.args.text.now c.args.open.now c.args.session.now
    c.args.states.now.items c.args.steps.now c.args.last c.args.state c.requires.goes.1 c.loop-command.open
    c.loop-command.session c.loop-command.states.items c.loop-command.last c.loop-command.state c.loop-command.steps
    (c.loop-command.invariant.so_far c.requires.goes.0 c.requires.goes.1)
    c.in-Some.command c.in-Some.ensures
    c.step.new.self c.in_ok-step.ensures.ok c.last_token-last.result
    (λ rows row is. c.last_token-last.ensures rows row (c.rows.ensures.rows ∙ is))

pub loop-command-preserved : goal.loop-command-preserved
loop-command-preserved g c = record {
  so_far = λ front goes.
      told_on g.K.KeepGoals.choice g.met.K.KeepGoals.is_rule g.K.KeepGoals.knows g.K.KeepGoals.alike
      g.met.K.KeepGoals.stays c.args.joining.now front c.args.text.now c.args.open.now c.args.session.now
      c.args.states.now.items c.args.steps.now c.args.last c.args.state goes c.loop-command.open
      c.loop-command.session c.loop-command.states.items c.loop-command.last c.loop-command.state c.loop-command.steps
      (c.loop-command.invariant.so_far front goes)
      c.in-Some.command c.in-Some.ensures
      c.step.new.self c.in_ok-step.ensures.ok c.last_token-last.result
      (λ rows row is. c.last_token-last.ensures rows row (c.rows.ensures.rows ∙ is))
      c.state_behind.new.open c.state_behind.ensures.more c.in_ok-state.state c.in_ok-state.ensures.ok c.push.new.self.items c.step.new.steps
      c.in_ok-push.ensures.items c.in_ok-step.ensures.ticks
      (λ tokens known last. c.in_default-joined_by.ensures.none tokens known last refl);
  more =
      more_still c.args.open.now c.loop-command.open c.state_behind.new.open c.loop-command.invariant.more
      c.state_behind.ensures.more;
  onward = (let was = c.loop-command.invariant.onward in let ticks = c.in_ok-step.ensures.ticks in omega (arith, was, ticks));
}

pub returns-in-Some-joined_by-clause-ok : goal.returns-in-Some-joined_by-clause-ok
returns-in-Some-joined_by-clause-ok g c = λ front goes.
    told_joined g.K.KeepGoals.choice g.met.K.KeepGoals.is_rule g.K.KeepGoals.knows g.K.KeepGoals.alike
    g.met.K.KeepGoals.stays c.args.joining.now front c.args.text.now c.args.open.now c.args.session.now
    c.args.states.now.items c.args.steps.now c.args.last c.args.state goes c.loop-command.open
    c.loop-command.session c.loop-command.states.items c.loop-command.last c.loop-command.state c.loop-command.steps
    (c.loop-command.invariant.so_far front goes)
    c.in-Some.command c.in-Some.ensures
    c.step.new.self c.in_ok-step.ensures.ok c.last_token-last.result
    (λ rows row is. c.last_token-last.ensures rows row (c.rows.ensures.rows ∙ is))
    c.state_behind.new.open c.state_behind.ensures.more c.in_ok-state.state c.in_ok-state.ensures.ok c.push.new.self.items c.in-Some-joined_by.left
    c.step.new.steps c.in_ok-push.ensures.items c.in_ok-step.ensures.ticks c.in-Some-joined_by.ensures.some

pub returns-clause-ok : goal.returns-clause-ok
returns-clause-ok g c = λ front goes.
    told_end g.K.KeepGoals.choice g.met.K.KeepGoals.is_rule g.K.KeepGoals.knows g.K.KeepGoals.alike
    g.met.K.KeepGoals.stays c.args.joining.now front c.args.text.now c.args.open.now c.args.session.now
    c.args.states.now.items c.args.steps.now c.args.last c.args.state goes c.loop-command.open
    c.loop-command.session c.loop-command.states.items c.loop-command.last c.loop-command.state c.loop-command.steps
    (c.loop-command.invariant.so_far front goes)
    c.in_default.ensures

pub returns-in_err-state-clause-more : goal.returns-in_err-state-clause-more
returns-in_err-state-clause-more g c =
    more_still c.args.open.now c.loop-command.open c.state_behind.new.open c.loop-command.invariant.more
    c.state_behind.ensures.more

pub returns-in_err-push-clause-more : goal.returns-in_err-push-clause-more
returns-in_err-push-clause-more g c =
    more_still c.args.open.now c.loop-command.open c.state_behind.new.open c.loop-command.invariant.more
    c.state_behind.ensures.more

pub returns-in-Some-joined_by-clause-more : goal.returns-in-Some-joined_by-clause-more
returns-in-Some-joined_by-clause-more g c =
    more_still c.args.open.now c.loop-command.open c.state_behind.new.open c.loop-command.invariant.more
    c.state_behind.ensures.more
