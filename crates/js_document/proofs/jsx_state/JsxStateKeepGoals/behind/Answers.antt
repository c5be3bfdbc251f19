use Rattle.std.proofs.Common.{ap}
use Rattle.js_jsx.specs.Steps.{after_step}
use Rattle.js_document.specs.JsxStates.{with_scopes}
use Rattle.js_document.proofs.JsxLemmas.{jsx_known_behind}
use Rattle.js_document.proofs.jsx_state.JsxStateKeepGoals.behind.Goals as goal

pub carry_out-requires : goal.carry_out-requires
carry_out-requires c = (c.requires.1.scopes, c.requires.1.opened)

pub returns-clause-ok : goal.returns-clause-ok
returns-clause-ok c = λ tokens token known is.
    let step = c.step-step.result in
    let last = c.args.last.now in
    jsx_known_behind c.carry_out.new.open c.args.self
    (record { link = c.in_ok-link.link; place = step.place; has_ended = step.has_ended; before = c.kind.result })
    step known.scopes last token tokens is known.state_is (c.step-step.ensures known.scopes known.opened)
    (ap (after_step (with_scopes c.args.self known.scopes) step) c.kind.ensures)
    (c.in_ok-link.ensures.ok known.scopes known.opened)
