use Rattle.std.proofs.Common.{map}
use Rattle.js_document.specs.LinkedScopes.{scope_number}
use Rattle.js_document.proofs.JsxLemmas.{jsx_same_beside, jsx_same_known, jsx_same_numbers}
use Rattle.js_document.proofs.jsx_state.JsxStateKeepGoals.is_alike.Goals as goal

pub returns-then-not-is_same : goal.returns-then-not-is_same
returns-then-not-is_same c = λ tokens others token known known_other is is_other start. (
  (λ yes. absurd (cc)),
  (λ alike.
      let yes =
      (c.is_same.ensures (map scope_number known.scopes) (map scope_number known_other.scopes) known.opened
      known_other.opened).1
      (jsx_same_numbers c.args.open.now c.args.self c.args.other tokens others known known_other alike) in
      let no = c.if-not-is_same.true in
      absurd (cc)),
)

pub returns : goal.returns
returns c = λ tokens others token known known_other is is_other start. (
  (λ yes.
      jsx_same_known c.args.open.now c.args.self c.args.other tokens others c.args.last.now token is is_other start known
      known_other
      ((c.is_same.ensures (map scope_number known.scopes) (map scope_number known_other.scopes) known.opened
      known_other.opened).0 (let same = c.if-not-is_same.false in cc))
      (c.is_same_beside.ensures.0 yes)),
  (λ alike.
      c.is_same_beside.ensures.1
      (jsx_same_beside c.args.open.now c.args.self c.args.other tokens others known known_other alike)),
)
