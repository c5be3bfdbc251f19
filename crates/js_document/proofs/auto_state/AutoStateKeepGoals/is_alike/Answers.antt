use Rattle.std.proofs.Common.{ap, map, refl}
use Rattle.js_choose.specs.LastTokens.{but_last}
use Rattle.js_auto.specs.Braces.{braces}
use Rattle.js_document.specs.States.{brace_scope}
use Rattle.js_document.proofs.AutoLemmas.{ends_same, same_known, scopes_same}
use Rattle.js_document.proofs.auto_state.AutoStateKeepGoals.is_alike.Goals as goal

pub returns-then-not-is_same : goal.returns-then-not-is_same
returns-then-not-is_same c = λ tokens others token known known_other is is_other start. (
  (λ yes. absurd (cc)),
  (λ alike.
      let yes =
      (c.is_same.ensures (map brace_scope (braces (but_last tokens))) (map brace_scope (braces (but_last others))) known.opened
      known_other.opened).1 (scopes_same c.args.open.now c.args.self c.args.other tokens others c.args.last.now token
      c.args.last.now.kind refl known known_other is is_other (ap (λ t. t.kind) start) alike) in
      let no = c.if-not-is_same.true in
      absurd (cc)),
)

pub returns : goal.returns
returns c = λ tokens others token known known_other is is_other start. (
  (λ yes.
      same_known c.args.open.now c.args.self c.args.other tokens others c.args.last.now token c.kind.result c.kind.ensures known
      known_other is is_other (ap (λ t. t.kind) start)
      ((c.is_same.ensures (map brace_scope (braces (but_last tokens))) (map brace_scope (braces (but_last others)))
      known.opened known_other.opened).0 (let is = c.if-not-is_same.false in cc))
      (c.ends_alike.ensures.0 yes)),
  (λ alike.
      c.ends_alike.ensures.1
      (ends_same c.args.open.now c.args.self c.args.other tokens others c.args.last.now token c.kind.result c.kind.ensures known
      known_other is is_other (ap (λ t. t.kind) start) alike)),
)
