use Rattle.std.proofs.Common.{sym, ◌∙◌, Some, None}
use Rattle.js_jsx.specs.Changes.{left}
use Rattle.js_jsx.proofs.ScopeLemmas.{closes_none, closes_nothing, closes_one}
use Rattle.js_jsx.proofs.read_scopes.ended.Goals as goal

pub returns-then-closes : goal.returns-then-closes
returns-then-closes g c =
    let scopes = g.S.ReadScopes.scopes c.args.scopes.now in
    closes_one c.args.class scopes (left c.args.change scopes) c.ended_by-count.result c.in-Some.scope
    c.ended_by-count.ensures c.in-Some.ensures.is (sym c.closes.ensures ∙ c.if-closes.true)

pub returns-else-closes : goal.returns-else-closes
returns-else-closes g c =
    let scopes = g.S.ReadScopes.scopes c.args.scopes.now in
    closes_none c.args.class scopes (left c.args.change scopes) c.ended_by-count.result (Some c.in-Some.scope)
    c.ended_by-count.ensures c.in-Some.ensures.is (sym c.closes.ensures ∙ c.if-closes.false)

pub returns-in-None : goal.returns-in-None
returns-in-None g c =
    let scopes = g.S.ReadScopes.scopes c.args.scopes.now in
    closes_none c.args.class scopes (left c.args.change scopes) c.ended_by-count.result None
    c.ended_by-count.ensures c.in-None.ensures.is (closes_nothing c.args.class)
