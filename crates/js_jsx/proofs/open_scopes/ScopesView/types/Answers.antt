use Rattle.std.proofs.Common.{sym, ◌∙◌}
use Rattle.js_jsx.specs.Scopes.{is_within_tag}
use Rattle.js_jsx.proofs.ScopeLemmas.{skips_all, skips_none, skips_one}
use Rattle.js_jsx.proofs.open_scopes.ScopesView.types.Goals as goal

pub loop-scope-preserved : goal.loop-scope-preserved
loop-scope-preserved c =
    sym
    (skips_one is_within_tag c.args.self.now c.loop-scope.depth c.in-Some.scope c.in-Some.ensures.is
    (sym c.is_within_tag.ensures ∙ c.if-not-is_within_tag.false))
    ∙ c.loop-scope.invariant

pub returns-then-not-is_within_tag : goal.returns-then-not-is_within_tag
returns-then-not-is_within_tag c =
    skips_none is_within_tag c.args.self.now c.loop-scope.depth c.in-Some.scope c.in-Some.ensures.is
    (sym c.is_within_tag.ensures ∙ c.if-not-is_within_tag.true)
    ∙ c.loop-scope.invariant

pub returns-in_default : goal.returns-in_default
returns-in_default c =
    skips_all is_within_tag c.args.self.now c.loop-scope.depth c.in_default.ensures.is ∙ c.loop-scope.invariant
