use Rattle.std.proofs.Common.{sym, ◌∙◌, ap}
use Rattle.js_jsx.specs.Scopes.{braced}
use Rattle.js_jsx.proofs.ScopeLemmas.{braced_at_top, braced_by_item, braced_of_none}
use Rattle.js_jsx.proofs.open_scopes.ScopesView.braced.Goals as goal

pub returns-then-is_brace : goal.returns-then-is_brace
returns-then-is_brace c =
    c.len.ensures
    ∙ braced_at_top c.self.inside.stack c.in-Some.item c.in-Some.ensures.is
    (sym c.is_brace.ensures ∙ c.if-is_brace.true)
    ∙ ap braced c.self.view_is

pub returns-else-is_brace : goal.returns-else-is_brace
returns-else-is_brace c =
    braced_by_item c.self.inside.stack c.in-Some.item c.in-Some.ensures.is c.self.invariant
    (sym c.is_brace.ensures ∙ c.if-is_brace.false)
    ∙ ap braced c.self.view_is

pub returns-in-None : goal.returns-in-None
returns-in-None c = braced_of_none c.self.inside.stack c.in-None.ensures.is ∙ ap braced c.self.view_is
