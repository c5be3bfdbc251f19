use Rattle.std.proofs.Common.{◌∙◌, None, sym}
use Rattle.js_document.proofs.OpenedLemmas.{brace_below, is_first_brace, told_none, told_some}
use Rattle.js_document.proofs.open.OpenTrie.brace_with.Goals as goal

pub returns-then-is_brace : goal.returns-then-is_brace
returns-then-is_brace c =
    is_first_brace c.args.self.now c.args.link c.args.scope (sym c.is_brace.ensures ∙ c.if-is_brace.true)

pub returns-in-Some : goal.returns-in-Some
returns-in-Some c =
    brace_below c.args.self.now c.args.link c.args.scope c.in-Some.node.brace (sym c.is_brace.ensures ∙ c.if-is_brace.false)
    (told_some c.args.self.now c.args.link c.in-Some.node (sym c.node.ensures ∙ c.in-Some.is))

pub returns-in-None : goal.returns-in-None
returns-in-None c =
    brace_below c.args.self.now c.args.link c.args.scope None (sym c.is_brace.ensures ∙ c.if-is_brace.false)
    (told_none c.args.self.now c.args.link (sym c.node.ensures ∙ c.in-None.is))
