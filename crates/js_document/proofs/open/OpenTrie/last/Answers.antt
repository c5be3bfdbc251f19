use Rattle.std.proofs.Common.{sym, ◌∙◌}
use Rattle.js_document.proofs.OpenedLemmas.{last_scope, no_scope}
use Rattle.js_document.proofs.TrieLemmas.{none_scope, some_scope}
use Rattle.js_document.proofs.open.OpenTrie.last.Goals as goal

pub returns-in-Some-clause-is : goal.returns-in-Some-clause-is
returns-in-Some-clause-is c scopes is =
    some_scope c.args.self.now c.args.link c.in-Some.node scopes (sym c.node.ensures ∙ c.in-Some.is) is

pub returns-in-Some-clause-told : goal.returns-in-Some-clause-told
returns-in-Some-clause-told c =
    last_scope c.args.self.now c.args.link c.in-Some.node (sym c.node.ensures ∙ c.in-Some.is)

pub returns-in-None-clause-is : goal.returns-in-None-clause-is
returns-in-None-clause-is c scopes is =
    none_scope c.args.self.now c.args.link scopes (sym c.node.ensures ∙ c.in-None.is) is

pub returns-in-None-clause-told : goal.returns-in-None-clause-told
returns-in-None-clause-told c = no_scope c.args.self.now c.args.link (sym c.node.ensures ∙ c.in-None.is)
