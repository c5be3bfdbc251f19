use Rattle.std.proofs.Common.{◌∙◌, ap, drop, subst, sym}
use Rattle.js_document.specs.Trie.{IsTable}
use Rattle.js_document.proofs.OpenedLemmas.{opened_below, opened_none}
use Rattle.js_document.proofs.open.OpenTrie.close.Goals as goal

pub returns-in-Some-clause-told : goal.returns-in-Some-clause-told
returns-in-Some-clause-told c =
    let nodes = c.args.self.now in
    let table : IsTable nodes c.self.inside.children.items =
    subst (λ n. IsTable n c.self.inside.children.items) c.self.view_is c.self.invariant in
    opened_below nodes c.self.inside.children.items table c.args.link c.in-Some.node (sym c.node.ensures ∙ c.in-Some.is)

pub returns-in-None-clause-told : goal.returns-in-None-clause-told
returns-in-None-clause-told c =
    sym (ap (drop 1) (opened_none c.args.self.now c.args.link (sym c.node.ensures ∙ c.in-None.is)))
