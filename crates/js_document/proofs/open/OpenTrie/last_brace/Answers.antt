use Rattle.std.proofs.Common.{◌∙◌, arith, subst, sym}
use Rattle.js_document.specs.Trie.{IsTable}
use Rattle.js_document.proofs.OpenedLemmas.{brace_told, told_none, told_some}
use Rattle.js_document.proofs.open.OpenTrie.last_brace.Goals as goal

pub returns-in-Some : goal.returns-in-Some
returns-in-Some c =
    let nodes = c.args.self.now in
    let table : IsTable nodes c.self.inside.children.items =
    subst (λ n. IsTable n c.self.inside.children.items) c.self.view_is c.self.invariant in
    told_some nodes c.args.link c.in-Some.node (sym c.node.ensures ∙ c.in-Some.is)
    ∙ brace_told nodes c.self.inside.children.items table c.args.link c.args.link (omega arith)

pub returns-in-None : goal.returns-in-None
returns-in-None c =
    let nodes = c.args.self.now in
    let table : IsTable nodes c.self.inside.children.items =
    subst (λ n. IsTable n c.self.inside.children.items) c.self.view_is c.self.invariant in
    told_none nodes c.args.link (sym c.node.ensures ∙ c.in-None.is)
    ∙ brace_told nodes c.self.inside.children.items table c.args.link c.args.link (omega arith)
