use Rattle.std.proofs.Common.{arith, subst}
use Rattle.js_document.specs.Trie.{IsTable}
use Rattle.js_document.proofs.OpenedLemmas.{opened_is}
use Rattle.js_document.proofs.open.OpenTrie.is_told.Goals as goal

pub returns : goal.returns
returns c scopes is =
    let nodes = c.args.self.now in
    let table : IsTable nodes c.self.inside.children.items =
    subst (λ n. IsTable n c.self.inside.children.items) c.self.view_is c.self.invariant in
    opened_is nodes c.self.inside.children.items table c.args.link c.args.link scopes (omega arith) is
