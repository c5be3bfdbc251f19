use Rattle.std.proofs.Common.{arith, ap, length}
use Rattle.std.proofs.lemmas.List.{length-map}
use Rattle.js_document.specs.LinkedScopes.{scope_numbered}
use Rattle.js_document.specs.Trie.{opened}
use Rattle.js_document.proofs.OpenedLemmas.{few_opened}
use Rattle.js_document.proofs.linked_scopes.LinkedScopes.are_few.Goals as goal

pub returns : goal.returns
returns c =
    let nodes = c.self.inside.open.now in
    let link = c.self.inside.link in
    let few = few_opened link nodes link in
    let same = length-map (opened nodes link) scope_numbered in
    let view = ap (λ l. length l) c.self.view_is in
    omega (arith, few, same, view, c.is_short.ensures)
