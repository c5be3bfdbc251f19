use Rattle.std.proofs.Common.{◌∙◌, ap, drop, map, sym}
use Rattle.std.proofs.lemmas.List.{drop-map}
use Rattle.js_document.specs.LinkedScopes.{scope_numbered}
use Rattle.js_document.specs.Trie.{opened}
use Rattle.js_document.proofs.linked_scopes.LinkedScopes.without.Goals as goal

pub returns : goal.returns
returns c =
    let numbers = opened c.self.inside.open.now c.self.inside.link in
    ap (map scope_numbered) c.close_all.ensures.told ∙ sym (drop-map scope_numbered c.args.count numbers)
    ∙ ap (drop c.args.count) c.self.view_is
