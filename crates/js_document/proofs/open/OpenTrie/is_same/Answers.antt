use Rattle.std.proofs.Common.{◌≡◌, rules, subst, sym}
use Rattle.js_document.specs.Trie.{IsOpen, IsTable}
use Rattle.js_document.proofs.TrieLemmas.{same_links, same_scopes}
use Rattle.js_document.proofs.open.OpenTrie.is_same.Goals as goal

pub returns : goal.returns
returns c scopes others is there =
    let nodes = c.args.self.now in
    let table : IsTable nodes c.self.inside.children.items =
    subst (λ n. IsTable n c.self.inside.children.items) c.self.view_is c.self.invariant in
    let same : scopes ≡ others → c.args.link ≡ c.args.other =
    λ e. same_links nodes c.self.inside.children.items table others c.args.link c.args.other
    (subst (IsOpen nodes c.args.link) e is) there in
    let back : c.args.link ≡ c.args.other → scopes ≡ others =
    λ e. same_scopes nodes c.args.link scopes others is (subst (λ l. IsOpen nodes l others) (sym e) there) in
    search rules
