use Rattle.std.proofs.Common.{◌∙◌, Some, ap, sym}
use Rattle.std.specs.Prelude.{option_map}
use Rattle.std.proofs.lemmas.Option.{slice_get-map}
use Rattle.js_jsx.specs.Scopes.{top}
use Rattle.js_document.specs.LinkedScopes.{scope_numbered}
use Rattle.js_document.specs.Trie.{opened}
use Rattle.js_document.proofs.linked_scopes.LinkedScopes.top.Goals as goal

pub returns-in-Some : goal.returns-in-Some
returns-in-Some c =
    let numbers = opened c.self.inside.open.now c.self.inside.link in
    ap Some c.scope_numbered.ensures ∙ ap (option_map scope_numbered) c.in-Some.ensures.told
    ∙ sym (slice_get-map scope_numbered numbers 0) ∙ ap top c.self.view_is

pub returns-in-None : goal.returns-in-None
returns-in-None c =
    let numbers = opened c.self.inside.open.now c.self.inside.link in
    ap (option_map scope_numbered) c.in-None.ensures.told
    ∙ sym (slice_get-map scope_numbered numbers 0) ∙ ap top c.self.view_is
