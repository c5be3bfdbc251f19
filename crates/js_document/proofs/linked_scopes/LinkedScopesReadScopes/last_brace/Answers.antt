use Rattle.std.proofs.Common.{◌∙◌, Some, ap}
use Rattle.std.specs.Prelude.{option_map}
use Rattle.js_jsx.specs.Scopes.{last_brace}
use Rattle.js_document.specs.LinkedScopes.{scope_numbered}
use Rattle.js_document.specs.Trie.{opened}
use Rattle.js_document.proofs.JsxLemmas.{last_brace_numbered}
use Rattle.js_document.proofs.linked_scopes.LinkedScopesReadScopes.last_brace.Goals as goal

pub returns-in-Some : goal.returns-in-Some
returns-in-Some c =
    ap Some c.scope_numbered.ensures ∙ ap (option_map scope_numbered) c.in-Some.ensures
    ∙ last_brace_numbered (opened c.self.inside.open.now c.self.inside.link) ∙ ap last_brace c.self.view_is

pub returns-in-None : goal.returns-in-None
returns-in-None c =
    ap (option_map scope_numbered) c.in-None.ensures
    ∙ last_brace_numbered (opened c.self.inside.open.now c.self.inside.link) ∙ ap last_brace c.self.view_is
