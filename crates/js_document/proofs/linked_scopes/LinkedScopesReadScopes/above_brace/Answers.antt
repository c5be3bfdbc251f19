use Rattle.std.proofs.Common.{◌∙◌}
use Rattle.js_document.proofs.JsxLemmas.{braces_left}
use Rattle.js_document.proofs.linked_scopes.LinkedScopesReadScopes.above_brace.Goals as goal

pub returns : goal.returns
returns c = c.passed.ensures ∙ braces_left c.args.self.now
