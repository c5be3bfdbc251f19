use Rattle.std.proofs.Common.{◌∙◌, ap}
use Rattle.js_jsx.specs.Scopes.{top}
use Rattle.js_jsx.proofs.StackLemmas.{first_behind}
use Rattle.js_document.proofs.JsxLemmas.{few_within}
use Rattle.js_document.proofs.linked_scopes.LinkedScopesReadScopes.at.Goals as goal

pub returns-clause-is : goal.returns-clause-is
returns-clause-is c = c.top.ensures ∙ ap top c.without.ensures ∙ first_behind c.args.depth c.args.self.now

pub returns-clause-within : goal.returns-clause-within
returns-clause-within c =
    few_within c.args.self.now c.args.depth c.top.result
    (c.top.ensures ∙ ap top c.without.ensures ∙ first_behind c.args.depth c.args.self.now) c.are_few.ensures
