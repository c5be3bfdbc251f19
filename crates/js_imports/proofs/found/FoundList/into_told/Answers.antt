use Rattle.std.proofs.Common.{◌∙◌, ap, rules}
use Rattle.std.proofs.lemmas.Fn.{filter_same}
use Rattle.js_imports.specs.Scans.{is_something, told}
use Rattle.js_imports.specs.declared.found.Found.{Found}
use Rattle.js_imports.proofs.found.FoundList.into_told.Goals as goal

pub returns : goal.returns
returns c =
    filter_same _ (λ (x : Found). is_something x.role) _ (λ x b f' k. search rules) _ _ c.retain.ensures.filtered
    ∙ ap told c.self.view_is
