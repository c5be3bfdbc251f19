-- Documents whose goals one of two rules chooses.
use Rattle.js_choose.specs.Rules.{Rule}
use Rattle.js_auto.specs.Choice.{choice_in}
use Rattle.js_jsx.specs.Choice.{choice}
use Rattle.js_document.specs.Documents.{DocState}
use Rattle.js_document.specs.JsxStates.{SameJsx}
use Rattle.js_document.specs.States.{Alikeness, SameBraces}
use Rattle.js_document_c.specs.declared.chosen.ChosenDocument.{ChosenDocument}
use Rattle.js_document_c.specs.declared.chosen.ChosenDocument.TheVariants as document
use Rattle.js_document_c.specs.declared.chosen.Goals.{Goals}
use Rattle.js_document_c.specs.declared.chosen.Goals.TheVariants as goals

-- the rule that chooses the goals
abbrev pub choice_of : Goals → Rule
choice_of goals.Auto = choice_in
choice_of goals.Jsx = choice

-- behind which tokens it chooses the same
abbrev pub alike_of : Goals → Alikeness
alike_of goals.Auto = SameBraces
alike_of goals.Jsx = SameJsx

-- the document
abbrev pub document_in : ChosenDocument → DocState
document_in (document.Auto d) = d
document_in (document.Jsx d) = d

-- the rule by which it chooses its goals
abbrev pub goals_in : ChosenDocument → Goals
goals_in (document.Auto d) = goals.Auto
goals_in (document.Jsx d) = goals.Jsx
