use Rattle.js_choose.specs.LastTokens.{but_last}
use Rattle.js_auto.specs.Braces.{braces}
use Rattle.js_document.proofs.AutoLemmas.{known_behind}
use Rattle.js_document.proofs.auto_state.AutoStateKeepGoals.behind.Goals as goal

pub open_behind-requires : goal.open_behind-requires
open_behind-requires c = (braces (but_last c.requires.0), c.requires.1.opened)

pub returns-clause-ok : goal.returns-clause-ok
returns-clause-ok c = λ tokens token known is.
    known_behind c.open_behind.new.open c.in_ok-link.link c.kind-before.result c.args.last.now token tokens
    c.kind-before.ensures is (c.in_ok-link.ensures.ok (braces (but_last tokens)) known.opened)
