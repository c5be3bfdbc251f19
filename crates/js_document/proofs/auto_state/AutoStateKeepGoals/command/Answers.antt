use Rattle.std.proofs.Common.{◌∙◌}
use Rattle.js_choose.specs.LastTokens.{but_last}
use Rattle.js_auto.specs.Braces.{braces}
use Rattle.js_document.proofs.AutoLemmas.{known_choice}
use Rattle.js_document.proofs.auto_state.AutoStateKeepGoals.command.Goals as goal

pub returns : goal.returns
returns c = λ tokens known is.
    c.command_behind.ensures (braces (but_last tokens)) known.opened
    ∙ known_choice c.args.open.now c.args.self tokens c.args.last.now c.kind.result c.kind.ensures is known
