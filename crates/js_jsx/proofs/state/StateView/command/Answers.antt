use Rattle.std.proofs.Common.{sym, ◌∙◌, ap, slice_get}
use Rattle.js_jsx.specs.Classes.{class_of}
use Rattle.js_jsx.specs.InCode.{choice_in_code}
use Rattle.js_jsx.proofs.CodeLemmas.{code_choice}
use Rattle.js_jsx.proofs.state.StateView.command.Goals as goal

pub returns-then-is_in_code : goal.returns-then-is_in_code
returns-then-is_in_code g c =
    c.command_in_code.ensures
    ∙ ap (choice_in_code c.args.self.now) (c.class_of.ensures ∙ ap class_of c.kind.ensures)
    ∙ code_choice (slice_get c.args.text.now c.args.last.end) c.args.self.now c.args.last
    (sym c.is_in_code.ensures ∙ c.if-is_in_code.true)
