use Rattle.std.proofs.Common.{string_bytes, subst}
use Rattle.js_auto.specs.Choice.{choice_in}
use Rattle.js_totsenak.specs.Checked.{IsChecked}
use Rattle.js_totsenak.proofs.ChosenAnew.{unfaulty_clean}
use Rattle.js_totsenak.proofs.rewritten.rewrite_source.Goals as goal

pub clean_text-requires : goal.clean_text-requires
clean_text-requires c =
    let name = c.args.name.now in
    let source = c.args.source.now in
    let text = string_bytes c.in_ok-told.told.text in
    unfaulty_clean name source c.args.source_type text
    (subst (IsChecked choice_in name source c.args.source_type text) c.if-told.false c.in_ok-told.ensures.checked)
