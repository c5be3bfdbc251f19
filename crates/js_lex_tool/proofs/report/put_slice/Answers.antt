use Rattle.std.proofs.Common.{◌++◌, codes, ap, sym, ◌∙◌}
use Rattle.js_lex_tool.specs.Units.{text_in_units}
use Rattle.js_lex_tool.proofs.report.put_slice.Goals as goal

pub returns-clause-text : goal.returns-clause-text
returns-clause-text c = λ _.
    let plain = c.is_plain.ensures c.if-not-is_plain.false in
    c.put_text.ensures.text
    ∙ ap (λ xs. codes " =" ++ xs)
    (c.put_part.ensures.text ∙ ap (λ xs. xs ++ c.args.line.now.text) (sym c.range.ensures.value ∙ sym plain ∙ ap text_in_units c.range.ensures.value))
