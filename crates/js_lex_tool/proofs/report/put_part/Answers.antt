use Rattle.std.proofs.Common.{◌-◌, ◌++◌, ap, sym, subst, ◌∙◌, arith}
use Rattle.std.specs.List.{slice_range}
use Rattle.std.specs.Str.{IsUtf8}
use Rattle.js_lex_tool.proofs.Lines.{part_of_block}
use Rattle.js_lex_tool.proofs.report.put_part.Goals as goal

pub put_end-requires-clause-utf8 : goal.put_end-requires-clause-utf8
put_end-requires-clause-utf8 c =
    let text = c.args.source.now in
    let start = c.args.start in
    let end = c.args.end in
    let block = slice_range c.as_bytes.result.now (end - 16) end in
    let is =
    part_of_block start end text block c.if-end-lt-BLOCK.false c.requires.ordered (omega (arith, c.if-end-start-gt-BLOCK.false))
    c.requires.end.0 (ap (λ xs. slice_range xs (end - 16) end) c.as_bytes.ensures.value) in
    subst IsUtf8 (c.range-part.ensures.value ∙ sym is) c.range-part.utf8

pub returns-clause-text : goal.returns-clause-text
returns-clause-text c =
    let text = c.args.source.now in
    let start = c.args.start in
    let end = c.args.end in
    let block = slice_range c.as_bytes.result.now (end - 16) end in
    let is =
    part_of_block start end text block c.if-end-lt-BLOCK.false c.requires.ordered (omega (arith, c.if-end-start-gt-BLOCK.false))
    c.requires.end.0 (ap (λ xs. slice_range xs (end - 16) end) c.as_bytes.ensures.value) in
    c.put_end.ensures.text ∙ ap (λ xs. xs ++ c.args.line.now.text) is
