use Rattle.std.proofs.Common.{◌++◌, ap, ◌∙◌}
use Rattle.js_lex_tool.specs.Line.{LineState}
use Rattle.js_lex_tool.proofs.Lines.{line_more, text_more}
use Rattle.js_lex_tool.proofs.line.Line.put_text.Goals as goal

pub invariant_of-self : goal.invariant_of-self
invariant_of-self c =
    let put = c.put_before-self-inside in
    let line = c.self.inside in
    line_more put.result line.start line.bytes put.new.bytes c.as_bytes.result.now put.ensures.start put.ensures.written
    c.as_bytes.ensures.utf8 c.self.invariant

pub returns-clause-text : goal.returns-clause-text
returns-clause-text c =
    let put = c.put_before-self-inside in
    let line = c.self.inside in
    text_more put.result line.start line.bytes put.new.bytes c.as_bytes.result.now put.ensures.start c.self.invariant.0
    put.ensures.written
    ∙ ap (λ (v : LineState). c.as_bytes.result.now ++ v.text) c.self.view_is
    ∙ ap (λ xs. xs ++ c.args.self.now.text) c.as_bytes.ensures.value
