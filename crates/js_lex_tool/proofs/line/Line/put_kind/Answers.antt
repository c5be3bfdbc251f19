use Rattle.std.proofs.Common.{◌≡◌, ◌+◌, ◌-◌, ◌++◌, drop, length, ap, ◌∙◌, arith, length-drop}
use Rattle.js_lex_tool.specs.Line.{LineState}
use Rattle.js_lex_tool.proofs.Lines.{line_more, text_more}
use Rattle.js_lex_tool.proofs.Named.{name_utf8}
use Rattle.js_lex_tool.proofs.line.Line.put_kind.Goals as goal

pub invariant_of-self : goal.invariant_of-self
invariant_of-self c =
    let put = c.put_end_of_32-self-inside in
    let line = c.self.inside in
    let name = c.of-name.result.now in
    let piece = drop (32 - name.len) name.room in
    let start : put.result + length piece ≡ line.start =
    omega (
      arith,
      put.ensures.start,
      c.of-name.ensures.short,
      c.of-name.ensures.width,
      length-drop (32 - name.len) name.room,
    ) in
    line_more put.result line.start line.bytes put.new.bytes piece start put.ensures.written
    (rw c.of-name.ensures.text (name_utf8 c.args.token.now.kind)) c.self.invariant

pub returns-clause-text : goal.returns-clause-text
returns-clause-text c =
    let put = c.put_end_of_32-self-inside in
    let line = c.self.inside in
    let name = c.of-name.result.now in
    let ends = c.of-name.ensures in
    let piece = drop (32 - name.len) name.room in
    let start : put.result + length piece ≡ line.start =
    omega (arith, put.ensures.start, ends.short, ends.width, length-drop (32 - name.len) name.room) in
    text_more put.result line.start line.bytes put.new.bytes piece start c.self.invariant.0 put.ensures.written
    ∙ ap (λ (v : LineState). piece ++ v.text) c.self.view_is
    ∙ ap (λ xs. xs ++ c.args.self.now.text) ends.text
