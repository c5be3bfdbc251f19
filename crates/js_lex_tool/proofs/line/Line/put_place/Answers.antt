use Rattle.std.proofs.Common.{◌++◌, ap, ◌∙◌, arith}
use Rattle.std.specs.Fmt.{decimal}
use Rattle.std.proofs.lemmas.Fmt.{length-decimal-le, IsAscii-decimal}
use Rattle.std.proofs.lemmas.Str.{IsUtf8-from_ascii}
use Rattle.js_lex_tool.specs.Line.{LineState}
use Rattle.js_lex_tool.proofs.Lines.{line_more, text_more}
use Rattle.js_lex_tool.proofs.line.Line.put_place.Goals as goal

pub invariant_of-self : goal.invariant_of-self
invariant_of-self c =
    let put = c.put_number-self-inside in
    let line = c.self.inside in
    let number = c.from.result in
    line_more put.result line.start line.bytes put.new.bytes (decimal number) put.ensures.start put.ensures.written
    (IsUtf8-from_ascii (decimal number) (IsAscii-decimal number c.from.type_inv)) c.self.invariant

pub returns-clause-text : goal.returns-clause-text
returns-clause-text c =
    let put = c.put_number-self-inside in
    let line = c.self.inside in
    let number = c.from.result in
    text_more put.result line.start line.bytes put.new.bytes (decimal number) put.ensures.start c.self.invariant.0
    put.ensures.written
    ∙ ap (λ (v : LineState). decimal number ++ v.text) c.self.view_is
    ∙ ap (λ n. decimal n ++ c.args.self.now.text) c.from.ensures

pub returns-clause-room : goal.returns-clause-room
returns-clause-room c =
    let room = ap (λ (v : LineState). v.room) c.self.view_is in
    let few = length-decimal-le 20 c.from.result (omega arith) (omega arith) c.from.type_inv in
    omega (arith, room, few, c.put_number-self-inside.ensures.start)
