use Rattle.std.proofs.Common.{◌≡◌, ◌+◌, ◌-◌, ◌++◌, drop, length, ap, ◌∙◌, arith, length-drop}
use Rattle.js_lex_tool.specs.Line.{LineState}
use Rattle.js_lex_tool.proofs.Lines.{line_more, text_more}
use Rattle.js_lex_tool.proofs.line.Line.put_end.Goals as goal

pub invariant_of-self : goal.invariant_of-self
invariant_of-self c =
    let put = c.put_end_of_16-self-inside in
    let line = c.self.inside in
    let room = c.args.room.now in
    let piece = drop (16 - c.args.len) room in
    let start : put.result + length piece ≡ line.start =
    omega (arith, put.ensures.start, c.requires.within, c.requires.width, length-drop (16 - c.args.len) room) in
    line_more put.result line.start line.bytes put.new.bytes piece start put.ensures.written c.requires.utf8
    c.self.invariant

pub returns-clause-text : goal.returns-clause-text
returns-clause-text c =
    let put = c.put_end_of_16-self-inside in
    let line = c.self.inside in
    let room = c.args.room.now in
    let piece = drop (16 - c.args.len) room in
    let start : put.result + length piece ≡ line.start =
    omega (arith, put.ensures.start, c.requires.within, c.requires.width, length-drop (16 - c.args.len) room) in
    text_more put.result line.start line.bytes put.new.bytes piece start c.self.invariant.0 put.ensures.written
    ∙ ap (λ (v : LineState). piece ++ v.text) c.self.view_is
