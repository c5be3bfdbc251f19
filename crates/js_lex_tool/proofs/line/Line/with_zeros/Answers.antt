use Rattle.std.proofs.Common.{◌-◌, ◌++◌, take, drop, ap, ◌∙◌, arith, take_all, length-drop, replicate}
use Rattle.std.proofs.lemmas.Str.{IsUtf8-append}
use Rattle.js_lex_tool.specs.Line.{LineState}
use Rattle.js_lex_tool.proofs.Lines.{line_and_zeros, zeros_utf8}
use Rattle.js_lex_tool.proofs.line.Line.with_zeros.Goals as goal

pub from_utf8_unchecked-requires : goal.from_utf8_unchecked-requires
from_utf8_unchecked-requires c =
    let line = c.self.inside in
    rw (take_all (256 - line.start) (drop line.start line.bytes) (omega (arith, length-drop line.start line.bytes)))
    (rw (line_and_zeros line.start line.bytes c.self.invariant.0 c.self.invariant.2)
    (IsUtf8-append (take (192 - line.start) (drop line.start line.bytes)) (replicate 64 0) c.self.invariant.1 zeros_utf8))

pub returns : goal.returns
returns c =
    let line = c.self.inside in
    c.from_utf8_unchecked.ensures
    ∙ take_all (256 - line.start) (drop line.start line.bytes) (omega (arith, length-drop line.start line.bytes))
    ∙ line_and_zeros line.start line.bytes c.self.invariant.0 c.self.invariant.2
    ∙ ap (λ (v : LineState). v.text ++ replicate 64 0) c.self.view_is
