use Rattle.js_lex_tool.proofs.line.Line.as_str.Goals as goal

pub from_utf8_unchecked-requires : goal.from_utf8_unchecked-requires
from_utf8_unchecked-requires c = c.self.invariant.1
