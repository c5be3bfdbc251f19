use Rattle.std.proofs.Common.{◌-◌, refl, arith}
use Rattle.std.proofs.lemmas.Str.{IsUtf8-nil}
use Rattle.js_lex_tool.proofs.line.Line.clear.Goals as goal

pub invariant_of-self : goal.invariant_of-self
invariant_of-self c = (omega arith, IsUtf8-nil, c.self.invariant.2)

pub returns-clause-text : goal.returns-clause-text
returns-clause-text c = refl
