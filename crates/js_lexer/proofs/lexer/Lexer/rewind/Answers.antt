use Rattle.std.proofs.Common.{rules, subst, sym}
use Rattle.js_lexer.specs.Places.{IsSparse}
use Rattle.js_lexer.proofs.LexerSteps.{rewound_is, recovered_is, marked_is}
use Rattle.js_lexer.proofs.Sparse.{sparse_rewound}
use Rattle.js_lexer.proofs.lexer.Lexer.rewind.Goals as goal

pub returns-clause-state : goal.returns-clause-state
returns-clause-state g c = search rules

pub returns-clause-sparse : goal.returns-clause-sparse
returns-clause-sparse g c =
    λ sparse. subst IsSparse (sym (returns-clause-state g c)) (sparse_rewound c.args.self.now c.args.checkpoint sparse)

pub returns-clause-restores : goal.returns-clause-restores
returns-clause-restores g c =
    λ earlier e goes. rewound_is earlier c.args.self.now _ c.args.checkpoint e goes (returns-clause-state g c)

pub returns-clause-recovers : goal.returns-clause-recovers
returns-clause-recovers g c =
    λ earlier left e goes.
    recovered_is earlier c.args.self.now _ left c.args.checkpoint e goes (returns-clause-state g c)

pub returns-clause-keeps_marks : goal.returns-clause-keeps_marks
returns-clause-keeps_marks g c =
    λ earlier marked e count goes.
    marked_is earlier c.args.self.now _ marked c.args.checkpoint e count goes (returns-clause-state g c)
