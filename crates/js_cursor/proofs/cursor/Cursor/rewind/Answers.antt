use Rattle.std.proofs.Common.{rules, sym, ◌∙◌, ap, subst}
use Rattle.js_lexer.specs.Lexer as of_lexer
use Rattle.js_cursor.specs.Checkpoint.{CursorCheckpoint}
use Rattle.js_cursor.specs.Cursor.{CursorState}
use Rattle.js_cursor.proofs.CursorSteps.{recovered_is}
use Rattle.js_cursor.proofs.TokenSteps.{on_rewound}
use Rattle.js_cursor.proofs.cursor.Cursor.rewind.Goals as goal

pub returns-clause-state : goal.returns-clause-state
returns-clause-state g c = search rules

pub returns-clause-recovers : goal.returns-clause-recovers
returns-clause-recovers g c =
    λ earlier left e goes.
    recovered_is earlier c.args.self.now _ left c.args.checkpoint e goes
    (c.rewind.ensures.recovers earlier.lexer left
    (ap (λ (to : CursorCheckpoint). to.lexer) (c.checkpoint.view_is ∙ e))
    (subst (λ (now : CursorState). of_lexer.GoesOnFrom (of_lexer.with_diagnostics left earlier.lexer) now.lexer)
    (sym c.self.view_is) goes.lexer))
    (returns-clause-state g c)

pub invariant_of-self : goal.invariant_of-self
invariant_of-self g c =
    on_rewound _ c.self.inside.lexer c.rewind.new.self c.checkpoint.inside.lexer c.self.inside.token
    c.checkpoint.inside.token c.self.inside.previous_end c.checkpoint.inside.previous_end c.self.invariant
    c.checkpoint.invariant c.rewind.ensures.state
