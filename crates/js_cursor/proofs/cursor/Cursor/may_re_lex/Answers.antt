use Rattle.std.proofs.Common.{◌≡◌, ◌∙◌, Some, true, ap, sym, subst}
use Rattle.js_kind.specs.Kinds.{is_one_of}
use Rattle.js_grammar.specs.ReLexed.{again_kinds}
use Rattle.js_cursor.specs.Cursor.{CursorState}
use Rattle.js_cursor.proofs.CursorSteps.{is_behind}
use Rattle.js_cursor.proofs.cursor.Cursor.may_re_lex.Goals as goal

pub returns-clause-behind : goal.returns-clause-behind
returns-clause-behind g c =
    λ free.
    is_behind c.args.goal c.args.self.now
    (subst (λ (s : CursorState). s.lexer.last ≡ Some s.token) c.self.view_is c.self.invariant.last)
    (subst (λ k. is_one_of (again_kinds c.args.goal) k ≡ true)
    (c.kind.ensures ∙ ap (λ (s : CursorState). s.token.kind) c.self.view_is)
    (sym c.reads_again.ensures ∙ c.if-not-reads_again.false)) (sym c.is_free.ensures ∙ free)
