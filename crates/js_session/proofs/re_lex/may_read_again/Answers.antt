use Rattle.std.proofs.Common.{sym, ◌∙◌, ap}
use Rattle.js_kind.specs.Kinds.{is_one_of}
use Rattle.js_grammar.specs.ReLexed.{again_kinds}
use Rattle.js_session.proofs.AgainLemmas.{stands_for}
use Rattle.js_session.proofs.re_lex.may_read_again.Goals as goal

pub returns-clause-behind : goal.returns-clause-behind
returns-clause-behind g c =
    λ told.
    stands_for c.args.goal c.args.lexer.now
    (ap (is_one_of (again_kinds c.args.goal)) (sym (c.kind.ensures ∙ ap (λ t. t.kind) c.last_token.ensures.token))
    ∙ sym c.reads_again.ensures ∙ told) c.requires
