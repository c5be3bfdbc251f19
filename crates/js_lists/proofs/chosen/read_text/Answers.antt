use Rattle.std.proofs.Common.{◌≡◌, sym, ap, subst, false}
use Rattle.js_lexer.specs.Lexer.{fresh}
use Rattle.js_lists.proofs.chosen.read_text.Goals as goal

pub read_tokens-requires-clause-unread : goal.read_tokens-requires-clause-unread
read_tokens-requires-clause-unread g c =
    let e = c.in-Ok.ensures.ok in
    subst (λ t. c.in-Ok.lexer ≡ fresh c.args.text.now t false) (sym (ap (λ l. l.source_type) e)) e
