use Rattle.std.proofs.Common.{◌≡◌, true, sym, ◌∙◌, ap, subst}
use Rattle.js_grammar.specs.ReLexed.{is_re_lexed}
use Rattle.js_grammar.specs.declared.goal.Goal.TheVariants.{RegularExpression}
use Rattle.js_grammar.proofs.AgainKinds.{again_is_re_lexed}
use Rattle.js_lexer.specs.Lexer.{token_or_default}
use Rattle.js_lexer.proofs.lexer.Lexer.next_regex.Goals as goal

pub spelled_length-requires : goal.spelled_length-requires
spelled_length-requires g c =
    let behind = c.requires.behind in
    let kind = c.requires.kind ∙ ap (λ o. (token_or_default o).kind) behind.last in
    subst (λ k. is_re_lexed k ≡ true) (sym kind)
    (again_is_re_lexed RegularExpression behind.token.kind behind.kind_is)
