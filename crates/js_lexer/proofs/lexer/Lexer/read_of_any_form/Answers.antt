use Rattle.std.proofs.Common.{◌≡◌, ◌∙◌, ap, sym, subst, Some}
use Rattle.js_grammar.specs.GapItems.{token_before}
use Rattle.js_grammar.specs.declared.goal.Goal.TheVariants.{Next}
use Rattle.js_trivia.specs.Attachment.{Attachment}
use Rattle.js_lexer.specs.Lexer.{ReadsToken}
use Rattle.js_lexer.proofs.lexer.Lexer.read_of_any_form.Goals as goal

pub returns-clause-ok : goal.returns-clause-ok
returns-clause-ok g c =
    let read = c.in_ok-read_next.ensures.ok in
    let last : c.read_next.new.self.last ≡ Some read.0 = read.1.after.last ∙ ap Some (sym read.1.token_is) in
    let now = rw (← c.self.view_is) at last in
    let same : c.previous_token.result ≡ read.0 =
    c.previous_token.ensures ∙ ap (λ (a : Attachment). a.previous) c.self.invariant.attachment ∙ ap token_before now in
    subst (λ token. ReadsToken Next c.args.self.now token c.read_next.new.self) (sym same) read.1
