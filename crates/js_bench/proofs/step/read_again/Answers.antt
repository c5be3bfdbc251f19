use Rattle.std.proofs.Common.{◌≡◌, sym, ◌∙◌, ap, subst}
use Rattle.js_lexer.specs.Lexer.{LexesAgain, token_or_default}
use Rattle.js_bench.proofs.step.read_again.Goals as goal

pub returns : goal.returns
returns g c =
    let read = c.in_ok-read_again_as_last.ensures in
    let same : read.0 ≡ c.last_token-token.result =
    read.1.token_is ∙ sym (c.last_token-token.ensures.token ∙ ap token_or_default read.1.after.last) in
    record {
      token = c.last_token-token.result;
      reads = subst (λ t. LexesAgain c.args.goal c.args.lexer.now t c.read_again_as_last.new.lexer) same read.1;
      told = c.read_again.ensures;
    }
