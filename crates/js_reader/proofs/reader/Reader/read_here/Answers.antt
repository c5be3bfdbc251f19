use Rattle.std.proofs.Common.{◌∙◌, ap}
use Rattle.js_reader.specs.Reader.{lexeme_token}
use Rattle.js_reader.proofs.ReadingSteps.{lexeme_onward}
use Rattle.js_reader.proofs.reader.Reader.read_here.Goals as goal

pub new-span-requires : goal.new-span-requires
new-span-requires c =
    rw (c.offset-start.ensures.place, c.offset.ensures.place) (lexeme_onward c.args.self.now c.read_lexeme.new.self
    c.in_ok-lexeme.ensures.ok)

pub token-requires : goal.token-requires
token-requires c =
    rw (c.new-span.ensures, c.offset-start.ensures.place, c.offset.ensures.place)
    (lexeme_onward c.args.self.now c.read_lexeme.new.self c.in_ok-lexeme.ensures.ok)

pub returns-clause-ok : goal.returns-clause-ok
returns-clause-ok c =
    let lexeme = c.in_ok-lexeme.lexeme in
    record {
      lexeme = lexeme;
      reads = c.in_ok-lexeme.ensures.ok;
      token_is =
          c.token.ensures ∙ ap (λ s. lexeme_token s.start s.end lexeme) c.new-span.ensures
          ∙ ap (λ n. lexeme_token n c.offset.result lexeme) c.offset-start.ensures.place
          ∙ ap (λ n. lexeme_token c.args.self.now.source.place n lexeme) c.offset.ensures.place;
    }
