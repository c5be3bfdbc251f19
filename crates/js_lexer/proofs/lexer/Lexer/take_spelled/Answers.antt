use Rattle.std.proofs.Common.{◌∙◌, ap}
use Rattle.js_reader.specs.Reader.{simple_lexeme}
use Rattle.js_reader.specs.Reader.{lexeme_token}
use Rattle.js_reader.proofs.SimpleReadings.{simple_token, simple_onward}
use Rattle.js_lexer.specs.Lexer.{is_hashbang}
use Rattle.js_lexer.proofs.NoHashbang.{simply_other}
use Rattle.js_lexer.proofs.lexer.Lexer.take_spelled.Goals as goal

pub new-span-requires : goal.new-span-requires
new-span-requires g c =
    rw (c.offset_of-start.ensures, c.position.ensures.place, c.offset.ensures.place)
    (simple_onward c.args.line_has_ended c.args.source c.args.behind c.args.kind c.self.inside.reader
    c.requires.spells)

pub new-token-requires : goal.new-token-requires
new-token-requires g c =
    rw (c.new-span.ensures, c.offset_of-start.ensures, c.position.ensures.place, c.offset.ensures.place)
    (simple_onward c.args.line_has_ended c.args.source c.args.behind c.args.kind c.self.inside.reader
    c.requires.spells)

pub take_simple-requires-clause-reads : goal.take_simple-requires-clause-reads
take_simple-requires-clause-reads g c =
    let lexeme = simple_lexeme c.args.kind c.args.line_has_ended in
    let gap = c.requires.gap in (
      gap.0,
      (
        gap.1.0,
        simple_token _ c.args.source c.args.behind _ c.args.line_has_ended c.args.kind c.new-token.result
            gap.1.1 c.requires.spells (c.new-token.ensures ∙ ap (λ s. lexeme_token s.start s.end lexeme) c.new-span.ensures
            ∙ ap (λ n. lexeme_token n c.offset.result lexeme) (c.offset_of-start.ensures ∙ c.position.ensures.place)
            ∙ ap (λ n. lexeme_token c.args.source.place n lexeme) c.offset.ensures.place),
      ),
    )

pub take_simple-requires-clause-other : goal.take_simple-requires-clause-other
take_simple-requires-clause-other g c =
    ap (λ t. is_hashbang t.kind) c.new-token.ensures
    ∙ simply_other c.args.line_has_ended c.args.source c.args.behind c.args.kind c.self.inside.reader c.requires.spells
