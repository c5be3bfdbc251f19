use Rattle.std.proofs.Common.{◌∙◌, ap}
use Rattle.js_reader.specs.Reader.{simple_lexeme}
use Rattle.js_reader.specs.Reader.{lexeme_token}
use Rattle.js_reader.proofs.SimpleReadings.{spelled_from, spelled_onward}
use Rattle.js_reader.proofs.reader.Reader.read_simple.Goals as goal

pub new-span-requires : goal.new-span-requires
new-span-requires c =
    let r = c.args.self.now in
    let spells =
    spelled_from r c.here-source.result c.read_simple_spelling.new.source c.in_ok-kind.kind c.here-source.ensures.same
    (λ none. rw c.in_ok-kind.was at (c.read_simple_spelling.ensures.spells r r.line_has_ended none)) c.requires in
    rw (c.offset-start.ensures.place, c.offset.ensures.place)
    (spelled_onward r c.read_simple_spelling.new.source c.in_ok-kind.kind
    spells)

pub new-requires : goal.new-requires
new-requires c =
    let r = c.args.self.now in
    let spells =
    spelled_from r c.here-source.result c.read_simple_spelling.new.source c.in_ok-kind.kind c.here-source.ensures.same
    (λ none. rw c.in_ok-kind.was at (c.read_simple_spelling.ensures.spells r r.line_has_ended none)) c.requires in
    rw (c.new-span.ensures, c.offset-start.ensures.place, c.offset.ensures.place)
    (spelled_onward r c.read_simple_spelling.new.source c.in_ok-kind.kind
    spells)

pub returns-clause-some : goal.returns-clause-some
returns-clause-some c = λ errors.
    let r = c.args.self.now in
    let lexeme = simple_lexeme c.in_ok-kind.kind r.line_has_ended in
    record {
      lexeme = lexeme;
      reads =
          spelled_from r c.here-source.result c.read_simple_spelling.new.source c.in_ok-kind.kind
          c.here-source.ensures.same
          (λ none. rw c.in_ok-kind.was at (c.read_simple_spelling.ensures.spells r r.line_has_ended none))
          c.requires errors;
      token_is =
          c.new.ensures ∙ ap (λ s. lexeme_token s.start s.end lexeme) c.new-span.ensures
          ∙ ap (λ n. lexeme_token n c.offset.result lexeme) c.offset-start.ensures.place
          ∙ ap (λ n. lexeme_token r.source.place n lexeme) c.offset.ensures.place;
    }
