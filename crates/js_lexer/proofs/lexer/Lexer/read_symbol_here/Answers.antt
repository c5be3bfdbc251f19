use Rattle.std.proofs.Common.{◌≡◌, None, sym, subst}
use Rattle.js_grammar.specs.Gap.{whole_gap_piece}
use Rattle.js_source.specs.Source.{At, rest}
use Rattle.js_reader.specs.Simple.{SpellsFor}
use Rattle.js_lexer.proofs.lexer.Lexer.read_symbol_here.Goals as goal

pub take_spelled-requires-clause-spells : goal.take_spelled-requires-clause-spells
take_spelled-requires-clause-spells g c = λ r.
    let ended = c.args.line_has_ended in
    let same = c.here-behind.ensures.same in
    subst (λ (a : At). SpellsFor r ended a c.read_simple_symbol.new.source c.in-Some.kind) same
    (c.in-Some.ensures.spells r ended
    (subst (λ (a : At). whole_gap_piece r.source_type ended (rest a) ≡ None) (sym same)
    (c.requires.meets.1.1.ends r.source_type)))

pub take_spelled-requires-clause-gap : goal.take_spelled-requires-clause-gap
take_spelled-requires-clause-gap g c =
    let meets = c.requires.meets in (meets.0, (meets.1.0, meets.1.1.gap))
