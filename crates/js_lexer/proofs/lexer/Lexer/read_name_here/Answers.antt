use Rattle.js_lexer.proofs.lexer.Lexer.read_name_here.Goals as goal

pub take_spelled-requires-clause-gap : goal.take_spelled-requires-clause-gap
take_spelled-requires-clause-gap g c =
    let meets = c.requires.meets in (meets.0, (meets.1.0, meets.1.1.gap))
