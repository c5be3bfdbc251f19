use Rattle.std.proofs.Common.{refl}
use Rattle.js_lexer.proofs.Settled.{meets_if_settled, settled_lexer}
use Rattle.js_lexer.proofs.lexer.Lexer.next_token.Goals as goal

pub read_name_here-requires-clause-settled : goal.read_name_here-requires-clause-settled
read_name_here-requires-clause-settled g c =
    rw (← c.self.view_is)
    (settled_lexer _ c.self.inside.reader c.self.inside.found c.self.inside.has_read c.self.inside.tokens
    c.self.inside.decoded c.self.invariant (c.if-not-is_settled.ensures refl))

pub read_name_here-requires-clause-meets : goal.read_name_here-requires-clause-meets
read_name_here-requires-clause-meets g c =
    rw (← c.self.view_is) (
      c.self.inside.reader.source,
      (
        record { text = refl; place = refl },
        meets_if_settled c.in-Name.b c.self.inside.reader.source _ _ c.self.inside.found.trivia c.self.inside.decoded
            c.pass_simple_gap.new.source c.pass_simple_gap.new.line_has_ended c.self.invariant
            (c.if-not-is_settled.ensures refl) c.here-source.ensures.same c.in-Name.ensures.0,
      ),
    )

pub read_symbol_here-requires-clause-settled : goal.read_symbol_here-requires-clause-settled
read_symbol_here-requires-clause-settled g c =
    rw (← c.self.view_is)
    (settled_lexer _ c.self.inside.reader c.self.inside.found c.self.inside.has_read c.self.inside.tokens
    c.self.inside.decoded c.self.invariant (c.if-not-is_settled.ensures refl))

pub read_symbol_here-requires-clause-meets : goal.read_symbol_here-requires-clause-meets
read_symbol_here-requires-clause-meets g c =
    rw (← c.self.view_is) (
      c.self.inside.reader.source,
      (
        record { text = refl; place = refl },
        meets_if_settled c.in-Symbol.b c.self.inside.reader.source _ _ c.self.inside.found.trivia c.self.inside.decoded
            c.pass_simple_gap.new.source c.pass_simple_gap.new.line_has_ended c.self.invariant
            (c.if-not-is_settled.ensures refl) c.here-source.ensures.same c.in-Symbol.ensures,
      ),
    )
