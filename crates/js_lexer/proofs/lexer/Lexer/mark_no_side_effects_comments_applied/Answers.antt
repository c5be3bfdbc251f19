use Rattle.std.proofs.Common.{sym, subst}
use Rattle.js_trivia.specs.Marks.{IsRangeOf, no_side_effects_applied}
use Rattle.js_lexer.specs.Lexer.{LexerState}
use Rattle.js_lexer.proofs.MarkLaws.{sound_marked}
use Rattle.js_lexer.proofs.lexer.Lexer.mark_no_side_effects_comments_applied.Goals as goal

pub invariant_of-self : goal.invariant_of-self
invariant_of-self g c =
    sound_marked c.self.inside.reader.source c.self.inside.has_read c.self.inside.found.trivia
    c.mark_no_side_effects_comments_applied.new.self c.self.inside.decoded c.args.range no_side_effects_applied c.self.invariant
    (subst (λ (l : LexerState). IsRangeOf l.findings.comments c.args.range) (sym c.self.view_is) c.requires)
    c.mark_no_side_effects_comments_applied.ensures
