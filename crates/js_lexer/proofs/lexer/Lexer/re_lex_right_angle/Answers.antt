use Rattle.std.proofs.Common.{refl}
use Rattle.js_text.specs.Ascii.{greater_than_sign}
use Rattle.js_lexer.proofs.AgainSteps.{one_angle}
use Rattle.js_grammar.specs.declared.goal.Goal.TheVariants.{RightAngle}
use Rattle.js_lexer.proofs.Sparse.{stays_in_places}
use Rattle.js_lexer.proofs.TakenAgain.{behind_one, from_mark, longest_is_plain, reads_taken, sound_taken}
use Rattle.js_lexer.proofs.lexer.Lexer.re_lex_right_angle.Goals as goal

pub overflow_sub-start : goal.overflow_sub-start
overflow_sub-start g c =
    (behind_one greater_than_sign c.offset-start.result _ c.self.inside.reader c.self.inside.found
    (rw (← c.self.view_is) at c.requires) (one_angle _ (rw (← c.self.view_is) at c.requires)) refl
    c.self.invariant c.self.inside.reader.source.placed.utf8 c.offset-start.ensures.place).0

pub read_longest_right_angle-token-requires-clause-boundary :
    goal.read_longest_right_angle-token-requires-clause-boundary
read_longest_right_angle-token-requires-clause-boundary g c =
    (behind_one greater_than_sign c.offset-start.result _ c.self.inside.reader c.self.inside.found
    (rw (← c.self.view_is) at c.requires) (one_angle _ (rw (← c.self.view_is) at c.requires)) refl
    c.self.invariant c.self.inside.reader.source.placed.utf8 c.offset-start.ensures.place).1.boundary

pub read_longest_right_angle-token-requires-clause-here : goal.read_longest_right_angle-token-requires-clause-here
read_longest_right_angle-token-requires-clause-here g c =
    (behind_one greater_than_sign c.offset-start.result _ c.self.inside.reader c.self.inside.found
    (rw (← c.self.view_is) at c.requires) (one_angle _ (rw (← c.self.view_is) at c.requires)) refl
    c.self.invariant c.self.inside.reader.source.placed.utf8 c.offset-start.ensures.place).1.here

pub invariant_of-self : goal.invariant_of-self
invariant_of-self g c =
    let starts =
    behind_one greater_than_sign c.offset-start.result _ c.self.inside.reader c.self.inside.found
    (rw (← c.self.view_is) at c.requires) (one_angle _ (rw (← c.self.view_is) at c.requires)) refl
    c.self.invariant c.self.inside.reader.source.placed.utf8 c.offset-start.ensures.place in
    sound_taken _ c.self.inside.reader c.read_longest_right_angle-token.new.self c.self.inside.found
    (record c.self.inside.found { trivia = c.take_again.new.trivia })
    (from_mark _ c.self.inside.reader c.read_longest_right_angle-token.new.self longest_is_plain starts.1
    c.read_longest_right_angle-token.ensures c.read_longest_right_angle-token.new.self.source.placed.utf8)
    c.self.invariant c.take_again.ensures.last

pub returns-clause-token : goal.returns-clause-token
returns-clause-token g c =
    let starts =
    behind_one greater_than_sign c.offset-start.result _ c.self.inside.reader c.self.inside.found
    (rw (← c.self.view_is) at c.requires) (one_angle _ (rw (← c.self.view_is) at c.requires)) refl
    c.self.invariant c.self.inside.reader.source.placed.utf8 c.offset-start.ensures.place in
    let tokens = rw c.tokens-collects.ensures at c.take_again.ensures.collected in
    rw (← c.self.view_is)
    (reads_taken _ c.self.inside.reader c.read_longest_right_angle-token.new.self c.self.inside.found
    c.self.inside.found.errors c.take_again.new.trivia
    (from_mark _ c.self.inside.reader c.read_longest_right_angle-token.new.self longest_is_plain starts.1
    c.read_longest_right_angle-token.ensures c.read_longest_right_angle-token.new.self.source.placed.utf8)
    c.self.invariant c.take_again.ensures.last tokens)

pub returns-clause-places : goal.returns-clause-places
returns-clause-places g c =
    let tokens = rw c.tokens-collects.ensures at c.take_again.ensures.collected in
    stays_in_places RightAngle _ _ _ c.self.inside.tokens c.take_again.new.tokens c.args.self.now _ refl
    (returns-clause-token g c) tokens (rw (← c.self.view_is) refl) refl
