use Rattle.std.proofs.Common.{refl, sym}
use Rattle.js_grammar.specs.declared.goal.Goal.TheVariants.{JsxIdentifier}
use Rattle.js_lexer.proofs.Sparse.{stays_in_places}
use Rattle.js_lexer.proofs.TakenAgain.{name_is_plain, plainly, reads_taken, sound_taken}
use Rattle.js_lexer.proofs.lexer.Lexer.continue_lex_jsx_identifier.Goals as goal

pub invariant_of-self-2 : goal.invariant_of-self-2
invariant_of-self-2 g c =
    let behind = rw (← c.self.view_is) at c.requires in
    sound_taken _ c.self.inside.reader c.read_jsx_name.new.self c.self.inside.found
    (record c.self.inside.found { trivia = c.take_again.new.trivia })
    (plainly _ c.self.inside.reader c.read_jsx_name.new.self behind.token name_is_plain behind.last
    (c.in_ok-token.ensures.1 behind.token behind.start_is (sym behind.place) _)
    c.read_jsx_name.new.self.source.placed.utf8) c.self.invariant c.take_again.ensures.last

pub returns-clause-token : goal.returns-clause-token
returns-clause-token g c =
    let behind = rw (← c.self.view_is) at c.requires in
    let tokens = rw c.tokens-collects.ensures at c.take_again.ensures.collected in
    rw (← c.self.view_is) (
      c.in_ok-token.ensures.0,
      reads_taken _ c.self.inside.reader c.read_jsx_name.new.self c.self.inside.found
          c.self.inside.found.errors c.take_again.new.trivia
          (plainly _ c.self.inside.reader c.read_jsx_name.new.self behind.token name_is_plain behind.last
          (c.in_ok-token.ensures.1 behind.token behind.start_is (sym behind.place) _)
          c.read_jsx_name.new.self.source.placed.utf8) c.self.invariant c.take_again.ensures.last tokens,
    )

pub returns-clause-places : goal.returns-clause-places
returns-clause-places g c =
    let tokens = rw c.tokens-collects.ensures at c.take_again.ensures.collected in
    stays_in_places JsxIdentifier _ _ _ c.self.inside.tokens c.take_again.new.tokens c.args.self.now _ refl
    (returns-clause-token g c).1 tokens (rw (← c.self.view_is) refl) refl
