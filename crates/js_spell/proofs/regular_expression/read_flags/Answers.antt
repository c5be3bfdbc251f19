use Rattle.std.proofs.Common.{refl, sym, subst, ◌∙◌, ap}
use Rattle.js_grammar.specs.RegularExpression.{is_flag_character}
use Rattle.js_source.specs.Source.{rest}
use Rattle.js_text.specs.Characters.{begins}
use Rattle.js_spell.specs.RegularExpression.{AddsLetter}
use Rattle.js_spell.proofs.FlagSteps.{ReadsLetters, flags_read, letter_place, letters_broken, no_letters, one_letter}
use Rattle.js_spell.proofs.FlagSteps.{bits_are_none}
use Rattle.js_spell.proofs.BreakSteps.{on_err}
use Rattle.js_spell.proofs.regular_expression.read_flags.Goals as goal

pub letters-init : goal.letters-init
letters-init c = record {
  reads =
      no_letters c.args.source.now c.args.errors.now c.empty-flags.result
      (bits_are_none c.empty-flags.result (c.empty-flags.ensures tt));
  at = c.offset-at.ensures.place;
}

pub add_letter-requires : goal.add_letter-requires
add_letter-requires c =
    letter_place c.letters.source c.take_letter.new.source c.in-Some.letter c.letters.at c.letters.invariant.at
    c.in-Some.ensures.some

pub returns-in_err-is_faulty-clause-err : goal.returns-in_err-is_faulty-clause-err
returns-in_err-is_faulty-clause-err c =
    on_err c.from_residual.result _
    (letters_broken c.args.pattern_end c.args.source.now c.letters.source c.take_letter.new.source c.args.errors.now
    c.letters.errors c.add_letter.new.errors c.letters.flags c.letters.flags_error c.in-Some.letter c.requires
    c.letters.invariant.reads c.in-Some.ensures.some c.in_err-is_faulty.ensures.err)

pub letters-preserved : goal.letters-preserved
letters-preserved c =
    let next = c.take_letter.new.source in
    let adds : AddsLetter c.letters.flags c.add_letter.new.flags c.letters.source.place c.in-Some.letter
    c.letters.errors c.add_letter.new.errors c.in_ok-is_faulty.is_faulty =
    subst (λ n. AddsLetter c.letters.flags c.add_letter.new.flags n c.in-Some.letter c.letters.errors
    c.add_letter.new.errors c.in_ok-is_faulty.is_faulty) c.letters.invariant.at c.in_ok-is_faulty.ensures.ok in
    record {
      reads =
          subst (λ b. ReadsLetters c.args.source.now next c.args.errors.now c.add_letter.new.errors
          c.add_letter.new.flags b) (sym c.either-flags_error.ensures)
          (one_letter c.args.source.now c.letters.source next c.args.errors.now c.letters.errors
          c.add_letter.new.errors c.letters.flags c.add_letter.new.flags c.letters.flags_error
          c.in_ok-is_faulty.is_faulty c.in-Some.letter c.letters.invariant.reads c.in-Some.ensures.some adds);
      at = c.offset-at-in-Some.ensures.place;
    }

pub returns-clause-ok : goal.returns-clause-ok
returns-clause-ok c =
    let same = c.in_default.ensures.none.1 in
    flags_read c.args.pattern_end c.args.source.now c.take_letter.new.source c.args.errors.now c.letters.errors
    c.letters.flags c.letters.flags_error _ c.requires
    (subst (λ s. ReadsLetters c.args.source.now s c.args.errors.now c.letters.errors c.letters.flags
    c.letters.flags_error) (sym same) c.letters.invariant.reads)
    (ap (λ s. begins is_flag_character (rest s)) same ∙ c.in_default.ensures.none.0) refl
