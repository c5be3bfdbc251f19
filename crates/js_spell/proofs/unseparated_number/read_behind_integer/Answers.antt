use Rattle.std.proofs.Common.{◌≡◌, ◌∙◌, ◌==◌, subst, false}
use Rattle.js_text.specs.Characters.{begins}
use Rattle.js_grammar.specs.NumberReads.{behind_digits, exponent_or}
use Rattle.js_grammar.specs.Number.{latin_small_letter_n}
use Rattle.js_kind.specs.declared.kind.Kind.TheVariants.{Decimal, DecimalBigInt}
use Rattle.js_source.specs.Source.{At, rest}
use Rattle.js_spell.specs.Numeric.{FollowsInteger, ReadsEnd}
use Rattle.js_spell.proofs.NumericSteps.{suffix_read}
use Rattle.js_spell.proofs.UnseparatedNumbers.{behind_point, behind_exponent, point_follows, suffix_follows}
use Rattle.js_spell.proofs.unseparated_number.read_behind_integer.Goals as goal

pub returns-then-advance_if_ascii_eq-clause-reads : goal.returns-then-advance_if_ascii_eq-clause-reads
returns-then-advance_if_ascii_eq-clause-reads c = λ end errors.
    behind_point c.args.source.now c.advance_if_ascii_eq.new.self c.pass_fraction.new.source errors
    c.if-advance_if_ascii_eq.ensures.cases (c.pass_fraction.ensures.reads end errors)

pub returns-then-advance_if_ascii_eq-clause-follows : goal.returns-then-advance_if_ascii_eq-clause-follows
returns-then-advance_if_ascii_eq-clause-follows c = λ end.
    point_follows c.args.source.now c.advance_if_ascii_eq.new.self c.if-advance_if_ascii_eq.ensures.cases

pub returns-then-advance_if_ascii_eq-2-clause-reads : goal.returns-then-advance_if_ascii_eq-2-clause-reads
returns-then-advance_if_ascii_eq-2-clause-reads c = λ end errors.
    rw c.if-advance_if_ascii_eq.ensures.cases.1 at
    (suffix_read c.advance_if_ascii_eq.new.self c.advance_if_ascii_eq-2.new.self errors false DecimalBigInt
    (behind_digits (rest c.advance_if_ascii_eq.new.self)) c.if-advance_if_ascii_eq-2.ensures.cases)

pub returns-then-advance_if_ascii_eq-2-clause-follows : goal.returns-then-advance_if_ascii_eq-2-clause-follows
returns-then-advance_if_ascii_eq-2-clause-follows c = λ end.
    subst (λ (at : At). FollowsInteger (rest at)) c.if-advance_if_ascii_eq.ensures.cases.1
    (suffix_follows c.advance_if_ascii_eq.new.self c.advance_if_ascii_eq-2.new.self
    c.if-advance_if_ascii_eq-2.ensures.cases)

pub returns-clause-reads : goal.returns-clause-reads
returns-clause-reads c = λ end errors.
    let none = c.if-advance_if_ascii_eq.ensures.cases in
    let same = c.if-advance_if_ascii_eq-2.ensures.cases.1 ∙ none.1 in
    behind_exponent c.args.source.now c.pass_exponent_or.new.source errors c.pass_exponent_or.result none.0
    (subst (λ (at : At). begins (λ c. c == latin_small_letter_n) (rest at) ≡ false) none.1
    c.if-advance_if_ascii_eq-2.ensures.cases.0)
    (subst
    (λ (at : At). ReadsEnd at c.pass_exponent_or.new.source errors errors false false c.pass_exponent_or.result
    (exponent_or Decimal (rest at))) same (c.pass_exponent_or.ensures.reads end errors))

pub returns-clause-follows : goal.returns-clause-follows
returns-clause-follows c = λ end.
    let same = c.if-advance_if_ascii_eq-2.ensures.cases.1 ∙ c.if-advance_if_ascii_eq.ensures.cases.1 in
    subst (λ (at : At). FollowsInteger (rest at)) same (c.pass_exponent_or.ensures.follows end)
