use Rattle.std.proofs.Common.{◌≡◌, ◌∙◌, subst, sym, false}
use Rattle.js_text.specs.Characters.{begins}
use Rattle.js_grammar.specs.Number.{may_not_follow_number}
use Rattle.js_source.specs.Source.{At, rest}
use Rattle.js_source.proofs.Places.{back_at}
use Rattle.js_spell.specs.Numeric.{radix_of_digits}
use Rattle.js_spell.proofs.NumericSteps.{radix_is_small}
use Rattle.js_spell.proofs.UnseparatedNumbers.{prefixed_suffix, prefixed_alone, prefix_goes_on}
use Rattle.js_spell.proofs.unseparated_number.read_prefixed.Goals as goal

pub returns-then-not-begins_digit-clause-reads : goal.returns-then-not-begins_digit-clause-reads
returns-then-not-begins_digit-clause-reads c = λ end errors.
    let first = c.next_char.ensures.past _ _ c.requires.here in
    let second = c.next_char-2.ensures.past _ _ first.1 in
    let back = back_at c.args.source.now c.next_char-2.new.self c.set_position.new.self c.position-start.result
    c.set_position.ensures (second.0 ∙ first.0) c.position-start.ensures.place in
    absurd (prefix_goes_on c.args.prefix (rest c.args.source.now) c.requires
    (subst (λ (at : At). begins may_not_follow_number (rest at) ≡ false) back end))

pub returns-then-advance_if_ascii_eq-clause-reads : goal.returns-then-advance_if_ascii_eq-clause-reads
returns-then-advance_if_ascii_eq-clause-reads c = λ end errors.
    let first = c.next_char.ensures.past _ _ c.requires.here in
    let second = c.next_char-2.ensures.past _ _ first.1 in
    rw c.big_kind.ensures
    (prefixed_suffix c.args.prefix (radix_of_digits c.digits-digits.result) c.table_of.result.now c.args.source.now
    c.next_char-2.new.self c.pass_ascii.new.self c.advance_if_ascii_eq.new.self errors c.digits-digits.ensures
    (radix_is_small c.digits-digits.result)
    c.requires (second.0 ∙ first.0) second.1 c.table_of.ensures c.pass_ascii.ensures.text
    c.pass_ascii.ensures.run c.pass_ascii.ensures.stops (sym c.if-not-begins_digit.ensures)
    c.if-advance_if_ascii_eq.ensures.cases)

pub returns-clause-reads : goal.returns-clause-reads
returns-clause-reads c = λ end errors.
    let none = c.if-advance_if_ascii_eq.ensures.cases in
    let first = c.next_char.ensures.past _ _ c.requires.here in
    let second = c.next_char-2.ensures.past _ _ first.1 in
    rw (c.kind-2.ensures, none.1)
    (prefixed_alone c.args.prefix (radix_of_digits c.digits-digits.result) c.table_of.result.now c.args.source.now
    c.next_char-2.new.self c.pass_ascii.new.self errors c.digits-digits.ensures (radix_is_small c.digits-digits.result)
    c.requires (second.0 ∙ first.0) second.1 c.table_of.ensures c.pass_ascii.ensures.text c.pass_ascii.ensures.run
    c.pass_ascii.ensures.stops (sym c.if-not-begins_digit.ensures)
    (subst (λ (at : At). begins may_not_follow_number (rest at) ≡ false) none.1 end))
