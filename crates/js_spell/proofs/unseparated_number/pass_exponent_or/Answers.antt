use Rattle.std.proofs.Common.{◌≡◌, ◌∙◌, subst, sym, false}
use Rattle.js_text.specs.Characters.{begins}
use Rattle.js_grammar.specs.Number.{may_not_follow_number}
use Rattle.js_grammar.proofs.NumberClasses.{ends_number}
use Rattle.js_source.specs.Source.{At, rest}
use Rattle.js_source.proofs.Places.{back_at}
use Rattle.js_spell.proofs.NumericSteps.{no_exponent_read}
use Rattle.js_spell.proofs.UnseparatedNumbers.{exponent_passed, end_follows, exponent_follows}
use Rattle.js_spell.proofs.unseparated_number.pass_exponent_or.Goals as goal

pub returns-then-not-take_exponent_mark-clause-reads : goal.returns-then-not-take_exponent_mark-clause-reads
returns-then-not-take_exponent_mark-clause-reads c = λ end errors.
    let none = c.if-not-take_exponent_mark.ensures.cases in
    rw none.1 (no_exponent_read c.args.source.now errors false c.args.without none.0)

pub returns-then-not-take_exponent_mark-clause-follows : goal.returns-then-not-take_exponent_mark-clause-follows
returns-then-not-take_exponent_mark-clause-follows c = λ end.
    let none = c.if-not-take_exponent_mark.ensures.cases in
    end_follows (rest c.args.source.now)
    (subst (λ (at : At). begins may_not_follow_number (rest at) ≡ false) none.1 end)

pub returns-then-not-begins_digit-clause-reads : goal.returns-then-not-begins_digit-clause-reads
returns-then-not-begins_digit-clause-reads c = λ end errors.
    let back = back_at c.args.source.now c.take_sign-kind.new.source c.set_position.new.self c.position-start.result
    c.set_position.ensures (c.take_sign-kind.ensures.sign.text ∙ c.if-not-take_exponent_mark.ensures.cases.read.text)
    c.position-start.ensures.place in
    rw back
    (no_exponent_read c.args.source.now errors false c.args.without
    (ends_number (rest c.args.source.now)
    (subst (λ (at : At). begins may_not_follow_number (rest at) ≡ false) back end)).exponent)

pub returns-then-not-begins_digit-clause-follows : goal.returns-then-not-begins_digit-clause-follows
returns-then-not-begins_digit-clause-follows c = λ end.
    exponent_follows c.args.source.now c.take_exponent_mark.new.source c.if-not-take_exponent_mark.ensures.cases

pub returns-clause-reads : goal.returns-clause-reads
returns-clause-reads c = λ end errors.
    exponent_passed c.table_of.result.now c.args.source.now c.take_exponent_mark.new.source c.take_sign-kind.new.source
    c.pass_ascii.new.self errors c.args.without c.take_sign-kind.result
    c.if-not-take_exponent_mark.ensures.cases c.take_sign-kind.ensures.sign c.table_of.ensures
    c.pass_ascii.ensures.text c.pass_ascii.ensures.run c.pass_ascii.ensures.stops
    (sym c.if-not-begins_digit.ensures) end

pub returns-clause-follows : goal.returns-clause-follows
returns-clause-follows c = λ end.
    exponent_follows c.args.source.now c.take_exponent_mark.new.source c.if-not-take_exponent_mark.ensures.cases
