use Rattle.std.proofs.Common.{sym, ◌∙◌, arith}
use Rattle.std.proofs.lemmas.Option.{slice_get-get_or, slice_get_past}
use Rattle.js_source.proofs.Fours.{first_found, has_four, passed_byte}
use Rattle.js_source.proofs.four.FourBytes.find.Goals as goal

pub returns-then-has-clause-first : goal.returns-then-has-clause-first
returns-then-has-clause-first c =
    first_found c.args.self c.args.bytes.now c.args.from c.loop-at.at
    (has_four c.args.self (omega arith) (omega arith) (omega arith) (omega arith)) c.loop-at.invariant
    (λ within. sym c.has.ensures ∙ c.if-has.true)

pub returns-then-has-clause-byte : goal.returns-then-has-clause-byte
returns-then-has-clause-byte c = sym (slice_get-get_or c.args.bytes.now c.loop-at.at 0 c.loop-at-test.true)

pub loop-at-preserved : goal.loop-at-preserved
loop-at-preserved c =
    passed_byte c.args.self c.args.bytes.now c.args.from c.loop-at.at c.loop-at.invariant c.loop-at-test.true
    (sym c.has.ensures ∙ c.if-has.false)

pub returns-clause-first : goal.returns-clause-first
returns-clause-first c =
    first_found c.args.self c.args.bytes.now c.args.from c.loop-at.at
    (has_four c.args.self (omega arith) (omega arith) (omega arith) (omega arith)) c.loop-at.invariant
    (λ within. absurd (omega (arith, within, c.loop-at-test.false)))

pub returns-clause-byte : goal.returns-clause-byte
returns-clause-byte c = sym (slice_get_past c.args.bytes.now c.loop-at.at c.loop-at-test.false)
