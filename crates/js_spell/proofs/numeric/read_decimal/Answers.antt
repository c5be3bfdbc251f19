use Rattle.std.proofs.Common.{subst}
use Rattle.std.proofs.lemmas.Result.{on_err_weaker}
use Rattle.js_source.specs.Source.{At, rest}
use Rattle.js_grammar.specs.NumberReads.{behind_digits, decimal_items, missing_digits}
use Rattle.js_kind.specs.declared.kind.Kind.TheVariants.{DecimalBigInt}
use Rattle.js_spell.specs.Numeric.{ReadsEnd}
use Rattle.js_spell.specs.Breaks.{BreaksOff}
use Rattle.js_spell.proofs.BreakSteps.{broken_first, on_err}
use Rattle.js_spell.proofs.NumericSteps.{decimal_broken, decimal_read, suffix_read, no_suffix_read, if_ok_map}
use Rattle.js_spell.proofs.numeric.read_decimal.Goals as goal

pub returns-then-advance_if_ascii_eq-clause-ok : goal.returns-then-advance_if_ascii_eq-clause-ok
returns-then-advance_if_ascii_eq-clause-ok c =
    let mid = c.read_integer.new.source in
    decimal_read c.args.source.now mid c.advance_if_ascii_eq.new.self c.args.errors.now c.read_integer.new.errors
    c.read_integer.new.errors
    c.args.has_separator.now c.read_integer.new.has_separator c.read_integer.new.has_separator DecimalBigInt
    c.in_ok-read_integer.ensures.ok
    (suffix_read mid c.advance_if_ascii_eq.new.self c.read_integer.new.errors c.read_integer.new.has_separator
    DecimalBigInt (behind_digits (rest mid))
    c.if-advance_if_ascii_eq.ensures.cases)

pub returns-clause-ok : goal.returns-clause-ok
returns-clause-ok c =
    let mid = c.read_integer.new.source in
    let none = c.if-advance_if_ascii_eq.ensures.cases in
    if_ok_map c.read_behind_digits.result _ _
    (λ kind end.
    decimal_read c.args.source.now mid c.read_behind_digits.new.source c.args.errors.now c.read_integer.new.errors
    c.read_behind_digits.new.errors
    c.args.has_separator.now c.read_integer.new.has_separator c.read_behind_digits.new.has_separator kind
    c.in_ok-read_integer.ensures.ok
    (no_suffix_read mid c.read_behind_digits.new.source c.read_integer.new.errors c.read_behind_digits.new.errors
    c.read_integer.new.has_separator
    c.read_behind_digits.new.has_separator DecimalBigInt kind (behind_digits (rest mid)) none.0
    (subst
    (λ (at : At). ReadsEnd at c.read_behind_digits.new.source c.read_integer.new.errors
    c.read_behind_digits.new.errors
    c.read_integer.new.has_separator c.read_behind_digits.new.has_separator kind (behind_digits (rest at))) none.1
    end)))
    c.read_behind_digits.ensures.ok

pub returns-in_err-read_integer-clause-err : goal.returns-in_err-read_integer-clause-err
returns-in_err-read_integer-clause-err c =
    on_err c.from_residual.result _
    (broken_first (missing_digits c.args.source.now.place (decimal_items (rest c.args.source.now)).items)
    c.args.source.now c.read_integer.new.source c.args.errors.now c.read_integer.new.errors
    c.in_err-read_integer.ensures.err)

pub returns-clause-err : goal.returns-clause-err
returns-clause-err c =
    let mid = c.read_integer.new.source in
    let new = c.read_behind_digits.new.source in
    let none = c.if-advance_if_ascii_eq.ensures.cases in
    on_err_weaker c.read_behind_digits.result
    (λ broken. decimal_broken c.args.source.now mid new c.args.errors.now c.read_integer.new.errors
    c.read_behind_digits.new.errors c.args.has_separator.now c.read_integer.new.has_separator
    c.in_ok-read_integer.ensures.ok none.0
    (subst (λ (at : At). BreaksOff (missing_digits at.place (behind_digits (rest at)).items) at new
    c.read_integer.new.errors c.read_behind_digits.new.errors) none.1 broken)) c.read_behind_digits.ensures.err
