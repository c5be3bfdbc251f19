use Rattle.std.proofs.lemmas.Result.{on_err_weaker}
use Rattle.js_spell.proofs.LegacySteps.{legacy_octal_read, legacy_broken, legacy_decimal_read}
use Rattle.js_spell.proofs.NumericSteps.{if_ok_map}
use Rattle.js_spell.proofs.numeric.read_legacy.Goals as goal

pub returns-then-pass_unseparated_digits-clause-ok : goal.returns-then-pass_unseparated_digits-clause-ok
returns-then-pass_unseparated_digits-clause-ok c =
    legacy_octal_read c.args.source.now c.pass_unseparated_digits.new.source c.args.errors.now c.args.has_separator.now
    c.if-pass_unseparated_digits.ensures

pub returns-clause-ok : goal.returns-clause-ok
returns-clause-ok c =
    if_ok_map c.read_behind_digits.result _ _
    (λ kind end.
    legacy_decimal_read c.args.source.now c.pass_unseparated_digits.new.source c.read_behind_digits.new.source
    c.args.errors.now
    c.read_behind_digits.new.errors c.args.has_separator.now c.read_behind_digits.new.has_separator kind
    c.if-pass_unseparated_digits.ensures end) c.read_behind_digits.ensures.ok

pub returns-clause-err : goal.returns-clause-err
returns-clause-err c =
    on_err_weaker c.read_behind_digits.result
    (λ broken. legacy_broken c.args.source.now c.pass_unseparated_digits.new.source c.read_behind_digits.new.source
    c.args.errors.now c.read_behind_digits.new.errors
    c.if-pass_unseparated_digits.ensures broken) c.read_behind_digits.ensures.err
