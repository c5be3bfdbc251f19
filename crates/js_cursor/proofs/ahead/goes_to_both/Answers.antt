use Rattle.std.proofs.lemmas.Result.{err_from_is_err_and}
use Rattle.js_cursor.specs.Ahead.LooksTwoAhead.{no_memory}
use Rattle.js_cursor.proofs.AheadSteps.{ahead_twice}
use Rattle.js_cursor.proofs.GoesOn.{goes_on-trans}
use Rattle.js_cursor.proofs.ahead.goes_to_both.Goals as goal

pub returns-in_err-is_first-clause-looks : goal.returns-in_err-is_first-clause-looks
returns-in_err-is_first-clause-looks g c =
    let p = err_from_is_err_and c.from_residual.result c.from_residual.ensures.1 in
    no_memory p.0 c.in_err-is_first.ensures.looks p.1

pub returns-clause-looks : goal.returns-clause-looks
returns-clause-looks g c =
    ahead_twice c.args.first c.args.second c.args.cursor.now c.goes_to.new.cursor c.goes_to-2.new.cursor
    c.in_ok-is_first.is_first c.goes_to-2.result c.if-not-is_first.false c.in_ok-is_first.ensures.looks
    c.goes_to-2.ensures.looks

pub returns-clause-goes_on : goal.returns-clause-goes_on
returns-clause-goes_on g c =
    goes_on-trans c.args.cursor.now c.goes_to.new.cursor c.goes_to-2.new.cursor c.goes_to.ensures.onward.goes_on
    c.goes_to-2.ensures.onward.goes_on
