use Rattle.js_reader.proofs.SimpleReadings.{minus_alone, angle_alone}
use Rattle.js_reader.proofs.simple.is_symbol_alone.Goals as goal

pub returns-then-b-eq45 : goal.returns-then-b-eq45
returns-then-b-eq45 c = minus_alone c.args.b c.args.line_has_ended _ c.if-b-eq45.true c.requires

pub returns-in-Some : goal.returns-in-Some
returns-in-Some c =
    angle_alone c.args.b _ _ c.args.line_has_ended _ c.if-b-ne60.false c.requires c.in-Some.ensures.some
