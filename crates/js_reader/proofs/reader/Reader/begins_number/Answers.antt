use Rattle.std.proofs.Common.{◌∙◌, sym}
use Rattle.js_source.specs.Source.{rest}
use Rattle.js_reader.proofs.NumberSteps.{point_begins_number, digit_begins}
use Rattle.js_reader.proofs.reader.Reader.begins_number.Goals as goal

pub returns-then-b-eq46 : goal.returns-then-b-eq46
returns-then-b-eq46 c =
    rw c.if-b-eq46.true
    (sym
    (point_begins_number c.args.self.now.source_type c.args.self.now.line_has_ended (rest c.args.self.now.source)
    c.in-Some.b c.in-Some.ensures.some c.if-b-eq46.true c.requires))

pub returns-else-b-eq46 : goal.returns-else-b-eq46
returns-else-b-eq46 c =
    c.is_ascii_digit.ensures.value
    ∙ digit_begins (rest c.args.self.now.source) c.in-Some.b c.in-Some.ensures.some c.if-b-eq46.false
