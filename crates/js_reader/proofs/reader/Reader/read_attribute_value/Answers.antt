use Rattle.std.proofs.Common.{false}
use Rattle.std.proofs.lemmas.Result.{IfOk-weaker, on_err_weaker}
use Rattle.js_reader.proofs.AttributeSteps.{attribute_goal, attribute_reports}
use Rattle.js_reader.proofs.TriviaSteps.{either_way, extends_none, grows_on, grows_reports}
use Rattle.js_reader.proofs.WholeSteps.{pieces_move_on}
use Rattle.js_reader.proofs.reader.Reader.read_attribute_value.Goals as goal

pub returns-clause-ok : goal.returns-clause-ok
returns-clause-ok c =
    IfOk-weaker c.read_attribute.result _ _
    (λ token read previous first. attribute_goal previous c.args.self.now c.args.found.now c.skip_whole_gap.new.self
    c.skip_whole_gap.new.found c.read_attribute.new.self c.read_attribute.new.errors token
    first c.in_ok-skip_whole_gap.ensures.ok read) c.read_attribute.ensures.ok

pub returns-clause-err : goal.returns-clause-err
returns-clause-err c =
    on_err_weaker c.read_attribute.result
    (λ part. pieces_move_on false c.args.self.now c.skip_whole_gap.new.self c.read_attribute.new.self c.args.found.now
    c.skip_whole_gap.new.found c.in_ok-skip_whole_gap.ensures.ok.skips part.moves) c.read_attribute.ensures.err

pub returns-clause-grown : goal.returns-clause-grown
returns-clause-grown c =
    let found = c.skip_whole_gap.new.found in
    let reports =
    either_way c.read_attribute.result
    (IfOk-weaker c.read_attribute.result _ _ (λ token read. attribute_reports _ _ read) c.read_attribute.ensures.ok)
    (on_err_weaker c.read_attribute.result (λ part. part.errors) c.read_attribute.ensures.err) in
    grows_on c.args.found.now found _ c.skip_whole_gap.ensures.grown
    (grows_reports found c.read_attribute.new.errors found.deferred reports (extends_none found.deferred))
