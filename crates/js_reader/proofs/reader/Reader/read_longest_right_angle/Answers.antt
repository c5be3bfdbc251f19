use Rattle.std.proofs.Common.{refl}
use Rattle.js_text.specs.Ascii.{greater_than_sign}
use Rattle.js_reader.proofs.GoalSteps.{angle_goal, angle_ordered, behind_mark}
use Rattle.js_reader.proofs.reader.Reader.read_longest_right_angle.Goals as goal

pub token_from-requires : goal.token_from-requires
token_from-requires c =
    let mid = c.go_behind.new.source in
    angle_ordered c.args.start c.args.self.now
    (record c.args.self.now { source = c.read_right_angle-kind.new.source }) mid c.read_right_angle-kind.result
    (behind_mark greater_than_sign c.args.start c.args.self.now mid c.requires.boundary
    c.requires.here c.go_behind.ensures.past) c.read_right_angle-kind.ensures

pub returns : goal.returns
returns c =
    let mid = c.go_behind.new.source in
    angle_goal c.args.start c.args.self.now
    (record c.args.self.now { source = c.read_right_angle-kind.new.source }) mid c.read_right_angle-kind.result
    c.token_from.result (behind_mark greater_than_sign c.args.start c.args.self.now mid c.requires.boundary
    c.requires.here c.go_behind.ensures.past) c.read_right_angle-kind.ensures refl c.token_from.ensures
