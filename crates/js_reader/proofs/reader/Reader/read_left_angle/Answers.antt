use Rattle.std.proofs.Common.{refl}
use Rattle.js_text.specs.Ascii.{less_than_sign}
use Rattle.js_reader.proofs.GoalSteps.{behind_mark, left_angle_goal}
use Rattle.js_reader.proofs.reader.Reader.read_left_angle.Goals as goal

pub returns : goal.returns
returns c =
    left_angle_goal c.args.start c.args.self.now (record c.args.self.now { source = c.go_behind.new.source })
    c.token_from.result (behind_mark less_than_sign c.args.start c.args.self.now c.go_behind.new.source
    c.requires.boundary c.requires.here c.go_behind.ensures.past) refl c.token_from.ensures
