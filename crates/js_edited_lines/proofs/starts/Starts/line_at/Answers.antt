use Rattle.std.proofs.Common.{◌≡◌, ◌+◌, arith, subst}
use Rattle.js_edited_lines.specs.Starts.{all_starts, IsAmong}
use Rattle.js_edited_lines.proofs.starts.Starts.line_at.Goals as goal

pub returns : goal.returns
returns c =
    let one : c.loop-end.end ≡ c.loop-end.line + 1 = omega arith in
    subst (IsAmong (all_starts c.args.self.now) c.args.place c.loop-end.line) one c.loop-end.invariant
