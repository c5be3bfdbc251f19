use Rattle.std.proofs.Common.{◌≤◌, ◌-◌, ap, arith, length, ◌∙◌}
use Rattle.js_edited_lines.proofs.GapLemmas.{cut_behind}
use Rattle.js_edited_lines.specs.Starts.{all_starts, turned}
use Rattle.js_edited_lines.proofs.starts.Starts.cut.Goals as goal

pub returns-clause-behind : goal.returns-clause-behind
returns-clause-behind c =
    let moved = c.move_before.new.self in
    let le : length moved.before.items ≤ c.args.to =
    omega (arith, c.in_ok-move_before.ensures.ok, c.in_ok-move_behind.ensures.ok, c.requires.ordered.1) in
    ap (turned moved.bytes) c.truncate-2.ensures.items
    ∙ cut_behind moved.bytes c.args.to (c.len.result - c.args.to) moved.before.items moved.behind.items
    (all_starts c.args.self.now) (c.in_ok-move_before.ensures.starts ∙ c.in_ok-move_behind.ensures.starts) le
    c.requires.ordered.2 (ap (λ n. n - c.args.to) c.len.ensures)
