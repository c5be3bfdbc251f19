use Rattle.std.proofs.Common.{◌≡◌, ◌≤◌, ◌+◌, ◌-◌, ◌∷◌, ◌++◌, [], ap, arith, length, length-append, ◌∙◌}
use Rattle.js_edited_lines.proofs.GapLemmas.{last_within, moved_behind}
use Rattle.js_edited_lines.specs.Starts.{all_starts, turned}
use Rattle.js_edited_lines.proofs.starts.Starts.move_behind.Goals as goal

pub loop-self-preserved : goal.loop-self-preserved
loop-self-preserved c =
    let now = c.loop-self.self in
    let start = c.index-start.result.now in
    let left = c.take_last.new.self.items in
    let k = c.len-in-loop-self.result - 1 in
    let at : k + 1 ≡ length now.before.items =
    omega (arith, c.len-in-loop-self.ensures, c.len.ensures, c.loop-self-test.true, now.before.ok.0) in
    let bound : start ≤ c.args.self.now.bytes =
    last_within now.bytes c.args.self.now.bytes k start now.before.items now.behind.items (all_starts c.args.self.now)
    c.loop-self.invariant.starts c.requires at c.index-start.ensures in
    let le : start ≤ now.bytes = omega (arith, bound, c.loop-self.invariant.bytes) in
    record {
      starts = ap (λ ds. left ++ turned now.bytes ds) c.in_ok-push.ensures.items
          ∙ moved_behind now.bytes start k c.take_last.result now.before.items left now.behind.items
          c.take_last.ensures.items at c.index-start.ensures le
          ∙ c.loop-self.invariant.starts;
      bytes = c.loop-self.invariant.bytes;
      least = omega (
        arith,
        c.loop-self.invariant.least,
        ap length c.take_last.ensures.items,
        length-append left (c.take_last.result ∷ []),
        c.len.ensures,
        c.loop-self-test.true,
        now.before.ok.0,
      );
    }
