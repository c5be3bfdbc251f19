use Rattle.std.proofs.Common.{◌≡◌, ◌+◌, length, ap, arith, ◌∙◌, length-append}
use Rattle.js_parse_tool.proofs.Drawing.{all_drawn, line_drawn, one_deeper, walked}
use Rattle.js_parse_tool.proofs.draw.backwards.Goals as goal

pub nodes-preserved : goal.nodes-preserved
nodes-preserved c =
    let one : length c.push.new.self.items ≡ length c.nodes.lines.items + 1 =
    ap length c.in_ok-push.ensures.items ∙ length-append c.nodes.lines.items _ in
    let left : length c.in-Some.before.now + 1 ≡ length c.nodes.rest.now = c.in-Some.ensures.cases.1 in
    record {
      lines =
          line_drawn _ c.nodes.lines.items c.push.new.self.items c.nodes.rest.now c.in-Some.before.now
          c.in-Some.node.now c.nodes.depths.items c.take_first-depth.new.depths.items
          c.put_first-in-Some.new.depths.items c.take_first-depth.result c.nodes.invariant.lines
          c.in-Some.ensures.cases.0 c.take_first-depth.ensures.first c.take_first-depth.ensures.rest
          c.in_ok-put_first-2.ensures c.in_ok-push.ensures.items;
      deepest =
          one_deeper (length c.nodes.lines.items) _ c.in-Some.node.now.children c.take_first-depth.result
          c.nodes.depths.items c.take_first-depth.new.depths.items c.put_first-in-Some.new.depths.items
          c.nodes.invariant.deepest one c.take_first-depth.ensures.first c.take_first-depth.ensures.rest
          c.in_ok-put_first-2.ensures;
      left = omega (arith, c.nodes.invariant.left);
    }

pub returns : goal.returns
returns c =
    λ drawn f.
    walked c.args.count c.args.nodes.now c.nodes.lines.items drawn
    (all_drawn _ c.nodes.lines.items c.nodes.rest.now c.nodes.depths.items c.nodes.invariant.lines
    c.in_default.ensures.cases)
    f
