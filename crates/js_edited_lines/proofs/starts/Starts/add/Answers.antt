use Rattle.std.proofs.Common.{◌<◌, arith, length}
use Rattle.std.specs.Str.{chars}
use Rattle.js_lines.specs.Lines.{starts_behind}
use Rattle.js_edited_lines.proofs.GapLemmas.{added}
use Rattle.js_edited_lines.proofs.starts.Starts.add.Goals as goal

pub loop-line-preserved : goal.loop-line-preserved
loop-line-preserved c =
    let found = starts_behind c.args.part.now.ends 0 (chars c.args.part.now.text) in
    let lt : c.loop-line.line < length found = omega (arith, c.requires.there, c.loop-line-test.true) in
    record {
      before = added c.args.place c.loop-line.line c.begin_of-start.result c.args.self.now.before.items
          c.loop-line.self.before.items c.push_reserved.new.self.items found c.loop-line.invariant.before
          c.push_reserved.ensures.items c.begin_of-start.ensures.value lt;
      room = omega (
        arith,
        c.push_reserved.ensures.len,
        c.push_reserved.ensures.capacity,
        c.loop-line.invariant.room,
      );
      behind = c.loop-line.invariant.behind;
      bytes = c.loop-line.invariant.bytes;
    }
