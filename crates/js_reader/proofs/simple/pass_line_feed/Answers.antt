use Rattle.std.proofs.Common.{ap, arith, length}
use Rattle.js_reader.proofs.SimpleReadings.{blanks_passed, line_feed_passed}
use Rattle.js_reader.proofs.simple.pass_line_feed.Goals as goal

pub returns : goal.returns
returns c =
    let mid = c.next_ascii.new.self in
    let reads = c.next_ascii.ensures.reads in
    let blanks = c.skip_blanks.ensures in
    record {
      fewer = omega (arith, blanks.fewer, ap length reads.here);
      passes = λ start had so_far.
          blanks_passed c.args.blanks.now c.requires.blanks start mid c.skip_blanks.new.source had _
          (line_feed_passed start c.args.source.now mid had _ so_far reads.here reads.text) blanks.text blanks.run;
    }
