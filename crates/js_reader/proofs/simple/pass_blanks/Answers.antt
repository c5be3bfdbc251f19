use Rattle.std.proofs.Common.{ap, arith, length}
use Rattle.js_reader.proofs.SimpleReadings.{blank_is_ascii, blank_passed, blanks_passed}
use Rattle.js_reader.proofs.simple.pass_blanks.Goals as goal

pub next_ascii-requires-clause-ascii : goal.next_ascii-requires-clause-ascii
next_ascii-requires-clause-ascii c = blank_is_ascii c.args.blanks.now c.args.b c.requires.blanks c.requires.blank

pub returns : goal.returns
returns c =
    let mid = c.next_ascii.new.self in
    let reads = c.next_ascii.ensures.reads in
    let blanks = c.skip_blanks.ensures in
    λ has. record {
      fewer = omega (arith, blanks.fewer, ap length reads.here);
      passes = λ start had so_far.
          blanks_passed c.args.blanks.now c.requires.blanks start mid c.skip_blanks.new.source had has
          (blank_passed c.args.blanks.now c.requires.blanks start c.args.source.now mid had has c.args.b so_far
          c.requires.blank reads.here reads.text c.next_ascii.ensures.onward) blanks.text blanks.run;
    }
