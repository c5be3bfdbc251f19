use Rattle.js_reader.proofs.SimpleReadings.{blank_is_ascii, blank_passed}
use Rattle.js_reader.proofs.simple.pass_blank.Goals as goal

pub next_ascii-requires-clause-ascii : goal.next_ascii-requires-clause-ascii
next_ascii-requires-clause-ascii c =
    blank_is_ascii c.args.blanks.now c.in-Some.b c.requires c.if-blanks-b.true

pub returns-in-Some : goal.returns-in-Some
returns-in-Some c = λ start had has so_far.
    blank_passed c.args.blanks.now c.requires start c.args.source.now c.next_ascii.new.self had has c.in-Some.b
    so_far c.if-blanks-b.true c.next_ascii.ensures.reads.here c.next_ascii.ensures.reads.text
    c.next_ascii.ensures.onward
