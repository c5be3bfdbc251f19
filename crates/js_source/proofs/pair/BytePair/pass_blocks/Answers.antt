use Rattle.std.proofs.Common.{◌+◌, arith}
use Rattle.js_source.proofs.Pairs.{none_passed, passed_on, no_pair_in_block, clean_block}
use Rattle.js_source.proofs.pair.BytePair.pass_blocks.Goals as goal

pub loop-at-init : goal.loop-at-init
loop-at-init c = none_passed c.args.self c.args.four c.args.bytes.now c.args.from c.requires

pub returns-then-more-lt-LANES : goal.returns-then-more-lt-LANES
returns-then-more-lt-LANES c =
    let at = c.loop-at.at in
    let more = c.first_mark_or_all-more.result in
    let text = c.args.bytes.now in
    passed_on c.args.self c.args.four text c.args.from at (at + more) c.loop-at.is_clean c.are_unset-is_clean.result
    c.loop-at.invariant (omega arith) (omega (arith, c.loop-at-test.true, c.first_mark_or_all-more.ensures.within))
    (no_pair_in_block c.args.self text at more c.marks.result c.marks.ensures.marked
    c.first_mark_or_all-more.ensures.below c.first_mark_or_all-more.ensures.within)
    (clean_block c.args.four text at more c.marks-in-loop-at.result c.are_unset-is_clean.result
    c.marks-in-loop-at.ensures.marked c.are_unset-is_clean.ensures c.first_mark_or_all-more.ensures.within)

pub loop-at-preserved : goal.loop-at-preserved
loop-at-preserved c =
    let at = c.loop-at.at in
    let more = c.first_mark_or_all-more.result in
    let text = c.args.bytes.now in
    passed_on c.args.self c.args.four text c.args.from at (at + more) c.loop-at.is_clean c.are_unset-is_clean.result
    c.loop-at.invariant (omega arith) (omega (arith, c.loop-at-test.true, c.first_mark_or_all-more.ensures.within))
    (no_pair_in_block c.args.self text at more c.marks.result c.marks.ensures.marked
    c.first_mark_or_all-more.ensures.below c.first_mark_or_all-more.ensures.within)
    (clean_block c.args.four text at more c.marks-in-loop-at.result c.are_unset-is_clean.result
    c.marks-in-loop-at.ensures.marked c.are_unset-is_clean.ensures c.first_mark_or_all-more.ensures.within)
