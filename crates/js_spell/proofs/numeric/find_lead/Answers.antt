use Rattle.std.proofs.Common.{get_or}
use Rattle.js_source.specs.Source.{rest, HasFirstTwoBytes}
use Rattle.js_spell.proofs.LeadSteps.{short_leads, first_leads, second_leads}
use Rattle.js_spell.proofs.numeric.find_lead.Goals as goal

pub returns-in-None : goal.returns-in-None
returns-in-None c = short_leads (rest c.args.source.now) c.requires c.in-None.ensures.none

pub returns-then-pair-ne48 : goal.returns-then-pair-ne48
returns-then-pair-ne48 c =
    first_leads (get_or c.in-Some.pair 0 0) (get_or c.in-Some.pair 1 0)
    (rest c.args.source.now) c.requires c.if-pair-ne48.true c.in-Some.ensures.some

pub returns : goal.returns
returns c =
    let two : HasFirstTwoBytes 48 (get_or c.in-Some.pair 1 0) (rest c.args.source.now) =
    rw c.if-pair-ne48.false at c.in-Some.ensures.some in
    second_leads c.behind_zero.result (get_or c.in-Some.pair 1 0)
    (rest c.args.source.now) c.requires two c.behind_zero.ensures
