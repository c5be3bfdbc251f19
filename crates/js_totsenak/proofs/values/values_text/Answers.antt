use Rattle.std.proofs.Common.{[], rules}
use Rattle.js_totsenak.proofs.TakenLemmas.{lines_more, taken_within}
use Rattle.js_totsenak.specs.Values.{value_line}
use Rattle.js_totsenak.proofs.values.values_text.Goals as goal

pub loop-index-preserved : goal.loop-index-preserved
loop-index-preserved c =
    λ taken has.
    let x = taken_within c.args.lists.now taken c.loop-index.index has (search rules) in
    lines_more (value_line c.args.source.now) taken c.loop-index.index x.0 [] _ _ x.1 (c.loop-index.invariant taken has)
    (c.in_ok-push_listed.ensures taken x.0 has x.1)
