use Rattle.std.proofs.Common.{◌≡◌, ◌≤◌, ◌+◌, ◌-◌, ◌++◌, ◌∙◌, length, take, drop, ap, subst, arith}
use Rattle.js_session.specs.declared.report.Report.{Report}
use Rattle.js_session.specs.Live.{report_live}
use Rattle.js_relex.specs.LiveLists.{IsPatch}
use Rattle.js_relex.proofs.Patches.{patch_live}
use Rattle.js_relex.proofs.patch.live_patch.Goals as goal

pub returns-then-fills : goal.returns-then-fills
returns-then-fills c =
    let old = c.args.old.now in
    let rows = c.as_slice-rows.result.now in
    let place = length rows - c.args.behind in
    let rows_are : rows ≡ old.rows = c.as_slice-rows.ensures ∙ ap (λ (r : Report). r.rows) c.report.ensures in
    let count = ap length rows_are in
    let few = c.requires.few in
    let inside : c.args.last + 1 ≤ place = omega (arith, few, count) in
    let patch =
    patch_live old c.requires.lasted.lasted c.requires.lasted.live c.last_start-start.result c.args.last place
    c.next_start-next.result c.lengths_at-before.result c.lengths_further-end.result c.args.read.now
    c.in_ok-middle.middle rows rows_are c.lengths_at-before.ensures c.lengths_further-end.ensures
    c.last_start-start.ensures.anew c.next_start-next.ensures.anew c.last_start-start.ensures.before inside
    c.next_start-next.ensures.behind c.next_start-next.ensures.inside c.requires.read
    (c.fills.ensures.0 c.if-fills.true) c.in_ok-middle.ensures in
    subst (λ n. IsPatch (report_live old) c.lengths_at-before.result (report_live c.in_ok-middle.middle)
    (take (c.args.last + 1) old.rows ++ c.args.read.now ++ drop (n - c.args.behind) old.rows)) count patch
