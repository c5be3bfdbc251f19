use Rattle.std.proofs.Common.{◌≡◌, ◌-◌, ◌∙◌, Some, ap, arith, length, sym}
use Rattle.std.specs.Prelude.{slice_get}
use Rattle.js_document.specs.Gap.{MayPad}
use Rattle.js_document.proofs.GapLemmas.{back_long, back_there}
use Rattle.js_document.proofs.ListLemmas.{each_there}
use Rattle.js_document.proofs.gap.GapRows.behind.Goals as goal

pub overflow_sub-len : goal.overflow_sub-len
overflow_sub-len g c =
    let long = back_long c.self.inside.rows c.self.inside.gap c.self.inside.pad c.args.self.now c.self.view_is in
    let less = c.requires in
    let all = c.len.ensures in
    omega (arith, long, less, all)

pub overflow_sub-len-2 : goal.overflow_sub-len-2
overflow_sub-len-2 g c =
    let long = back_long c.self.inside.rows c.self.inside.gap c.self.inside.pad c.args.self.now c.self.view_is in
    let less = c.requires in
    let all = c.len.ensures in
    omega (arith, long, less, all)

pub at-entry-requires : goal.at-entry-requires
at-entry-requires g c =
    let long = back_long c.self.inside.rows c.self.inside.gap c.self.inside.pad c.args.self.now c.self.view_is in
    let less = c.requires in
    let all = c.len.ensures in
    omega (arith, long, less, all)

pub padded-requires : goal.padded-requires
padded-requires g c =
    each_there (MayPad c.self.inside.pad) c.self.inside.rows (c.len.result - 1 - c.args.left) c.at-entry.result
    c.self.invariant.may_pad c.at-entry.ensures

pub returns : goal.returns
returns g c =
    let rows = c.self.inside.rows in
    let long = back_long c.self.inside.rows c.self.inside.gap c.self.inside.pad c.args.self.now c.self.view_is in
    let less = c.requires in
    let there : slice_get rows (length rows - 1 - c.args.left) ≡ Some c.at-entry.result =
    ap (λ n. slice_get rows (n - 1 - c.args.left)) (sym c.len.ensures) ∙ c.at-entry.ensures in
    back_there c.self.inside.rows c.self.inside.gap c.self.inside.pad c.args.self.now c.self.view_is c.args.left c.at-entry.result
    (omega (arith, long, less)) there
    ∙ ap Some (sym c.padded.ensures)
