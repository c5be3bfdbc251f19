use Rattle.std.proofs.Common.{◌≡◌, ◌-◌, arith, length, subst}
use Rattle.js_document.specs.Gap.{AreInOrder, rows_of}
use Rattle.js_document.specs.Reading.{IsSeam}
use Rattle.js_document.proofs.GapLemmas.{seam_before, seam_behind, whole}
use Rattle.js_document.proofs.gap.GapRows.rows_behind.Goals as goal

pub overflow_sub-back : goal.overflow_sub-back
overflow_sub-back g c = (let few = c.self.invariant.few in let all = c.len.ensures in omega (arith, few, all))

pub starts_up_to-requires : goal.starts_up_to-requires
starts_up_to-requires g c =
    subst (λ es. AreInOrder (rows_of es)) (whole c.self.inside.rows c.self.inside.gap c.self.inside.pad c.args.self.now c.self.view_is) c.requires

pub overflow_sub-result : goal.overflow_sub-result
overflow_sub-result g c =
    let few = c.starts_up_to.ensures.few in
    let less = c.saturating_sub.ensures in
    let all = c.len.ensures in
    omega (arith, few, less, all)

pub returns-in-Some : goal.returns-in-Some
returns-in-Some g c =
    let rows = c.self.inside.rows in
    let less = c.saturating_sub.ensures in
    let all = c.len.ensures in
    let is = c.in-Some.ensures in
    let same : length rows - c.self.inside.gap - (c.starts_up_to.result - c.self.inside.gap)
    ≡ c.len.result - c.self.inside.gap - c.saturating_sub.result = omega (arith, less, all) in
    subst (IsSeam c.args.self.now.back c.args.padded) same
    (seam_behind c.self.inside.rows c.self.inside.gap c.self.inside.pad c.args.self.now c.self.view_is c.args.padded c.in-Some.place
    c.starts_up_to.result c.self.invariant.few (omega (arith, is.0, is.1)) c.starts_up_to.ensures)

pub returns-in-None : goal.returns-in-None
returns-in-None g c =
    let rows = c.self.inside.rows in
    let all = c.len.ensures in
    let none = c.in-None.ensures in
    let same : length rows - c.self.inside.gap ≡ c.len.result - c.self.inside.gap = omega (arith, all) in
    subst (IsSeam c.args.self.now.back c.args.padded) same
    (seam_before c.self.inside.rows c.self.inside.gap c.self.inside.pad c.args.self.now c.self.view_is c.args.padded (omega (arith, none)))
