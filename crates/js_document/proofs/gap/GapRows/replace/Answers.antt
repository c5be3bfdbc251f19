use Rattle.std.proofs.Common.{◌≡◌, ◌-◌, ◌++◌, ◌≤◌, ◌∙◌, ap, arith, drop, length, map, subst, sym, take}
use Rattle.std.specs.List.{AllByRecursion}
use Rattle.js_relex.proofs.Outcomes.{on_err}
use Rattle.std.specs.Prelude.{reverse}
use Rattle.js_document.specs.Blocks.{MovesEntry}
use Rattle.js_document.specs.Gap.{MayPad, around, shifted_entry}
use Rattle.js_document.proofs.BlockLemmas.{pad_moves}
use Rattle.js_document.proofs.GapLemmas.{around_left, left_few, left_moves, left_small, pad_is, whole, whole_at}
use Rattle.js_document.proofs.KeptLemmas.{all_first, all_rest}
use Rattle.js_document.proofs.gap.GapRows.replace.Given.{Over}
use Rattle.js_document.proofs.gap.GapRows.replace.Goals as goal
use Rattle.js_document.proofs.gap.GapRows.replace.Goals.{In_ok-replace}

pub overflow_sub-end : goal.overflow_sub-end
overflow_sub-end g c =
    let less = left_small c.self.inside.rows c.self.inside.gap c.self.inside.pad c.args.self.now c.self.view_is c.args.left
    c.requires.few in
    let all = c.len.ensures in
    omega (arith, less, all)

pub replace-requires-clause-ordered : goal.replace-requires-clause-ordered
replace-requires-clause-ordered g c =
    let less = left_small c.self.inside.rows c.self.inside.gap c.self.inside.pad c.args.self.now c.self.view_is c.args.left
    c.requires.few in
    let few = c.self.invariant.few in
    let all = c.len.ensures in
    omega (arith, less, few, all)

pub replace-requires-clause-fits : goal.replace-requires-clause-fits
replace-requires-clause-fits g c = pad_moves c.self.inside.pad c.self.inside.rows c.self.invariant.may_pad

pub replace-requires-clause-rows : goal.replace-requires-clause-rows
replace-requires-clause-rows g c =
    let old = c.args.self.now in
    let behind = map (shifted_entry c.args.pad 0) (reverse (take c.args.left old.back)) in
    pad_moves c.args.pad c.args.rows.items
    (all_rest (MayPad c.args.pad) old.front c.args.rows.items
    (all_first (MayPad c.args.pad) (old.front ++ c.args.rows.items) behind c.requires.may_pad))

pub replace-requires-clause-moves : goal.replace-requires-clause-moves
replace-requires-clause-moves g c =
    let rows = c.self.inside.rows in
    let pad = c.self.inside.pad in
    let end : length rows - c.args.left ≡ c.len.result - c.args.left = (let all = c.len.ensures in omega (arith, all)) in
    let from : c.args.pad - pad ≡ c.saturating_sub.result = (let is = c.saturating_sub.ensures in omega (arith, is)) in
    let to : pad - c.args.pad ≡ c.saturating_sub-2.result = (let is = c.saturating_sub-2.ensures in omega (arith, is)) in
    subst (λ n. AllByRecursion (MovesEntry n c.saturating_sub-2.result) (drop (c.len.result - c.args.left) rows)) from
    (subst (λ n. AllByRecursion (MovesEntry (c.args.pad - pad) n) (drop (c.len.result - c.args.left) rows)) to
    (subst (λ n. AllByRecursion (MovesEntry (c.args.pad - pad) (pad - c.args.pad)) (drop n rows)) end
    (left_moves c.self.inside.rows c.self.inside.gap c.self.inside.pad c.args.self.now c.self.view_is c.args.left
    (left_small c.self.inside.rows c.self.inside.gap c.self.inside.pad c.args.self.now c.self.view_is c.args.left c.requires.few)
    c.self.invariant.few c.args.pad c.self.invariant.may_pad c.requires.padded)))

-- what the rows are now
now : (g : Over) (c : In_ok-replace g)
    → c.replace.new.self ≡ around (c.args.self.now.front ++ c.args.rows.items) c.args.pad (take c.args.left c.args.self.now.back)
now g c =
    let rows = c.self.inside.rows in
    let gap = c.self.inside.gap in
    let pad = c.self.inside.pad in
    let all = c.len.ensures in
    let is = c.saturating_sub.ensures in
    let other = c.saturating_sub-2.ensures in
    let end : c.len.result - c.args.left ≡ length rows - c.args.left = omega (arith, all) in
    let from : c.saturating_sub.result ≡ c.args.pad - pad = omega (arith, is) in
    let to : c.saturating_sub-2.result ≡ pad - c.args.pad = omega (arith, other) in
    c.in_ok-replace.ensures.ok
    ∙ ap (λ n. take gap rows ++ c.args.rows.items ++ map (shifted_entry n c.saturating_sub-2.result)
    (drop (c.len.result - c.args.left) rows)) from
    ∙ ap (λ n. take gap rows ++ c.args.rows.items ++ map (shifted_entry (c.args.pad - pad) n)
    (drop (c.len.result - c.args.left) rows)) to
    ∙ ap (λ n. take gap rows ++ c.args.rows.items ++ map (shifted_entry (c.args.pad - pad) (pad - c.args.pad)) (drop n rows))
    end
    ∙ sym
    (around_left c.self.inside.rows c.self.inside.gap c.self.inside.pad c.args.self.now c.self.view_is c.args.left
    (left_small c.self.inside.rows c.self.inside.gap c.self.inside.pad c.args.self.now c.self.view_is c.args.left c.requires.few)
    c.self.invariant.few c.args.pad c.self.invariant.may_pad c.args.rows.items)

left_new : (g : Over) (c : In_ok-replace g) → c.args.left ≤ length c.replace.new.self
left_new g c =
    left_few c.self.inside.rows c.self.inside.gap c.self.inside.pad c.args.self.now c.self.view_is c.args.left
    (left_small c.self.inside.rows c.self.inside.gap c.self.inside.pad c.args.self.now c.self.view_is c.args.left c.requires.few)
    c.self.invariant.few c.args.pad c.self.invariant.may_pad c.args.rows.items c.replace.new.self
    (now g c
    ∙ around_left c.self.inside.rows c.self.inside.gap c.self.inside.pad c.args.self.now c.self.view_is c.args.left
    (left_small c.self.inside.rows c.self.inside.gap c.self.inside.pad c.args.self.now c.self.view_is c.args.left c.requires.few)
    c.self.invariant.few c.args.pad c.self.invariant.may_pad c.args.rows.items)

pub overflow_sub-self : goal.overflow_sub-self
overflow_sub-self g c =
    let few = left_new g (goal.at.overflow_sub-self g c).In_ok-replace in
    let all = c.len-2.ensures in
    omega (arith, few, all)

pub invariant_of-self-2 : goal.invariant_of-self-2
invariant_of-self-2 g c = record {
  few = (let all = c.len-2.ensures in omega (arith, all));
  may_pad = subst (AllByRecursion (MayPad c.args.pad)) (sym (now g (goal.at.invariant_of-self-2 g c).In_ok-replace)) c.requires.may_pad;
}

pub returns-clause-ok : goal.returns-clause-ok
returns-clause-ok g c = whole_at c.replace.new.self (c.len-2.result - c.args.left) c.args.pad
    ∙ now g (goal.at.returns-clause-ok g c).In_ok-replace

pub invariant_of-self : goal.invariant_of-self
invariant_of-self g c = record {
  few = subst (λ rows. c.self.inside.gap ≤ length rows) (sym c.in_err-replace.ensures.err) c.self.invariant.few;
  may_pad = subst (AllByRecursion (MayPad c.self.inside.pad)) (sym c.in_err-replace.ensures.err) c.self.invariant.may_pad;
}

pub returns-in_err-replace-clause-err : goal.returns-in_err-replace-clause-err
returns-in_err-replace-clause-err g c =
    on_err c.from_residual.result
    (whole_at c.replace.new.self c.self.inside.gap c.self.inside.pad ∙ c.in_err-replace.ensures.err
    ∙ sym (whole c.self.inside.rows c.self.inside.gap c.self.inside.pad c.args.self.now c.self.view_is))

pub returns-in_err-replace-clause-err_pad : goal.returns-in_err-replace-clause-err_pad
returns-in_err-replace-clause-err_pad g c =
    on_err c.from_residual.result (sym (pad_is c.self.inside.rows c.self.inside.gap c.self.inside.pad c.args.self.now c.self.view_is))
