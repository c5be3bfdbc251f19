use Rattle.std.proofs.Common.{◌≡◌, ◌+◌, ◌-◌, ◌∙◌, ap, arith, map, subst, sym}
use Rattle.js_document.specs.Blocks.{MovesBlock, moved_block}
use Rattle.js_document.specs.Gap.{shifted_entry}
use Rattle.js_document.proofs.BlockLemmas.{each_again, first_high, first_low, held_again}
use Rattle.js_document.proofs.blocks.block.Block.move_by.Goals as goal

pub overflow_add-low : goal.overflow_add-low
overflow_add-low g c =
    let shift = c.args.shift.now in
    let held = c.self.inside.shift in
    let may = subst (MovesBlock shift.from shift.to) (sym c.self.view_is) c.requires in
    let fits = first_low held.from held.to shift.from shift.to c.self.inside.entries.items may.some c.self.invariant.moves
    may.moves in
    let less = c.saturating_sub.ensures in
    omega (arith, fits, less)

pub overflow_add-high : goal.overflow_add-high
overflow_add-high g c =
    let shift = c.args.shift.now in
    let held = c.self.inside.shift in
    let may = subst (MovesBlock shift.from shift.to) (sym c.self.view_is) c.requires in
    let fits = first_high held.from held.to shift.from shift.to c.self.inside.entries.items may.some c.self.invariant.moves
    may.moves in
    let less = c.saturating_sub-2.ensures in
    omega (arith, fits, less)

pub invariant_of-self : goal.invariant_of-self
invariant_of-self g c =
    let shift = c.args.shift.now in
    let held = c.self.inside.shift in
    let may = subst (MovesBlock shift.from shift.to) (sym c.self.view_is) c.requires in
    held_again held.from held.to shift.from shift.to c.self.inside.entries.items c.self.inside.tokens c.self.inside.found
    (held.from + c.saturating_sub.result) (c.saturating_sub-2.result + shift.to)
    (let less = c.saturating_sub.ensures in omega (arith, less)) (let less = c.saturating_sub-2.ensures in omega (arith, less))
    c.self.invariant may.moves

pub returns : goal.returns
returns g c =
    let shift = c.args.shift.now in
    let held = c.self.inside.shift in
    let es = c.self.inside.entries.items in
    let low : held.from + c.saturating_sub.result ≡ held.from + (shift.from - held.to) =
    (let less = c.saturating_sub.ensures in omega (arith, less)) in
    let high : c.saturating_sub-2.result + shift.to ≡ held.to - shift.from + shift.to =
    (let less = c.saturating_sub-2.ensures in omega (arith, less)) in
    let same = ap (λ n. map (shifted_entry n (c.saturating_sub-2.result + shift.to)) es) low
    ∙ ap (λ n. map (shifted_entry (held.from + (shift.from - held.to)) n) es) high
    ∙ each_again held.from held.to shift.from shift.to es c.self.invariant.moves in
    (λ j. record {
      entries = same j;
      rows_before = c.self.inside.rows_before;
      tokens_before = c.self.inside.tokens_before;
    }) ∙ ap (moved_block shift.from shift.to) c.self.view_is
