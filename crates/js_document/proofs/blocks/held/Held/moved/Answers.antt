use Rattle.std.proofs.Common.{◌≤◌, ◌∙◌, ap, subst, sym}
use Rattle.js_session.specs.Shifted.{ShiftFits, shifted_row}
use Rattle.js_document.specs.Gap.{shifted_entry}
use Rattle.js_document.proofs.BlockLemmas.{moves_fit, same_entry}
use Rattle.js_document.proofs.blocks.held.Held.moved.Goals as goal

pub move_row-requires-clause-fits : goal.move_row-requires-clause-fits
move_row-requires-clause-fits g c =
    subst (ShiftFits c.args.shift.now.from c.args.shift.now.to) (sym c.in_ok-row.ensures)
    (moves_fit c.args.shift.now.from c.args.shift.now.to c.args.self.now c.requires)

pub move_row-requires-clause-ordered : goal.move_row-requires-clause-ordered
move_row-requires-clause-ordered g c =
    subst (λ row. row.token.start ≤ row.token.end) (sym c.in_ok-row.ensures) c.requires.ordered

pub returns : goal.returns
returns g c =
    let shift = c.args.shift.now in
    same_entry (shifted_entry shift.from shift.to c.args.self.now) c.move_row.new.row c.self.inside.entry.now.state
    (c.move_row.ensures ∙ ap (shifted_row shift.from shift.to) c.in_ok-row.ensures)
    (ap (λ e. e.state) c.self.view_is)
