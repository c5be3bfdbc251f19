use Rattle.std.proofs.Common.{◌∙◌, ap}
use Rattle.std.proofs.lemmas.Result.{on_ok_weaker}
use Rattle.js_session.specs.Shifted.{shifted_row, shifted_token}
use Rattle.js_document.proofs.EntryLoops.{same_live}
use Rattle.js_document.proofs.change.add_row.Goals as goal

pub returns : goal.returns
returns g c =
    let shift = c.args.shift.now in
    let row = c.row.result.now in
    on_ok_weaker c.add_token.result
    (λ added.
    added
    ∙ same_live (record row { token = c.moved-token.result }) (shifted_row shift.from shift.to c.args.entry.now.row)
    c.args.tokens.now c.row.ensures.command
    (c.moved-token.ensures ∙ ap (shifted_token shift.from shift.to) c.token.ensures) c.row.ensures.taken)
    c.add_token.ensures
