use Rattle.std.proofs.Common.{◌∙◌, ap}
use Rattle.js_document.proofs.blocks.held.Held.token.Goals as goal

pub move_token-requires-clause-start : goal.move_token-requires-clause-start
move_token-requires-clause-start g c = c.self.invariant.places.start.fits

pub move_token-requires-clause-end : goal.move_token-requires-clause-end
move_token-requires-clause-end g c = c.self.invariant.places.end.fits

pub move_token-requires-clause-ordered : goal.move_token-requires-clause-ordered
move_token-requires-clause-ordered g c = c.self.invariant.ordered

pub returns : goal.returns
returns g c = c.move_token.ensures ∙ ap (λ e. e.row.token) c.self.view_is
