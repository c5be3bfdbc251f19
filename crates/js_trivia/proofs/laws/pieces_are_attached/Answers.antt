use Rattle.js_trivia.proofs.PieceLaw.{calls_for_pieces, held_after_pieces}
use Rattle.js_trivia.proofs.laws.pieces_are_attached.Goals as goal

pub returns : goal.returns
returns c = record { attached = calls_for_pieces; held = held_after_pieces }
