use Rattle.std.proofs.Common.{length, ap, arith, length-append}
use Rattle.js_grammar.proofs.GapLemmas.{piece_takes, piece_text}
use Rattle.js_grammar.proofs.laws.one_piece_starts_at_a_place.Goals as goal

pub returns-clause-some : goal.returns-clause-some
returns-clause-some c =
    λ t line_has_ended text x here.
    omega (
      arith,
      piece_takes t line_has_ended text x here,
      ap length (piece_text t line_has_ended text x here),
      length-append x.text x.rest,
    )

pub returns-clause-characters : goal.returns-clause-characters
returns-clause-characters c = piece_text
