use Rattle.std.proofs.Common.{◌≡◌, ◌++◌, drop, None}
use Rattle.std.specs.Prelude.{IfSome}
use Rattle.std.specs.List.{AllByRecursion, filter}
use Rattle.js_lexer.specs.Lexer.{IsOnPlaces}
use Rattle.js_squeeze.specs.SqueezeText.{first_reads, squeezed}
use Rattle.js_squeeze.proofs.squeezed_text.squeeze_text.Given as goal

-- What was written, with the tokens that are left, is the whole text.
abbrev pub invariant-loop-row : goal.invariant-loop-row
invariant-loop-row l =
    (l.text ++ squeezed l.source l.before (filter first_reads (drop l.row-index l.rows)) l.left
    ≡ squeezed l.source None (filter first_reads l.rows) l.tokens)
    × IfSome l.before (IsOnPlaces l.source) × AllByRecursion (IsOnPlaces l.source) l.left
