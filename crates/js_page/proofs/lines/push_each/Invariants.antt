use Rattle.std.proofs.Common.{◌≡◌, ◌++◌, string_bytes}
use Rattle.js_page.specs.Lines.{lines_behind, pieces_in}
use Rattle.js_page.specs.Pieces.{bytes_of}
use Rattle.js_page.proofs.lines.push_each.Given as goal

-- The characters so far were appended, and the lines are those behind them.
abbrev pub invariant-loop-c : goal.invariant-loop-c
invariant-loop-c l =
    (string_bytes l.text ≡ string_bytes l.initial.text ++ bytes_of (pieces_in l.initial.lines l.yielded))
    × (l.lines ≡ lines_behind l.initial.lines l.yielded)
