use Rattle.std.proofs.Common.{◌≡◌, ◌++◌, length, string_bytes}
use Rattle.std.specs.Str.{chars}
use Rattle.js_source.specs.Source.{rest}
use Rattle.js_page.specs.Lines.{lines_behind, pieces_in}
use Rattle.js_page.specs.Pieces.{bytes_of}
use Rattle.js_page.proofs.lines.push_runs.Given as goal

-- What is left to be appended completes the text and the lines.
abbrev pub invariant-loop-c : goal.invariant-loop-c
invariant-loop-c l =
    (string_bytes l.text ++ bytes_of (pieces_in l.reached (rest l.source))
    ≡ string_bytes l.fn.text ++ bytes_of (pieces_in l.fn.lines (chars l.fn.stretch)))
    × (lines_behind l.reached (rest l.source) ≡ lines_behind l.fn.lines (chars l.fn.stretch))

abbrev pub decreases-loop-c : goal.decreases-loop-c
decreases-loop-c l = length (rest l.source)
