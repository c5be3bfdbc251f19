use Rattle.std.proofs.Common.{◌≡◌, ◌++◌, string_bytes}
use Rattle.js_text.specs.Ascii.{line_feed}
use Rattle.js_totsenak.specs.ShownLines.{shown_lines}
use Rattle.js_totsenak.proofs.ShownLemmas.{last_behind}
use Rattle.js_totsenak.proofs.shown_lines.push_shown_lines.Given as goal

-- The characters so far were appended, and the last of them is known.
abbrev pub invariant-loop-c : goal.invariant-loop-c
invariant-loop-c l =
    (string_bytes l.text ≡ string_bytes l.initial.text ++ shown_lines l.yielded)
    × (l.before ≡ last_behind line_feed l.yielded)
