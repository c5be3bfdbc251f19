use Rattle.std.proofs.Common.{◌≡◌, ◌++◌, take, string_bytes}
use Rattle.js_page.specs.Elements.{late_faults}
use Rattle.js_page.specs.Pieces.{bytes_of}
use Rattle.js_page.proofs.writing.push_late_faults.Given as goal

-- The faults so far were appended.
abbrev pub invariant-loop-fault : goal.invariant-loop-fault
invariant-loop-fault l =
    string_bytes l.text ≡ string_bytes l.initial.text ++ bytes_of (late_faults (take l.fault-index l.faults))
