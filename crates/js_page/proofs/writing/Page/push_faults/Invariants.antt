use Rattle.std.proofs.Common.{◌≡◌, ◌++◌, ◌<◌, ◌^◌, length, string_bytes, take}
use Rattle.js_page.specs.Parts.{behind_faults, faults_pieces}
use Rattle.js_page.specs.Pieces.{bytes_of}
use Rattle.js_page.specs.Written.{here}
use Rattle.js_page.proofs.writing.Page.push_faults.Given as goal

-- The faults so far were written.
abbrev pub invariant-loop-fault : goal.invariant-loop-fault
invariant-loop-fault l =
    (string_bytes l.self.text
    ≡ string_bytes l.initial.self.text
    ++ bytes_of (faults_pieces l.to (take l.fault-index l.faults) (here l.initial.self)))
    × (here l.self ≡ behind_faults l.to (take l.fault-index l.faults) (here l.initial.self))
    × (length l.self.left.now < 2 ^ 32)
