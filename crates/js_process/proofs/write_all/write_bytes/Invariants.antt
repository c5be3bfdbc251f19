use Rattle.std.proofs.Common.{◌≡◌, ◌-◌, ◌≤◌, length, take}
use Rattle.std.specs.Io.KnownBytes.{Appends}
use Rattle.js_process.specs.Outside.{StaysOpen}
use Rattle.js_process.proofs.write_all.write_bytes.Given as goal

-- The text up to here was written, and no write has failed.
abbrev pub invariant-loop-at : goal.invariant-loop-at
invariant-loop-at g l =
    Appends (g.O.ByteOut.state l.initial.output).written (g.O.ByteOut.state l.output).written (take l.at l.text)
    × (l.at ≤ length l.text) × ((g.O.ByteOut.state l.output).faults ≡ (g.O.ByteOut.state l.initial.output).faults)
    × StaysOpen (g.O.ByteOut.state l.initial.output).course (g.O.ByteOut.state l.output).course

abbrev pub decreases-loop-at : goal.decreases-loop-at
decreases-loop-at g l = length l.text - l.at
