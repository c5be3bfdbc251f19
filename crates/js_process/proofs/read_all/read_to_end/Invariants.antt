use Rattle.std.proofs.Common.{◌≡◌, ◌+◌, ◌-◌, ◌≤◌, length}
use Rattle.std.specs.Io.KnownBytes.{Consumes}
use Rattle.js_process.specs.Outside.{StaysOpen}
use Rattle.js_process.specs.Reads.{AskForRoom}
use Rattle.js_process.proofs.read_all.read_to_end.Given as goal

-- What was read so far was taken from the input, by reads that asked for as much as they were to, and no read has
-- failed or found the end.
abbrev pub invariant-loop-buf : goal.invariant-loop-buf
invariant-loop-buf g l =
    Consumes (g.I.ByteIn.state l.initial.input).left (g.I.ByteIn.state l.input).left l.source
    × (length l.source ≤ l.most + 1) × ((g.I.ByteIn.state l.input).faults ≡ (g.I.ByteIn.state l.initial.input).faults)
    × StaysOpen (g.I.ByteIn.state l.initial.input).course (g.I.ByteIn.state l.input).course
    × AskForRoom g.I.ByteIn.read_gives l.most l.initial.input (length l.source) l.input

abbrev pub decreases-loop-buf : goal.decreases-loop-buf
decreases-loop-buf g l = l.most + 1 - length l.source
