use Rattle.std.proofs.Common.{◌≡◌, ◌+◌, drop}
use Rattle.js_page.specs.Parts.{count_before}
use Rattle.js_page.proofs.writing.faults_before.Given as goal

-- All so far start before the place.
abbrev pub invariant-loop-fault : goal.invariant-loop-fault
invariant-loop-fault l =
    (l.count ≡ l.fault-index)
    × (count_before l.to l.faults ≡ l.fault-index + count_before l.to (drop l.fault-index l.faults))
