use Rattle.std.proofs.Common.{◌≡◌, ◌++◌, map, take}
use Rattle.js_html.specs.Faults.{diagnostic_fault}
use Rattle.js_html.proofs.faults.add_diagnostics.Given as goal

-- The faults so far were added.
abbrev pub invariant-loop-diagnostic : goal.invariant-loop-diagnostic
invariant-loop-diagnostic l = l.faults.items ≡ l.initial.faults.items ++ map diagnostic_fault (take l.diagnostic-index l.diagnostics)
