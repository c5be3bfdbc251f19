use Rattle.std.proofs.Common.{◌≡◌, ◌++◌, map, take}
use Rattle.js_html.specs.Faults.{warning_fault}
use Rattle.js_html.proofs.faults.add_warnings.Given as goal

-- The faults so far were added.
abbrev pub invariant-loop-span : goal.invariant-loop-span
invariant-loop-span l = l.faults.items ≡ l.initial.faults.items ++ map warning_fault (take l.span-index l.warnings)
