use Rattle.std.proofs.Common.{string_bytes}
use Rattle.js_edited_lines.specs.Edited.{AreLinesOf}
use Rattle.js_base_tests.proofs.edited_lines.stay_told.Given as goal

abbrev pub invariant-loop-step : goal.invariant-loop-step
invariant-loop-step l = AreLinesOf l.lines (string_bytes l.text)
