-- The faults of a source, as a page has them.
use Rattle.std.specs.Prelude.{ℕ, List, [], ◌++◌, codes, map, Option, Some, None}
use Rattle.std.specs.List.Sorted.{IsNonDecreasingBy, IsPermutation, IsStableByKey}
use Rattle.std.specs.Ordering.{nat_cmp}
use Rattle.js_grammar.specs.Outcome.{Findings}
use Rattle.js_text.specs.Diagnostic.{diagnostic_span}
use Rattle.js_text.specs.declared.diagnostic.Diagnostic.{Diagnostic}
use Rattle.js_text.specs.declared.span.Span.{Span}
use Rattle.js_page.specs.declared.writing.Fault.{Fault}
use Rattle.js_totsenak.specs.Messages.{message_of, warning_message}

-- what a span is of; what is about the whole source stands at its start
abbrev pub stretch_of : Option Span → Span
stretch_of None = record { start = 0; end = 0 }
stretch_of (Some span) = span

abbrev pub fault_of : Span → List ℕ → Fault
fault_of span title = record { start = span.start; end = span.end; title = title }

-- what is told of a diagnostic, behind a label
unfoldable pub fault_title : List ℕ → Diagnostic → List ℕ
fault_title label d = label ++ message_of d

abbrev pub diagnostic_fault : Diagnostic → Fault
diagnostic_fault d = fault_of (stretch_of (diagnostic_span d)) (fault_title [] d)

abbrev pub deferred_fault : Diagnostic → Fault
deferred_fault d = fault_of (stretch_of (diagnostic_span d)) (fault_title (codes "warning: ") d)

abbrev pub warning_fault : Span → Fault
warning_fault span = fault_of span warning_message

-- The faults of a source: its diagnostics, those that count in a module alone, and its warnings.
abbrev pub faults_of : Findings → List Fault
faults_of found =
    map diagnostic_fault found.diagnostics ++ map deferred_fault found.deferred ++ map warning_fault found.warnings

abbrev pub fault_start : Fault → ℕ
fault_start fault = fault.start

-- The faults are put in order of place: by their starts, and those that start at the same place in the order in which
-- they stood.
pub record AreInOrder (faults placed : List Fault) : Type 0 where
  -- all faults, each once
  pub permutation : IsPermutation faults placed
  pub ordered : IsNonDecreasingBy fault_start placed
  pub stable : IsStableByKey fault_start nat_cmp faults placed
