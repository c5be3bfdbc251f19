-- What rows found, list by list, and how many items of each list there are.
use Rattle.std.specs.Prelude.{◌≡◌, ℕ, ◌+◌, List, [], ◌∷◌, ◌++◌, drop, length}
use Rattle.std.specs.List.{flat_map}
use Rattle.js_text.specs.declared.comment.Comment.{Comment}
use Rattle.js_grammar.specs.Outcome.{Findings}
use Rattle.js_session.specs.declared.report.Report.{Report}
use Rattle.js_session.specs.declared.row.Row.{Row}
use Rattle.js_document.specs.declared.counts.FoundCounts.{FoundCounts}

-- all that rows have in a list
abbrev pub found_in : {A : Type 0} → (Row → List A) → List Row → List A
found_in {A} items rows = flat_map items rows

-- what they have in it behind so many of the first row's items
abbrev pub found_from : {A : Type 0} → (Row → List A) → List Row → ℕ → List A
found_from {A} items [] given = []
found_from {A} items (row ∷ rows) given = drop given (items row) ++ flat_map items rows

-- what rows found
abbrev pub found_by : List Row → Findings
found_by rows = record {
  diagnostics = found_in (λ (row : Row). row.diagnostics) rows;
  deferred = found_in (λ (row : Row). row.deferred) rows;
  comments = found_in (λ (row : Row). row.comments) rows;
  irregular = found_in (λ (row : Row). row.irregular) rows;
  warnings = found_in (λ (row : Row). row.warnings) rows;
}

-- what a report tells of
abbrev pub findings_of : Report → Findings
findings_of report = record {
  diagnostics = report.diagnostics;
  deferred = report.deferred;
  comments = report.comments;
  irregular = report.irregular;
  warnings = report.warnings;
}

-- how many items of each list there are
abbrev pub counts_in : Findings → FoundCounts
counts_in found = record {
  diagnostics = length found.diagnostics;
  deferred = length found.deferred;
  comments = length found.comments;
  irregular = length found.irregular;
  warnings = length found.warnings;
}

-- with those of a row
abbrev pub counts_with : FoundCounts → Row → FoundCounts
counts_with counts row = record {
  diagnostics = counts.diagnostics + length row.diagnostics;
  deferred = counts.deferred + length row.deferred;
  comments = counts.comments + length row.comments;
  irregular = counts.irregular + length row.irregular;
  warnings = counts.warnings + length row.warnings;
}

-- two counts together
abbrev pub counts_and : FoundCounts → FoundCounts → FoundCounts
counts_and counts more = record {
  diagnostics = counts.diagnostics + more.diagnostics;
  deferred = counts.deferred + more.deferred;
  comments = counts.comments + more.comments;
  irregular = counts.irregular + more.irregular;
  warnings = counts.warnings + more.warnings;
}

-- The comments are written alike, and stand likewise beside tokens and line ends.
pub record IsWrittenAlike (first second : Comment) : Type 0 where
  pub kind : first.kind ≡ second.kind
  pub position : first.position ≡ second.position
  pub preceded : first.preceded ≡ second.preceded
  pub followed : first.followed ≡ second.followed
