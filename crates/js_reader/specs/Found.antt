-- What readings have found, as the lexer keeps it.
use Rattle.std.specs.Prelude.{◌≡◌, ◌≤◌, List, ◌++◌, length, take}
use Rattle.js_text.specs.declared.diagnostic.Diagnostic.{Diagnostic}
use Rattle.js_grammar.specs.GapItems.{Item}
use Rattle.js_grammar.specs.Outcome.{Findings, FindingLengths}
use Rattle.js_source.specs.Source.{At}
use Rattle.js_trivia.specs.Trivia.{AreRangesUpTo, calls, cut_to, held, lengths_of}
use Rattle.js_reader.specs.declared.findings_builder.FindingsBuilder.{FindingsBuilder}
use Rattle.js_reader.specs.declared.findings_builder.FindingsLengths.{FindingsLengths}
use Rattle.js_reader.specs.declared.reading_start.ReadingStart.{ReadingStart}

-- what was found
abbrev pub findings_in : FindingsBuilder → Findings
findings_in found = record {
  diagnostics = found.errors;
  deferred = found.deferred;
  comments = found.trivia.attachment.attached;
  irregular = found.trivia.irregular_whitespaces;
  warnings = found.warnings;
}

-- how much that was
abbrev pub lengths_in : FindingsLengths → FindingLengths
lengths_in lengths = record {
  diagnostics = lengths.errors;
  deferred = lengths.deferred;
  comments = lengths.trivia.comments;
  irregular = lengths.trivia.irregular;
  warnings = lengths.warnings;
}

-- how much a builder has found
abbrev pub found_lengths : FindingsBuilder → FindingsLengths
found_lengths found = record {
  errors = length found.errors;
  deferred = length found.deferred;
  trivia = lengths_of found.trivia;
  warnings = length found.warnings;
}

-- what it has found up to these lengths
abbrev pub found_up_to : FindingsLengths → FindingsBuilder → FindingsBuilder
found_up_to to found = record {
  errors = take to.errors found.errors;
  deferred = take to.deferred found.deferred;
  trivia = cut_to to.trivia found.trivia;
  warnings = take to.warnings found.warnings;
}

-- The builder of trivia has at least as much, and its ranges are of comments that stay.
pub record HasFound (to : FindingsLengths) (found : FindingsBuilder) : Type 0 where
  pub comments : to.trivia.comments ≤ length (held found.trivia.attachment)
  pub irregular : to.trivia.irregular ≤ length found.trivia.irregular_whitespaces
  pub ranges : AreRangesUpTo to.trivia.comments to.trivia.pure_range to.trivia.no_side_effects

-- where a reading begins, and how much was found before it
abbrev pub start_of : At → FindingsBuilder → ReadingStart
start_of source found = record { position = source.place; found = found_lengths found }

-- these diagnostics were reported, and nothing else was found
abbrev pub reported : List Diagnostic → FindingsBuilder → FindingsBuilder
reported more found = record found { errors = found.errors ++ more }

-- these diagnostics were reported, and these for the case that the source is a module, and the builder of trivia was
-- told of these items; nothing else has changed
abbrev pub gap_added : List Diagnostic → List Diagnostic → List Item → FindingsBuilder → FindingsBuilder
gap_added errors deferred items found = record found {
  errors = found.errors ++ errors;
  deferred = found.deferred ++ deferred;
  trivia = calls items found.trivia;
}

-- each list beside those of the builder of trivia has these findings at its end
abbrev pub lists_added : Findings → FindingsBuilder → FindingsBuilder
lists_added more found = record found {
  errors = found.errors ++ more.diagnostics;
  deferred = found.deferred ++ more.deferred;
  warnings = found.warnings ++ more.warnings;
}

-- Some items may have been added.
pub record Extends {A : Type 0} (old new : List A) : Type 0 where
  pub more : List A
  pub is_more : new ≡ old ++ more

-- Something may have been reported or warned of, and the builder of trivia may have been told of some items.
pub record Grows (old new : FindingsBuilder) : Type 0 where
  pub more : Findings
  pub items : List Item
  pub added : new ≡ record (lists_added more old) { trivia = calls items old.trivia }
