-- What rows make live, list by list.
use Rattle.std.specs.Prelude.{◌≡◌, ℕ, zero, suc, ◌+◌, ◌≤◌, Bool, true, false, List, [], ◌∷◌, ◌++◌, length, map}
use Rattle.std.specs.Prelude.{take, drop, Option, Some, None, count_by, sum_by}
use Rattle.std.specs.List.{AllByRecursion}
use Rattle.js_kind.specs.TokenParts.{TokenParts}
use Rattle.js_session.specs.Restated.{joined, no_findings}
use Rattle.js_session.specs.declared.command.Command.{Command}
use Rattle.js_session.specs.declared.report.Report.{Report}
use Rattle.js_session.specs.declared.row.Row.{Row}
use Rattle.js_session.specs.Effects.{lasts, row_effect}
use Rattle.js_session.specs.declared.command.Effect.{Effect}
use Rattle.js_session.specs.declared.command.Effect.TheVariants.{Reads, Peeks, ReLexes, Opens, Rewinds, Commits}
use Rattle.js_session.specs.Live.{Live, nothing_live, report_live, row_findings}
use Rattle.js_session.specs.Shifted.{FitsShifted, OfFindings, shifted_comment, shifted_diagnostic, shifted_span}
use Rattle.js_session.specs.Shifted.{shifted_token}
use Rattle.js_relex.specs.Documents.{live_behind}
use Rattle.js_relex.specs.declared.live.FoundList.{FoundList}
use Rattle.js_relex.specs.declared.live.FoundList.TheVariants.{Diagnostics, Deferred, Comments, Irregular, Warnings}
use Rattle.js_relex.specs.declared.live.LiveLengths.{LiveLengths}

-- the effects that read a token behind the last one
abbrev pub reads_on : Effect → Bool
reads_on (Reads goal) = true
reads_on (Peeks goal) = false
reads_on (ReLexes goal) = false
reads_on Opens = false
reads_on Rewinds = false
reads_on Commits = false

-- a row of the command, or of the first step, reads a token behind the last one
abbrev pub is_reading : Option Command → Bool
is_reading command = reads_on (row_effect command)

-- how many of the commands read a token behind the last one
abbrev pub count_readings : List Command → ℕ
count_readings commands = count_by (λ (c : Command). is_reading (Some c)) commands

-- how many of the rows do
abbrev pub row_readings : List Row → ℕ
row_readings rows = count_by (λ (row : Row). is_reading row.command) rows

-- how many of so many first rows do, where those behind the first one answer the commands
abbrev pub first_readings : List Command → ℕ → ℕ
first_readings commands zero = 0
first_readings commands (suc rows) = count_readings (take rows commands) + 1

-- The first of the rows, if there is one, reads a token behind the last one.
abbrev pub StartsAnew : List Row → Type 0
StartsAnew [] = Unit {0}
StartsAnew (row ∷ rows) = is_reading row.command ≡ true

-- A row that stays, and which has found nothing where it was not taken.
pub record Lasts (row : Row) : Type 0 where
  pub lasting : lasts (row_effect row.command) ≡ true
  pub untaken : row.taken ≡ false → row_findings row ≡ no_findings

-- The rows of a report stay, answer the commands, and made live what is live in it.
pub record HasLasted (commands : List Command) (report : Report) : Type 0 where
  pub lasted : AllByRecursion Lasts report.rows
  pub commands_are : map (λ (row : Row). row.command) report.rows ≡ None ∷ map Some commands
  pub live : report_live report ≡ live_behind nothing_live report.rows

-- how many items the row has in the list
abbrev pub found_length : FoundList → Row → ℕ
found_length Diagnostics row = length row.diagnostics
found_length Deferred row = length row.deferred
found_length Comments row = length row.comments
found_length Irregular row = length row.irregular
found_length Warnings row = length row.warnings

-- how many the rows have
abbrev pub total_found : FoundList → List Row → ℕ
total_found list rows = sum_by (found_length list) rows

-- the lengths with so many readings more, and with what the rows found
abbrev pub more_lengths : LiveLengths → ℕ → List Row → LiveLengths
more_lengths before readings rows = record {
  tokens = before.tokens + readings;
  diagnostics = before.diagnostics + total_found Diagnostics rows;
  deferred = before.deferred + total_found Deferred rows;
  comments = before.comments + total_found Comments rows;
  irregular = before.irregular + total_found Irregular rows;
  warnings = before.warnings + total_found Warnings rows;
}

-- the lengths of the live lists
abbrev pub live_lengths : Live → LiveLengths
live_lengths live = record {
  tokens = length live.tokens;
  diagnostics = length live.findings.diagnostics;
  deferred = length live.findings.deferred;
  comments = length live.findings.comments;
  irregular = length live.findings.irregular;
  warnings = length live.findings.warnings;
}

-- No length is more than the other of its list.
pub record AreWithin (lengths all : LiveLengths) : Type 0 where
  pub tokens : lengths.tokens ≤ all.tokens
  pub diagnostics : lengths.diagnostics ≤ all.diagnostics
  pub deferred : lengths.deferred ≤ all.deferred
  pub comments : lengths.comments ≤ all.comments
  pub irregular : lengths.irregular ≤ all.irregular
  pub warnings : lengths.warnings ≤ all.warnings

-- what is live, and then what is live next
abbrev pub joined_live : Live → Live → Live
joined_live a b = record { tokens = a.tokens ++ b.tokens; findings = joined a.findings b.findings }

-- what is live up to these lengths of its lists
abbrev pub live_up_to : LiveLengths → Live → Live
live_up_to lengths live = record {
  tokens = take lengths.tokens live.tokens;
  findings = record {
    diagnostics = take lengths.diagnostics live.findings.diagnostics;
    deferred = take lengths.deferred live.findings.deferred;
    comments = take lengths.comments live.findings.comments;
    irregular = take lengths.irregular live.findings.irregular;
    warnings = take lengths.warnings live.findings.warnings;
  };
}

-- what is live from these lengths on
abbrev pub live_from : LiveLengths → Live → Live
live_from lengths live = record {
  tokens = drop lengths.tokens live.tokens;
  findings = record {
    diagnostics = drop lengths.diagnostics live.findings.diagnostics;
    deferred = drop lengths.deferred live.findings.deferred;
    comments = drop lengths.comments live.findings.comments;
    irregular = drop lengths.irregular live.findings.irregular;
    warnings = drop lengths.warnings live.findings.warnings;
  };
}

-- the lengths behind what is live next
abbrev pub lengths_past : LiveLengths → Live → LiveLengths
lengths_past before live = record {
  tokens = before.tokens + length live.tokens;
  diagnostics = before.diagnostics + length live.findings.diagnostics;
  deferred = before.deferred + length live.findings.deferred;
  comments = before.comments + length live.findings.comments;
  irregular = before.irregular + length live.findings.irregular;
  warnings = before.warnings + length live.findings.warnings;
}

-- what is live where this stands in the place of as much from these lengths on
abbrev pub overwritten_live : LiveLengths → Live → Live → Live
overwritten_live before middle live =
    joined_live (joined_live (live_up_to before live) middle) (live_from (lengths_past before middle) live)

-- In the place of as much from these lengths on, this makes that live which is live behind the rows.
pub record IsPatch (old : Live) (before : LiveLengths) (middle : Live) (rows : List Row) : Type 0 where
  pub inside : AreWithin (lengths_past before middle) (live_lengths old)
  pub live : overwritten_live before middle old ≡ live_behind nothing_live rows

-- what is live, with each place shifted
abbrev pub shifted_live : ℕ → ℕ → Live → Live
shifted_live from to live = record {
  tokens = map (shifted_token from to) live.tokens;
  findings = record {
    diagnostics = map (shifted_diagnostic from to) live.findings.diagnostics;
    deferred = map (shifted_diagnostic from to) live.findings.deferred;
    comments = map (shifted_comment from to) live.findings.comments;
    irregular = map (shifted_span from to) live.findings.irregular;
    warnings = map (shifted_span from to) live.findings.warnings;
  };
}

-- The token may be moved: it starts at its end or before it, and both are `u32` once they are shifted.
pub record TokenMayMove (from to : ℕ) (token : TokenParts) : Type 0 where
  pub ordered : token.start ≤ token.end
  pub start : FitsShifted from to token.start
  pub end : FitsShifted from to token.end

-- What is live may be moved.
pub record LiveMayMove (from to : ℕ) (live : Live) : Type 0 where
  pub tokens : AllByRecursion (TokenMayMove from to) live.tokens
  pub found : OfFindings (FitsShifted from to) live.findings
