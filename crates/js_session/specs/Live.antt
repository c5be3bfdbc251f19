-- What is live in a session: a fold over its commands and rows.
use Rattle.std.specs.Prelude.{ℕ, Bool, List, [], ◌∷◌, ◌++◌, Option, None, if◌then◌else◌}
use Rattle.std.specs.List.{last_or}
use Rattle.js_text.specs.Lists.{with_last}
use Rattle.js_grammar.specs.Outcome.{Findings, no_findings, joined, Outcome}
use Rattle.js_kind.specs.TokenParts.{TokenParts}
use Rattle.js_lexer.specs.Lexer.{token_or_default}
use Rattle.js_session.specs.Effects.{effect_of, is_step}
use Rattle.js_session.specs.declared.command.Effect.{Effect}
use Rattle.js_session.specs.declared.command.Effect.TheVariants.{Reads, Peeks, ReLexes, Opens, Rewinds, Commits}
use Rattle.js_session.specs.declared.command.Command.{Command}
use Rattle.js_session.specs.declared.report.Report.{Report}
use Rattle.js_session.specs.declared.row.Row.{Row}

-- what a row has found
abbrev pub row_findings : Row → Findings
row_findings row = record {
  diagnostics = row.diagnostics;
  deferred = row.deferred;
  comments = row.comments;
  irregular = row.irregular;
  warnings = row.warnings;
}

-- the row with other findings
abbrev pub with_findings : Row → Findings → Row
with_findings row found = record row {
  diagnostics = found.diagnostics;
  deferred = found.deferred;
  comments = found.comments;
  irregular = found.irregular;
  warnings = found.warnings;
}

-- what the reading of a row gave
abbrev pub outcome_of : Row → Outcome
outcome_of row = record { token = row.token; value = row.value; regex = row.regex; findings = row_findings row }

-- a row of an outcome
abbrev pub row_of : Option Command → ℕ → Bool → Outcome → Row
row_of command place taken outcome = record {
  command = command;
  place = place;
  taken = taken;
  token = outcome.token;
  value = outcome.value;
  regex = outcome.regex;
  diagnostics = outcome.findings.diagnostics;
  deferred = outcome.findings.deferred;
  comments = outcome.findings.comments;
  irregular = outcome.findings.irregular;
  warnings = outcome.findings.warnings;
}

-- the live tokens, and what is live of what was found
pub record Live : Type 0 where
  pub tokens : List TokenParts
  pub findings : Findings

-- what is live before the first step
abbrev pub nothing_live : Live
nothing_live = record { tokens = []; findings = no_findings }

-- what is live with one more outcome
abbrev pub with_outcome : Live → Outcome → Live
with_outcome live outcome =
    record { tokens = live.tokens ++ outcome.token ∷ []; findings = joined live.findings outcome.findings }

-- what is live with an outcome whose token stands in the place of the last one
abbrev pub with_re_lexed : Live → Outcome → Live
with_re_lexed live outcome =
    record { tokens = with_last live.tokens outcome.token; findings = joined live.findings outcome.findings }

-- the last live token, if there is one
abbrev pub last_live : Live → Option TokenParts
last_live live = last_or None live.tokens

-- the place behind the last live token, and 0 where there is none
abbrev pub place_behind_last : Live → ℕ
place_behind_last live = (token_or_default (last_live live)).end

-- The state of a session: what is live, and what was live at each open mark, the last one first.
pub record State : Type 0 where
  pub now : Live
  pub marks : List Live

-- the state after the first row
abbrev pub state_after_first : Row → State
state_after_first row = record { now = with_outcome nothing_live (outcome_of row); marks = [] }

-- the state after an effect that gave this row: a peek, and a re-lex that was not taken, change nothing
abbrev pub after_row : Effect → Row → State → State
after_row (Reads goal) row s = record s { now = with_outcome s.now (outcome_of row) }
after_row (Peeks goal) row s = s
after_row (ReLexes goal) row s = if row.taken then record s { now = with_re_lexed s.now (outcome_of row) } else s
after_row Opens row s = s
after_row Rewinds row s = s
after_row Commits row s = s

-- the state at the last open mark, which is closed; where none is open, there is no report (`HasMark` of Report)
abbrev pub rewound_state : Live → List Live → State
rewound_state now [] = record { now = now; marks = [] }
rewound_state now (m ∷ ms) = record { now = m; marks = ms }

-- the same state, with the last open mark closed; where none is open, there is no report either
abbrev pub committed_state : Live → List Live → State
committed_state now [] = record { now = now; marks = [] }
committed_state now (m ∷ ms) = record { now = now; marks = ms }

-- the state after an effect that gives no row
abbrev pub after_mark : Effect → State → State
after_mark (Reads goal) s = s
after_mark (Peeks goal) s = s
after_mark (ReLexes goal) s = s
after_mark Opens s = record s { marks = s.now ∷ s.marks }
after_mark Rewinds s = rewound_state s.now s.marks
after_mark Commits s = committed_state s.now s.marks

-- the state after these commands, which gave these rows
abbrev pub state_after : State → List Command → List Row → State
state_after s [] rows = s
state_after s (c ∷ cs) [] = if is_step c then s else state_after (after_mark (effect_of c) s) cs []
state_after s (c ∷ cs) (row ∷ rows) =
    if is_step c then state_after (after_row (effect_of c) row s) cs rows
    else state_after (after_mark (effect_of c) s) cs (row ∷ rows)

-- what is live after the first step and these commands, which gave these rows
abbrev pub live : List Command → List Row → Live
live commands [] = nothing_live
live commands (row ∷ rows) = (state_after (state_after_first row) commands rows).now

-- the live lists of a report
abbrev pub report_live : Report → Live
report_live r = record {
  tokens = r.tokens;
  findings = record {
    diagnostics = r.diagnostics;
    deferred = r.deferred;
    comments = r.comments;
    irregular = r.irregular;
    warnings = r.warnings;
  };
}

-- a report of these rows, of the collected tokens, and of what is live
abbrev pub report_with : List Row → List TokenParts → Live → Report
report_with rows collected now = record {
  rows = rows;
  tokens = now.tokens;
  collected = collected;
  diagnostics = now.findings.diagnostics;
  deferred = now.findings.deferred;
  comments = now.findings.comments;
  irregular = now.findings.irregular;
  warnings = now.findings.warnings;
}
