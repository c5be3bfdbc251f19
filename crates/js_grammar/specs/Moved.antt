-- What a reading gives, so many bytes further on.
use Rattle.std.specs.Prelude.{◌≡◌, ℕ, ◌+◌, List, map, Option, Some, None, if◌then◌else◌}
use Rattle.std.specs.Option.{option_map}
use Rattle.std.specs.Str.{IsCharBoundary}
use Rattle.js_text.specs.Characters.{from_place}
use Rattle.js_text.specs.declared.comment.Comment.{Comment}
use Rattle.js_kind.specs.TokenParts.{TokenParts}
use Rattle.js_grammar.specs.Outcome.{Findings, Outcome}
use Rattle.js_grammar.specs.Reads.{is_onward}
use Rattle.js_grammar.specs.declared.goal.Goal.{Goal}
use Rattle.js_grammar.specs.Reading.{moved_diagnostics, moved_regex, moved_span, moved_value}

abbrev pub moved_token : ℕ → TokenParts → TokenParts
moved_token by token = record token { start = by + token.start; end = by + token.end }

abbrev pub moved_comment : ℕ → Comment → Comment
moved_comment by comment =
    record comment { span = moved_span by comment.span; attached_to = by + comment.attached_to }

abbrev pub moved_findings : ℕ → Findings → Findings
moved_findings by found = record {
  diagnostics = moved_diagnostics by found.diagnostics;
  deferred = moved_diagnostics by found.deferred;
  comments = map (moved_comment by) found.comments;
  irregular = map (moved_span by) found.irregular;
  warnings = map (moved_span by) found.warnings;
}

abbrev pub moved_outcome : ℕ → Outcome → Outcome
moved_outcome by o = record {
  token = moved_token by o.token;
  value = moved_value by o.value;
  regex = option_map (moved_regex by) o.regex;
  findings = moved_findings by o.findings;
}

-- Where a reading of a goal begins: at the start of the token that it reads again, or else at the place.
abbrev pub reads_from : Goal → Option TokenParts → ℕ → ℕ
reads_from goal None place = place
reads_from goal (Some token) place = if is_onward goal then place else token.start

-- The same characters stand in one text from a place on, and in the other from so many bytes further on.
pub record StandsMoved (text other : List ℕ) (place by : ℕ) : Type 0 where
  pub here : IsCharBoundary text place
  pub there : IsCharBoundary other (by + place)
  pub same : from_place text place ≡ from_place other (by + place)
