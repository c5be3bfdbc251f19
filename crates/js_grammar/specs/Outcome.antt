-- What a reading gives: a token with its value, and what it adds to the lists of a lexer.
use Rattle.std.specs.Prelude.{ℕ, ◌+◌, ◌≤◌, List, [], ◌∷◌, ◌++◌, length, take, drop, Option, is_none}
use Rattle.std.specs.Prelude.{Bool, ◌||◌, if◌then◌else◌}
use Rattle.std.specs.Option.{option_map}
use Rattle.js_text.specs.declared.comment.Comment.{Comment}
use Rattle.js_text.specs.declared.diagnostic.Diagnostic.{Diagnostic}
use Rattle.js_text.specs.declared.diagnostic.Diagnostic.TheVariants.{HtmlCommentInModule}
use Rattle.js_text.specs.declared.reg_exp_flags.RegexInfo.{RegexInfo}
use Rattle.js_text.specs.SourceType.{is_unambiguous}
use Rattle.js_text.specs.declared.source_type.SourceType.{SourceType}
use Rattle.js_text.specs.declared.span.Span.{Span}
use Rattle.js_text.specs.declared.value.RowValue.{RowValue}
use Rattle.js_grammar.specs.Attach.{attach}
use Rattle.js_grammar.specs.Gap.{Piece, PieceKind}
use Rattle.js_grammar.specs.Gap.PieceKind.{white_space, line_terminator, single_line_comment, multi_line_comment}
use Rattle.js_grammar.specs.Gap.PieceKind.{html_open_comment, html_close_comment, reported_comment}
use Rattle.js_grammar.specs.GapItems.{token_before, irregular_of}
use Rattle.js_grammar.specs.PieceItems.{gap_of, items_of}
use Rattle.js_grammar.specs.Reading.{Reading, size_of, place_behind, reported_at, moved_value, moved_regex}
use Rattle.js_kind.specs.TokenParts.{TokenParts}

-- What readings find beside their tokens: what they report, what they report for the case that the source is a module,
-- comments, irregular white space, and what they warn of.
pub record Findings : Type 0 where
  pub diagnostics : List Diagnostic
  pub deferred : List Diagnostic
  pub comments : List Comment
  pub irregular : List Span
  pub warnings : List Span

abbrev pub no_findings : Findings
no_findings = record { diagnostics = []; deferred = []; comments = []; irregular = []; warnings = [] }

-- diagnostics alone
abbrev pub reports : List Diagnostic → Findings
reports diagnostics = record no_findings { diagnostics = diagnostics }

-- what was found, and then what was found next
abbrev pub joined : Findings → Findings → Findings
joined a b = record {
  diagnostics = a.diagnostics ++ b.diagnostics;
  deferred = a.deferred ++ b.deferred;
  comments = a.comments ++ b.comments;
  irregular = a.irregular ++ b.irregular;
  warnings = a.warnings ++ b.warnings;
}

-- how much was found, list by list
pub record FindingLengths : Type 0 where
  pub diagnostics : ℕ
  pub deferred : ℕ
  pub comments : ℕ
  pub irregular : ℕ
  pub warnings : ℕ

abbrev pub lengths_of : Findings → FindingLengths
lengths_of found = record {
  diagnostics = length found.diagnostics;
  deferred = length found.deferred;
  comments = length found.comments;
  irregular = length found.irregular;
  warnings = length found.warnings;
}

-- what was found up to these lengths
abbrev pub cut_to : FindingLengths → Findings → Findings
cut_to lengths found = record {
  diagnostics = take lengths.diagnostics found.diagnostics;
  deferred = take lengths.deferred found.deferred;
  comments = take lengths.comments found.comments;
  irregular = take lengths.irregular found.irregular;
  warnings = take lengths.warnings found.warnings;
}

-- what was found beyond these lengths
abbrev pub found_since : FindingLengths → Findings → Findings
found_since lengths found = record {
  diagnostics = drop lengths.diagnostics found.diagnostics;
  deferred = drop lengths.deferred found.deferred;
  comments = drop lengths.comments found.comments;
  irregular = drop lengths.irregular found.irregular;
  warnings = drop lengths.warnings found.warnings;
}

-- no list is shorter than this
pub record AreWithin (lengths : FindingLengths) (found : Findings) : Type 0 where
  pub diagnostics : lengths.diagnostics ≤ length found.diagnostics
  pub deferred : lengths.deferred ≤ length found.deferred
  pub comments : lengths.comments ≤ length found.comments
  pub irregular : lengths.irregular ≤ length found.irregular
  pub warnings : lengths.warnings ≤ length found.warnings

-- A token, its value, what is known of a regular expression, and what was found on the way.
pub record Outcome : Type 0 where
  pub token : TokenParts
  pub value : RowValue
  pub regex : Option RegexInfo
  pub findings : Findings

-- what was read at the place, where the flag tells whether a line has ended before it
abbrev pub outcome_at : Bool → ℕ → Reading → Outcome
outcome_at line_has_ended place reading = record {
  token = record {
    start = place;
    end = place + size_of reading;
    kind = reading.kind;
    is_on_new_line = reading.line_ended || line_has_ended;
    escaped = reading.escaped;
    has_separator = reading.has_separator;
  };
  value = moved_value place reading.value;
  regex = option_map (moved_regex place) reading.regex;
  findings = reports (reported_at place reading);
}

-- What is reported of a piece that begins at the place: a comment that a module may not have, over its four characters.
abbrev pub piece_diagnostics : ℕ → PieceKind → List Diagnostic
piece_diagnostics place white_space = []
piece_diagnostics place line_terminator = []
piece_diagnostics place single_line_comment = []
piece_diagnostics place multi_line_comment = []
piece_diagnostics place html_open_comment = []
piece_diagnostics place html_close_comment = []
piece_diagnostics place reported_comment = HtmlCommentInModule (record { start = place; end = place + 4 }) ∷ []

-- what is reported of the pieces of a whole gap that begins at the place
abbrev pub gap_diagnostics : ℕ → List Piece → List Diagnostic
gap_diagnostics place [] = []
gap_diagnostics place (x ∷ xs) = piece_diagnostics place x.kind ++ gap_diagnostics (place_behind place x.text) xs

-- an HTML-like comment with its mark over this span
abbrev pub html_deferred : SourceType → Span → List Diagnostic
html_deferred t span = if is_unambiguous t then HtmlCommentInModule span ∷ [] else []

-- What is reported of a piece that begins at the place, for the case that the source is a module: an HTML-like comment
-- of a source of which this is not settled, over its mark.
abbrev pub piece_deferred : SourceType → ℕ → PieceKind → List Diagnostic
piece_deferred t place white_space = []
piece_deferred t place line_terminator = []
piece_deferred t place single_line_comment = []
piece_deferred t place multi_line_comment = []
piece_deferred t place html_open_comment = html_deferred t (record { start = place; end = place + 4 })
piece_deferred t place html_close_comment = html_deferred t (record { start = place; end = place + 3 })
piece_deferred t place reported_comment = []

-- what is reported for that case of the pieces of a gap that begins at the place
abbrev pub gap_deferred : SourceType → ℕ → List Piece → List Diagnostic
gap_deferred t place [] = []
gap_deferred t place (x ∷ xs) = piece_deferred t place x.kind ++ gap_deferred t (place_behind place x.text) xs

-- What is found in a whole gap of these pieces that begins at the place, before this token; `before` is the token
-- before the gap, if there is one.
abbrev pub gap_findings : SourceType → Option TokenParts → ℕ → List Piece → TokenParts → Findings
gap_findings t before place pieces token = record {
  diagnostics = gap_diagnostics place pieces;
  deferred = gap_deferred t place pieces;
  comments = attach (gap_of (is_none before) (token_before before) place pieces token);
  irregular = irregular_of (items_of place pieces);
  warnings = [];
}
