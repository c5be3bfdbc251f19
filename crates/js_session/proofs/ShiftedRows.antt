-- A run behind a change of its text is taken over, with its places shifted.
use Rattle.std.proofs.Common.{◌≡◌, ℕ, ◌+◌, ◌-◌, ◌≤◌, true, List, [], ◌∷◌, ◌++◌, length, map, refl, sym, ◌∙◌, ap, subst}
use Rattle.std.proofs.Common.{arith, length-append, Option, None, Some}
use Rattle.std.proofs.lemmas.List.Elements.{All-map}
use Rattle.std.specs.List.{All, AllByRecursion, list_all}
use Rattle.std.specs.Option.{option_map}
use Rattle.std.specs.Prelude.{slice_index_or}
use Rattle.std.specs.Str.{IsCharBoundary, IsUtf8}
use Rattle.js_text.specs.declared.comment.Comment.{Comment}
use Rattle.js_text.specs.declared.diagnostic.Diagnostic.{Diagnostic}
use Rattle.js_text.specs.declared.diagnostic.Diagnostic.TheVariants.{InvalidCharacter, UnexpectedEnd}
use Rattle.js_text.specs.declared.diagnostic.Diagnostic.TheVariants.{FileAppearsToBeBinary, InvalidNumberEnd}
use Rattle.js_text.specs.declared.diagnostic.Diagnostic.TheVariants.{UnterminatedString, UnterminatedMultiLineComment}
use Rattle.js_text.specs.declared.diagnostic.Diagnostic.TheVariants.{UnterminatedRegExp, UnicodeEscapeSequence}
use Rattle.js_text.specs.declared.diagnostic.Diagnostic.TheVariants.{InvalidEscapeSequence, RegExpFlag, RegExpFlagTwice}
use Rattle.js_text.specs.declared.diagnostic.Diagnostic.TheVariants.{UnexpectedJsxEnd, HtmlCommentInModule}
use Rattle.js_text.specs.declared.reg_exp_flags.RegexInfo.{RegexInfo}
use Rattle.js_text.specs.declared.source_type.SourceType.{SourceType}
use Rattle.js_text.specs.declared.span.Span.{Span}
use Rattle.js_text.specs.declared.value.RowValue.{RowValue}
use Rattle.js_text.specs.declared.value.RowValue.TheVariants.{Nothing, Slice, Units, Bad}
use Rattle.js_kind.specs.TokenParts.{TokenParts}
use Rattle.js_grammar.specs.Moved.{moved_comment, moved_findings, moved_token}
use Rattle.js_grammar.specs.Outcome.{Findings}
use Rattle.js_grammar.specs.Reading.{moved_diagnostic, moved_regex, moved_span, moved_value}
use Rattle.js_lexer.specs.Lexer.{IsOnPlaces}
use Rattle.js_session.specs.declared.command.Command.{Command}
use Rattle.js_session.specs.declared.row.Row.{Row}
use Rattle.js_session.specs.Effects.{is_lasting}
use Rattle.js_session.specs.Live.{State, last_live, row_findings}
use Rattle.js_session.specs.Moved.{moved_row}
use Rattle.js_session.specs.Report.{Run}
use Rattle.js_session.specs.Session.{state_behind}
use Rattle.js_session.specs.Shifted.{shifted, shifted_comment, shifted_diagnostic, shifted_regex, shifted_row}
use Rattle.js_session.specs.Shifted.{shifted_findings, shifted_span, shifted_token, shifted_value}
use Rattle.js_session.specs.Shifted.{OfComment, OfDiagnostic, OfEachPlace, OfFindings, OfRegex, OfSpan, OfValue}
use Rattle.js_session.proofs.MovedRuns.{behind_byte, run_back, run_forward}

module _ (from to : ℕ) where
  place_on : (place : ℕ) → shifted from to (from + place) ≡ to + place
  place_on place = omega arith

  span_on : (span : Span) → shifted_span from to (moved_span from span) ≡ moved_span to span
  span_on span = λ j. record { start = place_on span.start j; end = place_on span.end j }

  diagnostic_on : (d : Diagnostic) → shifted_diagnostic from to (moved_diagnostic from d) ≡ moved_diagnostic to d
  diagnostic_on (InvalidCharacter c s) = ap (InvalidCharacter c) (span_on s)
  diagnostic_on (UnexpectedEnd s) = ap UnexpectedEnd (span_on s)
  diagnostic_on FileAppearsToBeBinary = refl
  diagnostic_on (InvalidNumberEnd s) = ap InvalidNumberEnd (span_on s)
  diagnostic_on (UnterminatedString s) = ap UnterminatedString (span_on s)
  diagnostic_on (UnterminatedMultiLineComment s) = ap UnterminatedMultiLineComment (span_on s)
  diagnostic_on (UnterminatedRegExp s) = ap UnterminatedRegExp (span_on s)
  diagnostic_on (UnicodeEscapeSequence s) = ap UnicodeEscapeSequence (span_on s)
  diagnostic_on (InvalidEscapeSequence s) = ap InvalidEscapeSequence (span_on s)
  diagnostic_on (RegExpFlag c s) = ap (RegExpFlag c) (span_on s)
  diagnostic_on (RegExpFlagTwice c s) = ap (RegExpFlagTwice c) (span_on s)
  diagnostic_on (UnexpectedJsxEnd c s) = ap (UnexpectedJsxEnd c) (span_on s)
  diagnostic_on (HtmlCommentInModule s) = ap HtmlCommentInModule (span_on s)

  comment_on : (c : Comment) → shifted_comment from to (moved_comment from c) ≡ moved_comment to c
  comment_on c = λ j. record c { span = span_on c.span j; attached_to = place_on c.attached_to j }

  value_on : (v : RowValue) → shifted_value from to (moved_value from v) ≡ moved_value to v
  value_on Nothing = refl
  value_on (Slice span) = ap Slice (span_on span)
  value_on (Units units) = refl
  value_on Bad = refl

  regex_on : (r : Option RegexInfo)
      → option_map (shifted_regex from to) (option_map (moved_regex from) r) ≡ option_map (moved_regex to) r
  regex_on None = refl
  regex_on (Some info) = ap (λ p. Some (record info { pattern_end = p })) (place_on info.pattern_end)

  token_on : (token : TokenParts) → shifted_token from to (moved_token from token) ≡ moved_token to token
  token_on token = λ j. record token { start = place_on token.start j; end = place_on token.end j }

  each_on : {A : Type 0} (f g h : A → A) → ((x : A) → f (g x) ≡ h x) → (xs : List A) → map f (map g xs) ≡ map h xs
  each_on f g h e [] = refl
  each_on f g h e (x ∷ xs) = λ j. e x j ∷ each_on f g h e xs j

  diagnostics_on : (ds : List Diagnostic)
      → map (shifted_diagnostic from to) (map (moved_diagnostic from) ds) ≡ map (moved_diagnostic to) ds
  diagnostics_on ds =
      each_on (shifted_diagnostic from to) (moved_diagnostic from) (moved_diagnostic to) diagnostic_on ds

  comments_on : (cs : List Comment)
      → map (shifted_comment from to) (map (moved_comment from) cs) ≡ map (moved_comment to) cs
  comments_on cs = each_on (shifted_comment from to) (moved_comment from) (moved_comment to) comment_on cs

  spans_on : (ss : List Span) → map (shifted_span from to) (map (moved_span from) ss) ≡ map (moved_span to) ss
  spans_on ss = each_on (shifted_span from to) (moved_span from) (moved_span to) span_on ss

  findings_on : (found : Findings) → shifted_findings from to (moved_findings from found) ≡ moved_findings to found
  findings_on found = λ j. record {
    diagnostics = diagnostics_on found.diagnostics j;
    deferred = diagnostics_on found.deferred j;
    comments = comments_on found.comments j;
    irregular = spans_on found.irregular j;
    warnings = spans_on found.warnings j;
  }

  -- what was moved from its own text to the one place is moved on to the other
  row_on : (row : Row) → shifted_row from to (moved_row from row) ≡ moved_row to row
  row_on row = λ j. record {
    command = row.command;
    place = place_on row.place j;
    taken = row.taken;
    token = token_on row.token j;
    value = value_on row.value j;
    regex = regex_on row.regex j;
    diagnostics = diagnostics_on row.diagnostics j;
    deferred = diagnostics_on row.deferred j;
    comments = comments_on row.comments j;
    irregular = spans_on row.irregular j;
    warnings = spans_on row.warnings j;
  }

  rows_on : (rows : List Row) → map (shifted_row from to) (map (moved_row from) rows) ≡ map (moved_row to) rows
  rows_on rows = each_on (shifted_row from to) (moved_row from) (moved_row to) row_on rows

-- what is moved by so many bytes has each of its places there or behind it
module _ (by : ℕ) where
  abbrev Behind : ℕ → Type 0
  Behind place = by ≤ place

  place_behind : (place : ℕ) → Behind (by + place)
  place_behind place = omega arith

  span_behind : (span : Span) → OfSpan Behind (moved_span by span)
  span_behind span = record { start = place_behind span.start; end = place_behind span.end }

  diagnostic_behind : (d : Diagnostic) → OfDiagnostic Behind (moved_diagnostic by d)
  diagnostic_behind (InvalidCharacter c s) = span_behind s
  diagnostic_behind (UnexpectedEnd s) = span_behind s
  diagnostic_behind FileAppearsToBeBinary = tt
  diagnostic_behind (InvalidNumberEnd s) = span_behind s
  diagnostic_behind (UnterminatedString s) = span_behind s
  diagnostic_behind (UnterminatedMultiLineComment s) = span_behind s
  diagnostic_behind (UnterminatedRegExp s) = span_behind s
  diagnostic_behind (UnicodeEscapeSequence s) = span_behind s
  diagnostic_behind (InvalidEscapeSequence s) = span_behind s
  diagnostic_behind (RegExpFlag c s) = span_behind s
  diagnostic_behind (RegExpFlagTwice c s) = span_behind s
  diagnostic_behind (UnexpectedJsxEnd c s) = span_behind s
  diagnostic_behind (HtmlCommentInModule s) = span_behind s

  comment_behind : (c : Comment) → OfComment Behind (moved_comment by c)
  comment_behind c = record { span = span_behind c.span; attached_to = place_behind c.attached_to }

  value_behind : (v : RowValue) → OfValue Behind (moved_value by v)
  value_behind Nothing = tt
  value_behind (Slice span) = span_behind span
  value_behind (Units units) = tt
  value_behind Bad = tt

  regex_behind : (r : Option RegexInfo) → OfRegex Behind (option_map (moved_regex by) r)
  regex_behind None = tt
  regex_behind (Some info) = place_behind info.pattern_end

  each_behind : {A : Type 0} (P : A → Type 0) (f : A → A) → ((x : A) → P (f x)) → (xs : List A) → All P (map f xs)
  each_behind P f holds xs = All-map P f xs (λ k d less. holds (slice_index_or xs k d))

  diagnostics_behind : (ds : List Diagnostic) → All (OfDiagnostic Behind) (map (moved_diagnostic by) ds)
  diagnostics_behind ds = each_behind (OfDiagnostic Behind) (moved_diagnostic by) diagnostic_behind ds

  found_behind : (found : Findings) → OfFindings Behind (moved_findings by found)
  found_behind found = record {
    diagnostics = diagnostics_behind found.diagnostics;
    deferred = diagnostics_behind found.deferred;
    comments = each_behind (OfComment Behind) (moved_comment by) comment_behind found.comments;
    irregular = each_behind (OfSpan Behind) (moved_span by) span_behind found.irregular;
    warnings = each_behind (OfSpan Behind) (moved_span by) span_behind found.warnings;
  }

  rows_behind : (rows : List Row) → AllByRecursion (OfEachPlace Behind) (map (moved_row by) rows)
  rows_behind [] = tt
  rows_behind (row ∷ rows) = (
    record {
      place = place_behind row.place;
      start = place_behind row.token.start;
      end = place_behind row.token.end;
      value = value_behind row.value;
      regex = regex_behind row.regex;
      found = found_behind (row_findings row);
    },
    rows_behind rows,
  )

-- a place behind a front is one of the rest
boundary_rest : (front rest : List ℕ) (place : ℕ) → IsCharBoundary (front ++ rest) (length front + place)
    → IsCharBoundary rest place
boundary_rest front rest place b = (
  let inside = b.0 in omega (arith, inside, length-append front rest),
  λ less far.
      let same = behind_byte front rest place in
      subst (λ (b : ℕ). 192 ≤ b) same
      (b.1 (omega (arith, less, length-append front rest)) (subst (λ (b : ℕ). 128 ≤ b) (sym same) far)),
)

-- A run from behind a token that starts behind a front is one of the rest alone, moved: the same token starts so many
-- bytes before.
record RunsAlone (before rest : List ℕ) (t : SourceType) (token : TokenParts) (commands : List Command)
    (rows : List Row) : Type 0 where
  own : TokenParts
  same : moved_token (length before) own ≡ token
  lies : IsOnPlaces rest own
  own_rows : List Row
  rows_are : rows ≡ map (moved_row (length before)) own_rows
  runs : Run rest t (state_behind own) commands own_rows

runs_alone : (before rest : List ℕ) (t : SourceType) (token : TokenParts) (a : State) (commands : List Command)
    (rows : List Row) → IsUtf8 rest → IsUtf8 (before ++ rest) → length before ≤ token.start
    → IsOnPlaces (before ++ rest) token → last_live a.now ≡ Some token → list_all is_lasting commands ≡ true
    → Run (before ++ rest) t a commands rows → RunsAlone before rest t token commands rows
runs_alone before rest t token a commands rows u v behind lies here lasting run =
    let from = length before in
    let own : TokenParts = record token { start = token.start - from; end = token.end - from } in
    let start : from + (token.start - from) ≡ token.start = omega (arith, behind) in
    let end : from + (token.end - from) ≡ token.end = let ordered = lies.ordered in omega (arith, behind, ordered) in
    let same : moved_token from own ≡ token = λ j. record token { start = start j; end = end j } in
    let alone : IsOnPlaces rest own = record {
      start =
          boundary_rest before rest (token.start - from)
          (subst (IsCharBoundary (before ++ rest)) (sym start) lies.start);
      end =
          boundary_rest before rest (token.end - from) (subst (IsCharBoundary (before ++ rest)) (sym end) lies.end);
      ordered = let ordered = lies.ordered in omega (arith, ordered);
    } in
    let back =
    run_back before rest t own (state_behind own) a commands rows lasting
    (record { utf8 = u; whole_utf8 = v; lies = alone; last_is = refl; moved_last = here ∙ ap Some (sym same) }) run in
    record { own = own; same = same; lies = alone; own_rows = back.0; rows_are = back.1; runs = back.2 }

-- A run from behind a token that starts behind a front is one from behind the same token where another front stands in
-- its place, with each place shifted.
pub run_taken_over : (before after rest : List ℕ) (t : SourceType) (token : TokenParts) (a b : State)
    (commands : List Command) (rows : List Row) → IsUtf8 rest → IsUtf8 (before ++ rest) → IsUtf8 (after ++ rest)
    → length before ≤ token.start → IsOnPlaces (before ++ rest) token → last_live a.now ≡ Some token
    → last_live b.now ≡ Some (shifted_token (length before) (length after) token)
    → list_all is_lasting commands ≡ true → Run (before ++ rest) t a commands rows
    → Run (after ++ rest) t b commands (map (shifted_row (length before) (length after)) rows)
run_taken_over before after rest t token a b commands rows u v w behind lies here there lasting run =
    let from = length before in
    let to = length after in
    let alone = runs_alone before rest t token a commands rows u v behind lies here lasting run in
    let on : shifted_token from to token ≡ moved_token to alone.own =
    ap (shifted_token from to) (sym alone.same) ∙ token_on from to alone.own in
    let forward =
    run_forward after rest t alone.own (state_behind alone.own) b commands alone.own_rows lasting
    (record { utf8 = u; whole_utf8 = w; lies = alone.lies; last_is = refl; moved_last = there ∙ ap Some on })
    alone.runs in
    subst (Run (after ++ rest) t b commands)
    (sym (ap (map (shifted_row from to)) alone.rows_are ∙ rows_on from to alone.own_rows)) forward

-- Where the same front stands, nothing is shifted.
pub run_stays : (before rest : List ℕ) (t : SourceType) (token : TokenParts) (a : State) (commands : List Command)
    (rows : List Row) → IsUtf8 rest → IsUtf8 (before ++ rest) → length before ≤ token.start
    → IsOnPlaces (before ++ rest) token → last_live a.now ≡ Some token → list_all is_lasting commands ≡ true
    → Run (before ++ rest) t a commands rows → map (shifted_row (length before) (length before)) rows ≡ rows
run_stays before rest t token a commands rows u v behind lies here lasting run =
    let from = length before in
    let alone = runs_alone before rest t token a commands rows u v behind lies here lasting run in
    ap (map (shifted_row from from)) alone.rows_are ∙ rows_on from from alone.own_rows ∙ sym alone.rows_are

-- Each place of its rows is at the front's end or behind it.
pub run_lies_behind : (before rest : List ℕ) (t : SourceType) (token : TokenParts) (a : State)
    (commands : List Command) (rows : List Row) → IsUtf8 rest → IsUtf8 (before ++ rest) → length before ≤ token.start
    → IsOnPlaces (before ++ rest) token → last_live a.now ≡ Some token → list_all is_lasting commands ≡ true
    → Run (before ++ rest) t a commands rows → AllByRecursion (OfEachPlace (λ place. length before ≤ place)) rows
run_lies_behind before rest t token a commands rows u v behind lies here lasting run =
    let from = length before in
    let alone = runs_alone before rest t token a commands rows u v behind lies here lasting run in
    subst (AllByRecursion (OfEachPlace (λ place. from ≤ place))) (sym alone.rows_are) (rows_behind from alone.own_rows)
