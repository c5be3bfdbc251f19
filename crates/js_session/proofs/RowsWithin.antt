-- Each place of a row is one of its text, or the end of the text.
use Rattle.std.proofs.Common.{◌≡◌, ℕ, ◌≤◌, Bool, true, false, List, [], ◌∷◌, length, sym, subst}
use Rattle.std.proofs.Common.{Option, None, Some}
use Rattle.std.specs.Prelude.{IfSome, MatchBool}
use Rattle.std.specs.List.{All, AllByRecursion, list_all}
use Rattle.std.specs.Str.{IsCharBoundary, IsUtf8}
use Rattle.std.proofs.lemmas.Bool.{and_parts}
use Rattle.std.proofs.lemmas.List.Elements.{All-from_recursion, All-weaker}
use Rattle.std.proofs.lemmas.Str.{IsCharBoundary-start}
use Rattle.js_text.specs.Diagnostic.{diagnostic_span}
use Rattle.js_text.specs.declared.comment.Comment.{Comment}
use Rattle.js_text.specs.declared.diagnostic.Diagnostic.{Diagnostic}
use Rattle.js_text.specs.declared.reg_exp_flags.RegexInfo.{RegexInfo}
use Rattle.js_text.specs.declared.source_type.SourceType.{SourceType}
use Rattle.js_text.specs.declared.span.Span.{Span}
use Rattle.js_text.specs.declared.value.RowValue.{RowValue}
use Rattle.js_text.specs.declared.value.RowValue.TheVariants.{Nothing, Slice, Units, Bad}
use Rattle.js_kind.specs.TokenParts.{TokenParts}
use Rattle.js_grammar.specs.Outcome.{Findings, no_findings}
use Rattle.js_grammar.specs.ReLexed.{fits}
use Rattle.js_grammar.proofs.OutcomesWithin.{CommentWithin, FoundWithin, OutcomeWithin, goal_within}
use Rattle.js_grammar.proofs.ReadingsWithin.{DiagnosticWithin, SpanWithin}
use Rattle.js_lexer.specs.Lexer.{IsOnPlaces, token_or_default}
use Rattle.js_session.specs.declared.command.Command.{Command}
use Rattle.js_session.specs.declared.row.Row.{Row}
use Rattle.js_session.specs.Effects.{effect_of, is_step, row_effect}
use Rattle.js_session.specs.declared.command.Effect.{Effect}
use Rattle.js_session.specs.declared.command.Effect.TheVariants.{Reads, Peeks, ReLexes, Opens, Rewinds, Commits}
use Rattle.js_session.specs.Live.{Live, State, after_row, last_live, nothing_live, outcome_of, row_findings}
use Rattle.js_session.specs.Live.{state_after_first}
use Rattle.js_session.specs.Report.{AreRows, IsNotTaken, IsOfEffect, IsReLexed, IsRow, IsSliceOnPlaces, Run}
use Rattle.js_session.specs.Shifted.{OfComment, OfDiagnostic, OfEachPlace, OfFindings, OfRegex, OfSpan, OfValue}
use Rattle.js_session.proofs.LocalRuns.{lies_behind}

-- a place that is weaker tested
pub span_weaker : (P Q : ℕ → Type 0) → ((n : ℕ) → P n → Q n) → (s : Span) → OfSpan P s → OfSpan Q s
span_weaker P Q w s h = record { start = w s.start h.start; end = w s.end h.end }

pub diagnostic_weaker : (P Q : ℕ → Type 0) → ((n : ℕ) → P n → Q n) → (d : Diagnostic) → OfDiagnostic P d
    → OfDiagnostic Q d
diagnostic_weaker P Q w d h = by_span (diagnostic_span d) h
  where
    by_span : (o : Option Span) → IfSome o (OfSpan P) → IfSome o (OfSpan Q)
    by_span None h = tt
    by_span (Some s) h = span_weaker P Q w s h

pub comment_weaker : (P Q : ℕ → Type 0) → ((n : ℕ) → P n → Q n) → (c : Comment) → OfComment P c → OfComment Q c
comment_weaker P Q w c h = record { span = span_weaker P Q w c.span h.span; attached_to = w c.attached_to h.attached_to }

value_weaker : (P Q : ℕ → Type 0) → ((n : ℕ) → P n → Q n) → (v : RowValue) → OfValue P v → OfValue Q v
value_weaker P Q w Nothing h = tt
value_weaker P Q w (Slice s) h = span_weaker P Q w s h
value_weaker P Q w (Units us) h = tt
value_weaker P Q w Bad h = tt

regex_weaker : (P Q : ℕ → Type 0) → ((n : ℕ) → P n → Q n) → (r : Option RegexInfo) → OfRegex P r → OfRegex Q r
regex_weaker P Q w None h = tt
regex_weaker P Q w (Some info) h = w info.pattern_end h

found_weaker : (P Q : ℕ → Type 0) → ((n : ℕ) → P n → Q n) → (f : Findings) → OfFindings P f → OfFindings Q f
found_weaker P Q w f h = record {
  diagnostics = All-weaker (OfDiagnostic P) (OfDiagnostic Q) (diagnostic_weaker P Q w) f.diagnostics h.diagnostics;
  deferred = All-weaker (OfDiagnostic P) (OfDiagnostic Q) (diagnostic_weaker P Q w) f.deferred h.deferred;
  comments = All-weaker (OfComment P) (OfComment Q) (comment_weaker P Q w) f.comments h.comments;
  irregular = All-weaker (OfSpan P) (OfSpan Q) (span_weaker P Q w) f.irregular h.irregular;
  warnings = All-weaker (OfSpan P) (OfSpan Q) (span_weaker P Q w) f.warnings h.warnings;
}

-- What holds of each place of a row holds where it asks less.
pub row_weaker : (P Q : ℕ → Type 0) → ((n : ℕ) → P n → Q n) → (row : Row) → OfEachPlace P row → OfEachPlace Q row
row_weaker P Q w row h = record {
  place = w row.place h.place;
  start = w row.token.start h.start;
  end = w row.token.end h.end;
  value = value_weaker P Q w row.value h.value;
  regex = regex_weaker P Q w row.regex h.regex;
  found = found_weaker P Q w (row_findings row) h.found;
}

pub rows_weaker : (P Q : ℕ → Type 0) → ((n : ℕ) → P n → Q n) → (rows : List Row)
    → AllByRecursion (OfEachPlace P) rows → AllByRecursion (OfEachPlace Q) rows
rows_weaker P Q w [] h = tt
rows_weaker P Q w (row ∷ rows) h = (row_weaker P Q w row h.0, rows_weaker P Q w rows h.1)

module _ (limit : ℕ) where
  abbrev Inside : ℕ → Type 0
  Inside place = place ≤ limit

  span_inside : (s : Span) → SpanWithin limit s → OfSpan Inside s
  span_inside s h = record { start = h.0; end = h.1 }

  diagnostic_inside : (d : Diagnostic) → DiagnosticWithin limit d → OfDiagnostic Inside d
  diagnostic_inside d h = by_span (diagnostic_span d) h
    where
      by_span : (o : Option Span) → IfSome o (SpanWithin limit) → IfSome o (OfSpan Inside)
      by_span None h = tt
      by_span (Some s) h = span_inside s h

  comment_inside : (c : Comment) → CommentWithin limit c → OfComment Inside c
  comment_inside c h = record { span = span_inside c.span h.0; attached_to = h.1 }

  each_inside : {A : Type 0} (P Q : A → Type 0) → ((x : A) → P x → Q x) → (xs : List A) → AllByRecursion P xs → All Q xs
  each_inside P Q w xs h = All-weaker P Q w xs (All-from_recursion P xs h)

  found_inside : (f : Findings) → FoundWithin limit f → OfFindings Inside f
  found_inside f h = record {
    diagnostics = each_inside (DiagnosticWithin limit)
        (OfDiagnostic Inside) diagnostic_inside f.diagnostics h.diagnostics;
    deferred = each_inside (DiagnosticWithin limit) (OfDiagnostic Inside) diagnostic_inside f.deferred h.deferred;
    comments = each_inside (CommentWithin limit) (OfComment Inside) comment_inside f.comments h.comments;
    irregular = each_inside (SpanWithin limit) (OfSpan Inside) span_inside f.irregular h.irregular;
    warnings = each_inside (SpanWithin limit) (OfSpan Inside) span_inside f.warnings h.warnings;
  }

  regex_inside : (r : Option RegexInfo) → IfSome r (λ (info : RegexInfo). info.pattern_end ≤ limit) → OfRegex Inside r
  regex_inside None h = tt
  regex_inside (Some info) h = h

-- what a row has beside its token and its value
record RestWithin (limit : ℕ) (row : Row) : Type 0 where
  regex : OfRegex (λ place. place ≤ limit) row.regex
  found : OfFindings (λ place. place ≤ limit) (row_findings row)

rest_of : (limit : ℕ) (row : Row) → OutcomeWithin limit (outcome_of row) → RestWithin limit row
rest_of limit row h = record {
  regex = regex_inside limit row.regex h.regex;
  found = found_inside limit (row_findings row) h.found;
}

nothing_within : (limit : ℕ) (row : Row) → row.regex ≡ None → row_findings row ≡ no_findings → RestWithin limit row
nothing_within limit row regex found = record {
  regex = subst (OfRegex (λ place. place ≤ limit)) (sym regex) tt;
  found =
      subst (OfFindings (λ place. place ≤ limit)) (sym found)
      (found_inside limit no_findings
      (record { diagnostics = tt; deferred = tt; comments = tt; irregular = tt; warnings = tt }));
}

-- the places of the last token
ends_within : (text : List ℕ) (last : Option TokenParts) → IfSome last (IsOnPlaces text)
    → IfSome last (λ (b : TokenParts). b.end ≤ length text)
ends_within text None h = tt
ends_within text (Some token) h = h.end.0

end_boundary : (text : List ℕ) (last : Option TokenParts) → IsUtf8 text → IfSome last (IsOnPlaces text)
    → IsCharBoundary text (token_or_default last).end
end_boundary text None u h = IsCharBoundary-start text u
end_boundary text (Some token) u h = h.end

start_boundary : (text : List ℕ) (last : Option TokenParts) → IsUtf8 text → IfSome last (IsOnPlaces text)
    → IsCharBoundary text (token_or_default last).start
start_boundary text None u h = IsCharBoundary-start text u
start_boundary text (Some token) u h = h.start

effect_within : (text : List ℕ) (t : SourceType) (now : Live) (effect : Effect) (row : Row) → IsUtf8 text
    → IfSome (last_live now) (IsOnPlaces text) → IsCharBoundary text row.place → IsOfEffect text t now effect row
    → RestWithin (length text) row
effect_within text t now (Reads goal) row u last at is =
    rest_of (length text) row
    (goal_within text t goal (last_live now) row.place (outcome_of row) u at (ends_within text (last_live now) last)
    is.reads)
effect_within text t now (Peeks goal) row u last at is =
    rest_of (length text) row
    (goal_within text t goal (last_live now) row.place (outcome_of row) u at (ends_within text (last_live now) last)
    is.reads)
effect_within text t now (ReLexes goal) row u last at is =
    by_flag (fits text goal (token_or_default (last_live now))) is
  where
    by_flag : (b : Bool) → MatchBool b (IsReLexed text t now goal row) (IsNotTaken now row)
        → RestWithin (length text) row
    by_flag true is =
        rest_of (length text) row
        (goal_within text t goal (last_live now) (token_or_default (last_live now)).start (outcome_of row) u
        (start_boundary text (last_live now) u last) (ends_within text (last_live now) last) is.reads)
    by_flag false is = nothing_within (length text) row is.regex is.findings
effect_within text t now Opens row u last at is = absurd is
effect_within text t now Rewinds row u last at is = absurd is
effect_within text t now Commits row u last at is = absurd is

value_within : (text : List ℕ) (v : RowValue) → IsSliceOnPlaces text v → OfValue (λ place. place ≤ length text) v
value_within text Nothing h = tt
value_within text (Slice span) h = record { start = h.0.0; end = h.1.0 }
value_within text (Units us) h = tt
value_within text Bad h = tt

-- Each place of a row is within its text.
pub row_within : (text : List ℕ) (t : SourceType) (now : Live) (command : Option Command) (row : Row) → IsUtf8 text
    → IfSome (last_live now) (IsOnPlaces text) → IsRow text t now command row
    → OfEachPlace (λ place. place ≤ length text) row
row_within text t now command row u last is =
    let at = subst (IsCharBoundary text) (sym is.place) (end_boundary text (last_live now) u last) in
    let rest = effect_within text t now (row_effect command) row u last at is.gives in
    record {
      place = at.0;
      start = is.places.token.start.0;
      end = is.places.token.end.0;
      value = value_within text row.value is.places.value;
      regex = rest.regex;
      found = rest.found;
    }

-- And of a run of steps.
pub run_within : (text : List ℕ) (t : SourceType) (s : State) (commands : List Command) (rows : List Row) → IsUtf8 text
    → IfSome (last_live s.now) (IsOnPlaces text) → list_all is_step commands ≡ true → Run text t s commands rows
    → AllByRecursion (OfEachPlace (λ place. place ≤ length text)) rows
run_within text t s [] rows u last steps run =
    subst (AllByRecursion (OfEachPlace (λ place. place ≤ length text))) (sym run) tt
run_within text t s (c ∷ cs) [] u last steps run = tt
run_within text t s (c ∷ cs) (row ∷ rows) u last steps run =
    let both = and_parts (is_step c) (list_all is_step cs) steps in
    let step = both.0 in
    let run = rw step at run in (
      row_within text t s.now (Some c) row u last run.0,
      run_within text t (after_row (effect_of c) row s) cs rows u
          (lies_behind text (effect_of c) row s run.0.places.token last) both.1 run.1,
    )

pub rows_within : (text : List ℕ) (t : SourceType) (commands : List Command) (rows : List Row) → IsUtf8 text
    → list_all is_step commands ≡ true → AreRows text t commands rows
    → AllByRecursion (OfEachPlace (λ place. place ≤ length text)) rows
rows_within text t commands [] u steps are = tt
rows_within text t commands (row ∷ rows) u steps are = (
  row_within text t nothing_live None row u tt are.0,
  run_within text t (state_after_first row) commands rows u are.0.places.token steps are.1,
)
