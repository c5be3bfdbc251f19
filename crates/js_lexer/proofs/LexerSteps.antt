-- The steps of a lexer.
use Rattle.std.proofs.Common.{◌≡◌, ◌≤◌, ◌-◌, Bool, true, false, not, List, [], ◌∷◌, ◌++◌, length, take}
use Rattle.std.proofs.Common.{refl, sym, ◌∙◌, ap}
use Rattle.std.proofs.Common.{subst, arith, append-nil, Option, Some, None}
use Rattle.std.specs.Prelude.{slice_get, ℕ, IfSome, is_none, if◌then◌else◌}
use Rattle.std.specs.List.{last_or}
use Rattle.std.specs.Str.{IsCharBoundary, IsUtf8}
use Rattle.std.proofs.lemmas.Str.{IsCharBoundary-start}
use Rattle.js_text.specs.Characters.{from_place}
use Rattle.js_text.specs.Lists.{with_last}
use Rattle.js_kind.specs.TokenParts.{TokenParts}
use Rattle.js_grammar.specs.GapItems.{token_before}
use Rattle.js_grammar.specs.Goals.{GoalReads, line_has_ended_behind}
use Rattle.js_grammar.specs.Outcome.{Findings, lengths_of, cut_to, joined}
use Rattle.js_grammar.specs.declared.goal.Goal.{Goal}
use Rattle.js_grammar.specs.declared.goal.Goal.TheVariants.{TemplateTail}
use Rattle.js_grammar.proofs.AgainKinds.{again_is_re_lexed, only_one}
use Rattle.js_grammar.proofs.Clean.{agrees_with_grammar}
use Rattle.js_grammar.proofs.TokenStarts.{reads_onward}
use Rattle.js_grammar.specs.Reads.{is_onward}
use Rattle.js_grammar.specs.ReLexed.{again_kinds, HasSpelling}
use Rattle.js_grammar.specs.UnicodeEscape.{right_curly_bracket}
use Rattle.js_kind.specs.Kinds.{is_one_of, kind_text}
use Rattle.js_kind.specs.declared.kind.Kind.TheVariants.{RCurly}
use Rattle.js_text.specs.declared.comment.Comment.{Comment}
use Rattle.js_text.specs.declared.diagnostic.Diagnostic.{Diagnostic}
use Rattle.js_grammar.proofs.KindTexts.{goal_reads_spelling}
use Rattle.js_grammar.proofs.Texts.{goal_reads_text}
use Rattle.js_reader.specs.Decoded.{Values, AreValues, Keeps, HasValue}
use Rattle.js_grammar.proofs.GoalWays.{goal_reads_span, goal_reads_places}
use Rattle.js_reader.specs.Found.{findings_in, lists_added}
use Rattle.js_lexer.specs.Lexer.{LexerState, StandsAt, IsOnPlaces, IsSound, IsRestored, collected, ReadsOutcome, ReadsToken}
use Rattle.js_lexer.specs.Lexer.{Checkpoint, checkpoint_of, checkpoint_with_errors_of, put_back, put_errors_back}
use Rattle.js_lexer.specs.Lexer.{rewound, BeginsAlike, GoesOnFrom, with_diagnostics, with_comments}
use Rattle.js_lexer.specs.Lexer.{LexesAgain, last_read, token_or_default, range_before, trivia_before}
use Rattle.js_reader.specs.Reader.{ReadsGoal, ReadsWithGap, ReadsWithoutGap, AddsGap, MovesOn}
use Rattle.js_reader.specs.declared.findings_builder.FindingsBuilder.{FindingsBuilder}
use Rattle.js_reader.specs.declared.reader.Reader.{Reader}
use Rattle.js_lexer.proofs.FindingLaws.{cut_to-joined, cut_to-recovered, joined-none}
use Rattle.js_lexer.proofs.TriviaLaws.{IsBetweenGaps, behind_token, told, held_before_token, held_later}
use Rattle.js_trivia.specs.Attachment.{Attachment, between_gaps, after_token}
use Rattle.js_trivia.specs.Trivia.{Trivia, HeldBefore, handle_token, held, is_past, comment_starts}
use Rattle.js_source.specs.Source.{At}

-- the reader of a lexer, and what it has found, before a reading of the goal
pub record IsReaderOf (goal : Goal) (l : LexerState) (r : Reader) (found : FindingsBuilder) : Type 0 where
  pub source : StandsAt l r.source
  pub source_type : r.source_type ≡ l.source_type
  -- but for comments and irregular white space, which the builder of trivia keeps
  pub listed : l.findings
      ≡ record (findings_in found) { comments = l.findings.comments; irregular = l.findings.irregular }
  pub between : IsBetweenGaps l.last l.place l.findings.comments l.findings.irregular
      (range_before goal l.pure_comments) (range_before goal l.no_side_effects_comments) found.trivia

-- a line has ended where no token was read yet
pub no_token_yet : (has_read : Bool) (previous : TokenParts)
    → line_has_ended_behind (last_read has_read previous) ≡ not has_read
no_token_yet false previous = refl
no_token_yet true previous = refl

-- the token that a builder was told of is then its last one
pub told_last : (token : TokenParts) (trivia now : Trivia) → now ≡ handle_token token trivia
    → now.attachment.previous ≡ token
told_last token trivia now e = ap (λ (t : Trivia). t.attachment.previous) e

pub first_token : (last : Option TokenParts) → line_has_ended_behind last ≡ is_none last
first_token None = refl
first_token (Some token) = refl

starts_before_end : (text : List ℕ) (last : Option TokenParts) → IfSome last (IsOnPlaces text)
    → (token_before last).start ≤ (token_before last).end
starts_before_end text None h = omega arith
starts_before_end text (Some token) h = h.ordered

-- the builder of a lexer, before a reading of the goal
pub between_is : (goal : Goal) (here : At) (last : Option TokenParts) (s cleared : Trivia) (values : Values)
    → IsSound here last s values → cleared ≡ trivia_before goal s
    → IsBetweenGaps last here.place s.attachment.attached s.irregular_whitespaces
    (range_before goal s.pure_comments) (range_before goal s.no_side_effects_comments) cleared
between_is goal here last s cleared values sound e = record {
  attachment = ap (λ (u : Trivia). u.attachment) e ∙ sound.attachment;
  irregular = ap (λ (u : Trivia). u.irregular_whitespaces) e;
  pure_is = ap (λ (u : Trivia). u.pure_comments) e;
  no_side_effects_is = ap (λ (u : Trivia). u.no_side_effects_comments) e;
  held =
      subst (λ u. HeldBefore here.place u) (sym e)
      (let h = held_later (token_before last).start here.place s sound.held
      (omega (arith, starts_before_end here.text last sound.last_lies, sound.behind)) in
      record { comments = h.comments; irregular = h.irregular });
}

-- a lexer of these parts
abbrev pub state_of : Reader → FindingsBuilder → Option TokenParts → Values → LexerState
state_of r found last values = record {
  text = r.source.text;
  source_type = r.source_type;
  collects = false;
  place = r.source.place;
  last = last;
  tokens = [];
  free = 0;
  findings = findings_in found;
  pure_comments = found.trivia.pure_comments;
  no_side_effects_comments = found.trivia.no_side_effects_comments;
  decoded = values;
}

pub reader_is : (goal : Goal) (r : Reader) (found : FindingsBuilder) (last : Option TokenParts) (values : Values)
    (line_has_ended : Bool) (cleared : Trivia) → IsSound r.source last found.trivia values
    → cleared ≡ trivia_before goal found.trivia
    → IsReaderOf goal (state_of r found last values) (record r { line_has_ended = line_has_ended })
    (record found { trivia = cleared })
reader_is goal r found last values line_has_ended cleared sound e = record {
  source = record { text = refl; place = refl };
  source_type = refl;
  listed = refl;
  between = between_is goal r.source last found.trivia cleared values sound e;
}

-- a lexer that went back is sound, with more values
pub sound_back : (old new : At) (has_read : Bool) (trivia now : Trivia) (values more : Values) → new ≡ old
    → now ≡ trivia → IsSound old (last_read has_read trivia.attachment.previous) trivia values
    → AreValues old.text more → IsSound new (last_read has_read now.attachment.previous) now more
sound_back old new has_read trivia now values more same e sound are =
    subst (λ a. IsSound a (last_read has_read now.attachment.previous) now more) (sym same)
    (subst (λ (s : Trivia). IsSound old (last_read has_read s.attachment.previous) s more) (sym e)
    (record {
      last_lies = sound.last_lies;
      last_spelled = sound.last_spelled;
      behind = sound.behind;
      attachment = sound.attachment;
      held = sound.held;
      are_values = are;
    }))

-- the ends of a token that was read
pub read_places : (goal : Goal) (previous : Option TokenParts) (old : Reader) (token : TokenParts) (new : Reader)
    → IsUtf8 old.source.text → ReadsGoal goal previous old token new → IsOnPlaces old.source.text token
read_places goal previous old token new u r =
    let places = goal_reads_places old.source.text old.source_type goal previous old.source.place r.outcome u r.reads in
    let span = goal_reads_span old.source.text old.source_type goal previous old.source.place r.outcome u r.reads in
    subst (IsOnPlaces old.source.text) (sym r.token_is)
    (record { start = places.0; end = places.1; ordered = span.ordered })

-- and its spelling
read_spelling : (goal : Goal) (previous : Option TokenParts) (old : Reader) (token : TokenParts) (new : Reader)
    → ReadsGoal goal previous old token new → HasSpelling old.source.text token
read_spelling goal previous old token new r =
    subst (HasSpelling old.source.text) (sym r.token_is)
    (goal_reads_spelling old.source.text old.source_type goal previous old.source.place r.outcome r.reads)

-- what was told of the gap before it
pub told_of : (goal : Goal) (l : LexerState) (old : Reader) (before : FindingsBuilder) (token : TokenParts)
    (new : Reader)
    (after : FindingsBuilder) → IsReaderOf goal l old before → (r : ReadsWithGap goal l.last old before token new after)
    → AddsGap l.last l.source_type l.place r.read.outcome before after
told_of goal l old before token new after is r =
    subst (λ (n : ℕ). AddsGap l.last l.source_type n r.read.outcome before after) is.source.place
    (subst (λ t. AddsGap l.last t old.source.place r.read.outcome before after) is.source_type r.gap)

pub held_now : (goal : Goal) (l : LexerState) (old : Reader) (before : FindingsBuilder) (token : TokenParts)
    (new : Reader)
    (after : FindingsBuilder) → IsReaderOf goal l old before → (r : ReadsWithGap goal l.last old before token new after)
    → handle_token token after.trivia
    ≡ behind_token l.findings.comments l.findings.irregular (range_before goal l.pure_comments)
    (range_before goal l.no_side_effects_comments) r.read.outcome
held_now goal l old before token new after is r =
    ap (λ x. handle_token x after.trivia) r.read.token_is
    ∙ told l.last l.source_type l.place l.findings.comments l.findings.irregular (range_before goal l.pure_comments)
    (range_before goal l.no_side_effects_comments) r.read.outcome before after is.between
    (told_of goal l old before token new after is r)

-- a lexer behind a token is sound
sound_behind : (goal : Goal) (previous : Option TokenParts) (old : Reader) (token : TokenParts) (new : Reader)
    (trivia : Trivia) (values : Values) → IsUtf8 new.source.text
    → AreValues old.source.text values → ReadsGoal goal previous old token new
    → trivia.attachment ≡ between_gaps trivia.attachment.attached false token → HeldBefore token.start trivia
    → IsSound new.source (Some token) trivia values
sound_behind goal previous old token new trivia values u are r attachment held =
    let utf8 : IsUtf8 old.source.text = subst IsUtf8 r.text u in
    record {
      last_lies =
          subst (λ (text : List ℕ). IsOnPlaces text token) (sym r.text)
          (read_places goal previous old token new utf8 r);
      last_spelled =
          subst (λ (text : List ℕ). HasSpelling text token) (sym r.text)
          (read_spelling goal previous old token new r);
      behind = omega (arith, r.end);
      attachment = attachment;
      held = held;
      are_values = subst (λ text. AreValues text values) (sym r.text) are;
    }

-- and so after a reading with a gap
pub sound_after : (goal : Goal) (l : LexerState) (old : Reader) (before : FindingsBuilder) (token : TokenParts)
    (new : Reader) (after : FindingsBuilder) (trivia : Trivia) (values : Values) → IsUtf8 new.source.text
    → AreValues old.source.text values → IsReaderOf goal l old before
    → ReadsWithGap goal l.last old before token new after → trivia ≡ handle_token token after.trivia
    → IsSound new.source (Some trivia.attachment.previous) trivia values
sound_after goal l old before token new after trivia values u are is r e =
    let holds =
    behind_token l.findings.comments l.findings.irregular (range_before goal l.pure_comments)
    (range_before goal l.no_side_effects_comments) r.read.outcome in
    let now : trivia ≡ holds = e ∙ held_now goal l old before token new after is r in
    let held =
    held_before_token l.last l.source_type l.place l.findings.comments l.findings.irregular
    (range_before goal l.pure_comments) (range_before goal l.no_side_effects_comments) r.read.outcome before after
    is.between (told_of goal l old before token new after is r) in
    subst (λ t. IsSound new.source (Some t) trivia values) (sym (told_last token after.trivia trivia e))
    (sound_behind goal l.last old token new trivia values u are r.read
    (subst (λ s. s.attachment ≡ between_gaps s.attachment.attached false token) (sym now)
    (ap (between_gaps holds.attachment.attached false) (sym r.read.token_is)))
    (subst (λ s. HeldBefore token.start s) (sym now)
    (subst (λ (x : TokenParts). HeldBefore x.start holds) (sym r.read.token_is) held)))

-- a reading of a lexer's reader is one from the lexer's place
goal_of_lexer : (l : LexerState) (r : Reader) (before : FindingsBuilder) (new : Reader) (goal : Goal)
    (token : TokenParts) → IsReaderOf goal l r before → (reads : ReadsGoal goal l.last r token new)
    → GoalReads l.text l.source_type goal l.last l.place reads.outcome
goal_of_lexer l r before new goal token is reads =
    subst (λ s. GoalReads s l.source_type goal l.last l.place reads.outcome) is.source.text
    (subst (λ (n : ℕ). GoalReads r.source.text l.source_type goal l.last n reads.outcome) is.source.place
    (subst (λ t. GoalReads r.source.text t goal l.last r.source.place reads.outcome) is.source_type reads.reads))

-- what a reading gives
pub reads_outcome : (l : LexerState) (r : Reader) (before : FindingsBuilder) (new : Reader) (goal : Goal)
    (token : TokenParts) → IsUtf8 l.text → IsCharBoundary l.text l.place → IsReaderOf goal l r before → (reads : ReadsGoal goal l.last r token new)
    → ReadsOutcome goal l reads.outcome
reads_outcome l r before new goal token u b is reads =
    let here = goal_of_lexer l r before new goal token is reads in
    let places = goal_reads_places l.text l.source_type goal l.last l.place reads.outcome u here in
    let span = goal_reads_span l.text l.source_type goal l.last l.place reads.outcome u here in
    record {
      reads = here;
      onward = λ onward. reads_onward l.text l.source_type goal l.last l.place reads.outcome onward u b here;
      places = record { start = places.0; end = places.1; ordered = span.ordered };
      some_text = span.some_text;
      text_lies = goal_reads_text l.text l.source_type goal l.last l.place reads.outcome u here;
      spelling = goal_reads_spelling l.text l.source_type goal l.last l.place reads.outcome here;
    }

-- a reading, as contracts see it
pub reads_token : (old new : LexerState) (r : Reader) (before : FindingsBuilder) (reader : Reader)
    (after : FindingsBuilder)
    (trivia : Trivia) (goal : Goal) (token : TokenParts) (values : Values)
    → IsUtf8 old.text → IsCharBoundary old.text old.place → IsReaderOf goal old r before
    → ReadsWithGap goal old.last r before token reader after → trivia ≡ handle_token token after.trivia
    → Keeps old.decoded values → HasValue old.text values token
    → new ≡ record old {
      text = reader.source.text;
      source_type = reader.source_type;
      place = reader.source.place;
      last = Some trivia.attachment.previous;
      tokens = old.tokens ++ collected old.collects token;
      free = old.free - length (collected old.collects token);
      findings = findings_in (record after { trivia = trivia });
      pure_comments = trivia.pure_comments;
      no_side_effects_comments = trivia.no_side_effects_comments;
      decoded = values;
    }
    → ReadsToken goal old token new
reads_token old new r before reader after trivia goal token values u b is with_gap told kept has e =
    let reads = with_gap.read in
    let holds =
    behind_token old.findings.comments old.findings.irregular (range_before goal old.pure_comments)
    (range_before goal old.no_side_effects_comments) reads.outcome in
    let now : trivia ≡ holds = told ∙ held_now goal old r before token reader after is with_gap in
    let more = reads.outcome.findings in
    let found : findings_in (record after { trivia = trivia }) ≡ joined old.findings more =
    ap (λ (f : FindingsBuilder). findings_in (record f { trivia = trivia })) with_gap.gap.added
    ∙ ap (λ (s : Trivia). findings_in (record (lists_added more before) { trivia = s })) now
    ∙ ap (λ (f : Findings).
    record (joined f more) {
      comments = old.findings.comments ++ more.comments;
      irregular = old.findings.irregular ++ more.irregular;
    }) (sym is.listed) in
    record {
      outcome = reads.outcome;
      token_is = reads.token_is;
      reads = reads_outcome old r before reader goal token u b is reads;
      agrees = λ plain.
          agrees_with_grammar old.text old.source_type goal old.last old.place reads.outcome plain
          (goal_of_lexer old r before reader goal token is reads);
      after = record {
        text = ap (λ x. x.text) e ∙ reads.text ∙ is.source.text;
        source_type = ap (λ x. x.source_type) e ∙ reads.source_type ∙ is.source_type;
        collects = ap (λ x. x.collects) e;
        place = ap (λ x. x.place) e ∙ reads.end ∙ ap (λ x. x.end) reads.token_is;
        last =
            ap (λ x. x.last) e ∙ ap Some (told_last token after.trivia trivia told ∙ reads.token_is);
        tokens = ap (λ x. x.tokens) e ∙ ap (λ x. old.tokens ++ collected old.collects x) reads.token_is;
        findings = ap (λ x. x.findings) e ∙ found;
        pure_comments = ap (λ x. x.pure_comments) e ∙ ap (λ (s : Trivia). s.pure_comments) now;
        no_side_effects_comments =
            ap (λ x. x.no_side_effects_comments) e ∙ ap (λ (s : Trivia). s.no_side_effects_comments) now;
      };
      kept = subst (Keeps old.decoded) (sym (ap (λ x. x.decoded) e)) kept;
      has_value = subst (λ (v : Values). HasValue old.text v token) (sym (ap (λ x. x.decoded) e)) has;
    }

-- a lexer whose builder was told of a token that was read again
pub sound_again : (goal : Goal) (previous token : TokenParts) (old new : Reader) (trivia now : Trivia)
    (values more : Values) → IsUtf8 new.source.text → AreValues old.source.text more
    → ReadsGoal goal (Some previous) old token new → IsSound old.source (Some previous) trivia values
    → token.start ≡ previous.start → now ≡ handle_token token trivia
    → IsSound new.source (Some now.attachment.previous) now more
sound_again goal previous token old new trivia now values more u are r sound start e =
    let told : Trivia = record trivia { attachment = between_gaps trivia.attachment.attached false token } in
    let same : now ≡ told =
    e ∙ ap (λ a. record trivia { attachment = after_token token a }) sound.attachment
    ∙ ap (λ cs. record trivia { attachment = between_gaps cs false token }) (append-nil trivia.attachment.attached) in
    let comments =
    ap (λ (a : Attachment). is_past previous.start (comment_starts (held a))) (sym sound.attachment)
    ∙ sound.held.comments in
    subst (λ t. IsSound new.source (Some t) now more) (sym (told_last token trivia now e))
    (sound_behind goal (Some previous) old token new now more u are r
    (subst (λ s. s.attachment ≡ between_gaps s.attachment.attached false token) (sym same) refl)
    (subst (λ s. HeldBefore token.start s) (sym same)
    (subst (λ (n : ℕ). HeldBefore n told) (sym start)
    (record { comments = comments; irregular = sound.held.irregular }))))

-- what a builder between two gaps holds after it was told of a token again
pub told_again : (previous : Option TokenParts) (token : TokenParts) (trivia now : Trivia) (here : At) (values : Values)
    → IsSound here previous trivia values → now ≡ handle_token token trivia
    → (now.attachment.attached ≡ trivia.attachment.attached)
    × (now.irregular_whitespaces ≡ trivia.irregular_whitespaces) × (now.pure_comments ≡ trivia.pure_comments)
    × (now.no_side_effects_comments ≡ trivia.no_side_effects_comments)
told_again previous token trivia now here values sound e = (
  ap (λ (u : Trivia). u.attachment.attached) e
      ∙ ap (λ a. (after_token token a).attached) sound.attachment ∙ append-nil trivia.attachment.attached,
  ap (λ (u : Trivia). u.irregular_whitespaces) e,
  ap (λ (u : Trivia). u.pure_comments) e,
  ap (λ (u : Trivia). u.no_side_effects_comments) e,
)

-- a token that was read again, as contracts see it
abbrev pub reads_again : (old new : LexerState) (r : Reader) (goal : Goal) (token : TokenParts) (reader : Reader)
    (told later : List Diagnostic) (comments : List Comment) (last : TokenParts) (values : Values)
    → IsUtf8 old.text → StandsAt old r.source → r.source_type ≡ old.source_type
    → told ≡ old.findings.diagnostics → is_onward goal ≡ false
    → ReadsWithoutGap goal old.last r told token reader later → Keeps old.decoded values
    → HasValue old.text values token
    → comments ≡ old.findings.comments → last ≡ token
    → new ≡ record old {
      text = reader.source.text;
      source_type = reader.source_type;
      place = reader.source.place;
      last = Some last;
      tokens = if old.collects then with_last old.tokens token else old.tokens;
      findings = record old.findings { diagnostics = later; comments = comments };
      decoded = values;
    }
    → LexesAgain goal old token new
reads_again old new r goal token reader told later comments last values u source source_type errors again alone kept has
    same last_is e =
    let reads = alone.read in
    let here : GoalReads old.text old.source_type goal old.last old.place reads.outcome =
    subst (λ s. GoalReads s old.source_type goal old.last old.place reads.outcome) source.text
    (subst (λ (n : ℕ). GoalReads r.source.text old.source_type goal old.last n reads.outcome) source.place
    (subst (λ t. GoalReads r.source.text t goal old.last r.source.place reads.outcome) source_type reads.reads)) in
    let places = goal_reads_places old.text old.source_type goal old.last old.place reads.outcome u here in
    let span = goal_reads_span old.text old.source_type goal old.last old.place reads.outcome u here in
    let reported : later ≡ old.findings.diagnostics ++ reads.outcome.findings.diagnostics =
    alone.errors ∙ ap (λ es. es ++ reads.outcome.findings.diagnostics) errors in
    record {
      outcome = reads.outcome;
      token_is = reads.token_is;
      reads = record {
        reads = here;
        onward = λ onward. absurd (let no : true ≡ false = sym onward ∙ again in cc);
        places = record { start = places.0; end = places.1; ordered = span.ordered };
        some_text = span.some_text;
        text_lies = goal_reads_text old.text old.source_type goal old.last old.place reads.outcome u here;
        spelling = goal_reads_spelling old.text old.source_type goal old.last old.place reads.outcome here;
      };
      after = record {
        text = ap (λ x. x.text) e ∙ reads.text ∙ source.text;
        source_type = ap (λ x. x.source_type) e ∙ reads.source_type ∙ source_type;
        collects = ap (λ x. x.collects) e;
        place = ap (λ x. x.place) e ∙ reads.end ∙ ap (λ x. x.end) reads.token_is;
        last = ap (λ x. x.last) e ∙ ap Some (last_is ∙ reads.token_is);
        tokens =
            ap (λ x. x.tokens) e
            ∙ ap (λ x. if old.collects then with_last old.tokens x else old.tokens) reads.token_is;
        findings =
            ap (λ x. x.findings) e
            ∙ ap (λ cs. record old.findings { diagnostics = later; comments = cs }) same
            ∙ ap (λ es. record old.findings { diagnostics = es }) reported
            ∙ ap (λ (f : Findings).
            record f { diagnostics = old.findings.diagnostics ++ reads.outcome.findings.diagnostics })
            (sym (joined-none old.findings)) ∙ ap (joined old.findings) (sym alone.findings);
        pure_comments = ap (λ x. x.pure_comments) e;
        no_side_effects_comments = ap (λ x. x.no_side_effects_comments) e;
      };
      kept = subst (Keeps old.decoded) (sym (ap (λ x. x.decoded) e)) kept;
      has_value = subst (λ (v : Values). HasValue old.text v token) (sym (ap (λ x. x.decoded) e)) has;
    }

-- the `}` that a lexer stands behind, and what follows it
pub curly_here : (text : List ℕ) (last : Option TokenParts) (token : TokenParts) (place : ℕ) → last ≡ Some token
    → is_one_of (again_kinds TemplateTail) token.kind ≡ true → place ≡ token.end → IfSome last (HasSpelling text)
    → from_place text token.start ≡ right_curly_bracket ∷ from_place text place
curly_here text last token place is kind_is at spelled =
    subst (λ o. IfSome o (HasSpelling text)) is spelled (again_is_re_lexed TemplateTail token.kind kind_is)
    ∙ ap (λ k. kind_text k ++ from_place text token.end) (only_one token.kind RCurly kind_is)
    ∙ ap (λ n. right_curly_bracket ∷ from_place text n) (sym at)

-- a reading has moved its reader on
pub reads_moves_on : (goal : Goal) (previous : Option TokenParts) (old : Reader) (token : TokenParts) (new : Reader)
    → ReadsGoal goal previous old token new → MovesOn old new
reads_moves_on goal previous old token new r = record {
  text = r.text;
  source_type = r.source_type;
}

-- the front of a list that begins alike, with the last token in its place
pub put_back_last : (old now : List TokenParts) → BeginsAlike old now
    → put_back (take (length old) now) (last_or None old) ≡ old
put_back_last [] now h = refl
put_back_last (t ∷ ts) [] h = absurd (absent t ts h)
  where
    absent : (t : TokenParts) (ts : List TokenParts) → BeginsAlike (t ∷ ts) [] → ⊥
    absent t [] h = h
    absent t (u ∷ ts) h = h
put_back_last (t ∷ []) (n ∷ ns) h = refl
put_back_last (t ∷ u ∷ ts) (n ∷ []) h = absurd (absent u ts h.1)
  where
    absent : (t : TokenParts) (ts : List TokenParts) → BeginsAlike (t ∷ ts) [] → ⊥
    absent t [] h = h
    absent t (u ∷ ts) h = h
put_back_last (t ∷ u ∷ ts) (n ∷ m ∷ ns) h =
    front (last_or None (u ∷ ts)) (some_last u ts) (put_back_last (u ∷ ts) (m ∷ ns) h.1)
  where
    some_last : (u : TokenParts) (ts : List TokenParts) → (x : TokenParts) × (last_or None (u ∷ ts) ≡ Some x)
    some_last u [] = (u, refl)
    some_last u (v ∷ ts) = some_last v ts

    front : (o : Option TokenParts) → (x : TokenParts) × (o ≡ Some x) → put_back (m ∷ take (length ts) ns) o ≡ u ∷ ts
        → put_back (n ∷ m ∷ take (length ts) ns) o ≡ t ∷ u ∷ ts
    front None found e = absurd (let no = found.1 in cc)
    front (Some x) found e = ap (λ y. y ∷ with_last (m ∷ take (length ts) ns) x) h.0 ∙ ap (λ ys. t ∷ ys) e

-- going back to a checkpoint of an earlier state restores that state
pub rewound_is : (old now new : LexerState) (c : Checkpoint) → c ≡ checkpoint_of old → GoesOnFrom old now
    → new ≡ rewound now c → IsRestored old new
rewound_is old now new c e g r = record {
  text = ap (λ x. x.text) r ∙ g.text;
  source_type = ap (λ x. x.source_type) r ∙ g.source_type;
  collects = ap (λ x. x.collects) r ∙ g.collects;
  place = ap (λ x. x.place) r ∙ ap (λ x. x.place) e;
  last = ap (λ x. x.last) r ∙ ap (λ x. x.last) e;
  tokens =
      ap (λ x. x.tokens) r ∙ ap (λ x. put_back (take x.tokens now.tokens) x.last_collected) e
      ∙ put_back_last old.tokens now.tokens g.tokens;
  findings =
      ap (λ x. x.findings) r ∙ ap (λ x. put_errors_back x.errors (cut_to x.lengths now.findings)) e
      ∙ ap (cut_to (lengths_of old.findings)) g.goes_on ∙ cut_to-joined old.findings g.findings;
  pure_comments = ap (λ x. x.pure_comments) r ∙ ap (λ x. x.pure_comments) e;
  no_side_effects_comments = ap (λ x. x.no_side_effects_comments) r ∙ ap (λ x. x.no_side_effects_comments) e;
}

-- and so does going back to one with a copy of what was reported, whatever is left of that
pub recovered_is : (old now new : LexerState) (left : List Diagnostic) (c : Checkpoint)
    → c ≡ checkpoint_with_errors_of old → GoesOnFrom (with_diagnostics left old) now → new ≡ rewound now c
    → IsRestored old new
recovered_is old now new left c e g r = record {
  text = ap (λ x. x.text) r ∙ g.text;
  source_type = ap (λ x. x.source_type) r ∙ g.source_type;
  collects = ap (λ x. x.collects) r ∙ g.collects;
  place = ap (λ x. x.place) r ∙ ap (λ x. x.place) e;
  last = ap (λ x. x.last) r ∙ ap (λ x. x.last) e;
  tokens =
      ap (λ x. x.tokens) r ∙ ap (λ x. put_back (take x.tokens now.tokens) x.last_collected) e
      ∙ put_back_last old.tokens now.tokens g.tokens;
  findings =
      ap (λ x. x.findings) r ∙ ap (λ x. put_errors_back x.errors (cut_to x.lengths now.findings)) e
      ∙ ap (λ f. put_errors_back (Some old.findings.diagnostics) (cut_to (lengths_of old.findings) f)) g.goes_on
      ∙ cut_to-recovered old.findings g.findings left;
  pure_comments = ap (λ x. x.pure_comments) r ∙ ap (λ x. x.pure_comments) e;
  no_side_effects_comments = ap (λ x. x.no_side_effects_comments) r ∙ ap (λ x. x.no_side_effects_comments) e;
}

-- a checkpoint does not tell which classes the comments are of
checkpoint_of-marked : (l : LexerState) (marked : List Comment) → length marked ≡ length l.findings.comments
    → checkpoint_of l ≡ checkpoint_of (with_comments marked l)
checkpoint_of-marked l marked count =
    ap (λ n. record (checkpoint_of l) { lengths = record (lengths_of l.findings) { comments = n } }) (sym count)

-- going back leaves the comments that were there as they are by now
pub marked_is : (old now new : LexerState) (marked : List Comment) (c : Checkpoint) → c ≡ checkpoint_of old
    → length marked ≡ length old.findings.comments → GoesOnFrom (with_comments marked old) now → new ≡ rewound now c
    → IsRestored (with_comments marked old) new
marked_is old now new marked c e count g r =
    rewound_is (with_comments marked old) now new c (e ∙ checkpoint_of-marked old marked count) g r

pub begins_alike-append : (old more : List TokenParts) → BeginsAlike old (old ++ more)
begins_alike-append [] more = tt
begins_alike-append (t ∷ []) more = tt
begins_alike-append (t ∷ u ∷ ts) more = (refl, begins_alike-append (u ∷ ts) more)

-- a lexer that read a token went on from its state before
pub reading_goes_on : (goal : Goal) (old new : LexerState) (token : TokenParts) → ReadsToken goal old token new
    → GoesOnFrom old new
reading_goes_on goal old new token r = record {
  text = r.after.text;
  source_type = r.after.source_type;
  collects = r.after.collects;
  tokens =
      subst (BeginsAlike old.tokens) (sym r.after.tokens)
      (begins_alike-append old.tokens (collected old.collects r.outcome.token));
  findings = r.outcome.findings;
  goes_on = r.after.findings;
}

begins_alike-with_last : (ts : List TokenParts) (t : TokenParts) → BeginsAlike ts (with_last ts t)
begins_alike-with_last [] t = tt
begins_alike-with_last (a ∷ []) t = tt
begins_alike-with_last (a ∷ b ∷ ts) t = (refl, begins_alike-with_last (b ∷ ts) t)

pub begins_alike-replaced : (collects : Bool) (ts : List TokenParts) (t : TokenParts)
    → BeginsAlike ts (if collects then with_last ts t else ts)
begins_alike-replaced true ts t = begins_alike-with_last ts t
begins_alike-replaced false ts t = subst (BeginsAlike ts) (append-nil ts) (begins_alike-append ts [])

-- and so does a lexer that read a token again
pub re_lexing_goes_on : (goal : Goal) (old new : LexerState) (token : TokenParts) → LexesAgain goal old token new
    → GoesOnFrom old new
re_lexing_goes_on goal old new token r = record {
  text = r.after.text;
  source_type = r.after.source_type;
  collects = r.after.collects;
  tokens =
      subst (BeginsAlike old.tokens) (sym r.after.tokens)
      (begins_alike-replaced old.collects old.tokens r.outcome.token);
  findings = r.outcome.findings;
  goes_on = r.after.findings;
}

last_at : (t : TokenParts) (ts : List TokenParts) → slice_get (t ∷ ts) (length ts) ≡ last_or None (t ∷ ts)
last_at t [] = refl
last_at t (u ∷ ts) = last_at u ts

-- the last of a list
pub last_is : (ts : List TokenParts) → slice_get ts (length ts - 1) ≡ last_or None ts
last_is [] = refl
last_is (t ∷ ts) = let same : length (t ∷ ts) - 1 ≡ length ts = omega arith in
    ap (slice_get (t ∷ ts)) same ∙ last_at t ts

-- the last token, or the default one, lies on places
pub default_lies : (text : List ℕ) (last : Option TokenParts) → IsUtf8 text → IfSome last (IsOnPlaces text)
    → IsOnPlaces text (token_or_default last)
default_lies text None u h =
    record { start = IsCharBoundary-start text u; end = IsCharBoundary-start text u; ordered = omega arith }
default_lies text (Some token) u h = h
