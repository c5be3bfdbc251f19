-- The steps of a reading.
use Rattle.std.proofs.Common.{◌≡◌, ℕ, ◌≤◌, Bool, true, false, List, [], ◌∷◌, ◌++◌, refl, sym, ◌∙◌, ap}
use Rattle.std.proofs.Common.{◌+◌, ◌<◌, ◌&&◌, length, length-append, drop, arith, add-zero}
use Rattle.std.proofs.Common.{subst, append_assoc, append-nil, Option, Some, None}
use Rattle.std.specs.Prelude.{codes, is_some, IfOk, IsSome, OnErr, Result}
use Rattle.std.specs.Char.{encode_utf8}
use Rattle.std.proofs.lemmas.Str.{length-encode, len_utf8_bounds}
use Rattle.std.specs.declared.alloc.AllocError.{AllocError}
use Rattle.std.proofs.lemmas.Result.{IfOk-weaker, on_err_weaker}
use Rattle.std.specs.Str.{IsCharBoundary, encode_utf8_all}
use Rattle.js_text.specs.Characters.{from_place, from_first, is_line_terminator}
use Rattle.js_text.specs.SourceType.{is_module}
use Rattle.js_text.specs.declared.source_type.SourceType.{SourceType}
use Rattle.js_kind.specs.TokenParts.{TokenParts, default_parts}
use Rattle.js_kind.specs.declared.kind.Kind.{Kind}
use Rattle.js_kind.specs.declared.kind.Kind.TheVariants.{HashbangComment}
use Rattle.js_source.specs.Source.{At, rest}
use Rattle.js_text.specs.declared.diagnostic.Diagnostic.{Diagnostic}
use Rattle.js_grammar.specs.Gap.{Piece, WholeGap, is_prefix, is_reported, line_comment, whole_gap_piece, Pieces}
use Rattle.js_grammar.specs.Gap.PieceKind.{reported_comment}
use Rattle.js_grammar.specs.PieceItems.{items_of, piece_length}
use Rattle.js_grammar.specs.Goals.{ReadsHere, spelled_reading, token_alone, with_gap}
use Rattle.js_grammar.specs.Goals.{line_has_ended_behind, ReadsBehindGap, ReadsPlainly, GoalReads}
use Rattle.js_grammar.specs.Goals.ReadsHere.{spelled, recovers}
use Rattle.js_grammar.specs.Goals.ReadsPlainly.{hashbang, behind_gap}
use Rattle.js_grammar.specs.Hashbang.{begins_hashbang}
use Rattle.js_grammar.specs.Readings.{reading}
use Rattle.js_grammar.specs.Recovery.{faulty, recovered}
use Rattle.js_grammar.specs.Spelling.{NothingSpelled}
use Rattle.js_grammar.specs.declared.goal.Goal.{Goal}
use Rattle.js_grammar.specs.declared.goal.Goal.TheVariants.{First, Next, TemplateTail}
use Rattle.js_grammar.specs.declared.goal.Goal.TheVariants.{RegularExpression, RightAngle, TypeScriptLeftAngle}
use Rattle.js_grammar.specs.declared.goal.Goal.TheVariants.{TypeScriptRightAngle, JsxIdentifier, JsxChild}
use Rattle.js_grammar.specs.declared.goal.Goal.TheVariants.{JsxAttributeValue}
use Rattle.js_grammar.specs.Outcome.{Outcome, outcome_at, Findings, gap_findings, gap_deferred, gap_diagnostics}
use Rattle.js_grammar.specs.Outcome.{joined, reports}
use Rattle.js_grammar.specs.Reading.{place_behind, reported_at, size_of}
use Rattle.js_grammar.specs.Reads.{is_plain}
use Rattle.js_grammar.proofs.GapEnds.{reading_is_here}
use Rattle.js_grammar.proofs.Flags.{IsUnflagged, has_no_escape}
use Rattle.js_grammar.proofs.PieceLemmas.{from_first-hashbang}
use Rattle.js_grammar.proofs.SpellingClasses.{nothing_spelled}
use Rattle.js_grammar.proofs.Spans.{here_is_taken, taken_end, taken_span}
use Rattle.js_grammar.proofs.Tests.{prefix_of, prefix_is, and_true}
use Rattle.js_grammar.proofs.GapLemmas.{reported, unreported, piece_takes}
use Rattle.js_grammar.proofs.Reported.{piece_texts, whole_gap_piece_text, place_behind-append}
use Rattle.js_trivia.specs.Pieces.{HaveBytes, end_of}
use Rattle.js_spell.specs.Sequences.{TakesSequence}
use Rattle.js_reader.specs.Reader.{lexeme_of, StaysWithin, SkipsWholeGap, ReadsLexeme, ReadsBehind, IsHashbangRead}
use Rattle.js_reader.specs.Reader.{ReadsTokenHere, lexeme_token, ReadsWithGap, AddsGap, NothingHere}
use Rattle.js_reader.specs.Reader.{MovesOn, IsUnmoved, ReadsInPart}
use Rattle.js_reader.specs.Reader.{simple_lexeme}
use Rattle.js_reader.specs.Spellings.{SpellsLongest}
use Rattle.js_spell.specs.Recovery.{Recovers}
use Rattle.js_trivia.specs.Trivia.{calls}
use Rattle.js_reader.specs.Found.{lists_added}
use Rattle.js_reader.specs.declared.findings_builder.FindingsBuilder.{FindingsBuilder}
use Rattle.js_reader.proofs.TriviaSteps.{lists_gap, lists_none}
use Rattle.js_reader.specs.declared.lexeme.Lexeme.{Lexeme}
use Rattle.js_reader.specs.declared.reader.Reader.{Reader}
use Rattle.js_spell.specs.declared.recovery.Recovered.{Recovered}
use Rattle.js_reader.proofs.WholeSteps.{pieces_lead, line_shorter}

-- a spelling without a flag and a value was read
pub lexeme_spelled : (old new : Reader) (k : Kind) (l : Lexeme) → StaysWithin old new → IsUnflagged k
    → SpellsLongest old.source_type old.line_has_ended old.source new.source k
    → l ≡ simple_lexeme k new.line_has_ended → (errors : List Diagnostic) → ReadsLexeme old errors l new errors
lexeme_spelled old new k l within plain s is errors = record {
  text = s.text;
  source_type = within.source_type;
  reading = spelled_reading s.spelled (rest new.source) k;
  here = spelled s.spelled s.spelling refl;
  behind = refl;
  lexeme_is =
      is ∙ ap (simple_lexeme k) within.line_has_ended ∙ rw
      (has_no_escape k s.spelled plain.no_value, plain.no_number) refl;
  errors = sym (append-nil errors);
}

-- where nothing that is spelled begins, nothing is spelled
pub nothing_here : (t : SourceType) (line_has_ended : Bool) (here : List ℕ) → NothingHere t line_has_ended here
    → NothingSpelled t line_has_ended here
nothing_here t line_has_ended here n = nothing_spelled t line_has_ended here n.some n.no_named n.no_number
    n.no_quoted n.no_punctuator

-- Where nothing that is spelled begins behind a whole gap, something is read to recover.
pub recovers_some : (t : SourceType) (line_has_ended : Bool) (here : List ℕ)
    → whole_gap_piece t line_has_ended here ≡ None → NothingHere t line_has_ended here → IsSome (recovered here)
recovers_some t line_has_ended here gap n = by_reading (reading_is_here t line_has_ended here gap)
  where
    by_reading : ReadsHere t line_has_ended here (reading t line_has_ended here) → IsSome (recovered here)
    by_reading (spelled xs spelling is) =
        absurd (nothing_here t line_has_ended here n xs _ _ spelling.here spelling.spelling)
    by_reading (recovers nothing e) = ap is_some e

-- what was read to recover, and reported
pub lexeme_recovered : (old new : Reader) (before after : List Diagnostic) (r : Recovered)
    → Recovers old.line_has_ended old.source r new.source
    → NothingHere old.source_type old.line_has_ended (rest old.source)
    → new.source_type ≡ old.source_type → after ≡ before ++ r.diagnostic ∷ []
    → ReadsLexeme old before
    (record { kind = r.kind; is_on_new_line = r.is_on_new_line; escaped = false; has_separator = false }) new after
lexeme_recovered old new before after r rec nothing source_type errors = record {
  text = rec.text;
  source_type = source_type;
  reading = record (faulty r.kind (rest old.source) (rest new.source) rec.fault) { line_ended = rec.line_ended };
  here = recovers (nothing_here old.source_type old.line_has_ended (rest old.source) nothing) rec.recovery;
  behind = refl;
  lexeme_is = rw rec.line refl;
  errors = errors ∙ ap (λ d. before ++ d ∷ []) rec.reported;
}

-- What was read leads on: by its size.
pub lexeme_onward : {before after : List Diagnostic} {l : Lexeme} (old new : Reader)
    → ReadsLexeme old before l new after → old.source.place ≤ new.source.place
lexeme_onward old new r =
    let there : IsCharBoundary old.source.text new.source.place =
    subst (λ (u : List ℕ). IsCharBoundary u new.source.place) r.text new.source.placed.boundary in
    (taken_span old.source.text old.source.place new.source.place r.reading old.source.placed.utf8
    old.source.placed.boundary there (r.behind ∙ ap (λ u. from_place u new.source.place) r.text)
    (here_is_taken old.source_type old.line_has_ended (rest old.source) r.reading r.here)).0

-- the pieces of a gap have bytes
some_bytes : (xs : List ℕ) → 1 ≤ length xs → 1 ≤ length (encode_utf8_all xs)
some_bytes [] h = h
some_bytes (c ∷ cs) h =
    omega (arith, length-append (encode_utf8 c) (encode_utf8_all cs), length-encode c, (len_utf8_bounds c).0)

shorter_has : (cs : List ℕ) (x : Piece) → cs ≡ x.text ++ x.rest → length x.rest < length cs → 1 ≤ piece_length x
shorter_has cs x e h = some_bytes x.text (omega (arith, h, ap length e, length-append x.text x.rest))

piece_has_bytes : (t : SourceType) (line_has_ended : Bool) (cs : List ℕ) (x : Piece)
    → whole_gap_piece t line_has_ended cs ≡ Some x → 1 ≤ piece_length x
piece_has_bytes t line_has_ended cs x e = by_test (is_reported t line_has_ended cs) refl
  where
    by_test : (b : Bool) → is_reported t line_has_ended cs ≡ b → 1 ≤ piece_length x
    by_test true r =
        let both = and_true (is_prefix (codes "<!--") cs) (is_module t && line_has_ended) r in
        let found : Some (line_comment reported_comment line_has_ended cs) ≡ Some x =
        sym (reported t line_has_ended cs r) ∙ e in
        let same : line_comment reported_comment line_has_ended cs ≡ x = cc in
        shorter_has cs x (whole_gap_piece_text t line_has_ended cs x e)
        (line_shorter cs x.rest (drop 4 cs) (prefix_is (codes "<!--") cs both.0) (ap (λ z. z.rest) (sym same)))
    by_test false r =
        shorter_has cs x (whole_gap_piece_text t line_has_ended cs x e)
        (piece_takes t line_has_ended cs x (sym (unreported t line_has_ended cs r) ∙ e))

pieces_have_bytes : (t : SourceType) (line_had_ended : Bool) (cs : List ℕ) (xs : List Piece) (line_has_ended : Bool)
    (left : List ℕ) → Pieces (whole_gap_piece t) line_had_ended cs xs line_has_ended left → HaveBytes xs
pieces_have_bytes t line_had_ended cs [] line_has_ended left h = tt
pieces_have_bytes t line_had_ended cs (x ∷ xs) line_has_ended left h = (
  piece_has_bytes t line_had_ended cs x h.0,
  pieces_have_bytes t x.line_has_ended x.rest xs line_has_ended left h.1,
)

ends_behind : (place : ℕ) (xs : List Piece) → end_of place xs ≡ place_behind place (piece_texts xs)
ends_behind place [] = sym (add-zero place)
ends_behind place (x ∷ xs) =
    ends_behind (place + piece_length x) xs ∙ place_behind-append place x.text (piece_texts xs)

-- the whole gap that was skipped, in the text before it
pub gap_to : (previous : Option TokenParts) (old : Reader) (before : FindingsBuilder) (mid : Reader)
    (after : FindingsBuilder)
    → line_has_ended_behind previous ≡ old.line_has_ended → (gap : SkipsWholeGap old before mid after)
    → WholeGap old.source_type (line_has_ended_behind previous) (from_place old.source.text old.source.place)
    gap.skips.pieces mid.line_has_ended (from_place old.source.text mid.source.place)
gap_to previous old before mid after first gap =
    let t = old.source_type in
    let start = mid.source.place in
    let pieces = gap.skips.pieces in
    record {
      pieces_are =
          subst (λ b. Pieces (whole_gap_piece t) b (rest old.source) pieces mid.line_has_ended
          (from_place old.source.text start)) (sym first)
          (subst
          (λ (u : List ℕ). Pieces (whole_gap_piece t) old.line_has_ended
          (rest old.source) pieces mid.line_has_ended (from_place u start)) gap.skips.text gap.skips.pieces_are);
      longest =
          subst (λ (u : List ℕ). whole_gap_piece t mid.line_has_ended (from_place u start) ≡ None) gap.skips.text
          (subst
          (λ s. whole_gap_piece s mid.line_has_ended (rest mid.source) ≡ None) gap.skips.source_type
          gap.longest);
    }

-- and what was told of it, where a token behind it starts there, and nothing else was found but what is reported
pub gap_told : (previous : Option TokenParts) (old : Reader) (before : FindingsBuilder) (mid : Reader)
    (told : FindingsBuilder) (outcome : Outcome) (ds later : List Diagnostic)
    → (gap : SkipsWholeGap old before mid told) → outcome.token.start ≡ mid.source.place
    → outcome.findings
    ≡ joined (gap_findings old.source_type previous old.source.place gap.skips.pieces outcome.token) (reports ds)
    → later ≡ told.errors ++ ds
    → AddsGap previous old.source_type old.source.place outcome before (record told { errors = later })
gap_told previous old before mid told outcome ds later gap start found reports =
    let t = old.source_type in
    let pieces = gap.skips.pieces in
    let findings = gap_findings t previous old.source.place pieces outcome.token in
    let errors = gap_diagnostics old.source.place pieces in
    let deferred = gap_deferred t old.source.place pieces in
    let trivia = calls (items_of old.source.place pieces) before.trivia in
    record {
      pieces = pieces;
      have_bytes =
          pieces_have_bytes t old.line_has_ended (rest old.source) pieces mid.line_has_ended (rest mid.source)
          gap.skips.pieces_are;
      up_to =
          omega (arith, start, ends_behind old.source.place pieces, pieces_lead false old before mid told gap.skips);
      comments = ap (λ (x : Findings). x.comments) found ∙ append-nil findings.comments;
      irregular = ap (λ (x : Findings). x.irregular) found ∙ append-nil findings.irregular;
      added =
          ap (λ es. record told { errors = es }) reports
          ∙ ap (λ (h : FindingsBuilder). record h { errors = h.errors ++ ds }) gap.skips.adds
          ∙ ap (λ es. record before { errors = es; deferred = before.deferred ++ deferred; trivia = trivia })
          (append_assoc before.errors errors ds)
          ∙ ap (λ es. record before {
            errors = before.errors ++ (errors ++ ds);
            deferred = before.deferred ++ es;
            trivia = trivia;
          }) (sym (append-nil deferred))
          ∙ lists_gap (errors ++ ds) (deferred ++ []) trivia before
          ∙ ap (λ (more : Findings). record (lists_added more before) { trivia = trivia }) (sym found);
    }

-- the place behind the token that was read here
pub token_end : {mid new : Reader} {before after : List Diagnostic} {token : TokenParts}
    → (there : ReadsTokenHere mid before token new after)
    → new.source.place ≡ mid.source.place + size_of there.reads.reading
token_end {mid} {new} there =
    let read = there.reads in
    taken_end mid.source.text mid.source.place new.source.place read.reading mid.source.placed.utf8
    mid.source.placed.boundary
    (subst (λ (u : List ℕ). IsCharBoundary u new.source.place) read.text new.source.placed.boundary)
    (read.behind ∙ ap (λ u. from_place u new.source.place) read.text)
    (here_is_taken mid.source_type mid.line_has_ended (rest mid.source) read.reading read.here)

-- the token that stands behind a whole gap
abbrev pub token_behind : (previous : Option TokenParts) (old : Reader) (before : FindingsBuilder) (mid : Reader)
    (told : FindingsBuilder) (new : Reader) (later : List Diagnostic) (token : TokenParts)
    → line_has_ended_behind previous ≡ old.line_has_ended
    → SkipsWholeGap old before mid told → ReadsTokenHere mid told.errors token new later
    → ReadsBehind previous old before token new (record told { errors = later })
token_behind previous old before mid told new later token first gap there =
    let read = there.reads in
    let text : new.source.text ≡ old.source.text = read.text ∙ gap.skips.text in
    let start = mid.source.place in
    let end = token_end there in
    let pieces = gap.skips.pieces in
    let t = old.source_type in
    let outcome =
    with_gap t previous old.source.place pieces (outcome_at mid.line_has_ended start read.reading) in
    record {
      text = text;
      source_type = read.source_type ∙ gap.skips.source_type;
      end = ap (λ x. x.end) (sym there.token_is);
      outcome = outcome;
      token_is =
          there.token_is ∙ ap (lexeme_token start new.source.place) read.lexeme_is
          ∙ ap (λ n. lexeme_token start n (lexeme_of mid.line_has_ended read.reading)) end;
      reads = record {
        pieces = pieces;
        line_has_ended = mid.line_has_ended;
        gap = gap_to previous old before mid told first gap;
        start = subst (λ (u : List ℕ). IsCharBoundary u start) gap.skips.text mid.source.placed.boundary;
        end =
            subst (IsCharBoundary old.source.text) end
            (subst (λ (u : List ℕ). IsCharBoundary u new.source.place) text new.source.placed.boundary);
        reading = read.reading;
        here =
            subst
            (λ s. ReadsHere s mid.line_has_ended (from_place old.source.text start) read.reading)
            gap.skips.source_type
            (subst
            (λ (u : List ℕ). ReadsHere mid.source_type mid.line_has_ended (from_place u start) read.reading)
            gap.skips.text read.here);
        rest =
            read.behind ∙ ap (λ u. from_place u new.source.place) text ∙ ap (from_place old.source.text) end;
        outcome_is = refl;
      };
      gap =
          gap_told previous old before mid told outcome (reported_at start read.reading) later gap refl refl
          read.errors;
    }

begins_at_start : (text : List ℕ) (place : ℕ) → place ≡ 0
    → begins_hashbang First text place ≡ is_prefix (codes "#!") (from_place text 0)
begins_at_start text place e = rw e refl

pub hashbang_read : (old new : Reader) (mid : At) (token : TokenParts) (end : ℕ) → old.source.place ≡ 0
    → StaysWithin old new → TakesSequence (codes "#!") old.source true mid
    → new.source.text ≡ mid.text → rest new.source ≡ from_first is_line_terminator (rest mid) → end ≡ new.source.place
    → token
    ≡ record default_parts { start = 0; end = end; kind = HashbangComment; is_on_new_line = new.line_has_ended }
    → IsHashbangRead old token new
hashbang_read old new mid token end start within takes same to f e =
    let text : new.source.text ≡ old.source.text = same ∙ takes.0 in
    let here : from_place old.source.text 0 ≡ codes "#!" ++ rest mid =
    ap (from_place old.source.text) (sym start) ∙ takes.1 in
    let up_to : from_place old.source.text end ≡ from_first is_line_terminator (from_place old.source.text 0) =
    ap (from_place old.source.text) f ∙ ap (λ u. from_place u new.source.place) (sym text) ∙ to
    ∙ sym (ap (from_first is_line_terminator) here ∙ from_first-hashbang (rest mid)) in
    let boundary : IsCharBoundary old.source.text end =
    subst (λ (n : ℕ). IsCharBoundary old.source.text n) (sym f)
    (subst (λ (u : List ℕ). IsCharBoundary u new.source.place) text new.source.placed.boundary) in
    let made : TokenParts =
    record default_parts { start = 0; end = end; kind = HashbangComment; is_on_new_line = new.line_has_ended } in
    let whole : IsHashbangRead old made new = record {
      text = text;
      within = within;
      end = sym f;
      at_start = start;
      begins =
          begins_at_start old.source.text old.source.place start ∙ ap (is_prefix (codes "#!")) here
          ∙ prefix_of (codes "#!") (rest mid);
      is_hashbang = record { kind = refl; start = refl; end = boundary; up_to_line_end = up_to };
      is_on_new_line = within.line_has_ended;
      escaped = refl;
      has_separator = refl;
    } in
    subst (λ (u : TokenParts). IsHashbangRead old u new) (sym e) whole

-- the two ways to read a goal
pub goal_hashbang : (previous : Option TokenParts) (old new : Reader) (found : FindingsBuilder) (token : TokenParts)
    → line_has_ended_behind previous ≡ old.line_has_ended → IsHashbangRead old token new
    → ReadsWithGap First previous old found token new found
goal_hashbang previous old new found token line_has_ended h = record {
  read = record {
    text = h.text;
    source_type = h.within.source_type;
    end = h.end;
    outcome = token_alone token;
    token_is = refl;
    reads =
        hashbang h.begins record {
          is_hashbang = h.is_hashbang;
          is_on_new_line = h.is_on_new_line ∙ sym line_has_ended;
          escaped = h.escaped;
          has_separator = h.has_separator;
          alone = refl;
        };
  };
  gap = record {
    pieces = [];
    have_bytes = tt;
    up_to = omega (arith, h.at_start);
    comments = refl;
    irregular = refl;
    added = lists_none found;
  };
}

plainly : (text : List ℕ) (t : SourceType) (goal : Goal) (before : Option TokenParts) (place : ℕ) (o : Outcome)
    → is_plain goal ≡ true → ReadsPlainly text t goal before place o → GoalReads text t goal before place o
plainly text t First before place o plain reads = reads
plainly text t Next before place o plain reads = reads
plainly text t TemplateTail before place o plain reads = absurd (cc)
plainly text t RegularExpression before place o plain reads = absurd (cc)
plainly text t RightAngle before place o plain reads = absurd (cc)
plainly text t TypeScriptLeftAngle before place o plain reads = absurd (cc)
plainly text t TypeScriptRightAngle before place o plain reads = absurd (cc)
plainly text t JsxIdentifier before place o plain reads = absurd (cc)
plainly text t JsxChild before place o plain reads = absurd (cc)
plainly text t JsxAttributeValue before place o plain reads = absurd (cc)

pub goal_behind : (goal : Goal) (previous : Option TokenParts) (old : Reader) (before : FindingsBuilder)
    (token : TokenParts) (new : Reader) (after : FindingsBuilder) → is_plain goal ≡ true
    → begins_hashbang goal old.source.text old.source.place ≡ false
    → ReadsBehind previous old before token new after → ReadsWithGap goal previous old before token new after
goal_behind goal previous old before token new after plain none b = record {
  read = record {
    text = b.text;
    source_type = b.source_type;
    end = b.end;
    outcome = b.outcome;
    token_is = b.token_is;
    reads =
        plainly old.source.text old.source_type goal previous old.source.place b.outcome plain
        (behind_gap none b.reads);
  };
  gap = b.gap;
}

-- a reading from a reader that has not moved is one from the reader before
pub lexeme_from : {before after : List Diagnostic} (old mid new : Reader) (l : Lexeme) → IsUnmoved old mid
    → ReadsLexeme mid before l new after → ReadsLexeme old before l new after
lexeme_from {before} old mid new l same r = record {
  text = r.text ∙ ap (λ s. s.text) same.source;
  source_type = r.source_type ∙ same.stays.source_type;
  reading = r.reading;
  here = moved same.stays.source_type same.stays.line_has_ended same.source r.here;
  behind = r.behind;
  lexeme_is = r.lexeme_is ∙ ap (λ b. lexeme_of b r.reading) same.stays.line_has_ended;
  errors = r.errors ∙ ap (λ (a : At). before ++ reported_at a.place r.reading) same.source;
}
  where
    moved : mid.source_type ≡ old.source_type → mid.line_has_ended ≡ old.line_has_ended → mid.source ≡ old.source
        → ReadsHere mid.source_type mid.line_has_ended (rest mid.source) r.reading
        → ReadsHere old.source_type old.line_has_ended (rest old.source) r.reading
    moved e f g h =
        subst (λ t. ReadsHere t old.line_has_ended (rest old.source) r.reading) e
        (subst (λ b. ReadsHere mid.source_type b (rest old.source) r.reading) f
        (subst (λ (a : At). ReadsHere mid.source_type mid.line_has_ended (rest a) r.reading) g h))

pub moves_on_from : (old mid new : Reader) → IsUnmoved old mid → MovesOn mid new → MovesOn old new
moves_on_from old mid new same m = record {
  text = m.text ∙ ap (λ s. s.text) same.source;
  source_type = m.source_type ∙ same.stays.source_type;
}

-- and so for what a call answers
pub answers_from : (before after : List Diagnostic) (old mid new : Reader) (r : Result Lexeme AllocError)
    → IsUnmoved old mid → IfOk r (λ l. ReadsLexeme mid before l new after)
    → IfOk r (λ l. ReadsLexeme old before l new after)
answers_from before after old mid new r same h =
    IfOk-weaker r (λ l. ReadsLexeme mid before l new after) (λ l. ReadsLexeme old before l new after)
    (λ l x. lexeme_from old mid new l same x) h

pub fails_from : (before after : List Diagnostic) (old mid new : Reader) (r : Result Lexeme AllocError)
    → IsUnmoved old mid → OnErr r (ReadsInPart mid before new after) → OnErr r (ReadsInPart old before new after)
fails_from before after old mid new r same h =
    on_err_weaker r (λ p. record { moves = moves_on_from old mid new same p.moves; errors = p.errors }) h

-- a token behind a whole gap, from a reader that has not moved
behind_from : (previous : Option TokenParts) (old mid : Reader) (before : FindingsBuilder) (token : TokenParts)
    (new : Reader) (after : FindingsBuilder) → IsUnmoved old mid → ReadsBehind previous mid before token new after
    → ReadsBehind previous old before token new after
behind_from previous old mid before token new after same b = record {
  text = b.text ∙ ap (λ s. s.text) same.source;
  source_type = b.source_type ∙ same.stays.source_type;
  end = b.end;
  outcome = b.outcome;
  token_is = b.token_is;
  reads =
      subst (λ t. ReadsBehindGap old.source.text t previous old.source.place b.outcome) same.stays.source_type
      (subst (λ (a : At). ReadsBehindGap a.text mid.source_type previous a.place b.outcome) same.source b.reads);
  gap =
      subst (λ t. AddsGap previous t old.source.place b.outcome before after) same.stays.source_type
      (subst (λ (a : At). AddsGap previous mid.source_type a.place b.outcome before after) same.source b.gap);
}

-- what a goal answers where no hashbang stands
pub goal_answers : (goal : Goal) (old mid : Reader) (before : FindingsBuilder) (new : Reader) (after : FindingsBuilder)
    (r : Result TokenParts AllocError) → IsUnmoved old mid
    → is_plain goal ≡ true → begins_hashbang goal old.source.text old.source.place ≡ false
    → IfOk r
    (λ token. (previous : Option TokenParts) → line_has_ended_behind previous ≡ mid.line_has_ended
    → ReadsBehind previous mid before token new after)
    → IfOk r
    (λ token. (previous : Option TokenParts) → line_has_ended_behind previous ≡ old.line_has_ended
    → ReadsWithGap goal previous old before token new after)
goal_answers goal old mid before new after r same plain none h =
    IfOk-weaker r
    (λ token. (previous : Option TokenParts) → line_has_ended_behind previous ≡ mid.line_has_ended
    → ReadsBehind previous mid before token new after)
    (λ token. (previous : Option TokenParts) → line_has_ended_behind previous ≡ old.line_has_ended
    → ReadsWithGap goal previous old before token new after)
    (λ token b previous line_has_ended. goal_behind goal previous old before token new after plain none
    (behind_from previous old mid before token new after same
    (b previous (line_has_ended ∙ sym same.stays.line_has_ended)))) h

-- a token before a place where a line has ended or not
pub some_token_before : (line_has_ended : Bool)
    → (previous : Option TokenParts) × (line_has_ended_behind previous ≡ line_has_ended)
some_token_before true = (None, refl)
some_token_before false = (Some default_parts, refl)
