-- What is read by the characters alone, and what comes of it at a place.
use Rattle.std.proofs.Common.{◌≡◌, ℕ, ◌+◌, Bool, List, [], ◌∷◌, ◌++◌, refl, sym, ◌∙◌, ap}
use Rattle.std.proofs.Common.{subst, arith, length-append, Option, Some, None}
use Rattle.std.specs.Option.{option_map}
use Rattle.std.specs.Char.{encode_utf8, len_utf8}
use Rattle.std.specs.Str.{IsCharBoundary, IsUtf8, encode_utf8_all}
use Rattle.std.proofs.lemmas.List.{map-append}
use Rattle.std.proofs.lemmas.Str.{length-encode}
use Rattle.js_text.specs.Characters.{from_place}
use Rattle.js_text.specs.declared.reg_exp_flags.RegexInfo.{RegexInfo}
use Rattle.js_text.specs.declared.source_type.SourceType.{SourceType}
use Rattle.js_text.specs.declared.value.RowValue.{RowValue}
use Rattle.js_text.specs.declared.value.RowValue.TheVariants.{Bad, Nothing, Slice, Units}
use Rattle.js_text.proofs.TextLemmas.{past_character, place_past}
use Rattle.js_kind.specs.TokenParts.{TokenParts}
use Rattle.js_grammar.specs.Gap.{Piece, WholeGap}
use Rattle.js_grammar.specs.Goals.{ReadsBehindGap, ReadsFrom, ReadsHere, line_has_ended_behind, with_gap}
use Rattle.js_grammar.specs.Moved.{moved_comment, moved_findings, moved_outcome, moved_token}
use Rattle.js_grammar.specs.Outcome.{Findings, Outcome, gap_findings, joined, outcome_at}
use Rattle.js_grammar.specs.Reading.{Reading, moved_diagnostic, moved_regex, moved_span, moved_value, place_behind}
use Rattle.js_grammar.specs.Reading.{size_of}
use Rattle.js_grammar.proofs.Moved.{behind_moved, moved_twice}
use Rattle.js_grammar.proofs.MovedGaps.{gap_findings_moved}
use Rattle.js_grammar.proofs.ReadingLemmas.{IsTaken}
use Rattle.js_grammar.proofs.Reported.{piece_texts, pieces_text}
use Rattle.js_grammar.proofs.Spans.{here_is_taken}

-- the place behind characters, and what stands there
pub behind_characters : (text : List ℕ) (p : ℕ) (xs ys : List ℕ) → IsUtf8 text → IsCharBoundary text p
    → from_place text p ≡ xs ++ ys
    → IsCharBoundary text (place_behind p xs) × (from_place text (place_behind p xs) ≡ ys)
behind_characters text p [] ys u b e =
    let same : p ≡ place_behind p [] = omega arith in
    subst (λ (n : ℕ). IsCharBoundary text n × (from_place text n ≡ ys)) same (b, e)
behind_characters text p (x ∷ xs) ys u b e =
    let next = past_character text p x (xs ++ ys) u b e in
    let same : place_behind (p + len_utf8 x) xs ≡ place_behind p (x ∷ xs) =
    omega (arith, length-append (encode_utf8 x) (encode_utf8_all xs), length-encode x) in
    subst (λ (n : ℕ). IsCharBoundary text n × (from_place text n ≡ ys)) same
    (behind_characters text (p + len_utf8 x) xs ys u next.0 next.1)

-- A gap, and what is read behind it.
pub record ReadParts : Type 0 where
  pub pieces : List Piece
  pub line_has_ended : Bool
  pub reading : Reading

-- what comes of it at a place
abbrev pub outcome_of : SourceType → Option TokenParts → ℕ → ReadParts → Outcome
outcome_of t before place r =
    with_gap t before place r.pieces
    (outcome_at r.line_has_ended (place_behind place (piece_texts r.pieces)) r.reading)

-- an outcome further on
value_moved : (by place : ℕ) (v : RowValue) → moved_value (by + place) v ≡ moved_value by (moved_value place v)
value_moved by place Nothing = refl
value_moved by place (Slice s) =
    let start : (by + place) + s.start ≡ by + (place + s.start) = omega arith in
    let end : (by + place) + s.end ≡ by + (place + s.end) = omega arith in
    rw (start, end) refl
value_moved by place (Units us) = refl
value_moved by place Bad = refl

regex_moved : (by place : ℕ) (info : Option RegexInfo)
    → option_map (moved_regex (by + place)) info ≡ option_map (moved_regex by) (option_map (moved_regex place) info)
regex_moved by place None = refl
regex_moved by place (Some info) =
    let end : (by + place) + info.pattern_end ≡ by + (place + info.pattern_end) = omega arith in rw end refl

pub outcome_moved : (by : ℕ) (line_has_ended : Bool) (place : ℕ) (r : Reading)
    → outcome_at line_has_ended (by + place) r ≡ moved_outcome by (outcome_at line_has_ended place r)
outcome_moved by line_has_ended place r =
    let end : (by + place) + size_of r ≡ by + (place + size_of r) = omega arith in
    rw (
      end,
      value_moved by place r.value,
      regex_moved by place r.regex,
      sym (moved_twice by place r.diagnostics),
    ) refl

joined_moved : (by : ℕ) (a b : Findings)
    → joined (moved_findings by a) (moved_findings by b) ≡ moved_findings by (joined a b)
joined_moved by a b =
    rw (
      map-append (moved_diagnostic by) a.diagnostics b.diagnostics,
      map-append (moved_diagnostic by) a.deferred b.deferred,
      map-append (moved_comment by) a.comments b.comments,
      map-append (moved_span by) a.irregular b.irregular,
      map-append (moved_span by) a.warnings b.warnings,
    ) refl

gap_moved : (by : ℕ) (t : SourceType) (before : Option TokenParts) (place : ℕ) (pieces : List Piece) (o : Outcome)
    → with_gap t (option_map (moved_token by) before) (by + place) pieces (moved_outcome by o)
    ≡ moved_outcome by (with_gap t before place pieces o)
gap_moved by t before place pieces o =
    ap (λ (f : Findings). record (moved_outcome by o) { findings = joined f (moved_findings by o.findings) })
    (gap_findings_moved by t before place pieces o.token)
    ∙ ap (λ (f : Findings). record (moved_outcome by o) { findings = f })
    (joined_moved by (gap_findings t before place pieces o.token) o.findings)

pub outcome_of_moved : (by : ℕ) (t : SourceType) (before : Option TokenParts) (place : ℕ) (r : ReadParts)
    → outcome_of t (option_map (moved_token by) before) (by + place) r ≡ moved_outcome by (outcome_of t before place r)
outcome_of_moved by t before place r =
    let start = place_behind place (piece_texts r.pieces) in
    ap (λ (n : ℕ). with_gap t (option_map (moved_token by) before) (by + place) r.pieces
    (outcome_at r.line_has_ended n r.reading)) (behind_moved by place (piece_texts r.pieces))
    ∙ ap (with_gap t (option_map (moved_token by) before) (by + place) r.pieces)
    (outcome_moved by r.line_has_ended start r.reading)
    ∙ gap_moved by t before place r.pieces (outcome_at r.line_has_ended start r.reading)

-- These characters begin with the gap, and behind it this is read.
pub record BehindGap (t : SourceType) (line_has_ended : Bool) (here : List ℕ) (r : ReadParts) : Type 0 where
  pub left : List ℕ
  pub gap : WholeGap t line_has_ended here r.pieces r.line_has_ended left
  pub read : ReadsHere t r.line_has_ended left r.reading

-- where the pieces of a gap end
pub gap_end : (text : List ℕ) (t : SourceType) (line_has_ended has : Bool) (place start : ℕ) (pieces : List Piece)
    → IsUtf8 text → IsCharBoundary text place → IsCharBoundary text start
    → WholeGap t line_has_ended (from_place text place) pieces has (from_place text start)
    → start ≡ place_behind place (piece_texts pieces)
gap_end text t line_has_ended has place start pieces u b d gap =
    place_past text place start (piece_texts pieces) u b d
    (pieces_text t line_has_ended (from_place text place) pieces has (from_place text start) gap.pieces_are)

-- what is read behind a gap, by its characters
pub gap_parts : (text : List ℕ) (t : SourceType) (before : Option TokenParts) (place : ℕ) (o : Outcome) → IsUtf8 text
    → IsCharBoundary text place → ReadsBehindGap text t before place o
    → (r : ReadParts) × BehindGap t (line_has_ended_behind before) (from_place text place) r
    × (o ≡ outcome_of t before place r)
gap_parts text t before place o u b reads =
    let start =
    gap_end text t (line_has_ended_behind before) reads.line_has_ended place o.token.start reads.pieces u b reads.start
    reads.gap in (
      record { pieces = reads.pieces; line_has_ended = reads.line_has_ended; reading = reads.reading },
      record { left = from_place text o.token.start; gap = reads.gap; read = reads.here },
      reads.outcome_is
          ∙ ap (λ (n : ℕ). with_gap t before place reads.pieces (outcome_at reads.line_has_ended n reads.reading)) start,
    )

-- and at a place from which they stand
pub gap_at : (text : List ℕ) (t : SourceType) (before : Option TokenParts) (place : ℕ) (r : ReadParts) → IsUtf8 text
    → IsCharBoundary text place → BehindGap t (line_has_ended_behind before) (from_place text place) r
    → ReadsBehindGap text t before place (outcome_of t before place r)
gap_at text t before place r u b reads =
    let start = place_behind place (piece_texts r.pieces) in
    let there =
    behind_characters text place (piece_texts r.pieces) reads.left u b
    (pieces_text t (line_has_ended_behind before) (from_place text place) r.pieces r.line_has_ended reads.left
    reads.gap.pieces_are) in
    let end =
    behind_characters text start r.reading.taken r.reading.rest u there.0
    (there.1 ∙ (here_is_taken t r.line_has_ended reads.left r.reading reads.read).here) in
    record {
      pieces = r.pieces;
      line_has_ended = r.line_has_ended;
      gap =
          subst (WholeGap t (line_has_ended_behind before) (from_place text place) r.pieces r.line_has_ended)
          (sym there.1) reads.gap;
      start = there.0;
      end = end.0;
      reading = r.reading;
      here = subst (λ h. ReadsHere t r.line_has_ended h r.reading) (sym there.1) reads.read;
      rest = sym end.1;
      outcome_is = refl;
    }

-- what is read from a place on, by its characters
pub from_at : (text : List ℕ) (line_has_ended : Bool) (start : ℕ) (read : Option Reading) (found : Reading)
    → IsUtf8 text → IsCharBoundary text start → read ≡ Some found → IsTaken (from_place text start) found
    → ReadsFrom text line_has_ended start read (outcome_at line_has_ended start found)
from_at text line_has_ended start read found u b is taken =
    let end = behind_characters text start found.taken found.rest u b taken.here in
    record { begins = b; found = found; read_is = is; end = end.0; rest = sym end.1; outcome_is = refl }
