-- The texts of tokens lie on places: what stands between the marks of a string or a template, and a name behind its
-- `#`.
use Rattle.js_grammar.proofs.Marks.{Marks, one_byte, string_marks, not_quoted, hashbang_is_valueless, here_marks}
use Rattle.js_grammar.proofs.Marks.{part_has_marks}
use Rattle.std.proofs.Common.{◌≡◌, ℕ, ◌+◌, ◌-◌, ◌≤◌, Bool, true, false, ◌==◌, List, [], ◌∷◌, ◌++◌}
use Rattle.std.proofs.Common.{length, drop}
use Rattle.std.proofs.Common.{refl, sym, ◌∙◌, ap, subst, arith, append_assoc, length-append, Option}
use Rattle.std.specs.Prelude.{if◌then◌else◌}
use Rattle.std.specs.Char.{encode_utf8}
use Rattle.std.specs.Str.{IsUtf8, IsCharBoundary, encode_utf8_all}
use Rattle.std.proofs.lemmas.Bool.{or_right}
use Rattle.std.proofs.lemmas.Str.{encodes-append}
use Rattle.js_text.specs.Ascii.{number_sign}
use Rattle.js_text.specs.Characters.{begins, from_place}
use Rattle.js_text.specs.declared.source_type.SourceType.{SourceType}
use Rattle.js_text.proofs.TextLemmas.{place_past, past_characters}
use Rattle.js_kind.specs.TokenParts.{TokenParts}
use Rattle.js_kind.specs.declared.kind.Kind.{Kind}
use Rattle.js_kind.specs.declared.kind.Kind.TheVariants.{HashbangComment}
use Rattle.js_grammar.specs.Goals.{ReadsPlainly, ReadsPart, GoalReads, next_part}
use Rattle.js_grammar.specs.Goals.ReadsPlainly.{hashbang, behind_gap}
use Rattle.js_grammar.specs.declared.goal.Goal.{Goal}
use Rattle.js_grammar.specs.Outcome.{Outcome}
use Rattle.js_grammar.specs.TokenText.{is_quoted, is_private_name, closing_length, text_start}
use Rattle.js_grammar.specs.TokenText.{text_end}
use Rattle.js_grammar.specs.Values.{HasText}
use Rattle.js_grammar.proofs.Flags.{none_of_them}
use Rattle.js_grammar.proofs.NumberSound.{first_is}
use Rattle.js_grammar.proofs.GoalWays.{Way, goal_reads_places, goal_reads_span, ways}
use Rattle.js_grammar.proofs.GoalWays.Way.{plainly, part_on, alone}
use Rattle.js_grammar.proofs.Values.{private_name_begins, private_is_not_end}

-- what stands between marks lies on places
between_marks_lies : (text : List ℕ) (start end : ℕ) (kind : Kind) → IsUtf8 text → IsCharBoundary text start
    → IsCharBoundary text end → Marks (from_place text start) (from_place text end) kind
    → IsCharBoundary text (start + 1) × IsCharBoundary text (end - closing_length kind)
    × (start + 1 ≤ end - closing_length kind)
between_marks_lies text start end kind u b d marks =
    let front = marks.opening ∷ marks.inner in
    let first = past_characters text start (marks.opening ∷ []) (marks.inner ++ (marks.closing ++ from_place text end))
    u b marks.here_is in
    let last = past_characters text start front (marks.closing ++ from_place text end) u b marks.here_is in
    let whole : from_place text start ≡ (front ++ marks.closing) ++ from_place text end =
    marks.here_is ∙ sym (append_assoc front marks.closing (from_place text end)) in
    let way = place_past text start end (front ++ marks.closing) u b d whole in
    let one : length (encode_utf8_all (marks.opening ∷ [])) ≡ 1 = one_byte marks.opening marks.ascii in
    let ends : start + length (encode_utf8_all front) ≡ end - closing_length kind =
    omega (
      arith,
      way,
      ap length (encodes-append front marks.closing),
      length-append (encode_utf8_all front) (encode_utf8_all marks.closing),
      marks.bytes,
    ) in
    let longer : 1 ≤ length (encode_utf8_all front) =
    omega (
      arith,
      one,
      length-append (encode_utf8 marks.opening) [],
      length-append (encode_utf8 marks.opening) (encode_utf8_all marks.inner),
    ) in (
      subst (λ n. IsCharBoundary text (start + n)) one first,
      subst (IsCharBoundary text) ends last,
      omega (arith, ends, longer),
    )

-- a `#` that begins a private name
past_mark : (text : List ℕ) (start : ℕ) → IsUtf8 text → IsCharBoundary text start
    → begins (λ c. c == number_sign) (from_place text start) ≡ true → IsCharBoundary text (start + 1)
past_mark text start u b e =
    let cs = drop 1 (from_place text start) in
    subst (λ n. IsCharBoundary text (start + n)) (one_byte number_sign (omega arith))
    (past_characters text start (number_sign ∷ []) cs u b (first_is number_sign (from_place text start) e))

-- what a plain reading gives of a string or a template stands between marks
plainly_marks : (text : List ℕ) (t : SourceType) (goal : Goal) (before : Option TokenParts) (place : ℕ) (o : Outcome)
    → ReadsPlainly text t goal before place o → is_quoted o.token.kind ≡ true
    → Marks (from_place text o.token.start) (from_place text o.token.end) o.token.kind
plainly_marks text t goal before place o (hashbang begun read) quoted =
    not_quoted o.token.kind
    (ap is_quoted read.is_hashbang.kind ∙ (none_of_them HashbangComment hashbang_is_valueless).no_quoted) quoted
plainly_marks text t goal before place o (behind_gap begun read) quoted =
    let kind : o.token.kind ≡ read.reading.kind = ap (λ x. x.token.kind) read.outcome_is in
    let there =
    here_marks t read.line_has_ended (from_place text o.token.start) read.reading read.here
    (ap is_quoted (sym kind) ∙ quoted) in
    subst (λ k. Marks (from_place text o.token.start) (from_place text o.token.end) k) (sym kind)
    (subst (λ left. Marks (from_place text o.token.start) left read.reading.kind) read.rest there)

-- and so does the next part of a template
next_part_marks : (text : List ℕ) (start : ℕ) (o : Outcome) → ReadsPart text start o → is_quoted o.token.kind ≡ true
    → Marks (from_place text o.token.start) (from_place text o.token.end) o.token.kind
next_part_marks text start o reads quoted =
    let here = from_place text start in
    let kind : o.token.kind ≡ (next_part here).kind = ap (λ x. x.token.kind) reads.outcome_is in
    let at : o.token.start ≡ start = ap (λ x. x.token.start) reads.outcome_is in
    let there : Marks here (next_part here).rest (next_part here).kind =
    part_has_marks reads.behind here reads.here (ap is_quoted (sym kind) ∙ quoted) in
    subst (λ (n : ℕ). Marks (from_place text n) (from_place text o.token.end) o.token.kind) (sym at)
    (subst (λ k. Marks here (from_place text o.token.end) k) (sym kind)
    (subst (λ left. Marks here left (next_part here).kind) reads.rest there))

goal_reads_marks : (text : List ℕ) (t : SourceType) (goal : Goal) (before : Option TokenParts) (place : ℕ)
    (o : Outcome) → GoalReads text t goal before place o → is_quoted o.token.kind ≡ true
    → Marks (from_place text o.token.start) (from_place text o.token.end) o.token.kind
goal_reads_marks text t goal before place o reads quoted = by_way (ways text t goal before place o reads)
  where
    by_way : Way text t before place o → Marks (from_place text o.token.start) (from_place text o.token.end) o.token.kind
    by_way (plainly goal reads) = plainly_marks text t goal before place o reads quoted
    by_way (part_on start reads) = next_part_marks text start o reads quoted
    by_way (alone took) =
        let between = took.quotes quoted in
        rw (between.kind_is, between.here)
        (string_marks between.quote between.inner (from_place text o.token.end) between.is_quote)

-- The text of a token that is read lies on places.
pub goal_reads_text : (text : List ℕ) (t : SourceType) (goal : Goal) (before : Option TokenParts) (place : ℕ)
    (o : Outcome) → IsUtf8 text → GoalReads text t goal before place o → HasText text o.token
goal_reads_text text t goal before place o u reads = by_kind (is_quoted o.token.kind) (is_private_name o.token.kind)
    refl refl
  where
    places : IsCharBoundary text o.token.start × IsCharBoundary text o.token.end
    places = goal_reads_places text t goal before place o u reads

    by_kind : (quoted private : Bool) → is_quoted o.token.kind ≡ quoted → is_private_name o.token.kind ≡ private
        → HasText text o.token
    by_kind true private e f =
        let lies =
        between_marks_lies text o.token.start o.token.end o.token.kind u places.0 places.1
        (goal_reads_marks text t goal before place o reads e) in
        let starts : text_start o.token.kind o.token.start ≡ o.token.start + 1 =
        ap (λ b. if b then o.token.start + 1 else o.token.start)
        (or_right (is_private_name o.token.kind) (is_quoted o.token.kind) e) in
        let ends : text_end o.token.kind o.token.end ≡ o.token.end - closing_length o.token.kind = rw e refl in
        record {
          start = subst (IsCharBoundary text) (sym starts) lies.0;
          end = subst (IsCharBoundary text) (sym ends) lies.1;
          ordered = omega (arith, starts, ends, lies.2);
        }
    by_kind false true e f =
        let starts : text_start o.token.kind o.token.start ≡ o.token.start + 1 = rw (e, f) refl in
        let ends : text_end o.token.kind o.token.end ≡ o.token.end = rw e refl in
        let longer =
        (goal_reads_span text t goal before place o u reads).some_text (private_is_not_end o.token.kind f) in
        record {
          start =
              subst (IsCharBoundary text) (sym starts)
              (past_mark text o.token.start u places.0
              (private_name_begins text t goal before place o reads f));
          end = subst (IsCharBoundary text) (sym ends) places.1;
          ordered = omega (arith, starts, ends, longer);
        }
    by_kind false false e f =
        let starts : text_start o.token.kind o.token.start ≡ o.token.start = rw (e, f) refl in
        let ends : text_end o.token.kind o.token.end ≡ o.token.end = rw e refl in
        let span = goal_reads_span text t goal before place o u reads in
        record {
          start = subst (IsCharBoundary text) (sym starts) places.0;
          end = subst (IsCharBoundary text) (sym ends) places.1;
          ordered = omega (arith, starts, ends, span.ordered);
        }
