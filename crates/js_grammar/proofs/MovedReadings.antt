-- A reading at one place is, moved by the difference, the reading at another from which the same characters stand.
use Rattle.std.proofs.Common.{◌≡◌, ◌≢◌, ℕ, ◌+◌, Bool, true, false, List, ◌∷◌, ◌++◌, refl, sym, ◌∙◌, ap}
use Rattle.std.proofs.Common.{subst, arith, Option, Some, None}
use Rattle.std.specs.Prelude.{IfSome, map}
use Rattle.std.specs.Option.{option_map}
use Rattle.std.specs.Str.{IsCharBoundary, IsUtf8}
use Rattle.js_text.specs.Characters.{begins, from_place}
use Rattle.js_text.specs.declared.source_type.SourceType.{SourceType}
use Rattle.js_text.proofs.TextLemmas.{place_past}
use Rattle.js_kind.specs.TokenParts.{TokenParts}
use Rattle.js_kind.specs.declared.kind.Kind.{Kind}
use Rattle.js_kind.specs.declared.kind.Kind.TheVariants.{TemplateMiddle, TemplateTail}
use Rattle.std.specs.List.{list_all}
use Rattle.js_grammar.specs.Angle.{angle_reading, first_left_angle, first_right_angle, right_angles}
use Rattle.js_grammar.specs.Goals.{GoalReads, ReadsAngle, ReadsAttributeString, ReadsAttributeValue, ReadsBehindGap}
use Rattle.js_grammar.specs.Goals.{ReadsFrom, ReadsJsxName, ReadsPart, ReadsPlainly, line_has_ended_behind, next_part}
use Rattle.js_grammar.specs.Goals.{with_gap, ReadsJsxChild, with_warnings}
use Rattle.js_grammar.specs.Gap.{WholeGap}
use Rattle.js_grammar.specs.Goals.ReadsAttributeValue.{string, plain}
use Rattle.js_grammar.specs.Goals.ReadsPlainly.{hashbang, behind_gap}
use Rattle.js_grammar.specs.Jsx.{jsx_child_reading, jsx_name_reading, jsx_string_reading, jsx_child_warnings}
use Rattle.js_grammar.specs.Moved.{StandsMoved, moved_outcome, moved_token, reads_from}
use Rattle.js_grammar.specs.Outcome.{Outcome, outcome_at}
use Rattle.js_grammar.specs.Reading.{Reading, place_behind, moved_span}
use Rattle.js_grammar.specs.RegularExpression.{regular_expression_reading}
use Rattle.js_grammar.specs.StringItems.{is_quote}
use Rattle.js_grammar.specs.UnicodeEscape.{right_curly_bracket}
use Rattle.js_grammar.specs.declared.goal.Goal.{Goal}
use Rattle.js_grammar.specs.declared.goal.Goal.TheVariants.{First, Next, TemplateTail as TailGoal}
use Rattle.js_grammar.specs.declared.goal.Goal.TheVariants.{RegularExpression, RightAngle, TypeScriptLeftAngle}
use Rattle.js_grammar.specs.declared.goal.Goal.TheVariants.{TypeScriptRightAngle, JsxIdentifier, JsxChild}
use Rattle.js_grammar.specs.declared.goal.Goal.TheVariants.{JsxAttributeValue}
use Rattle.js_grammar.proofs.AtPlaces.{BehindGap, ReadParts, behind_characters, from_at, gap_at, gap_parts, gap_end}
use Rattle.js_grammar.proofs.AtPlaces.{outcome_moved, outcome_of, outcome_of_moved}
use Rattle.js_grammar.proofs.GoalReadings.{IsRead, angle_is_read, angles, attribute_is_read, child_is_read}
use Rattle.js_grammar.proofs.GoalReadings.{expression_read, is_angle, jsx_name_is_read}
use Rattle.js_grammar.proofs.GoalWays.{found_is_read}
use Rattle.js_grammar.proofs.Moved.{behind_moved, angles_moved}
use Rattle.js_grammar.proofs.ReadingLemmas.{IsTaken}
use Rattle.js_grammar.proofs.Reported.{piece_texts, pieces_text}
use Rattle.js_grammar.proofs.Spans.{part_is_taken}

-- two texts, and a place from which the same characters stand in both
pub record BothStand (text other : List ℕ) (place by : ℕ) : Type 0 where
  pub utf8 : IsUtf8 text
  pub other_utf8 : IsUtf8 other
  pub stands : StandsMoved text other place by

abbrev moved_before : ℕ → Option TokenParts → Option TokenParts
moved_before by before = option_map (moved_token by) before

same_first : (by : ℕ) (before : Option TokenParts)
    → line_has_ended_behind (moved_before by before) ≡ line_has_ended_behind before
same_first by None = refl
same_first by (Some token) = refl

-- a reading that moves, there and back
pub record Moves (by : ℕ) (reads other : Outcome → Type 0) : Type 0 where
  pub forward : (o : Outcome) → reads o → other (moved_outcome by o)
  pub back : (o : Outcome) → other o → (own : Outcome) × (o ≡ moved_outcome by own) × reads own

-- behind a gap
gap_moves : (text other : List ℕ) (t : SourceType) (before : Option TokenParts) (place by : ℕ)
    → BothStand text other place by
    → Moves by (ReadsBehindGap text t before place) (ReadsBehindGap other t (moved_before by before) (by + place))
gap_moves text other t before place by both = record {
  forward = λ o reads.
      let p = gap_parts text t before place o both.utf8 both.stands.here reads in
      subst (ReadsBehindGap other t (moved_before by before) (by + place))
      (outcome_of_moved by t before place p.0 ∙ ap (moved_outcome by) (sym p.2))
      (gap_at other t (moved_before by before) (by + place) p.0 both.other_utf8 both.stands.there
      (subst (λ b. BehindGap t b (from_place other (by + place)) p.0) (sym (same_first by before))
      (subst (λ h. BehindGap t (line_has_ended_behind before) h p.0) both.stands.same p.1)));
  back = λ o reads.
      let p =
      gap_parts other t (moved_before by before) (by + place) o both.other_utf8 both.stands.there reads in (
        outcome_of t before place p.0,
        p.2 ∙ outcome_of_moved by t before place p.0,
        gap_at text t before place p.0 both.utf8 both.stands.here
            (subst (λ b. BehindGap t b (from_place text place) p.0) (same_first by before)
            (subst (λ h. BehindGap t (line_has_ended_behind (moved_before by before)) h p.0) (sym both.stands.same)
            p.1)),
      );
}

-- what stands where a gap has ended
same_behind_gap : (text other : List ℕ) (t : SourceType) (before : Option TokenParts) (place by : ℕ) (o : Outcome)
    → BothStand text other place by → ReadsBehindGap text t before place o
    → from_place text o.token.start ≡ from_place other (by + o.token.start)
same_behind_gap text other t before place by o both reads =
    let texts = piece_texts reads.pieces in
    let here =
    pieces_text t (line_has_ended_behind before) (from_place text place) reads.pieces reads.line_has_ended
    (from_place text o.token.start) reads.gap.pieces_are in
    let start = place_past text place o.token.start texts both.utf8 both.stands.here reads.start here in
    let there =
    behind_characters other (by + place) texts (from_place text o.token.start) both.other_utf8 both.stands.there
    (sym both.stands.same ∙ here) in
    sym there.1 ∙ ap (from_place other) (behind_moved by place texts ∙ ap (λ n. by + n) (sym start))

plainly_moves : (text other : List ℕ) (t : SourceType) (before : Option TokenParts) (place by : ℕ)
    → BothStand text other place by
    → Moves by (ReadsPlainly text t Next before place) (ReadsPlainly other t Next (moved_before by before) (by + place))
plainly_moves text other t before place by both =
    let moves = gap_moves text other t before place by both in
    record { forward = λ o reads. there moves o reads; back = λ o reads. own moves o reads }
  where
    there : Moves by (ReadsBehindGap text t before place) (ReadsBehindGap other t (moved_before by before) (by + place))
        → (o : Outcome) → ReadsPlainly text t Next before place o
        → ReadsPlainly other t Next (moved_before by before) (by + place) (moved_outcome by o)
    there moves o (hashbang begun read) = absurd (cc)
    there moves o (behind_gap none read) = behind_gap refl (moves.forward o read)

    own : Moves by (ReadsBehindGap text t before place) (ReadsBehindGap other t (moved_before by before) (by + place))
        → (o : Outcome) → ReadsPlainly other t Next (moved_before by before) (by + place) o
        → (own : Outcome) × (o ≡ moved_outcome by own) × ReadsPlainly text t Next before place own
    own moves o (hashbang begun read) = absurd (cc)
    own moves o (behind_gap none read) =
        let found = moves.back o read in (found.0, found.1, behind_gap refl found.2)

-- from a place on
from_moves : (text other : List ℕ) (line_has_ended : Bool) (start by : ℕ) (read : List ℕ → Option Reading)
    → ((here : List ℕ) → IfSome (read here) (IsRead here)) → BothStand text other start by
    → Moves by (ReadsFrom text line_has_ended start (read (from_place text start)))
    (ReadsFrom other line_has_ended (by + start) (read (from_place other (by + start))))
from_moves text other line_has_ended start by read all both = record {
  forward = λ o reads.
      let here = from_place text start in
      let taken = (found_is_read here (read here) reads.found reads.read_is (all here)).taken in
      let same = both.stands.same in
      subst (ReadsFrom other line_has_ended (by + start) (read (from_place other (by + start))))
      (outcome_moved by line_has_ended start reads.found ∙ ap (moved_outcome by) (sym reads.outcome_is))
      (from_at other line_has_ended (by + start) (read (from_place other (by + start))) reads.found both.other_utf8
      both.stands.there (ap read (sym same) ∙ reads.read_is) (subst (λ h. IsTaken h reads.found) same taken));
  back = λ o reads.
      let here = from_place other (by + start) in
      let taken = (found_is_read here (read here) reads.found reads.read_is (all here)).taken in
      let same = both.stands.same in (
        outcome_at line_has_ended start reads.found,
        reads.outcome_is ∙ outcome_moved by line_has_ended start reads.found,
        from_at text line_has_ended start (read (from_place text start)) reads.found both.utf8 both.stands.here
            (ap read same ∙ reads.read_is) (subst (λ h. IsTaken h reads.found) (sym same) taken),
      );
}

-- what JSX has between tags
child_moves : (text other : List ℕ) (line_has_ended : Bool) (place by : ℕ) → BothStand text other place by
    → Moves by (ReadsJsxChild text line_has_ended place) (ReadsJsxChild other line_has_ended (by + place))
child_moves text other line_has_ended place by both =
    let moves =
    from_moves text other line_has_ended place by (λ here. Some (jsx_child_reading here)) child_is_read both in
    let there = jsx_child_warnings (by + place) (from_place other (by + place)) in
    record {
      forward = λ o reads. record {
        child = moved_outcome by reads.child;
        reads = moves.forward reads.child reads.reads;
        outcome_is =
            ap (moved_outcome by) reads.outcome_is
            ∙ ap (λ ws. with_warnings ws (moved_outcome by reads.child)) moved;
      };
      back = λ o reads.
          let own = moves.back reads.child reads.reads in (
            with_warnings (jsx_child_warnings place (from_place text place)) own.0,
            reads.outcome_is ∙ ap (with_warnings there) own.1
                ∙ ap (λ ws. with_warnings ws (moved_outcome by own.0)) (sym moved),
            record { child = own.0; reads = own.2; outcome_is = refl },
          );
    }
  where
    moved : map (moved_span by) (jsx_child_warnings place (from_place text place))
        ≡ jsx_child_warnings (by + place) (from_place other (by + place))
    moved = ap (λ here. map (moved_span by) (jsx_child_warnings place here)) both.stands.same
        ∙ sym (angles_moved by place (jsx_child_reading (from_place other (by + place))).taken)

-- the next part of a template
part_at : (text : List ℕ) (start : ℕ) (behind : List ℕ) → IsUtf8 text → IsCharBoundary text start
    → from_place text start ≡ right_curly_bracket ∷ behind
    → ReadsPart text start (outcome_at false start (next_part (from_place text start)))
part_at text start behind u b e =
    let taken = part_is_taken TemplateMiddle TemplateTail right_curly_bracket behind in
    let end =
    behind_characters text start (next_part (right_curly_bracket ∷ behind)).taken
    (next_part (right_curly_bracket ∷ behind)).rest u b (e ∙ taken.here) in
    let same = ap (λ h. place_behind start (next_part h).taken) (sym e) in
    record {
      begins = b;
      behind = behind;
      here = e;
      end = subst (IsCharBoundary text) same end.0;
      rest = ap (λ h. (next_part h).rest) e ∙ sym end.1 ∙ ap (from_place text) same;
      outcome_is = refl;
    }

part_moves : (text other : List ℕ) (start by : ℕ) → BothStand text other start by
    → Moves by (ReadsPart text start) (ReadsPart other (by + start))
part_moves text other start by both =
    let same = both.stands.same in
    record {
      forward = λ o reads.
          subst (ReadsPart other (by + start))
          (ap (λ h. outcome_at false (by + start) (next_part h)) (sym same)
          ∙ outcome_moved by false start (next_part (from_place text start))
          ∙ ap (moved_outcome by) (sym reads.outcome_is))
          (part_at other (by + start) reads.behind both.other_utf8 both.stands.there (sym same ∙ reads.here));
      back = λ o reads. (
        outcome_at false start (next_part (from_place text start)),
        reads.outcome_is ∙ ap (λ h. outcome_at false (by + start) (next_part h)) (sym same)
            ∙ outcome_moved by false start (next_part (from_place text start)),
        part_at text start reads.behind both.utf8 both.stands.here (same ∙ reads.here),
      );
    }

-- a name of JSX, from the start of its first part on
name_at : (text : List ℕ) (name : TokenParts) (part behind : List ℕ) (found : Reading) → IsUtf8 text
    → IsCharBoundary text name.start → from_place text name.start ≡ part ++ behind
    → name.end ≡ place_behind name.start part → jsx_name_reading part behind ≡ Some found
    → ReadsJsxName text name (outcome_at false name.start found)
name_at text name part behind found u b e end is =
    let there = behind_characters text name.start part behind u b e in
    let stands : from_place text name.end ≡ behind = ap (from_place text) end ∙ there.1 in
    let taken =
    (found_is_read (part ++ behind) (jsx_name_reading part behind) found is (jsx_name_is_read part behind)).taken in
    record {
      ordered = omega (arith, end);
      name_end = subst (IsCharBoundary text) (sym end) there.0;
      part = part;
      here = e ∙ ap (λ h. part ++ h) (sym stands);
      reads =
          from_at text false name.start (jsx_name_reading part (from_place text name.end)) found u b
          (ap (jsx_name_reading part) stands ∙ is) (subst (λ h. IsTaken h found) (sym e) taken);
    }

name_moves : (text other : List ℕ) (name : TokenParts) (by : ℕ) → BothStand text other name.start by
    → Moves by (ReadsJsxName text name) (ReadsJsxName other (moved_token by name))
name_moves text other name by both = record {
  forward = λ o reads.
      let behind = from_place text name.end in
      let found = reads.reads.found in
      let end = place_past text name.start name.end reads.part both.utf8 both.stands.here reads.name_end reads.here in
      subst (ReadsJsxName other (moved_token by name))
      (outcome_moved by false name.start found ∙ ap (moved_outcome by) (sym reads.reads.outcome_is))
      (name_at other (moved_token by name) reads.part behind found both.other_utf8 both.stands.there
      (sym both.stands.same ∙ reads.here) (ap (λ n. by + n) end ∙ sym (behind_moved by name.start reads.part))
      reads.reads.read_is);
  back = λ o reads.
      let behind = from_place other (by + name.end) in
      let found = reads.reads.found in
      let end : by + name.end ≡ place_behind (by + name.start) reads.part =
      place_past other (by + name.start) (by + name.end) reads.part both.other_utf8 both.stands.there reads.name_end
      reads.here in
      let own_end : name.end ≡ place_behind name.start reads.part =
      omega (arith, end) in (
        outcome_at false name.start found,
        reads.reads.outcome_is ∙ outcome_moved by false name.start found,
        name_at text name reads.part behind found both.utf8 both.stands.here (both.stands.same ∙ reads.here) own_end
            reads.reads.read_is,
      );
}

-- the string of an attribute, behind a gap
string_at : (text : List ℕ) (t : SourceType) (before : Option TokenParts) (place : ℕ) (r : ReadParts) (left : List ℕ)
    → IsUtf8 text → IsCharBoundary text place
    → WholeGap t (line_has_ended_behind before) (from_place text place) r.pieces r.line_has_ended left
    → jsx_string_reading left ≡ Some r.reading
    → ReadsAttributeString text t before place (outcome_of t before place r)
string_at text t before place r left u b gap is =
    let start = place_behind place (piece_texts r.pieces) in
    let there =
    behind_characters text place (piece_texts r.pieces) left u b
    (pieces_text t (line_has_ended_behind before) (from_place text place) r.pieces r.line_has_ended left
    gap.pieces_are) in
    let taken = (found_is_read left (jsx_string_reading left) r.reading is (attribute_is_read left)).taken in
    record {
      pieces = r.pieces;
      line_has_ended = r.line_has_ended;
      gap =
          subst (WholeGap t (line_has_ended_behind before) (from_place text place) r.pieces r.line_has_ended)
          (sym there.1) gap;
      string = outcome_at r.line_has_ended start r.reading;
      reads =
          from_at text r.line_has_ended start (jsx_string_reading (from_place text start)) r.reading u there.0
          (ap jsx_string_reading there.1 ∙ is) (subst (λ h. IsTaken h r.reading) (sym there.1) taken);
      outcome_is = refl;
    }

string_parts : (text : List ℕ) (t : SourceType) (before : Option TokenParts) (place : ℕ) (o : Outcome) → IsUtf8 text
    → IsCharBoundary text place → (reads : ReadsAttributeString text t before place o)
    → o ≡ outcome_of t before place (record {
      pieces = reads.pieces;
      line_has_ended = reads.line_has_ended;
      reading = reads.reads.found;
    })
string_parts text t before place o u b reads =
    let start =
    gap_end text t (line_has_ended_behind before) reads.line_has_ended place o.token.start reads.pieces u b
    reads.reads.begins reads.gap in
    reads.outcome_is ∙ ap (with_gap t before place reads.pieces) reads.reads.outcome_is
    ∙ ap (λ (n : ℕ). with_gap t before place reads.pieces (outcome_at reads.line_has_ended n reads.reads.found)) start

string_moves : (text other : List ℕ) (t : SourceType) (before : Option TokenParts) (place by : ℕ)
    → BothStand text other place by
    → Moves by (ReadsAttributeString text t before place)
    (ReadsAttributeString other t (moved_before by before) (by + place))
string_moves text other t before place by both = record {
  forward = λ o reads.
      let r : ReadParts = record {
        pieces = reads.pieces;
        line_has_ended = reads.line_has_ended;
        reading = reads.reads.found;
      } in
      let left = from_place text o.token.start in
      subst (ReadsAttributeString other t (moved_before by before) (by + place))
      (outcome_of_moved by t before place r
      ∙ ap (moved_outcome by) (sym (string_parts text t before place o both.utf8 both.stands.here reads)))
      (string_at other t (moved_before by before) (by + place) r left both.other_utf8 both.stands.there
      (subst (λ b. WholeGap t b (from_place other (by + place)) r.pieces r.line_has_ended left)
      (sym (same_first by before))
      (subst (λ h. WholeGap t (line_has_ended_behind before) h r.pieces r.line_has_ended left) both.stands.same
      reads.gap)) reads.reads.read_is);
  back = λ o reads.
      let r : ReadParts = record {
        pieces = reads.pieces;
        line_has_ended = reads.line_has_ended;
        reading = reads.reads.found;
      } in
      let left = from_place other o.token.start in (
        outcome_of t before place r,
        string_parts other t (moved_before by before) (by + place) o both.other_utf8 both.stands.there reads
            ∙ outcome_of_moved by t before place r,
        string_at text t before place r left both.utf8 both.stands.here
            (subst (λ b. WholeGap t b (from_place text place) r.pieces r.line_has_ended left) (same_first by before)
            (subst (λ h. WholeGap t (line_has_ended_behind (moved_before by before)) h r.pieces r.line_has_ended left)
            (sym both.stands.same) reads.gap)) reads.reads.read_is,
      );
}

attribute_moves : (text other : List ℕ) (t : SourceType) (before : Option TokenParts) (place by : ℕ)
    → BothStand text other place by
    → Moves by (ReadsAttributeValue text t before place)
    (ReadsAttributeValue other t (moved_before by before) (by + place))
attribute_moves text other t before place by both =
    record { forward = λ o reads. there o reads; back = λ o reads. own o reads }
  where
    strings : Moves by (ReadsAttributeString text t before place)
        (ReadsAttributeString other t (moved_before by before) (by + place))
    strings = string_moves text other t before place by both

    gaps : Moves by (ReadsBehindGap text t before place) (ReadsBehindGap other t (moved_before by before) (by + place))
    gaps = gap_moves text other t before place by both

    there : (o : Outcome) → ReadsAttributeValue text t before place o
        → ReadsAttributeValue other t (moved_before by before) (by + place) (moved_outcome by o)
    there o (string reads) = string (strings.forward o reads)
    there o (plain none reads) =
        plain (ap (begins is_quote) (sym (same_behind_gap text other t before place by o both reads)) ∙ none)
        (gaps.forward o reads)

    own : (o : Outcome) → ReadsAttributeValue other t (moved_before by before) (by + place) o
        → (own : Outcome) × (o ≡ moved_outcome by own) × ReadsAttributeValue text t before place own
    own o (string reads) = let found = strings.back o reads in (found.0, found.1, string found.2)
    own o (plain none reads) =
        let found = gaps.back o reads in
        let start : from_place text found.0.token.start ≡ from_place other o.token.start =
        same_behind_gap text other t before place by found.0 both found.2
        ∙ ap (λ (x : Outcome). from_place other x.token.start) (sym found.1) in
        (found.0, found.1, plain (ap (begins is_quote) start ∙ none) found.2)

angle_moves : (text other : List ℕ) (kinds : List Kind) (start by : ℕ) → list_all is_angle kinds ≡ true
    → BothStand text other start by → Moves by (ReadsAngle text kinds start) (ReadsAngle other kinds (by + start))
angle_moves text other kinds start by are both =
    from_moves text other false start by (angle_reading kinds) (λ here. angle_is_read kinds here are) both

nothing_moves : (by : ℕ) → Moves by (λ o. ⊥) (λ o. ⊥)
nothing_moves by = record { forward = λ o no. no; back = λ o no. absurd no }

-- Every reading moves but that of the first goal.
pub goal_moves : (text other : List ℕ) (t : SourceType) (goal : Goal) (before : Option TokenParts) (place by : ℕ)
    → goal ≢ First → BothStand text other (reads_from goal before place) by
    → Moves by (GoalReads text t goal before place) (GoalReads other t goal (moved_before by before) (by + place))
goal_moves text other t First before place by not_first both = absurd (not_first refl)
goal_moves text other t Next None place by not_first both = plainly_moves text other t None place by both
goal_moves text other t Next (Some token) place by not_first both =
    plainly_moves text other t (Some token) place by both
goal_moves text other t JsxAttributeValue None place by not_first both =
    attribute_moves text other t None place by both
goal_moves text other t JsxAttributeValue (Some token) place by not_first both =
    attribute_moves text other t (Some token) place by both
goal_moves text other t JsxChild None place by not_first both =
    child_moves text other true place by both
goal_moves text other t JsxChild (Some token) place by not_first both =
    child_moves text other false place by both
goal_moves text other t TailGoal None place by not_first both = nothing_moves by
goal_moves text other t TailGoal (Some token) place by not_first both = part_moves text other token.start by both
goal_moves text other t RegularExpression None place by not_first both = nothing_moves by
goal_moves text other t RegularExpression (Some token) place by not_first both =
    from_moves text other false token.start by regular_expression_reading expression_read both
goal_moves text other t RightAngle None place by not_first both = nothing_moves by
goal_moves text other t RightAngle (Some token) place by not_first both =
    angle_moves text other right_angles token.start by angles.longest both
goal_moves text other t TypeScriptLeftAngle None place by not_first both = nothing_moves by
goal_moves text other t TypeScriptLeftAngle (Some token) place by not_first both =
    angle_moves text other first_left_angle token.start by angles.left both
goal_moves text other t TypeScriptRightAngle None place by not_first both = nothing_moves by
goal_moves text other t TypeScriptRightAngle (Some token) place by not_first both =
    angle_moves text other first_right_angle token.start by angles.right both
goal_moves text other t JsxIdentifier None place by not_first both = nothing_moves by
goal_moves text other t JsxIdentifier (Some token) place by not_first both = name_moves text other token by both
