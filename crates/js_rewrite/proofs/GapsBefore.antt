-- The gap before a token that is read without a fault.
use Rattle.std.proofs.Common.{◌≡◌, ◌≢◌, ℕ, ◌≤◌, Bool, true, false, ◌||◌, ◌==◌, List, [], ◌∷◌, ◌++◌, length}
use Rattle.std.proofs.Common.{refl, sym, ◌∙◌, ap, subst, arith, Option, Some, None, inl, inr, ◌⊎◌}
use Rattle.std.specs.Prelude.{is_none}
use Rattle.std.specs.Str.{IsCharBoundary, IsUtf8}
use Rattle.std.proofs.lemmas.Bool.{eqb-true}
use Rattle.js_text.specs.Characters.{begins, from_place, is_irregular_whitespace, is_line_terminator, is_white_space}
use Rattle.js_text.specs.declared.source_type.SourceType.{SourceType}
use Rattle.js_text.proofs.TextLemmas.{place_unique}
use Rattle.js_kind.specs.TokenParts.{TokenParts}
use Rattle.js_grammar.specs.Attach.{attach}
use Rattle.js_grammar.specs.Gap.{Piece, Pieces, WholeGap, piece, whole_gap_piece}
use Rattle.js_grammar.specs.GapItems.{token_before}
use Rattle.js_grammar.specs.Goals.{GoalReads, ReadsAttributeValue, ReadsBehindGap, ReadsJsxChild, ReadsPlainly}
use Rattle.js_grammar.specs.Goals.{line_has_ended_behind, with_gap}
use Rattle.js_grammar.specs.Goals.ReadsAttributeValue.{string, plain}
use Rattle.js_grammar.specs.Goals.ReadsPlainly.{hashbang, behind_gap}
use Rattle.js_grammar.specs.Hashbang.{begins_hashbang}
use Rattle.js_grammar.specs.Outcome.{Outcome, gap_diagnostics, outcome_at}
use Rattle.js_grammar.specs.PieceItems.{gap_of}
use Rattle.js_grammar.specs.Reads.{is_onward}
use Rattle.js_grammar.specs.declared.goal.Goal.{Goal}
use Rattle.js_grammar.specs.declared.goal.Goal.TheVariants.{First, Next, TemplateTail, RegularExpression, RightAngle}
use Rattle.js_grammar.specs.declared.goal.Goal.TheVariants.{TypeScriptLeftAngle, TypeScriptRightAngle, JsxIdentifier}
use Rattle.js_grammar.specs.declared.goal.Goal.TheVariants.{JsxChild, JsxAttributeValue}
use Rattle.js_grammar.proofs.BlankedGaps.{PieceIs, piece_is, unreported_pieces}
use Rattle.js_grammar.proofs.BlankedGaps.PieceIs.{white, line, a_comment}
use Rattle.js_grammar.proofs.GapLemmas.{piece_takes}
use Rattle.js_grammar.proofs.NumberClasses.{or_true}
use Rattle.js_grammar.proofs.Without.{FailsMarks, comment_begins, mark_fails, true_is_not_false}
use Rattle.js_rewrite.proofs.BlankGaps.{gap_comments, no_gap}
use Rattle.js_rewrite.proofs.Following.{BeginsGap}
use Rattle.js_rewrite.proofs.GoalsAlike.{GapsFor, behind_gap_line, string_line}
use Rattle.js_rewrite.proofs.ReadAlike.{StandsAlike, quiet_parts}

-- The gap before a token, in which nothing is reported.
pub record GapParts (text : List ℕ) (t : SourceType) (before : Option TokenParts) (place : ℕ) (o : Outcome) : Type 0
  where
    pub pieces : List Piece
    pub has : Bool
    pub gap : WholeGap t (line_has_ended_behind before) (from_place text place) pieces has
        (from_place text o.token.start)
    pub quiet : gap_diagnostics place pieces ≡ []
    pub flag : o.token.is_on_new_line ≡ has
    pub start : IsCharBoundary text o.token.start
    pub gap_token : TokenParts
    pub comments : o.findings.comments
        ≡ attach (gap_of (is_none before) (token_before before) place pieces gap_token)

parts_behind_gap : (text : List ℕ) (t : SourceType) (before : Option TokenParts) (place : ℕ) (o : Outcome)
    → ReadsBehindGap text t before place o → o.findings.diagnostics ≡ [] → GapParts text t before place o
parts_behind_gap text t before place o reads clean = record {
  pieces = reads.pieces;
  has = reads.line_has_ended;
  gap = reads.gap;
  quiet =
      (quiet_parts place o.token.start reads.pieces reads.reading
      (sym (ap (λ (x : Outcome). x.findings.diagnostics) reads.outcome_is) ∙ clean)).0;
  flag = behind_gap_line text t before place o reads clean;
  start = reads.start;
  gap_token = (outcome_at reads.line_has_ended o.token.start reads.reading).token;
  comments =
      ap (λ (x : Outcome). x.findings.comments) reads.outcome_is
      ∙ gap_comments t before place reads.pieces (outcome_at reads.line_has_ended o.token.start reads.reading) refl;
}

pub parts_of_attribute : (text : List ℕ) (t : SourceType) (before : Option TokenParts) (place : ℕ) (o : Outcome)
    → ReadsAttributeValue text t before place o → o.findings.diagnostics ≡ [] → GapParts text t before place o
parts_of_attribute text t before place o (plain no_quote reads) clean =
    parts_behind_gap text t before place o reads clean
parts_of_attribute text t before place o (string reads) clean =
    let from = reads.reads in
    let has = reads.line_has_ended in
    let whole : o ≡ with_gap t before place reads.pieces (outcome_at has o.token.start from.found) =
    reads.outcome_is ∙ ap (with_gap t before place reads.pieces) from.outcome_is in
    record {
      pieces = reads.pieces;
      has = has;
      gap = reads.gap;
      quiet =
          (quiet_parts place o.token.start reads.pieces from.found
          (sym (ap (λ (x : Outcome). x.findings.diagnostics) whole) ∙ clean)).0;
      flag =
          ap (λ (x : Outcome). x.token.is_on_new_line) whole
          ∙ ap (λ b. b || has) (string_line (from_place text o.token.start) from.found from.read_is);
      start = from.begins;
      gap_token = (outcome_at has o.token.start from.found).token;
      comments =
          ap (λ (x : Outcome). x.findings.comments) whole
          ∙ gap_comments t before place reads.pieces (outcome_at has o.token.start from.found) refl;
    }

pub parts_plainly : (text : List ℕ) (t : SourceType) (goal : Goal) (before : Option TokenParts) (place : ℕ) (o : Outcome)
    → begins_hashbang goal text place ≡ false → ReadsPlainly text t goal before place o → o.findings.diagnostics ≡ []
    → GapParts text t before place o
parts_plainly text t goal before place o none (hashbang begins_it reads) clean =
    true_is_not_false (begins_hashbang goal text place) begins_it none
parts_plainly text t goal before place o none (behind_gap other reads) clean =
    parts_behind_gap text t before place o reads clean

-- The first token stands behind a gap, where no hashbang begins.
pub first_parts : (text : List ℕ) (t : SourceType) (o : Outcome) → begins_hashbang First text 0 ≡ false
    → GoalReads text t First None 0 o → o.findings.diagnostics ≡ [] → GapParts text t None 0 o
first_parts text t o none reads clean = parts_plainly text t First None 0 o none reads clean

-- A token that a goal reads from a place on starts there, or stands behind a gap.
pub onward_parts : (text : List ℕ) (t : SourceType) (goal : Goal) (token : TokenParts) (place : ℕ) (o : Outcome)
    → is_onward goal ≡ true → goal ≢ First → GoalReads text t goal (Some token) place o → o.findings.diagnostics ≡ []
    → (o.token.start ≡ place) ⊎ GapParts text t (Some token) place o
onward_parts text t First token place o on no_first reads clean = absurd (no_first refl)
onward_parts text t Next token place o on no_first reads clean =
    inr (parts_plainly text t Next (Some token) place o refl reads clean)
onward_parts text t TemplateTail token place o on no_first reads clean = absurd (cc)
onward_parts text t RegularExpression token place o on no_first reads clean = absurd (cc)
onward_parts text t RightAngle token place o on no_first reads clean = absurd (cc)
onward_parts text t TypeScriptLeftAngle token place o on no_first reads clean = absurd (cc)
onward_parts text t TypeScriptRightAngle token place o on no_first reads clean = absurd (cc)
onward_parts text t JsxIdentifier token place o on no_first reads clean = absurd (cc)
onward_parts text t JsxChild token place o on no_first reads clean =
    inl
    (ap (λ (x : Outcome). x.token.start) reads.outcome_is
    ∙ ap (λ (x : Outcome). x.token.start) reads.reads.outcome_is)
onward_parts text t JsxAttributeValue token place o on no_first reads clean =
    inr (parts_of_attribute text t (Some token) place o reads clean)

pub child_starts : (text : List ℕ) (ended : Bool) (place : ℕ) (o : Outcome) → ReadsJsxChild text ended place o
    → o.token.start ≡ place
child_starts text ended place o reads =
    ap (λ (x : Outcome). x.token.start) reads.outcome_is
    ∙ ap (λ (x : Outcome). x.token.start) reads.reads.outcome_is

-- behind a line end a line has ended
ended_stays : (t : SourceType) (here : List ℕ) (xs : List Piece) (has : Bool) (rest : List ℕ)
    → Pieces (piece t) true here xs has rest → has ≡ true
ended_stays t here [] has rest g = g.0
ended_stays t here (x ∷ xs) has rest g =
    ended_stays t x.rest xs has rest
    (subst (λ b. Pieces (piece t) b x.rest xs has rest) (piece_stays (piece_is t true here x g.0)) g.1)
  where
    piece_stays : PieceIs true here x → x.line_has_ended ≡ true
    piece_stays (white c cs text is x_is) = ap (λ (y : Piece). y.line_has_ended) x_is
    piece_stays (line c cs text no_white is x_is) = ap (λ (y : Piece). y.line_has_ended) x_is
    piece_stays (a_comment is) = is.line_ended

-- a gap that nothing is left of a line before it has a line ended
pub started_ended : (t : SourceType) (here : List ℕ) (xs : List Piece) (has : Bool) (rest : List ℕ) (place : ℕ)
    → Pieces (whole_gap_piece t) true here xs has rest → gap_diagnostics place xs ≡ [] → has ≡ true
started_ended t here xs has rest place g quiet =
    ended_stays t here xs has rest (unreported_pieces t true here xs has rest place g quiet)

line_is_no_mark : FailsMarks is_line_terminator
unfolding is_line_terminator
line_is_no_mark = (refl, refl, refl)

lines_are_no_blanks : (is_white_space 10 ≡ false) × (is_white_space 13 ≡ false)
    × (is_white_space 0x2028 ≡ false) × (is_white_space 0x2029 ≡ false)
unfolding is_white_space is_irregular_whitespace
lines_are_no_blanks = (refl, refl, refl, refl)

line_is_no_blank : (c : ℕ) → is_line_terminator c ≡ true → is_white_space c ≡ false
unfolding is_line_terminator
line_is_no_blank c e =
    elim (or_true ((c == 10) || (c == 13)) ((c == 0x2028) || (c == 0x2029)) e) [
      | inl low ↦ elim (or_true (c == 10) (c == 13) low) [
        | inl is ↦ ap is_white_space (eqb-true c 10 is) ∙ lines_are_no_blanks.0
        | inr is ↦ ap is_white_space (eqb-true c 13 is) ∙ lines_are_no_blanks.1
      ]
      | inr high ↦ elim (or_true (c == 0x2028) (c == 0x2029) high) [
        | inl is ↦ ap is_white_space (eqb-true c 0x2028 is) ∙ lines_are_no_blanks.2
        | inr is ↦ ap is_white_space (eqb-true c 0x2029 is) ∙ lines_are_no_blanks.3
      ]
    ]

-- a piece that begins with a line terminator ends a line
line_piece : (t : SourceType) (ended : Bool) (here : List ℕ) (x : Piece) → piece t ended here ≡ Some x
    → begins is_line_terminator here ≡ true → x.line_has_ended ≡ true
line_piece t ended here x e lines = by_piece (piece_is t ended here x e)
  where
    by_piece : PieceIs ended here x → x.line_has_ended ≡ true
    by_piece (white c cs text is x_is) =
        true_is_not_false (is_white_space c) is
        (line_is_no_blank c (sym (ap (begins is_line_terminator) text) ∙ lines))
    by_piece (line c cs text no_white is x_is) = ap (λ (y : Piece). y.line_has_ended) x_is
    by_piece (a_comment is) =
        true_is_not_false (begins is_line_terminator here) lines
        (mark_fails is_line_terminator line_is_no_mark here (comment_begins t ended here x is.kind e is.is))

-- What is known of a gap that is not empty.
pub record Gapped (text : List ℕ) (t : SourceType) (place : ℕ) (o : Outcome) : Type 0 where
  pub begins_gap : BeginsGap t (from_place text place)
  pub line : o.token.is_on_new_line ≡ false → begins is_line_terminator (from_place text place) ≡ false

-- The token stands at the place, or behind a gap that is not empty.
pub at_or_gapped : (text : List ℕ) (t : SourceType) (before : Option TokenParts) (place : ℕ) (o : Outcome)
    → IsUtf8 text → IsCharBoundary text place → GapParts text t before place o
    → (o.token.start ≡ place) ⊎ Gapped text t place o
at_or_gapped text t before place o u b g =
    by_pieces g.pieces
    (unreported_pieces t (line_has_ended_behind before) (from_place text place) g.pieces g.has
    (from_place text o.token.start) place g.gap.pieces_are g.quiet)
  where
    by_pieces : (xs : List Piece)
        → Pieces (piece t) (line_has_ended_behind before) (from_place text place) xs g.has (from_place text o.token.start)
        → (o.token.start ≡ place) ⊎ Gapped text t place o
    by_pieces [] is = inl (place_unique text o.token.start place u g.start b is.1)
    by_pieces (x ∷ xs) is =
        inr (record {
          begins_gap = record { ended = line_has_ended_behind before; found = x; here = is.0 };
          line = λ no_line. no_terminator no_line (begins is_line_terminator (from_place text place)) refl;
        })
      where
        no_terminator : o.token.is_on_new_line ≡ false → (b : Bool)
            → begins is_line_terminator (from_place text place) ≡ b → b ≡ false
        no_terminator no_line false e = refl
        no_terminator no_line true e =
            let ended = line_piece t (line_has_ended_behind before) (from_place text place) x is.0 e in
            let has =
            ended_stays t x.rest xs g.has (from_place text o.token.start)
            (subst (λ b. Pieces (piece t) b x.rest xs g.has (from_place text o.token.start)) ended is.1) in
            true_is_not_false o.token.is_on_new_line (g.flag ∙ has) no_line

-- Where the token stands at the place, its gap is empty.
pub no_pieces : (text : List ℕ) (t : SourceType) (nl : Bool) (place : ℕ) (xs : List Piece) (has : Bool) (start : ℕ)
    → Pieces (whole_gap_piece t) nl (from_place text place) xs has (from_place text start)
    → gap_diagnostics place xs ≡ [] → start ≡ place → has ≡ nl
no_pieces text t nl place [] has start g quiet same = g.0
no_pieces text t nl place (x ∷ xs) has start g quiet same =
    let h =
    unreported_pieces t nl (from_place text place) (x ∷ xs) has (from_place text start) place g quiet in
    let takes = piece_takes t nl (from_place text place) x h.0 in
    let left = shorter t x.line_has_ended x.rest xs has (from_place text start) h.1 in
    let same_length = ap (λ n. length (from_place text n)) same in
    absurd (omega (arith, takes, left, same_length))
  where
    shorter : (t : SourceType) (ended : Bool) (here : List ℕ) (xs : List Piece) (has : Bool) (rest : List ℕ)
        → Pieces (piece t) ended here xs has rest → length rest ≤ length here
    shorter t ended here [] has rest g = omega (arith, ap length g.1)
    shorter t ended here (x ∷ xs) has rest g =
        let takes = piece_takes t ended here x g.0 in
        let later = shorter t x.line_has_ended x.rest xs has rest g.1 in
        omega (arith, takes, later)

-- Where the token stands at the place in both texts, there is no gap in either.
pub gaps_at : (text other zs : List ℕ) (t : SourceType) (before there : Option TokenParts) (place q : ℕ) (o : Outcome)
    → is_none before ≡ is_none there → o.token.start ≡ place
    → StandsAlike text other t o.token.kind place o.token.end q zs → GapsFor text other t before there place q o zs
gaps_at text other zs t before there place q o same_before start stands = λ pieces has gap quiet flag. record {
  characters = stands.characters;
  here = ap (from_place text) start ∙ stands.here;
  follows = stands.follows;
  gap =
      no_gap other t there q has (stands.characters ++ zs) stands.there_is
      (no_pieces text t (line_has_ended_behind before) place pieces has o.token.start gap.pieces_are quiet start
      ∙ same_before);
}
