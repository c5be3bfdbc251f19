-- The comments that rows find stand behind the last token before them, where nothing is reported.
use Rattle.std.proofs.Common.{◌≡◌, ℕ, ◌+◌, ◌<◌, ◌≤◌, Bool, true, false, ◌&&◌, List, [], ◌∷◌, ◌++◌, length, drop}
use Rattle.std.proofs.Common.{refl, sym, ◌∙◌, ap, subst, arith, Option, inl, inr}
use Rattle.std.proofs.Common.{◌⊎◌, not}
use Rattle.std.specs.Prelude.{◌==◌, is_none, nat_lt}
use Rattle.std.specs.Char.{len_utf8}
use Rattle.std.specs.List.{list_all}
use Rattle.std.specs.Str.{IsCharBoundary, IsUtf8}
use Rattle.std.proofs.lemmas.Bool.{and_parts, cases_lt, ltb-true}
use Rattle.std.proofs.lemmas.Str.{len_utf8_ascii}
use Rattle.js_text.specs.Characters.{begins, from_place}
use Rattle.js_text.specs.SourceType.{is_module}
use Rattle.js_text.specs.declared.comment.Comment.{Comment}
use Rattle.js_text.specs.declared.source_type.SourceType.{SourceType}
use Rattle.js_text.proofs.TextLemmas.{past_character, place_past}
use Rattle.js_kind.specs.Kinds.{is_one_of, kind_text}
use Rattle.js_kind.specs.TokenParts.{TokenParts}
use Rattle.js_kind.specs.declared.kind.Kind.{Kind}
use Rattle.js_kind.proofs.Members.{one_passes}
use Rattle.js_lexer.specs.Lexer.{IsOnPlaces}
use Rattle.js_session.specs.declared.row.Row.{Row}
use Rattle.js_grammar.specs.Attach.{attach}
use Rattle.js_grammar.specs.Gap.{Piece, WholeGap, piece}
use Rattle.js_grammar.specs.GapItems.{token_before}
use Rattle.js_grammar.specs.Goals.{GoalReads, ReadsAttributeValue, ReadsBehindGap, ReadsPlainly}
use Rattle.js_grammar.specs.Goals.{line_has_ended_behind, with_gap}
use Rattle.js_grammar.specs.Goals.ReadsAttributeValue.{string, plain}
use Rattle.js_grammar.specs.Goals.ReadsPlainly.{hashbang, behind_gap}
use Rattle.js_grammar.specs.Outcome.{Outcome, gap_diagnostics, outcome_at}
use Rattle.js_grammar.specs.PieceItems.{gap_of}
use Rattle.js_grammar.specs.ReLexed.{HasSpelling, is_re_lexed}
use Rattle.js_grammar.specs.Reads.{is_onward}
use Rattle.js_grammar.specs.declared.goal.Goal.{Goal}
use Rattle.js_grammar.specs.declared.goal.Goal.TheVariants.{First, Next, TemplateTail, RegularExpression, RightAngle}
use Rattle.js_grammar.specs.declared.goal.Goal.TheVariants.{TypeScriptLeftAngle, TypeScriptRightAngle, JsxIdentifier}
use Rattle.js_grammar.specs.declared.goal.Goal.TheVariants.{JsxChild, JsxAttributeValue}
use Rattle.js_grammar.proofs.AtPlaces.{gap_end}
use Rattle.js_grammar.proofs.GapLemmas.{piece_text}
use Rattle.js_grammar.proofs.Reported.{append_nil}
use Rattle.js_grammar.proofs.AgainReadings.{module_begins}
use Rattle.js_rewrite.proofs.ReadAlike.{quiet_parts}
use Rattle.js_grammar.proofs.BlankedGaps.{unreported_pieces}
use Rattle.js_grammar.proofs.Without.{begins_comment, comment_begins}
use Rattle.js_strip.proofs.Standing.{IsComment, StandBetween, child_none, no_hashbang_there, pieces_stand}
use Rattle.js_rewrite.proofs.BlankGaps.{gap_comments}

clean_gap : (text : List ℕ) (t : SourceType) (before : Option TokenParts) (place : ℕ) (pieces : List Piece)
    (has : Bool) (inner o : Outcome) → IsUtf8 text → IsCharBoundary text place → IsCharBoundary text o.token.start
    → WholeGap t (line_has_ended_behind before) (from_place text place) pieces has (from_place text o.token.start)
    → gap_diagnostics place pieces ≡ [] → inner.findings.comments ≡ [] → o ≡ with_gap t before place pieces inner
    → StandBetween text (piece t) place o.findings.comments o.token.start
clean_gap text t before place pieces has inner o u b d gap quiet none is =
    let found =
    ap (λ (x : Outcome). x.findings.comments) is ∙ gap_comments t before place pieces inner none in
    let end =
    gap_end text t (line_has_ended_behind before) has place o.token.start pieces u b d gap in
    subst (λ cs. StandBetween text (piece t) place cs o.token.start) (sym found)
    (subst
    (λ n. StandBetween text (piece t) place
    (attach (gap_of (is_none before) (token_before before) place pieces inner.token)) n)
    (sym end)
    (pieces_stand text (piece t) (piece_text t)
    (gap_of (is_none before) (token_before before) place pieces inner.token) [] (line_has_ended_behind before) place
    false pieces has (from_place text o.token.start) u b
    (unreported_pieces t (line_has_ended_behind before) (from_place text place) pieces has
    (from_place text o.token.start) place gap.pieces_are quiet)))

clean_behind_gap : (text : List ℕ) (t : SourceType) (before : Option TokenParts) (place : ℕ) (o : Outcome)
    → IsUtf8 text → IsCharBoundary text place → o.findings.diagnostics ≡ [] → ReadsBehindGap text t before place o
    → StandBetween text (piece t) place o.findings.comments o.token.start
clean_behind_gap text t before place o u b clean reads =
    let quiet =
    quiet_parts place o.token.start reads.pieces reads.reading
    (sym (ap (λ (x : Outcome). x.findings.diagnostics) reads.outcome_is) ∙ clean) in
    clean_gap text t before place reads.pieces reads.line_has_ended
    (outcome_at reads.line_has_ended o.token.start reads.reading) o u b reads.start reads.gap quiet.0 refl
    reads.outcome_is

clean_plainly : (text : List ℕ) (t : SourceType) (goal : Goal) (before : Option TokenParts) (place : ℕ)
    (o : Outcome) → IsUtf8 text → IsCharBoundary text place → o.findings.diagnostics ≡ []
    → ReadsPlainly text t goal before place o → StandBetween text (piece t) place o.findings.comments o.token.start
clean_plainly text t goal before place o u b clean (hashbang begins read) =
    let none : o.findings.comments ≡ [] = ap (λ (x : Outcome). x.findings.comments) read.alone in
    subst (λ cs. StandBetween text (piece t) place cs o.token.start) (sym none)
    (omega (arith, no_hashbang_there goal text place begins))
clean_plainly text t goal before place o u b clean (behind_gap begins read) =
    clean_behind_gap text t before place o u b clean read

clean_attribute : (text : List ℕ) (t : SourceType) (before : Option TokenParts) (place : ℕ) (o : Outcome)
    → IsUtf8 text → IsCharBoundary text place → o.findings.diagnostics ≡ [] → ReadsAttributeValue text t before place o
    → StandBetween text (piece t) place o.findings.comments o.token.start
clean_attribute text t before place o u b clean (string read) =
    let from = read.reads in
    let none : read.string.findings.comments ≡ [] = ap (λ (x : Outcome). x.findings.comments) from.outcome_is in
    let reports : gap_diagnostics place read.pieces ++ read.string.findings.diagnostics ≡ [] =
    sym (ap (λ (x : Outcome). x.findings.diagnostics) read.outcome_is) ∙ clean in
    clean_gap text t before place read.pieces read.line_has_ended read.string o u b from.begins read.gap
    (append_nil (gap_diagnostics place read.pieces) read.string.findings.diagnostics reports).0 none read.outcome_is
clean_attribute text t before place o u b clean (plain no_quote read) =
    clean_behind_gap text t before place o u b clean read

-- What a reading finds that reports nothing stands between the place and its token.
pub clean_onward : (text : List ℕ) (t : SourceType) (goal : Goal) (before : Option TokenParts) (place : ℕ)
    (o : Outcome) → IsUtf8 text → IsCharBoundary text place → is_onward goal ≡ true → o.findings.diagnostics ≡ []
    → GoalReads text t goal before place o → StandBetween text (piece t) place o.findings.comments o.token.start
clean_onward text t First before place o u b on clean read = clean_plainly text t First before place o u b clean read
clean_onward text t Next before place o u b on clean read = clean_plainly text t Next before place o u b clean read
clean_onward text t TemplateTail before place o u b on clean read = absurd (cc)
clean_onward text t RegularExpression before place o u b on clean read = absurd (cc)
clean_onward text t RightAngle before place o u b on clean read = absurd (cc)
clean_onward text t TypeScriptLeftAngle before place o u b on clean read = absurd (cc)
clean_onward text t TypeScriptRightAngle before place o u b on clean read = absurd (cc)
clean_onward text t JsxIdentifier before place o u b on clean read = absurd (cc)
clean_onward text t JsxChild before place o u b on clean read =
    child_none text (piece t) (line_has_ended_behind before) place o read
clean_onward text t JsxAttributeValue before place o u b on clean read =
    clean_attribute text t before place o u b clean read

-- the comments of rows
abbrev pub comments_of : List Row → List Comment
comments_of [] = []
comments_of (row ∷ rows) = row.comments ++ comments_of rows

-- A character that passes a test stands at a place.
pub record Passes (text : List ℕ) (test : ℕ → Bool) (p : ℕ) : Type 0 where
  pub first : ℕ
  pub rest : List ℕ
  pub here : from_place text p ≡ first ∷ rest
  pub passes : test first ≡ true

abbrev pub low : ℕ → Bool
low c = nat_lt c 128

-- so it is at each place among ASCII characters that pass
passes_inside : (text : List ℕ) (test : ℕ → Bool) (xs : List ℕ) (p q end : ℕ) → IsUtf8 text → IsCharBoundary text q
    → IsCharBoundary text end → from_place text q ≡ xs ++ from_place text end → list_all low xs ≡ true
    → list_all test xs ≡ true → q ≤ p → p < end → Passes text test p
passes_inside text test [] p q end u b d e ascii all first before =
    absurd (omega (arith, place_past text q end [] u b d e, first, before))
passes_inside text test (x ∷ xs) p q end u b d e ascii all first before =
    let lows = and_parts (low x) (list_all low xs) ascii in
    let parts = and_parts (test x) (list_all test xs) all in
    elim (cases_lt q p) [
      | inl behind ↦ (
          let next = past_character text q x (xs ++ from_place text end) u b e in
          let size : len_utf8 x ≡ 1 = len_utf8_ascii x (ltb-true x 128 lows.0) in
          passes_inside text test xs p (q + len_utf8 x) end u next.0 d next.1 lows.1 parts.1
          (omega (arith, behind, size)) before)
      | inr at ↦ (
          let same : q ≡ p = omega (arith, first, at) in
          record {
            first = x;
            rest = xs ++ from_place text end;
            here = ap (from_place text) (sym same) ∙ e;
            passes = parts.0;
          })
    ]

-- the characters of a spelling behind its first one
abbrev pub later_ones : Kind → List ℕ
later_ones k = drop 1 (kind_text k)

abbrev pub all_later : (ℕ → Bool) → Kind → Bool
all_later test k = list_all low (kind_text k) && (list_all test (later_ones k) && nat_lt 0 (length (kind_text k)))

spelled_inside : (text : List ℕ) (test : ℕ → Bool) (token : TokenParts) (p : ℕ) → IsUtf8 text
    → IsOnPlaces text token → from_place text token.start ≡ kind_text token.kind ++ from_place text token.end
    → all_later test token.kind ≡ true → token.start < p → p < token.end → Passes text test p
spelled_inside text test token p u lies spelled all behind before = by_text (kind_text token.kind) spelled all
  where
    by_text : (xs : List ℕ) → from_place text token.start ≡ xs ++ from_place text token.end
        → (list_all low xs && (list_all test (drop 1 xs) && nat_lt 0 (length xs))) ≡ true → Passes text test p
    by_text [] e f = absurd (cc)
    by_text (x ∷ xs) e f =
        let both = and_parts (list_all low (x ∷ xs)) (list_all test xs && nat_lt 0 (length (x ∷ xs))) f in
        let lows = and_parts (low x) (list_all low xs) both.0 in
        let all_pass = (and_parts (list_all test xs) (nat_lt 0 (length (x ∷ xs))) both.1).0 in
        let next = past_character text token.start x (xs ++ from_place text token.end) u lies.start e in
        let size : len_utf8 x ≡ 1 = len_utf8_ascii x (ltb-true x 128 lows.0) in
        passes_inside text test xs p (token.start + len_utf8 x) token.end u next.0 lies.end next.1 lows.1 all_pass
        (omega (arith, behind, size)) before

abbrev pub no_mark : ℕ → Bool
no_mark c = not (begins_comment c)

abbrev pub no_slash : ℕ → Bool
no_slash c = not (c == 47)

-- A comment does not start within a token that a goal may read again.
none_within : (text : List ℕ) (t : SourceType) (token : TokenParts) (kinds : List Kind) (c : Comment) → IsUtf8 text
    → IsOnPlaces text token → from_place text token.start ≡ kind_text token.kind ++ from_place text token.end
    → is_one_of kinds token.kind ≡ true → list_all (all_later no_slash) kinds ≡ true
    → (is_module t ≡ true) ⊎ (list_all (all_later no_mark) kinds ≡ true)
    → token.start < c.span.start → c.span.start < token.end → IsComment text (piece t) c → ⊥
none_within text t token kinds c u lies spelled is slashes (inl module_is) behind before comment =
    let at = module_begins t comment.line_had_ended (from_place text c.span.start) comment.piece c.kind module_is
    comment.here comment.kind in
    let inside =
    spelled_inside text no_slash token c.span.start u lies spelled
    (one_passes (all_later no_slash) kinds token.kind slashes is) behind before in
    let same : inside.first ∷ inside.rest ≡ 47 ∷ at.0 = sym inside.here ∙ at.1 in
    let first : inside.first ≡ 47 = cc in
    let no : true ≡ false = sym inside.passes ∙ ap no_slash first in cc
none_within text t token kinds c u lies spelled is slashes (inr marks) behind before comment =
    let begun =
    comment_begins t comment.line_had_ended (from_place text c.span.start) comment.piece c.kind comment.here
    comment.kind in
    let inside =
    spelled_inside text no_mark token c.span.start u lies spelled
    (one_passes (all_later no_mark) kinds token.kind marks is) behind before in
    let mark : begins_comment inside.first ≡ true = sym (ap (begins begins_comment) inside.here) ∙ begun in
    let no : true ≡ false = sym inside.passes ∙ ap not mark in cc

-- Comments that stand behind a token that was read again stand behind the token that it was.
pub later_from : (text : List ℕ) (t : SourceType) (token : TokenParts) (kinds : List Kind) (end e : ℕ)
    (comments : List Comment) → IsUtf8 text → IsOnPlaces text token → HasSpelling text token
    → is_re_lexed token.kind ≡ true → is_one_of kinds token.kind ≡ true → list_all (all_later no_slash) kinds ≡ true
    → (is_module t ≡ true) ⊎ (list_all (all_later no_mark) kinds ≡ true) → token.start < end → token.end ≤ e
    → StandBetween text (piece t) end comments e → StandBetween text (piece t) token.end comments e
later_from text t token kinds end e [] u lies spelled again is slashes marks some inside stand = inside
later_from text t token kinds end e (c ∷ cs) u lies spelled again is slashes marks some inside stand =
    elim (cases_lt c.span.start token.end) [
      | inl before ↦ absurd
          (none_within text t token kinds c u lies (spelled again) is slashes marks
          (let at = stand.0 in omega (arith, some, at)) before stand.1)
      | inr behind ↦ (behind, stand.1, stand.2)
    ]
