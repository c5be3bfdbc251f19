-- The steps of a whole gap.
use Rattle.std.proofs.Common.{◌≡◌, ℕ, ◌+◌, ◌<◌, Bool, true, false, List, [], ◌∷◌, ◌++◌, length, refl, sym, ◌∙◌, ap}
use Rattle.std.proofs.Common.{subst, arith, Some, None}
use Rattle.std.specs.Prelude.{codes}
use Rattle.std.specs.Str.{IsCharBoundary}
use Rattle.js_text.specs.Characters.{from_place, from_first, is_line_terminator}
use Rattle.js_text.specs.SourceType.{is_module}
use Rattle.js_text.specs.declared.comment.CommentKind.TheVariants.{HtmlOpen}
use Rattle.js_text.specs.declared.diagnostic.Diagnostic.TheVariants.{HtmlCommentInModule}
use Rattle.js_text.specs.declared.source_type.SourceType.{SourceType}
use Rattle.js_text.proofs.TextLemmas.{place_past, length-from_first, before_from}
use Rattle.js_source.specs.Source.{At, rest}
use Rattle.js_grammar.specs.Gap.{Piece, piece, is_prefix, line_comment, is_reported, whole_gap_piece, Pieces}
use Rattle.js_grammar.specs.Gap.PieceKind.{reported_comment}
use Rattle.js_grammar.specs.Reading.{place_behind}
use Rattle.js_grammar.specs.PieceItems.{items_from, piece_length}
use Rattle.js_grammar.proofs.GapLemmas.{reported, unreported}
use Rattle.js_grammar.proofs.PieceLemmas.{from_first-html_open, longest_gap_leaves}
use Rattle.js_grammar.proofs.Reported.{piece_texts, pieces_text, pieces-append, whole_pieces_of}
use Rattle.js_grammar.proofs.Tests.{prefix_of}
use Rattle.js_trivia.specs.Trivia.{calls}
use Rattle.js_reader.specs.Found.{Grows, reported as noting}
use Rattle.js_reader.specs.Gaps.{AddsPieces}
use Rattle.js_reader.specs.Reader.{SkipsGap, SkipsPieces, IsBehindLine, SkipsReported, SkipsWholeGap, MovesOn}
use Rattle.js_reader.specs.declared.findings_builder.FindingsBuilder.{FindingsBuilder}
use Rattle.js_reader.specs.declared.reader.Reader.{Reader}
use Rattle.js_reader.proofs.GapSteps.{on_to}
use Rattle.js_reader.proofs.TriviaSteps.{ends_line, adds_none, adds_behind, adds_further, grows_none, grows_on}
use Rattle.js_reader.proofs.TriviaSteps.{nothing_added}

-- the place behind the pieces that were skipped
pub pieces_lead : (behind : Bool) (old : Reader) (before : FindingsBuilder) (new : Reader) (after : FindingsBuilder)
    → (s : SkipsPieces behind old before new after)
    → new.source.place ≡ place_behind old.source.place (piece_texts s.pieces)
pieces_lead behind old before new after s =
    let there : IsCharBoundary old.source.text new.source.place =
    subst (λ (u : List ℕ). IsCharBoundary u new.source.place) s.text new.source.placed.boundary in
    let way : rest old.source ≡ piece_texts s.pieces ++ from_place old.source.text new.source.place =
    pieces_text old.source_type old.line_has_ended (rest old.source) s.pieces new.line_has_ended
    (rest new.source) s.pieces_are
    ∙ ap (λ u. piece_texts s.pieces ++ from_place u new.source.place) s.text in
    place_past old.source.text old.source.place new.source.place (piece_texts s.pieces) old.source.placed.utf8
    old.source.placed.boundary there way

-- pieces, and then more pieces
pub skips_further : (behind : Bool) (old : Reader) (before : FindingsBuilder) (mid : Reader) (told : FindingsBuilder)
    (new : Reader) (after : FindingsBuilder) → SkipsPieces behind old before mid told → ((ends : Bool)
    → SkipsPieces ends mid told new after)
    → SkipsPieces behind old before new after
skips_further behind old before mid told new after a all =
    let b = all (ends_line behind a.pieces) in
    let later : Pieces (whole_gap_piece old.source_type) mid.line_has_ended
    (rest mid.source) b.pieces new.line_has_ended (rest new.source) =
    subst
    (λ t. Pieces (whole_gap_piece t) mid.line_has_ended (rest mid.source) b.pieces new.line_has_ended
    (rest new.source)) a.source_type b.pieces_are in
    let there = pieces_lead behind old before mid told a in
    let adds : AddsPieces (ends_line behind a.pieces) old.source_type
    (place_behind old.source.place (piece_texts a.pieces)) b.pieces told after =
    subst (λ t. AddsPieces (ends_line behind a.pieces) t (place_behind old.source.place (piece_texts a.pieces)) b.pieces
    told after) a.source_type
    (subst (λ n. AddsPieces (ends_line behind a.pieces) mid.source_type n b.pieces told after) there b.adds) in
    record {
      text = b.text ∙ a.text;
      source_type = b.source_type ∙ a.source_type;
      pieces = a.pieces ++ b.pieces;
      pieces_are =
          pieces-append (whole_gap_piece old.source_type) old.line_has_ended
          (rest old.source) a.pieces b.pieces mid.line_has_ended new.line_has_ended (rest mid.source)
          (rest new.source) a.pieces_are later;
      adds = adds_further behind old.source_type old.source.place a.pieces b.pieces before told after a.adds adds;
    }

-- a longest gap is pieces of a whole gap, of which nothing is reported
pub gap_pieces : (old new : Reader) (before after : FindingsBuilder) → SkipsGap false old before new after
    → SkipsPieces false old before new after
gap_pieces old new before after s =
    record {
      text = s.text;
      source_type = s.source_type;
      pieces = s.gap.pieces;
      pieces_are =
          whole_pieces_of old.source_type old.line_has_ended (rest old.source) s.gap.pieces new.line_has_ended
          (rest new.source) s.gap.all.pieces_are;
      adds = s.adds;
    }

pub ends_in_gap : (behind : Bool) (old new : Reader) (before after : FindingsBuilder)
    → SkipsGap behind old before new after
    → piece new.source_type new.line_has_ended (rest new.source) ≡ None
ends_in_gap behind old new before after s =
    ap (λ t. piece t new.line_has_ended (rest new.source)) s.source_type ∙ s.gap.all.longest

pub line_shorter : (here left : List ℕ) (behind : List ℕ) → here ≡ codes "<!--" ++ behind
    → left ≡ from_first is_line_terminator here → length left < length here
line_shorter here left behind e f =
    omega (
      arith,
      ap length (f ∙ ap (from_first is_line_terminator) e ∙ from_first-html_open behind),
      length-from_first is_line_terminator behind,
      ap length e,
    )

-- a reported comment, and the longest gap behind it
pub reported_skips : (old : Reader) (before : FindingsBuilder) (line told : Reader) (found noted : FindingsBuilder)
    (new : Reader) (after : FindingsBuilder) → is_module old.source_type ≡ true → old.line_has_ended ≡ true
    → IsBehindLine HtmlOpen old before line found
    → told.source ≡ line.source → told.source_type ≡ line.source_type → told.line_has_ended ≡ line.line_has_ended
    → noted
    ≡ noting (HtmlCommentInModule (record { start = old.source.place; end = old.source.place + 4 }) ∷ []) found
    → SkipsGap true told noted new after → SkipsReported old before true new after
reported_skips old before line told found noted new after module_is line_ended is source source_type line_has_ended
    noted_is gap =
    let t = old.source_type in
    let comment = line_comment reported_comment old.line_has_ended (rest old.source) in
    let note = HtmlCommentInModule (record { start = old.source.place; end = old.source.place + 4 }) in
    let pieces = gap.gap.pieces in
    let begins : is_prefix (codes "<!--") (rest old.source) ≡ true =
    ap (is_prefix (codes "<!--")) is.here ∙ prefix_of (codes "<!--") is.behind in
    let stands : is_reported t old.line_has_ended (rest old.source) ≡ true =
    rw (begins, module_is, line_ended) refl in
    let left : rest told.source ≡ comment.rest = ap (λ (a : At). rest a) source ∙ is.left in
    let same_type : told.source_type ≡ t = source_type ∙ is.stays.source_type in
    let same_line : told.line_has_ended ≡ old.line_has_ended = line_has_ended ∙ is.stays.line_has_ended in
    let place : told.source.place ≡ old.source.place + piece_length comment =
    ap (λ (a : At). a.place) source
    ∙ on_to old.source line.source comment.text is.text
    (sym (before_from is_line_terminator (rest old.source)) ∙ ap (λ cs. comment.text ++ cs) (sym is.left)) in
    let whole =
    whole_pieces_of told.source_type told.line_has_ended (rest told.source) pieces new.line_has_ended
    (rest new.source) gap.gap.all.pieces_are in
    let moved : Pieces (whole_gap_piece t) old.line_has_ended comment.rest pieces new.line_has_ended (rest new.source) =
    subst (λ cs. Pieces (whole_gap_piece t) old.line_has_ended cs pieces new.line_has_ended (rest new.source)) left
    (subst (λ b. Pieces (whole_gap_piece t) b (rest told.source) pieces new.line_has_ended (rest new.source)) same_line
    (subst (λ u. Pieces (whole_gap_piece u) told.line_has_ended (rest told.source) pieces new.line_has_ended
    (rest new.source)) same_type whole)) in
    let later : AddsPieces true t (old.source.place + piece_length comment) pieces noted after =
    subst (λ n. AddsPieces true t n pieces noted after) place
    (subst (λ u. AddsPieces true u told.source.place pieces noted after) same_type gap.adds) in (
      λ behind. record {
        text = gap.text ∙ ap (λ (a : At). a.text) source ∙ is.text;
        source_type = gap.source_type ∙ same_type;
        pieces = comment ∷ pieces;
        pieces_are = (reported t old.line_has_ended (rest old.source) stands, moved);
        adds =
            adds_behind behind t old.source.place comment pieces before noted after
            (noted_is ∙ ap (noting (note ∷ [])) is.told
            ∙ ap (λ (f : FindingsBuilder).
            record f {
              errors = before.errors ++ note ∷ [];
              trivia = calls (items_from old.source.place behind (comment ∷ [])) before.trivia;
            }) (nothing_added before)) later;
      },
      ends_in_gap true told new noted after gap,
      omega (
        arith,
        longest_gap_leaves told.source_type told.line_has_ended (rest told.source) new.line_has_ended
            (rest new.source) gap.gap,
        ap (λ (a : At). length (rest a)) source,
        line_shorter (rest old.source) (rest line.source) is.behind is.here is.left,
      ),
    )

-- a reader that has skipped pieces has moved on
pub pieces_move_on : (behind : Bool) (old mid new : Reader) (before after : FindingsBuilder)
    → SkipsPieces behind old before mid after → MovesOn mid new → MovesOn old new
pieces_move_on behind old mid new before after s m = record {
  text = m.text ∙ s.text;
  source_type = m.source_type ∙ s.source_type;
}

-- what has not moved
pub stays : (old new : Reader) → new.source.text ≡ old.source.text → new.source_type ≡ old.source_type
    → MovesOn old new
stays old new text source_type = record { text = text; source_type = source_type }

-- a longest gap behind which no reported comment stands is the whole gap
pub whole_at_once : (old new : Reader) (before after : FindingsBuilder) → SkipsGap false old before new after
    → is_reported new.source_type new.line_has_ended (rest new.source) ≡ false
    → SkipsWholeGap old before new after
whole_at_once old new before after gap none = record {
  skips = gap_pieces old new before after gap;
  longest = unreported new.source_type new.line_has_ended (rest new.source) none
      ∙ ends_in_gap false old new before after gap;
}

-- no pieces yet
skips_none : (old : Reader) (before : FindingsBuilder) → SkipsPieces false old before old before
skips_none old before =
    record {
      text = refl;
      source_type = refl;
      pieces = [];
      pieces_are = (refl, refl);
      adds = adds_none false old.source_type old.source.place before;
    }

-- pieces as far as a longest gap has ended
pub record SkipsSoFar (old : Reader) (before : FindingsBuilder) (now : Reader) (found : FindingsBuilder) : Type 0 where
  pub skips : SkipsPieces false old before now found
  pub no_piece : piece now.source_type now.line_has_ended (rest now.source) ≡ None
  pub grown : Grows before found

pub none_so_far : (old : Reader) (before : FindingsBuilder) → piece old.source_type old.line_has_ended (rest
    old.source) ≡ None → SkipsSoFar old before old before
none_so_far old before none =
    record { skips = skips_none old before; no_piece = none; grown = grows_none before }

pub so_far : (old mid new : Reader) (before found after : FindingsBuilder) → SkipsSoFar old before mid found
    → SkipsReported mid found true new after → Grows found after → SkipsSoFar old before new after
so_far old mid new before found after s r grown =
    record {
      skips = skips_further false old before mid found new after s.skips r.0;
      no_piece = r.1;
      grown = grows_on before found after s.grown grown;
    }

-- where no piece of any gap begins, it matters not what stands right before
any_flag : (ends : Bool) (t : SourceType) (line_had_ended : Bool) (cs : List ℕ) (place : ℕ) (pieces : List Piece)
    (line_has_ended : Bool) (left : List ℕ) (before after : FindingsBuilder)
    → Pieces (whole_gap_piece t) line_had_ended cs pieces line_has_ended left → piece t line_had_ended cs ≡ None
    → AddsPieces false t place pieces before after → AddsPieces ends t place pieces before after
any_flag ends t line_had_ended cs place [] line_has_ended left before after h none a = a
any_flag ends t line_had_ended cs place (x ∷ xs) line_has_ended left before after h none a =
    by_test (is_reported t line_had_ended cs) refl
  where
    by_test : (b : Bool) → is_reported t line_had_ended cs ≡ b → AddsPieces ends t place (x ∷ xs) before after
    by_test true e =
        let found : Some (line_comment reported_comment line_had_ended cs) ≡ Some x =
        sym (reported t line_had_ended cs e) ∙ h.0 in
        let same : line_comment reported_comment line_had_ended cs ≡ x = cc in
        let there : AddsPieces false t place (line_comment reported_comment line_had_ended cs ∷ xs) before after =
        subst (λ z. AddsPieces false t place (z ∷ xs) before after) (sym same) a in
        subst (λ z. AddsPieces ends t place (z ∷ xs) before after) same
        there
    by_test false e = absurd (let both : None ≡ Some x = sym none ∙ sym (unreported t line_had_ended cs e) ∙ h.0 in cc)

-- a longest gap, and then the rest of the whole gap
pub whole_behind : (old mid new : Reader) (before found after : FindingsBuilder)
    → SkipsGap false old before mid found → SkipsWholeGap mid found new after
    → SkipsWholeGap old before new after
whole_behind old mid new before found after gap whole =
    let rest_of = whole.skips in
    record {
      skips =
          skips_further false old before mid found new after (gap_pieces old mid before found gap) (λ ends. record {
            text = rest_of.text;
            source_type = rest_of.source_type;
            pieces = rest_of.pieces;
            pieces_are = rest_of.pieces_are;
            adds =
                any_flag ends mid.source_type mid.line_has_ended (rest mid.source) mid.source.place rest_of.pieces
                new.line_has_ended (rest new.source) found after rest_of.pieces_are
                (ends_in_gap false old mid before found gap) rest_of.adds;
          });
      longest = whole.longest;
    }
