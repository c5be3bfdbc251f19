-- The steps of reading a gap, piece by piece.
use Rattle.js_source.proofs.Places.{at_boundary, same_at}
use Rattle.std.proofs.Common.{◌≡◌, ℕ, ◌+◌, ◌<◌, Bool, true, false, not, ◌&&◌, ◌==◌, List, [], ◌∷◌, ◌++◌, length}
use Rattle.std.proofs.Common.{refl, sym, ◌∙◌, ap, subst, arith, append-nil, Some, None}
use Rattle.std.specs.Char.{len_utf8, encode_utf8}
use Rattle.std.proofs.lemmas.Str.{length-encode, len_utf8_bounds}
use Rattle.std.specs.Str.{IsCharBoundary, encode_utf8_all}
use Rattle.std.proofs.lemmas.Bool.{eqb-true}
use Rattle.js_text.specs.Characters.{from_place, begins, is_white_space, is_irregular_whitespace, is_line_terminator}
use Rattle.js_text.specs.declared.source_type.SourceType.{SourceType}
use Rattle.js_text.specs.declared.span.Span.{Span}
use Rattle.js_text.proofs.TextLemmas.{place_past, place_unique, past_character}
use Rattle.js_grammar.specs.Gap.{Piece, one_character, piece, Pieces, AllPieces}
use Rattle.js_grammar.specs.Gap.PieceKind.{white_space, line_terminator}
use Rattle.js_grammar.specs.GapItems.{line_end}
use Rattle.js_grammar.specs.PieceItems.{piece_length, piece_span, is_line_comment, is_separator, listed_if}
use Rattle.js_grammar.proofs.GapLemmas.{piece_takes, all_pieces-cons, all_pieces-nil}
use Rattle.js_grammar.proofs.PieceLemmas.{piece-white, piece-line_terminator}
use Rattle.js_source.specs.Source.{At, rest, Reads}
use Rattle.js_source.specs.Runs.{IsRun, PassesRun, TellsClass}
use Rattle.js_trivia.specs.Trivia.{Trivia, calls, handle_newline}
use Rattle.js_reader.specs.Gaps.{AddsPieces, IsAtLineEnd}
use Rattle.js_reader.specs.Reader.{SkipsGap, Leads, SkipsSome, SkipsPiece}
use Rattle.js_reader.specs.Reader.{SkipsEndOfLine, IsUnmoved}
use Rattle.js_reader.specs.Tables.{is_blank}
use Rattle.js_reader.specs.declared.findings_builder.FindingsBuilder.{FindingsBuilder}
use Rattle.js_reader.specs.declared.reader.Reader.{Reader}
use Rattle.js_reader.proofs.PartSteps.{blank_is_plain, blank_is_white}
use Rattle.js_reader.proofs.TriviaSteps.{adds_none, adds_items, adds_behind, calls-append}

-- one piece of a gap, behind which the reader stands, and what was told of it
pub record IsBehindPiece (behind : Bool) (old : Reader) (before : FindingsBuilder) (ends : Bool) (new : Reader)
    (after : FindingsBuilder) : Type 0 where
  pub text : new.source.text ≡ old.source.text
  pub source_type : new.source_type ≡ old.source_type
  pub x : Piece
  pub is_next : piece old.source_type old.line_has_ended (rest old.source) ≡ Some x
  pub line_has_ended : x.line_has_ended ≡ new.line_has_ended
  pub left : x.rest ≡ rest new.source
  pub place : new.source.place ≡ old.source.place + piece_length x
  pub adds : AddsPieces behind old.source_type old.source.place (x ∷ []) before after
  -- whether it is a line comment
  pub ends_line : is_line_comment x.kind ≡ ends

-- a piece that was skipped, before a longest gap
pub piece_leads : (behind : Bool) (old : Reader) (before : FindingsBuilder) (ends : Bool) (new : Reader)
    (after : FindingsBuilder) → IsBehindPiece behind old before ends new after → Leads behind old before ends new after
piece_leads behind old before ends new after p later found s =
    let t = old.source_type in
    let pieces = s.gap.pieces in
    let all : AllPieces (piece t) p.x.line_has_ended p.x.rest pieces later.line_has_ended (rest later.source) =
    subst (λ b. AllPieces (piece t) b p.x.rest pieces later.line_has_ended (rest later.source)) (sym p.line_has_ended)
    (subst (λ cs. AllPieces (piece t) new.line_has_ended cs pieces later.line_has_ended (rest later.source))
    (sym p.left)
    (subst (λ u. AllPieces (piece u) new.line_has_ended (rest new.source) pieces later.line_has_ended
    (rest later.source)) p.source_type s.gap.all)) in
    let adds : AddsPieces (is_line_comment p.x.kind) t (old.source.place + piece_length p.x) pieces after found =
    subst (λ b. AddsPieces b t (old.source.place + piece_length p.x) pieces after found) (sym p.ends_line)
    (subst (λ n. AddsPieces ends t n pieces after found) p.place
    (subst (λ u. AddsPieces ends u new.source.place pieces after found) p.source_type s.adds)) in
    record {
      text = s.text ∙ p.text;
      source_type = s.source_type ∙ p.source_type;
      gap = record {
        pieces = p.x ∷ pieces;
        all =
            all_pieces-cons (piece t) old.line_has_ended (rest old.source) p.x pieces later.line_has_ended
            (rest later.source) p.is_next all;
      };
      adds = adds_behind behind t old.source.place p.x pieces before after found p.adds adds;
    }

pub piece_shorter : (behind : Bool) (old : Reader) (before : FindingsBuilder) (ends : Bool) (new : Reader)
    (after : FindingsBuilder) → IsBehindPiece behind old before ends new after
    → length (rest new.source) < length (rest old.source)
piece_shorter behind old before ends new after p =
    subst (λ (xs : List ℕ). length xs < length (rest old.source)) p.left
    (piece_takes old.source_type old.line_has_ended (rest old.source) p.x p.is_next)

pub some_skipped : (old : Reader) (before : FindingsBuilder) (new : Reader) (after : FindingsBuilder)
    → IsBehindPiece false old before false new after → SkipsSome old before new after
some_skipped old before new after p = record {
  text = p.text;
  source_type = p.source_type;
  leads = piece_leads false old before false new after p;
  fewer = piece_shorter false old before false new after p;
}

-- the way from a place to a later one
pub on_to : (old new : At) (xs : List ℕ) → new.text ≡ old.text
    → rest old ≡ xs ++ rest new → new.place ≡ old.place + length (encode_utf8_all xs)
on_to old new xs text here =
    place_past old.text old.place new.place xs old.placed.utf8 old.placed.boundary
    (subst (λ (u : List ℕ). IsCharBoundary u new.place) text new.placed.boundary)
    (here ∙ ap (λ u. xs ++ from_place u new.place) text)

-- and that over a character
pub character_on : (old new : At) (c : ℕ) → new.text ≡ old.text
    → rest old ≡ c ∷ rest new → old.place < new.place
character_on old new c text here =
    omega (
      arith,
      on_to old new (c ∷ []) text here,
      ap length (append-nil (encode_utf8 c)),
      length-encode c,
      (len_utf8_bounds c).0,
    )

-- where no piece begins, the longest gap is empty
pub no_gap_left : (behind : Bool) (old new : Reader) (before after : FindingsBuilder) → IsUnmoved old new
    → after ≡ before
    → piece old.source_type old.line_has_ended (rest old.source) ≡ None → SkipsGap behind old before new after
no_gap_left behind old new before after same e none =
    subst (λ f. SkipsGap behind old before new f) (sym e) record {
      text = ap (λ (a : At). a.text) same.source;
      source_type = same.stays.source_type;
      gap = record {
        pieces = [];
        all =
            subst (λ b. AllPieces (piece old.source_type) old.line_has_ended (rest old.source) [] b (rest new.source))
            (sym same.stays.line_has_ended)
            (subst (λ (a : At). AllPieces (piece old.source_type) old.line_has_ended (rest old.source) []
            old.line_has_ended (rest a)) (sym same.source)
            (all_pieces-nil (piece old.source_type) old.line_has_ended (rest old.source) none));
      };
      adds = adds_none behind old.source_type old.source.place before;
    }

-- a longest gap from a reader that has not moved
pub gap_from : (behind : Bool) (old mid later : Reader) (before found : FindingsBuilder) → IsUnmoved old mid
    → SkipsGap behind mid before later found → SkipsGap behind old before later found
gap_from behind old mid later before found same s =
    let moved : SkipsGap behind
    (record mid {
      source = old.source;
      source_type = old.source_type;
      line_has_ended = old.line_has_ended;
    }) before later found =
    subst (λ (a : At). SkipsGap behind
    (record mid {
      source = a;
      source_type = old.source_type;
      line_has_ended = old.line_has_ended;
    }) before later found) same.source
    (subst (λ t. SkipsGap behind
    (record mid { source_type = t; line_has_ended = old.line_has_ended }) before later found)
    same.stays.source_type
    (subst (λ b. SkipsGap behind (record mid { line_has_ended = b }) before later found) same.stays.line_has_ended s))
    in
    same_fields behind mid old later before found moved
  where
    same_fields : (behind : Bool) (mid old later : Reader) (before found : FindingsBuilder)
        → SkipsGap behind
        (record mid {
          source = old.source;
          source_type = old.source_type;
          line_has_ended = old.line_has_ended;
        }) before later found
        → SkipsGap behind old before later found
    same_fields behind mid old later before found s = record {
      text = s.text;
      source_type = s.source_type;
      gap = s.gap;
      adds = s.adds;
    }

-- and a piece
pub piece_from : (old mid new : Reader) (before told after : FindingsBuilder) (skipped : Bool) → IsUnmoved old mid
    → told ≡ before → SkipsPiece mid told skipped new after → SkipsPiece old before skipped new after
piece_from old mid new before told after true same e s =
    let there : SkipsSome mid before new after = subst (λ f. SkipsSome mid f new after) e s in
    record {
      text = there.text ∙ ap (λ (a : At). a.text) same.source;
      source_type = there.source_type ∙ same.stays.source_type;
      leads = λ later found g. gap_from false old mid later before found same (there.leads later found g);
      fewer = subst (λ (a : At). length (rest new.source) < length (rest a)) same.source there.fewer;
    }
piece_from old mid new before told after false same e s = (
  record {
    source = s.0.source ∙ same.source;
    stays = record {
      source_type = s.0.stays.source_type ∙ same.stays.source_type;
      line_has_ended = s.0.stays.line_has_ended ∙ same.stays.line_has_ended;
    };
  },
  s.1 ∙ e,
  ap (λ t. piece t old.line_has_ended (rest old.source)) (sym same.stays.source_type)
      ∙ ap (λ b. piece mid.source_type b (rest old.source)) (sym same.stays.line_has_ended)
      ∙ ap (λ (a : At). piece mid.source_type mid.line_has_ended (rest a)) (sym same.source) ∙ s.2,
)

module _ (old : Reader) (before : FindingsBuilder) (source : At) (c : ℕ)
    (text : source.text ≡ old.source.text) (here : rest old.source ≡ c ∷ rest source) where
  -- a character of white space
  pub white_skipped : (trivia : Trivia) → is_white_space c ≡ true
      → trivia
      ≡ calls (listed_if (is_irregular_whitespace c) (record { start = old.source.place; end = source.place }))
      before.trivia
      → IsBehindPiece false old before false (record old { source = source }) (record before { trivia = trivia })
  white_skipped trivia white told =
      let x = one_character white_space old.line_has_ended c (rest source) in
      let place : source.place ≡ old.source.place + piece_length x = on_to old.source source (c ∷ []) text here in
      record {
        text = text;
        source_type = refl;
        x = x;
        is_next =
            ap (piece old.source_type old.line_has_ended) here
            ∙ piece-white old.source_type old.line_has_ended c (rest source) white;
        line_has_ended = refl;
        left = refl;
        place = place;
        adds =
            adds_items false old.source_type old.source.place x before trivia
            (listed_if (is_irregular_whitespace c) (piece_span old.source.place x)) refl refl refl
            (told
            ∙ ap (λ n. calls (listed_if (is_irregular_whitespace c) (record { start = old.source.place; end = n }))
            before.trivia) place);
        ends_line = refl;
      }

  -- a line terminator, which is listed where it is one of two and stands behind no line comment
  pub line_end_skipped : (behind : Bool) (trivia : Trivia) → is_white_space c ≡ false
      → is_line_terminator c ≡ true
      → trivia
      ≡ handle_newline
      (calls (listed_if (is_separator c && not behind) (record { start = old.source.place; end = source.place }))
      before.trivia)
      → IsBehindPiece behind old before false (record old { source = source; line_has_ended = true })
      (record before { trivia = trivia })
  line_end_skipped behind trivia dark ends told =
      let x = one_character line_terminator true c (rest source) in
      let place : source.place ≡ old.source.place + piece_length x = on_to old.source source (c ∷ []) text here in
      let listed = listed_if (is_separator c && not behind) (piece_span old.source.place x) in
      record {
        text = text;
        source_type = refl;
        x = x;
        is_next =
            ap (piece old.source_type old.line_has_ended) here
            ∙ piece-line_terminator old.source_type old.line_has_ended c (rest source) dark ends;
        line_has_ended = refl;
        left = refl;
        place = place;
        adds =
            adds_items behind old.source_type old.source.place x before trivia (listed ++ line_end ∷ []) refl refl
            refl
            (told
            ∙ ap (λ n. handle_newline (calls (listed_if (is_separator c && not behind)
            (record { start = old.source.place; end = n })) before.trivia)) place
            ∙ sym (calls-append listed (line_end ∷ []) before.trivia));
        ends_line = refl;
      }

dark_by : (c d : ℕ) → is_white_space d ≡ false → (c == d) ≡ true → is_white_space c ≡ false
dark_by c d dark e = ap is_white_space (eqb-true c d e) ∙ dark

-- a line terminator is no white space
pub line_end_is_dark : (c : ℕ) → is_line_terminator c ≡ true → is_white_space c ≡ false
unfolding is_white_space is_irregular_whitespace is_line_terminator
line_end_is_dark c e = first (c == 10) refl
  where
    fourth : (b : Bool) → (c == 10) ≡ false → (c == 13) ≡ false → (c == 0x2028) ≡ false → (c == 0x2029) ≡ b
        → is_white_space c ≡ false
    fourth true f g h t = dark_by c 0x2029 refl t
    fourth false f g h t = absurd (let none : is_line_terminator c ≡ false = rw (f, g, h, t) refl in cc)

    third : (b : Bool) → (c == 10) ≡ false → (c == 13) ≡ false → (c == 0x2028) ≡ b → is_white_space c ≡ false
    third true f g t = dark_by c 0x2028 refl t
    third false f g t = fourth (c == 0x2029) f g t refl

    second : (b : Bool) → (c == 10) ≡ false → (c == 13) ≡ b → is_white_space c ≡ false
    second true f t = dark_by c 13 refl t
    second false f t = third (c == 0x2028) f t refl

    first : (b : Bool) → (c == 10) ≡ b → is_white_space c ≡ false
    first true t = dark_by c 10 refl t
    first false t = second (c == 13) t refl

and_false : (b : Bool) → (b && false) ≡ false
and_false true = refl
and_false false = refl

pub and_true : (b : Bool) → (b && true) ≡ b
and_true true = refl
and_true false = refl

not_false : (b : Bool) → not b ≡ false → b ≡ true
not_false true e = refl
not_false false e = absurd (cc)

-- the line end behind a line comment
pub end_of_line : (old : Reader) (before : FindingsBuilder) (source : At) (c : ℕ) (trivia : Trivia)
    → Reads old.source source c → IsAtLineEnd (rest old.source)
    → trivia ≡ handle_newline before.trivia
    → SkipsEndOfLine old before (record old { source = source; line_has_ended = true })
    (record before { trivia = trivia })
end_of_line old before source c trivia reads end told =
    let after : FindingsBuilder = record before { trivia = trivia } in
    let ends : is_line_terminator c ≡ true =
    not_false (is_line_terminator c) (sym (ap (begins (λ d. not (is_line_terminator d))) reads.here) ∙ end) in
    let span : Span = record { start = old.source.place; end = source.place } in
    let p : IsBehindPiece true old before false (record old { source = source; line_has_ended = true }) after =
    line_end_skipped old before source c reads.text reads.here true trivia (line_end_is_dark c ends) ends (told
    ∙ ap (λ b. handle_newline (calls (listed_if b span) before.trivia)) (sym (and_false (is_separator c)))) in
    record {
      text = p.text;
      source_type = p.source_type;
      leads = piece_leads true old before false (record old { source = source; line_has_ended = true }) after p;
      fewer = omega (arith, ap length reads.here);
    }

no_pieces : (t : SourceType) (line_has_ended : Bool) (xs : List Piece) (e : Bool) (r : List ℕ)
    → Pieces (piece t) line_has_ended [] xs e r → xs ≡ []
no_pieces t line_has_ended [] e r h = refl
no_pieces t line_has_ended (x ∷ xs) e r h = absurd (let none = h.0 in cc)

-- and at the end of the text nothing follows a line comment
pub end_of_text : (old : Reader) (before : FindingsBuilder) (source : At) → source ≡ old.source → rest old.source ≡ []
    → SkipsEndOfLine old before (record old { source = source }) before
end_of_text old before source same none =
    subst (λ (a : At). SkipsEndOfLine old before (record old { source = a }) before) (sym same) record {
      text = refl;
      source_type = refl;
      leads = λ later found s.
          let t = old.source_type in
          let empty : s.gap.pieces ≡ [] =
          no_pieces t old.line_has_ended s.gap.pieces later.line_has_ended (rest later.source)
          (subst (λ cs. Pieces (piece t) old.line_has_ended cs s.gap.pieces later.line_has_ended (rest later.source))
          none s.gap.all.pieces_are) in
          let all = subst (λ xs. AllPieces (piece t) old.line_has_ended (rest old.source) xs later.line_has_ended
          (rest later.source)) empty s.gap.all in
          let adds : AddsPieces false t old.source.place [] before found =
          subst (λ xs. AddsPieces false t old.source.place xs before found) empty s.adds in
          record {
            text = s.text;
            source_type = s.source_type;
            gap = record { pieces = []; all = all };
            adds = adds;
          };
      fewer = omega arith;
    }

-- LF
pub line_feed_skipped : (old : Reader) (before : FindingsBuilder) (source : At) (trivia : Trivia)
    → source.text ≡ old.source.text → rest old.source ≡ 10 ∷ rest source
    → trivia ≡ handle_newline before.trivia
    → SkipsSome old before (record old { source = source; line_has_ended = true }) (record before { trivia = trivia })
unfolding is_white_space is_irregular_whitespace is_line_terminator is_separator
line_feed_skipped old before source trivia text here told =
    some_skipped old before (record old { source = source; line_has_ended = true }) (record before { trivia = trivia })
    (line_end_skipped old before source 10 text here false trivia refl refl told)

-- TABs and SPs
blank_run : (table : List Bool) → TellsClass is_blank table → (run : List ℕ) (old : Reader) (source : At)
    (found : FindingsBuilder)
    → IsRun table run → source.text ≡ old.source.text
    → rest old.source ≡ run ++ rest source → Leads false old found false (record old { source = source }) found
blank_run table tells [] old source found all text here later after s =
    let place : old.source.place ≡ source.place =
    place_unique old.source.text old.source.place source.place old.source.placed.utf8 old.source.placed.boundary
    (subst (λ (u : List ℕ). IsCharBoundary u source.place) text source.placed.boundary)
    (here ∙ ap (λ u. from_place u source.place) text) in
    let same : source ≡ old.source = same_at source old.source text (sym place) in
    subst (λ (a : At). SkipsGap false (record old { source = a }) found later after) same s
blank_run table tells (b ∷ bs) old source found all text here later after s =
    let past = past_character old.source.text old.source.place b (bs ++ rest source) old.source.placed.utf8
    old.source.placed.boundary here in
    let mid = at_boundary old.source (old.source.place + len_utf8 b) past.0 in
    let blank : is_blank b ≡ true = sym (tells.tells b all.0) ∙ all.1 in
    let p : IsBehindPiece false old found false (record old { source = mid }) found =
    white_skipped old found mid b refl (here ∙ ap (λ cs. b ∷ cs) (sym past.1)) found.trivia
    (blank_is_white b blank) (rw (blank_is_plain b blank) refl) in
    piece_leads false old found false (record old { source = mid }) found p later after
    (blank_run table tells bs (record old { source = mid }) source found all.2 text past.1 later after s)

pub blanks_lead : (table : List Bool) → TellsClass is_blank table
    → (old : Reader) (source : At) (found : FindingsBuilder)
    → source.text ≡ old.source.text
    → PassesRun table old.source.text old.source.place source.place
    → Leads false old found false (record old { source = source }) found
blanks_lead table tells old source found text run =
    blank_run table tells run.run old source found run.all text
    (run.here ∙ ap (λ u. run.run ++ from_place u source.place) (sym text))

-- a reader that is as another but for its tables has the same longest gaps
pub leads_to : (old mid new : Reader) (before after : FindingsBuilder) → Leads false old before false mid after
    → IsUnmoved new mid → Leads false old before false new after
leads_to old mid new before after leads same later found s =
    leads later found (gap_from false mid new later after found (turned new mid same) s)
  where
    turned : (new mid : Reader) → IsUnmoved new mid → IsUnmoved mid new
    turned new mid same = record {
      source = sym same.source;
      stays = record {
        source_type = sym same.stays.source_type;
        line_has_ended = sym same.stays.line_has_ended;
      };
    }
