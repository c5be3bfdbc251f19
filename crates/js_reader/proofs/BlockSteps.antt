-- The steps of comments `/* .. */`.
use Rattle.std.proofs.Common.{◌≡◌, ℕ, ◌-◌, Bool, true, false, not, ◌||◌, ◌==◌, List, [], ◌∷◌, ◌++◌, length, drop, refl}
use Rattle.std.proofs.Common.{sym, ◌∙◌, arith, ap, subst, append_assoc, Option, Some, None, ◌&&◌}
use lib.Utf8
use Rattle.std.specs.Prelude.{codes, if◌then◌else◌, IfSome}
use Rattle.std.specs.List.{list_any}
use Rattle.std.specs.Option.{option_map}
use Rattle.std.specs.Str.{IsCharBoundary}
use Rattle.js_text.specs.Characters.{from_place, begins, is_line_terminator}
use Rattle.js_text.specs.Comment.{is_line_kind, opening_length, closing_length}
use Rattle.js_text.specs.declared.comment.CommentKind.{CommentKind}
use Rattle.js_text.specs.declared.comment.CommentKind.TheVariants.{SingleLineBlock, MultiLineBlock}
use Rattle.js_grammar.specs.Gap.{Piece, Cut, cut-cons, cut_behind, piece, is_prefix}
use Rattle.js_grammar.specs.Gap.PieceKind.{multi_line_comment}
use Rattle.js_grammar.specs.GapItems.{comment}
use Rattle.js_grammar.specs.PieceItems.{found_comment, block_kind}
use Rattle.js_grammar.proofs.GapLemmas.{cuts}
use Rattle.js_grammar.proofs.PieceLemmas.{piece-block_comment, piece-slash}
use Rattle.js_source.specs.Source.{At, rest, BeginsWith}
use Rattle.js_source.proofs.Places.{begins_with}
use Rattle.js_trivia.specs.Trivia.{Trivia, add_comment, found_in, is_licensed_in}
use Rattle.js_spell.specs.Comments.{HasNoAt, ReadsCut}
use Rattle.js_spell.specs.Sequences.{TakesSequence}
use Rattle.js_reader.specs.Reader.{SkipsSome}
use Rattle.js_reader.specs.declared.findings_builder.FindingsBuilder.{FindingsBuilder}
use Rattle.js_reader.specs.declared.reader.Reader.{Reader}
use Rattle.js_reader.proofs.CommentTexts.{IsMarked, found_is, unlicensed}
use Rattle.js_reader.proofs.GapSteps.{IsBehindPiece, on_to, some_skipped}
use Rattle.js_reader.proofs.TriviaSteps.{adds_items}

-- the kind of a block comment
abbrev pub kind_by : Bool → CommentKind
kind_by inside = if inside then MultiLineBlock else SingleLineBlock

opens_with_two : (b : Bool) → opening_length (kind_by b) ≡ 2
opens_with_two true = refl
opens_with_two false = refl

closes_with_two : (b : Bool) → closing_length (kind_by b) ≡ 2
closes_with_two true = refl
closes_with_two false = refl

pub is_block : (b : Bool) → is_line_kind (kind_by b) ≡ false
is_block true = refl
is_block false = refl

-- a text that was cut behind a mark has the mark at the end of its front
EndsInMark : List ℕ → Option Cut → Type 0
EndsInMark mark found = IfSome found (λ cut. (front : List ℕ) × (cut.front ≡ front ++ mark))

one_more : (mark : List ℕ) (c : ℕ) (found : Option Cut) → EndsInMark mark found
    → EndsInMark mark (option_map (cut-cons c) found)
unfolding EndsInMark
one_more mark c None h = tt
one_more mark c (Some cut) h = (c ∷ h.0, ap (λ xs. c ∷ xs) h.1)

by_test : (mark : List ℕ) (c : ℕ) (cs : List ℕ) (b : Bool) → EndsInMark mark
    (option_map (cut-cons c) (cut_behind mark cs))
    → EndsInMark mark
    (if b then Some (record { front = mark; rest = drop (length mark) (c ∷ cs) })
    else option_map (cut-cons c) (cut_behind mark cs))
unfolding EndsInMark
by_test mark c cs true h = ([], refl)
by_test mark c cs false h = h

ends_in_mark : (mark cs : List ℕ) → EndsInMark mark (cut_behind mark cs)
unfolding EndsInMark
ends_in_mark mark [] = tt
ends_in_mark mark (c ∷ cs) =
    by_test mark c cs (is_prefix mark (c ∷ cs)) (one_more mark c (cut_behind mark cs) (ends_in_mark mark cs))

front_of : (cs : List ℕ) (cut : Cut) → cut_behind (codes "*/") cs ≡ Some cut
    → (front : List ℕ) × (cut.front ≡ front ++ codes "*/")
unfolding EndsInMark
front_of cs cut e = subst (EndsInMark (codes "*/")) e (ends_in_mark (codes "*/") cs)

parts_of : (cs : List ℕ) (cut : Cut) → cut_behind (codes "*/") cs ≡ Some cut → cs ≡ cut.front ++ cut.rest
parts_of cs cut e = subst (λ (found : Option Cut). IfSome found (λ k. cs ≡ k.front ++ k.rest)) e (cuts (codes "*/") cs)

not_not : (b : Bool) → not b ≡ false → b ≡ true
not_not true e = refl
not_not false e = absurd (cc)

two_bytes : (length (lib.Utf8.encodes (codes "/*")) ≡ 2) × (length (lib.Utf8.encodes (codes "*/")) ≡ 2)
unfolding lib.Utf8.encode
two_bytes = (refl, refl)

module _ (old mid new : At) (inside is_plain : Bool)
    (takes : TakesSequence (codes "/*") old true mid) (text : new.text ≡ mid.text)
    (cuts : ReadsCut (cut_behind (codes "*/") (rest mid)) new
    (Some (record { line_has_ended = inside; is_plain = is_plain }))) where
  pub block_front : (front : List ℕ) × (cuts.0.front ≡ front ++ codes "*/")
  block_front = front_of (rest mid) cuts.0 cuts.1

  pub block_marked : IsMarked old.text (kind_by inside) old.place new.place (codes "/*") block_front.0 (codes "*/")
  block_marked =
      let same : new.text ≡ old.text = text ∙ takes.0 in
      let front = block_front.0 in
      record {
        utf8 = old.placed.utf8;
        start = old.placed.boundary;
        end = subst (λ (u : List ℕ). IsCharBoundary u new.place) same new.placed.boundary;
        here =
            takes.1
            ∙ ap (λ cs. codes "/*" ++ cs)
            (parts_of (rest mid) cuts.0 cuts.1 ∙ ap (λ xs. xs ++ cuts.0.rest) block_front.1
            ∙ ap (λ xs. (front ++ codes "*/") ++ xs) (cuts.3 ∙ ap (λ u. from_place u new.place) same))
            ∙ sym (append_assoc (codes "/*") (front ++ codes "*/") (from_place old.text new.place));
        opening = two_bytes.0 ∙ sym (opens_with_two inside);
        opening_characters = sym (opens_with_two inside);
        closing = two_bytes.1 ∙ sym (closes_with_two inside);
        closing_characters = sym (closes_with_two inside);
      }

  pub block_unlicensed : (is_plain ≡ true → HasNoAt mid.text mid.place (new.place - 2)) → not is_plain ≡ false
      → is_licensed_in old.text (kind_by inside) (record { start = old.place; end = new.place }) ≡ false
  block_unlicensed plain e =
      unlicensed (kind_by inside) old mid new.place (codes "/*") takes (two_bytes.0 ∙ sym (opens_with_two inside))
      (λ k low high. plain (not_not is_plain e) k low (omega (arith, high, closes_with_two inside)))

-- no line ends in the mark of a block comment
mark_has_no_line_end : (cs : List ℕ) → list_any is_line_terminator (codes "/*" ++ cs) ≡ list_any is_line_terminator cs
unfolding is_line_terminator
mark_has_no_line_end cs = refl

-- a block comment that ends
pub block_skipped : (old : Reader) (before : FindingsBuilder) (mid : At) (new : Reader) (trivia : Trivia)
    (inside is_plain : Bool)
    → TakesSequence (codes "/*") old.source true mid
    → new.source.text ≡ mid.text
    → ReadsCut (cut_behind (codes "*/") (rest mid)) new.source
    (Some (record { line_has_ended = inside; is_plain = is_plain }))
    → new.source_type ≡ old.source_type
    → new.line_has_ended ≡ (old.line_has_ended || inside)
    → trivia
    ≡ add_comment
    (found_in old.source.text (kind_by inside) (record { start = old.source.place; end = new.source.place }))
    before.trivia
    → SkipsSome old before new (record before { trivia = trivia })
block_skipped old before mid new trivia inside is_plain takes text cuts source_type line_has_ended told =
    let after : FindingsBuilder = record before { trivia = trivia } in
    let cut = cuts.0 in
    let marked = block_marked old.source mid new.source inside is_plain takes text cuts in
    let front = block_front old.source mid new.source inside is_plain takes text cuts in
    let x : Piece = record {
      kind = multi_line_comment;
      text = codes "/*" ++ cut.front;
      line_has_ended = old.line_has_ended || list_any is_line_terminator cut.front;
      rest = cut.rest;
    } in
    let has_line_end : list_any is_line_terminator cut.front ≡ inside = cuts.2 in
    let kind : block_kind x.text ≡ kind_by inside =
    ap kind_by (mark_has_no_line_end cut.front ∙ has_line_end) in
    let p : IsBehindPiece false old before false new after = record {
      text = text ∙ takes.0;
      source_type = source_type;
      x = x;
      is_next =
          ap (piece old.source_type old.line_has_ended) takes.1
          ∙ piece-block_comment old.source_type old.line_has_ended (rest mid) ∙ ap (option_map _) cuts.1;
      line_has_ended = ap (λ b. old.line_has_ended || b) has_line_end ∙ sym line_has_ended;
      left = cuts.3;
      place =
          on_to old.source new.source x.text (text ∙ takes.0) (takes.1
          ∙ ap (λ cs. codes "/*" ++ cs)
          (parts_of (rest mid) cut cuts.1 ∙ ap (λ cs. cut.front ++ cs) cuts.3)
          ∙ sym (append_assoc (codes "/*") cut.front (rest new.source)));
      adds =
          adds_items false old.source_type old.source.place x before trivia
          (comment (found_comment old.source.place (block_kind x.text) x) ∷ []) refl refl refl
          (told
          ∙ ap (λ f. add_comment f before.trivia)
          (found_is old.source.text (kind_by inside) old.source.place new.source.place (codes "/*") front.0 (codes "*/")
          marked x (ap (λ cs. codes "/*" ++ cs) front.1)
          ∙ ap (λ k. found_comment old.source.place k x) (sym kind)));
      ends_line = refl;
    } in
    some_skipped old before new after p

-- a `/` that begins no comment
pub no_block : (old : Reader) → BeginsWith 47 (rest old.source) → is_prefix (codes "//") (rest old.source) ≡ false
    → is_prefix (codes "/*") (rest old.source) ≡ false
    → piece old.source_type old.line_has_ended (rest old.source) ≡ None
no_block old begun line block =
    let found = begins_with 47 (rest old.source) begun in
    ap (piece old.source_type old.line_has_ended) found.1
    ∙ piece-slash old.source_type old.line_has_ended found.0
    (second 47 found.0 (sym (ap (is_prefix (codes "//")) found.1) ∙ line))
    (second 42 found.0 (sym (ap (is_prefix (codes "/*")) found.1) ∙ block))
  where
    alone : (a : Bool) → (a && true) ≡ false → a ≡ false
    alone true e = e
    alone false e = refl

    second : (b : ℕ) (cs : List ℕ) → is_prefix (b ∷ []) cs ≡ false → begins (λ c. c == b) cs ≡ false
    second b [] e = refl
    second b (c ∷ cs) e = alone (c == b) e

-- a block comment that nothing ends
pub no_block_end : (old : Reader) (mid : At) → TakesSequence (codes "/*") old.source true mid
    → cut_behind (codes "*/") (rest mid) ≡ None
    → piece old.source_type old.line_has_ended (rest old.source) ≡ None
no_block_end old mid takes none =
    ap (piece old.source_type old.line_has_ended) takes.1
    ∙ piece-block_comment old.source_type old.line_has_ended (rest mid) ∙ ap (option_map _) none
