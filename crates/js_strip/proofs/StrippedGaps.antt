-- A whole gap of a text whose comments are replaced.
use Rattle.std.proofs.Common.{◌≡◌, ℕ, ◌-◌, Bool, true, false, List, [], ◌∷◌, ◌++◌, drop, take, refl, sym}
use Rattle.std.proofs.Common.{◌∙◌, ap, subst, arith, append_assoc, Some}
use Rattle.std.specs.Prelude.{◌&&◌, not, slice_range}
use Rattle.std.specs.Str.{IsCharBoundary, IsUtf8, chars}
use Rattle.std.proofs.lemmas.List.{append_cancel_right}
use Rattle.js_text.specs.Characters.{begins, from_place, is_irregular_whitespace}
use Rattle.js_text.specs.declared.comment.Comment.{Comment}
use Rattle.js_text.specs.declared.comment.CommentKind.{CommentKind}
use Rattle.js_text.specs.declared.comment.CommentKind.TheVariants.{Line, HtmlOpen, HtmlClose}
use Rattle.js_text.specs.declared.source_type.SourceType.{SourceType}
use Rattle.js_text.specs.declared.span.Span.{Span}
use Rattle.js_grammar.specs.Attach.{attach_from, attached}
use Rattle.js_grammar.specs.Gap.{Piece, PieceKind, Pieces, piece}
use Rattle.js_grammar.specs.Gap.PieceKind.{white_space, line_terminator, single_line_comment, multi_line_comment}
use Rattle.js_grammar.specs.Gap.PieceKind.{html_open_comment, html_close_comment, reported_comment}
use Rattle.js_grammar.specs.GapItems.{Gap, Item, comment}
use Rattle.js_grammar.specs.PieceItems.{block_kind, found_comment, is_line_comment, items_from, items_of_kind}
use Rattle.js_grammar.specs.PieceItems.{is_separator, piece_span}
use Rattle.js_grammar.specs.Reading.{place_behind}
use Rattle.js_grammar.proofs.AtPlaces.{behind_characters}
use Rattle.js_grammar.proofs.GapLemmas.{piece_text}
use Rattle.js_grammar.proofs.Reported.{piece_texts, place_behind-append}
use Rattle.js_grammar.specs.Blanks.{stand_in}
use Rattle.js_grammar.proofs.BlankedGaps.{blank_texts, characters_for}
use Rattle.js_strip.proofs.Standing.{StandBetween, behind_line_end, behind_listed, between_append, pieces_stand}
use Rattle.js_grammar.specs.Blanks.{kind_of}
use Rattle.js_strip.proofs.StrippedChars.{chars_between, chars_stand_in, stripped_chars}
use Rattle.js_strip.proofs.StrippedText.{stripped_from}

nothing_between : (text : List ℕ) (p : ℕ) → slice_range text p p ≡ []
nothing_between text p = let none : p - p ≡ 0 = omega arith in ap (λ n. take n (drop p text)) none

-- what is left from the place of a piece, by what is left behind it
piece_stripped : (text : List ℕ) (t : SourceType) (gap : Gap) (before : List Item) (ended : Bool) (p : ℕ) (ends : Bool)
    (x : Piece) (xs : List Piece) (more : List Comment) (e : ℕ) → IsUtf8 text → IsCharBoundary text p
    → IsCharBoundary text (place_behind p x.text) → from_place text (place_behind p x.text) ≡ x.rest
    → piece t ended (from_place text p) ≡ Some x
    → ((line : Bool) (earlier : List Item) → StandBetween text (piece t) (place_behind p x.text)
    (attach_from gap earlier (items_from (place_behind p x.text) line xs) ++ more) e)
    → ((line : Bool) (earlier : List Item) → chars (stripped_from text (place_behind p x.text)
    (attach_from gap earlier (items_from (place_behind p x.text) line xs) ++ more))
    ≡ blank_texts xs ++ chars (stripped_from text (place_behind p (piece_texts (x ∷ xs))) more))
    → chars (stripped_from text p (attach_from gap before (items_from p ends (x ∷ xs)) ++ more))
    ≡ blank_texts (x ∷ xs) ++ chars (stripped_from text (place_behind p (piece_texts (x ∷ xs))) more)
piece_stripped text t gap before ended p ends x xs more e u b d rest_is here all later = by_kind x.kind
  where
    x_text : chars (slice_range text p (place_behind p x.text)) ≡ x.text
    x_text =
        append_cancel_right (chars (slice_range text p (place_behind p x.text))) x.text
        (from_place text (place_behind p x.text))
        (sym (chars_between text p (place_behind p x.text) u (omega arith) b d)
        ∙ piece_text t ended (from_place text p) x here ∙ ap (λ h. x.text ++ h) (sym rest_is))

    no_comment : (line : Bool) (earlier : List Item)
        → chars (stripped_from text p (attach_from gap earlier (items_from (place_behind p x.text) line xs) ++ more))
        ≡ (x.text ++ blank_texts xs) ++ chars (stripped_from text (place_behind p (piece_texts (x ∷ xs))) more)
    no_comment line earlier =
        let q = place_behind p x.text in
        let cs = attach_from gap earlier (items_from q line xs) in
        stripped_chars text t p q e (cs ++ more) u (omega arith) b d (all line earlier)
        ∙ ap (λ s. s ++ chars (stripped_from text q (cs ++ more))) x_text
        ∙ ap (λ s. x.text ++ s) (later line earlier)
        ∙ sym
        (append_assoc x.text (blank_texts xs)
        (chars (stripped_from text (place_behind p (piece_texts (x ∷ xs))) more)))

    a_comment : (kind : CommentKind) (c : Comment) → c.span ≡ record { start = p; end = place_behind p x.text }
        → c.kind ≡ kind → (line : Bool) (earlier : List Item)
        → chars (stripped_from text p
        ((c ∷ attach_from gap earlier (items_from (place_behind p x.text) line xs)) ++ more))
        ≡ ((stand_in kind ∷ []) ++ blank_texts xs)
        ++ chars (stripped_from text (place_behind p (piece_texts (x ∷ xs))) more)
    a_comment kind c span is line earlier =
        let start : c.span.start ≡ p = ap (λ (s : Span). s.start) span in
        let end : c.span.end ≡ place_behind p x.text = ap (λ (s : Span). s.end) span in
        let cs = attach_from gap earlier (items_from (place_behind p x.text) line xs) ++ more in
        ap (λ n. chars (slice_range text p n ++ stand_in c.kind ∷ stripped_from text c.span.end cs)) start
        ∙ ap (λ s. chars (s ++ stand_in c.kind ∷ stripped_from text c.span.end cs)) (nothing_between text p)
        ∙ chars_stand_in c.kind (stripped_from text c.span.end cs)
        ∙ ap (λ k. stand_in k ∷ chars (stripped_from text c.span.end cs)) is
        ∙ ap (λ n. stand_in kind ∷ chars (stripped_from text n cs)) end
        ∙ ap (λ s. stand_in kind ∷ s) (later line earlier)

    by_kind : (k : PieceKind)
        → chars (stripped_from text p
        (attach_from gap before (items_of_kind k p ends x
        ++ items_from (place_behind p x.text) (is_line_comment k) xs) ++ more))
        ≡ (characters_for (kind_of k x.text) x.text ++ blank_texts xs)
        ++ chars (stripped_from text (place_behind p (piece_texts (x ∷ xs))) more)
    by_kind white_space =
        behind_listed
        (λ cs. chars (stripped_from text p (cs ++ more))
        ≡ (x.text ++ blank_texts xs) ++ chars (stripped_from text (place_behind p (piece_texts (x ∷ xs))) more))
        gap before (items_from (place_behind p x.text) false xs) (begins is_irregular_whitespace x.text) (piece_span p x)
        (no_comment false)
    by_kind line_terminator =
        behind_line_end
        (λ cs. chars (stripped_from text p (cs ++ more))
        ≡ (x.text ++ blank_texts xs) ++ chars (stripped_from text (place_behind p (piece_texts (x ∷ xs))) more))
        gap before (items_from (place_behind p x.text) false xs) (begins is_separator x.text && not ends) (piece_span p x)
        (no_comment false)
    by_kind single_line_comment =
        a_comment Line
        (attached gap before (found_comment p Line x) (items_from (place_behind p x.text) true xs)) refl refl true
        (comment (found_comment p Line x) ∷ before)
    by_kind multi_line_comment =
        a_comment (block_kind x.text)
        (attached gap before (found_comment p (block_kind x.text) x) (items_from (place_behind p x.text) false xs)) refl refl false
        (comment (found_comment p (block_kind x.text) x) ∷ before)
    by_kind html_open_comment =
        a_comment HtmlOpen
        (attached gap before (found_comment p HtmlOpen x) (items_from (place_behind p x.text) true xs)) refl refl true
        (comment (found_comment p HtmlOpen x) ∷ before)
    by_kind html_close_comment =
        a_comment HtmlClose
        (attached gap before (found_comment p HtmlClose x) (items_from (place_behind p x.text) true xs)) refl refl true
        (comment (found_comment p HtmlClose x) ∷ before)
    by_kind reported_comment =
        a_comment HtmlOpen
        (attached gap before (found_comment p HtmlOpen x) (items_from (place_behind p x.text) true xs)) refl refl true
        (comment (found_comment p HtmlOpen x) ∷ before)

-- What is left from the place of a gap, without its comments and those behind it: what stands for its pieces, and what
-- is left behind it.
pub gap_stripped : (text : List ℕ) (t : SourceType) (gap : Gap) (before : List Item) (ended : Bool) (p : ℕ)
    (ends : Bool) (pieces : List Piece) (has : Bool) (rest : List ℕ) (more : List Comment) (e : ℕ) → IsUtf8 text
    → IsCharBoundary text p → Pieces (piece t) ended (from_place text p) pieces has rest
    → StandBetween text (piece t) (place_behind p (piece_texts pieces)) more e
    → chars (stripped_from text p (attach_from gap before (items_from p ends pieces) ++ more))
    ≡ blank_texts pieces ++ chars (stripped_from text (place_behind p (piece_texts pieces)) more)
gap_stripped text t gap before ended p ends [] has rest more e u b g stand =
    let same : p ≡ place_behind p [] = omega arith in ap (λ n. chars (stripped_from text n more)) same
gap_stripped text t gap before ended p ends (x ∷ xs) has rest more e u b g stand =
    let next = behind_characters text p x.text x.rest u b (piece_text t ended (from_place text p) x g.0) in
    let q = place_behind p x.text in
    let behind : Pieces (piece t) x.line_has_ended (from_place text q) xs has rest =
    subst (λ h. Pieces (piece t) x.line_has_ended h xs has rest) (sym next.1) g.1 in
    let stand_there : StandBetween text (piece t) (place_behind q (piece_texts xs)) more e =
    subst (λ n. StandBetween text (piece t) n more e) (sym (place_behind-append p x.text (piece_texts xs))) stand in
    piece_stripped text t gap before ended p ends x xs more e u b next.0 next.1 g.0
    (λ line earlier.
    between_append text (piece t) q (place_behind q (piece_texts xs)) e (attach_from gap earlier (items_from q line xs))
    more (pieces_stand text (piece t) (piece_text t) gap earlier x.line_has_ended q line xs has rest u next.0 behind)
    stand_there)
    (λ line earlier.
    gap_stripped text t gap earlier x.line_has_ended q line xs has rest more e u next.0 behind stand_there
    ∙ ap (λ n. blank_texts xs ++ chars (stripped_from text n more)) (place_behind-append p x.text (piece_texts xs)))
