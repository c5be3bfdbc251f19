-- Where comments lie in a text, and what stands between their marks.
use Rattle.std.proofs.Common.{◌≡◌, ℕ, ◌+◌, ◌-◌, true, false, not, List, ◌++◌, length, take, drop, refl, sym}
use Rattle.std.proofs.Common.{◌∙◌, ap, subst, arith, length-append, append_assoc}
use lib.Utf8
use Rattle.std.specs.Prelude.{slice_index, slice_range}
use Rattle.std.specs.Str.{IsCharBoundary, IsUtf8, encode_utf8_all}
use Rattle.std.proofs.lemmas.Str.{encodes-append}
use Rattle.std.proofs.lemmas.List.{drop-drop}
use Rattle.std.proofs.Math.Seq.{take-append_seam, drop-append_seam}
use Rattle.js_text.specs.Characters.{from_place, before_first, from_first, is_line_terminator}
use Rattle.js_text.specs.Comment.{is_line_kind, opening_length, closing_length}
use Rattle.js_text.specs.declared.comment.CommentKind.{CommentKind}
use Rattle.js_text.specs.declared.comment.CommentKind.TheVariants.{Line, SingleLineBlock, MultiLineBlock, HtmlOpen}
use Rattle.js_text.specs.declared.comment.CommentKind.TheVariants.{HtmlClose}
use Rattle.js_text.proofs.TextLemmas.{place_past, past_characters, rest_bytes}
use Rattle.js_grammar.specs.CommentClasses.{class_of}
use Rattle.js_grammar.specs.Gap.{Piece}
use Rattle.js_grammar.specs.GapItems.{found_at}
use Rattle.js_grammar.specs.PieceItems.{content_characters, found_comment, piece_length}
use Rattle.js_source.specs.Source.{At}
use Rattle.js_spell.specs.Comments.{HasNoAt}
use Rattle.js_spell.specs.Sequences.{TakesSequence}
use Rattle.js_trivia.specs.Trivia.{IsPlacedIn, found_in, is_licensed_in}
use Rattle.js_trivia.proofs.Licences.{none_between}
use Rattle.js_reader.specs.Gaps.{opening_sequence}

-- the mark of a line comment
pub record IsLineMark (kind : CommentKind) : Type 0 where
  pub bytes : length (encode_utf8_all (opening_sequence kind)) ≡ opening_length kind
  pub characters : length (opening_sequence kind) ≡ opening_length kind
  pub unclosed : closing_length kind ≡ 0
  pub before : (cs : List ℕ)
      → before_first is_line_terminator (opening_sequence kind ++ cs)
      ≡ opening_sequence kind ++ before_first is_line_terminator cs
  pub from : (cs : List ℕ)
      → from_first is_line_terminator (opening_sequence kind ++ cs) ≡ from_first is_line_terminator cs

pub line_mark : (kind : CommentKind) → is_line_kind kind ≡ true → IsLineMark kind
unfolding is_line_terminator lib.Utf8.encode
line_mark Line e =
    record { bytes = refl; characters = refl; unclosed = refl; before = λ cs. refl; from = λ cs. refl }
line_mark SingleLineBlock e = absurd (cc)
line_mark MultiLineBlock e = absurd (cc)
line_mark HtmlOpen e =
    record { bytes = refl; characters = refl; unclosed = refl; before = λ cs. refl; from = λ cs. refl }
line_mark HtmlClose e =
    record { bytes = refl; characters = refl; unclosed = refl; before = λ cs. refl; from = λ cs. refl }

-- a comment from a place to another: its mark, what is inside, and the mark that ends it
pub record IsMarked (text : List ℕ) (kind : CommentKind) (p q : ℕ) (mark inside close : List ℕ) : Type 0 where
  pub utf8 : IsUtf8 text
  pub start : IsCharBoundary text p
  pub end : IsCharBoundary text q
  pub here : from_place text p ≡ (mark ++ (inside ++ close)) ++ from_place text q
  pub opening : length (encode_utf8_all mark) ≡ opening_length kind
  pub opening_characters : length mark ≡ opening_length kind
  pub closing : length (encode_utf8_all close) ≡ closing_length kind
  pub closing_characters : length close ≡ closing_length kind

module _ (text : List ℕ) (kind : CommentKind) (p q : ℕ) (mark inside close : List ℕ)
    (is : IsMarked text kind p q mark inside close) where
  pub leads : q ≡ p + length (encode_utf8_all (mark ++ (inside ++ close)))
  leads = place_past text p q (mark ++ (inside ++ close)) is.utf8 is.start is.end is.here

  sizes : length (encode_utf8_all (mark ++ (inside ++ close)))
      ≡ opening_length kind + (length (encode_utf8_all inside) + closing_length kind)
  sizes =
      omega (
        arith,
        ap length (encodes-append mark (inside ++ close)),
        length-append (encode_utf8_all mark) (encode_utf8_all (inside ++ close)),
        ap length (encodes-append inside close),
        length-append (encode_utf8_all inside) (encode_utf8_all close),
        is.opening,
        is.closing,
      )

  pub placed_in : IsPlacedIn text kind (record { start = p; end = q })
  placed_in = record {
    marks = omega (arith, leads, sizes);
    start = is.start;
    end = is.end;
    content_start =
        subst (λ (n : ℕ). IsCharBoundary text n) (ap (λ n. p + n) is.opening)
        (past_characters text p mark ((inside ++ close) ++ from_place text q) is.utf8 is.start
        (is.here ∙ append_assoc mark (inside ++ close) (from_place text q)));
    content_end =
        subst (λ (n : ℕ). IsCharBoundary text n)
        (omega (
          arith,
          leads,
          sizes,
          ap length (encodes-append mark inside),
          length-append (encode_utf8_all mark) (encode_utf8_all inside),
          is.opening,
        ))
        (past_characters text p (mark ++ inside) (close ++ from_place text q) is.utf8 is.start
        (is.here ∙ ap (λ xs. xs ++ from_place text q) (sym (append_assoc mark inside close))
        ∙ append_assoc (mark ++ inside) close (from_place text q)));
  }

  bytes_from : drop p text
      ≡ encode_utf8_all mark ++ (encode_utf8_all inside ++ encode_utf8_all (close ++ from_place text q))
  bytes_from =
      sym (rest_bytes text p is.utf8 is.start) ∙ ap encode_utf8_all is.here
      ∙ ap encode_utf8_all (append_assoc mark (inside ++ close) (from_place text q))
      ∙ encodes-append mark ((inside ++ close) ++ from_place text q)
      ∙ ap (λ bs. encode_utf8_all mark ++ bs)
      (ap encode_utf8_all (append_assoc inside close (from_place text q))
      ∙ encodes-append inside (close ++ from_place text q))

  bytes_behind : drop (p + opening_length kind) text
      ≡ encode_utf8_all inside ++ encode_utf8_all (close ++ from_place text q)
  bytes_behind =
      sym (drop-drop (opening_length kind) p text) ∙ ap (drop (opening_length kind)) bytes_from
      ∙ ap
      (λ n. drop n (encode_utf8_all mark ++ (encode_utf8_all inside ++ encode_utf8_all (close ++ from_place text q))))
      (sym is.opening)
      ∙ drop-append_seam (encode_utf8_all mark)
      (encode_utf8_all inside ++ encode_utf8_all (close ++ from_place text q))

  content : slice_range text (p + opening_length kind) (q - closing_length kind) ≡ encode_utf8_all inside
  content =
      let size : (q - closing_length kind) - (p + opening_length kind) ≡ length (encode_utf8_all inside) =
      omega (arith, leads, sizes) in
      ap (λ n. take n (drop (p + opening_length kind) text)) size
      ∙ ap (take (length (encode_utf8_all inside))) bytes_behind
      ∙ take-append_seam (encode_utf8_all inside) (encode_utf8_all (close ++ from_place text q))

  characters : content_characters kind (mark ++ (inside ++ close)) ≡ inside
  characters =
      let size : length (mark ++ (inside ++ close)) - closing_length kind ≡ length (mark ++ inside) =
      omega (
        arith,
        length-append mark (inside ++ close),
        length-append inside close,
        length-append mark inside,
        is.closing_characters,
      ) in
      ap (λ n. drop (opening_length kind) (take n (mark ++ (inside ++ close)))) size
      ∙ ap (λ xs. drop (opening_length kind) (take (length (mark ++ inside)) xs)) (sym (append_assoc mark inside close))
      ∙ ap (drop (opening_length kind)) (take-append_seam (mark ++ inside) close)
      ∙ ap (λ n. drop n (mark ++ inside)) (sym is.opening_characters) ∙ drop-append_seam mark inside

  -- the comment of the text is that of the piece
  pub found_is : (x : Piece) → x.text ≡ mark ++ (inside ++ close)
      → found_in text kind (record { start = p; end = q }) ≡ found_comment p kind x
  found_is x e =
      ap (λ bs. found_at (record { start = p; end = q }) kind (class_of (not (is_line_kind kind)) bs)) content
      ∙ ap (λ n. found_at (record { start = p; end = n }) kind
      (class_of (not (is_line_kind kind)) (encode_utf8_all inside)))
      (leads ∙ ap (λ xs. p + length (encode_utf8_all xs)) (sym e))
      ∙ ap (λ xs. found_at (record { start = p; end = p + piece_length x }) kind
      (class_of (not (is_line_kind kind)) (encode_utf8_all xs)))
      (sym characters ∙ ap (content_characters kind) (sym e))

-- a comment without `@` between its marks holds no licence
pub unlicensed : (kind : CommentKind) (old mid : At) (to : ℕ) (mark : List ℕ) → TakesSequence mark old true mid
    → length (encode_utf8_all mark) ≡ opening_length kind
    → HasNoAt mid.text mid.place (to - closing_length kind)
    → is_licensed_in old.text kind (record { start = old.place; end = to }) ≡ false
unlicensed kind old mid to mark takes size none =
    let behind : mid.place ≡ old.place + opening_length kind =
    place_past old.text old.place mid.place mark old.placed.utf8 old.placed.boundary
    (subst (λ (t : List ℕ). IsCharBoundary t mid.place) takes.0 mid.placed.boundary)
    (takes.1 ∙ ap (λ t. mark ++ from_place t mid.place) takes.0)
    ∙ ap (λ n. old.place + n) size in
    none_between old.text (old.place + opening_length kind) (to - closing_length kind)
    (λ k low high at. none k (omega (arith, low, behind)) high (ap (λ t. slice_index t k) takes.0 ∙ at))
