-- A whole gap whose comments are replaced is a whole gap with the same newline flag.
use Rattle.std.proofs.Common.{◌≡◌, ℕ, Bool, true, false, ◌||◌, ◌&&◌, List, [], ◌∷◌, ◌++◌, refl, sym, ◌∙◌, ap}
use Rattle.std.proofs.Common.{drop, subst, append_assoc, Option, Some, None}
use Rattle.std.specs.Prelude.{codes, if◌then◌else◌}
use Rattle.std.specs.List.{list_any}
use Rattle.std.specs.Option.{option_map}
use Rattle.js_text.specs.Characters.{is_irregular_whitespace, is_line_terminator, is_white_space}
use Rattle.js_text.specs.declared.comment.CommentKind.{CommentKind}
use Rattle.js_text.specs.declared.comment.CommentKind.TheVariants.{Line, SingleLineBlock, MultiLineBlock, HtmlOpen}
use Rattle.js_text.specs.declared.comment.CommentKind.TheVariants.{HtmlClose}
use Rattle.js_text.specs.declared.source_type.SourceType.{SourceType}
use Rattle.js_grammar.specs.Gap.{Cut, Piece, PieceKind, Pieces, block_comment, cut_behind, has_html_comments, is_prefix}
use Rattle.js_grammar.specs.Gap.{is_reported, line_comment, one_character, piece, whole_gap_piece}
use Rattle.js_grammar.specs.Gap.PieceKind.{white_space, line_terminator, single_line_comment, multi_line_comment}
use Rattle.js_grammar.specs.Gap.PieceKind.{html_open_comment, html_close_comment, reported_comment}
use Rattle.js_grammar.specs.Outcome.{gap_diagnostics, piece_diagnostics}
use Rattle.js_grammar.specs.PieceItems.{block_kind}
use Rattle.js_grammar.specs.Reading.{place_behind}
use Rattle.js_grammar.proofs.PieceLemmas.{piece-line_terminator, piece-white}
use Rattle.js_grammar.proofs.Reported.{append_nil, whole_gap_piece_of}
use Rattle.js_grammar.specs.Blanks.{stand_in}
use Rattle.js_grammar.specs.Blanks.{kind_of}

-- A line ends in a comment of the kind.
abbrev pub is_multi_line : CommentKind → Bool
is_multi_line Line = false
is_multi_line SingleLineBlock = false
is_multi_line MultiLineBlock = true
is_multi_line HtmlOpen = false
is_multi_line HtmlClose = false

-- The piece is a comment, behind which a line has ended if one had, or if one ends in it.
pub record IsCommentPiece (ended : Bool) (x : Piece) : Type 0 where
  pub kind : CommentKind
  pub is : kind_of x.kind x.text ≡ Some kind
  pub line_ended : x.line_has_ended ≡ (ended || is_multi_line kind)

-- What a piece is: white space or a line terminator, of one character, or a comment.
pub data PieceIs (ended : Bool) (here : List ℕ) (x : Piece) : Type 0 where
  white : (c : ℕ) (cs : List ℕ) → here ≡ c ∷ cs → is_white_space c ≡ true → x ≡ one_character white_space ended c cs
      → PieceIs ended here x
  line : (c : ℕ) (cs : List ℕ) → here ≡ c ∷ cs → is_white_space c ≡ false → is_line_terminator c ≡ true
      → x ≡ one_character line_terminator true c cs → PieceIs ended here x
  a_comment : IsCommentPiece ended x → PieceIs ended here x

or_false : (b : Bool) → b ≡ (b || false)
or_false true = refl
or_false false = refl

-- a choice between pieces
chosen : (P : Piece → Type 0) (b : Bool) (y : Piece) (o : Option Piece) (x : Piece) → P y → (o ≡ Some x → P x)
    → (if b then Some y else o) ≡ Some x → P x
chosen P true y o x here later e = subst P (let same : y ≡ x = cc in same) here
chosen P false y o x here later e = later e

a_line_comment : (ended : Bool) (kind : PieceKind) (text : List ℕ) (k : CommentKind)
    → kind_of kind (line_comment kind ended text).text ≡ Some k → is_multi_line k ≡ false
    → IsCommentPiece ended (line_comment kind ended text)
a_line_comment ended kind text k is none =
    record { kind = k; is = is; line_ended = or_false ended ∙ ap (λ b. ended || b) (sym none) }

block_multi : (front : List ℕ)
    → is_multi_line (block_kind (codes "/*" ++ front)) ≡ list_any is_line_terminator front
unfolding is_line_terminator
block_multi front = by_flag (list_any is_line_terminator front)
  where
    by_flag : (b : Bool) → is_multi_line (if b then MultiLineBlock else SingleLineBlock) ≡ b
    by_flag true = refl
    by_flag false = refl

a_block_comment : (ended : Bool) (found : Option Cut) (x : Piece)
    → option_map
    (λ (cut : Cut). record {
      kind = multi_line_comment;
      text = codes "/*" ++ cut.front;
      line_has_ended = ended || list_any is_line_terminator cut.front;
      rest = cut.rest;
    })
    found ≡ Some x → IsCommentPiece ended x
a_block_comment ended None x e = absurd (let no : None ≡ Some x = e in cc)
a_block_comment ended (Some cut) x e =
    subst (IsCommentPiece ended)
    (let same : record {
      kind = multi_line_comment;
      text = codes "/*" ++ cut.front;
      line_has_ended = ended || list_any is_line_terminator cut.front;
      rest = cut.rest;
    } ≡ x = cc in same)
    (record {
      kind = block_kind (codes "/*" ++ cut.front);
      is = refl;
      line_ended = ap (λ b. ended || b) (sym (block_multi cut.front));
    })

pub piece_is : (t : SourceType) (ended : Bool) (here : List ℕ) (x : Piece) → piece t ended here ≡ Some x
    → PieceIs ended here x
piece_is t ended [] x e = absurd (cc)
piece_is t ended (c ∷ cs) x e = by_white (is_white_space c) refl e
  where
    by_close : (if is_prefix (codes "-->") (c ∷ cs) && (has_html_comments t && ended)
        then Some (line_comment html_close_comment ended (c ∷ cs)) else None) ≡ Some x → IsCommentPiece ended x
    by_close f =
        chosen (IsCommentPiece ended) (is_prefix (codes "-->") (c ∷ cs) && (has_html_comments t && ended))
        (line_comment html_close_comment ended (c ∷ cs)) None x
        (a_line_comment ended html_close_comment (c ∷ cs) HtmlClose refl refl)
        (λ none. absurd (let no : None ≡ Some x = none in cc)) f

    by_block : (b : Bool)
        → (if b then block_comment ended (c ∷ cs)
        else if is_prefix (codes "<!--") (c ∷ cs) && has_html_comments t
        then Some (line_comment html_open_comment ended (c ∷ cs))
        else if is_prefix (codes "-->") (c ∷ cs) && (has_html_comments t && ended)
        then Some (line_comment html_close_comment ended (c ∷ cs))
        else None) ≡ Some x → IsCommentPiece ended x
    by_block true f = a_block_comment ended (cut_behind (codes "*/") (drop 2 (c ∷ cs))) x f
    by_block false f =
        chosen (IsCommentPiece ended) (is_prefix (codes "<!--") (c ∷ cs) && has_html_comments t)
        (line_comment html_open_comment ended (c ∷ cs)) _ x
        (a_line_comment ended html_open_comment (c ∷ cs) HtmlOpen refl refl) by_close f

    by_line : is_white_space c ≡ false → (b : Bool) → is_line_terminator c ≡ b
        → (if b then Some (one_character line_terminator true c cs)
        else if is_prefix (codes "//") (c ∷ cs) then Some (line_comment single_line_comment ended (c ∷ cs))
        else if is_prefix (codes "/*") (c ∷ cs) then block_comment ended (c ∷ cs)
        else if is_prefix (codes "<!--") (c ∷ cs) && has_html_comments t
        then Some (line_comment html_open_comment ended (c ∷ cs))
        else if is_prefix (codes "-->") (c ∷ cs) && (has_html_comments t && ended)
        then Some (line_comment html_close_comment ended (c ∷ cs))
        else None) ≡ Some x → PieceIs ended (c ∷ cs) x
    by_line no_white true is f =
        line c cs refl no_white is (let same : x ≡ one_character line_terminator true c cs = cc in same)
    by_line no_white false is f =
        a_comment
        (chosen (IsCommentPiece ended) (is_prefix (codes "//") (c ∷ cs))
        (line_comment single_line_comment ended (c ∷ cs)) _ x
        (a_line_comment ended single_line_comment (c ∷ cs) Line refl refl)
        (by_block (is_prefix (codes "/*") (c ∷ cs))) f)

    by_white : (b : Bool) → is_white_space c ≡ b
        → (if b then Some (one_character white_space ended c cs)
        else if is_line_terminator c then Some (one_character line_terminator true c cs)
        else if is_prefix (codes "//") (c ∷ cs) then Some (line_comment single_line_comment ended (c ∷ cs))
        else if is_prefix (codes "/*") (c ∷ cs) then block_comment ended (c ∷ cs)
        else if is_prefix (codes "<!--") (c ∷ cs) && has_html_comments t
        then Some (line_comment html_open_comment ended (c ∷ cs))
        else if is_prefix (codes "-->") (c ∷ cs) && (has_html_comments t && ended)
        then Some (line_comment html_close_comment ended (c ∷ cs))
        else None) ≡ Some x → PieceIs ended (c ∷ cs) x
    by_white true is f = white c cs refl is (let same : x ≡ one_character white_space ended c cs = cc in same)
    by_white false is f = by_line is (is_line_terminator c) refl f

-- what stands for a piece: its characters, or for a comment one character
abbrev pub characters_for : Option CommentKind → List ℕ → List ℕ
characters_for None text = text
characters_for (Some kind) text = stand_in kind ∷ []

abbrev pub blank_text : Piece → List ℕ
blank_text x = characters_for (kind_of x.kind x.text) x.text

-- what stands for pieces
abbrev pub blank_texts : List Piece → List ℕ
blank_texts [] = []
blank_texts (x ∷ xs) = blank_text x ++ blank_texts xs

-- what a comment becomes: a line terminator, where a line ends in it, else white space
abbrev pub blank_kind : CommentKind → PieceKind
blank_kind kind = if is_multi_line kind then line_terminator else white_space

-- the piece that stands for one, before this rest
abbrev pub piece_for : Option CommentKind → Piece → List ℕ → Piece
piece_for None x rest = record x { rest = rest }
piece_for (Some kind) x rest = one_character (blank_kind kind) x.line_has_ended (stand_in kind) rest

abbrev pub blanked : Piece → List ℕ → Piece
blanked x rest = piece_for (kind_of x.kind x.text) x rest

-- the pieces that stand for pieces, before this rest
abbrev pub blanked_pieces : List Piece → List ℕ → List Piece
blanked_pieces [] rest = []
blanked_pieces (x ∷ xs) rest = blanked x (blank_texts xs ++ rest) ∷ blanked_pieces xs rest

-- The piece stands where what stands for it does, and behind it the same is known of lines.
pub record StandsBlank (t : SourceType) (ended : Bool) (x : Piece) (rest : List ℕ) : Type 0 where
  pub here : piece t ended (blank_text x ++ rest) ≡ Some (blanked x rest)
  pub line_ended : (blanked x rest).line_has_ended ≡ x.line_has_ended
  pub left : (blanked x rest).rest ≡ rest

space_is_white : (is_white_space 32 ≡ true) × (is_white_space 10 ≡ false) × (is_line_terminator 10 ≡ true)
unfolding is_white_space is_irregular_whitespace is_line_terminator
space_is_white = (refl, refl, refl)

as_white : (t : SourceType) (ended flag : Bool) (rest : List ℕ) → flag ≡ (ended || false)
    → piece t ended (32 ∷ rest) ≡ Some (one_character white_space flag 32 rest)
as_white t ended flag rest e =
    piece-white t ended 32 rest space_is_white.0
    ∙ ap (λ b. Some (one_character white_space b 32 rest)) (or_false ended ∙ sym e)

or_true : (b : Bool) → (b || true) ≡ true
or_true true = refl
or_true false = refl

comment_blank : (t : SourceType) (ended : Bool) (kind : CommentKind) (flag : Bool) (rest : List ℕ)
    → flag ≡ (ended || is_multi_line kind)
    → piece t ended (stand_in kind ∷ rest) ≡ Some (one_character (blank_kind kind) flag (stand_in kind) rest)
comment_blank t ended Line flag rest e = as_white t ended flag rest e
comment_blank t ended SingleLineBlock flag rest e = as_white t ended flag rest e
comment_blank t ended MultiLineBlock flag rest e =
    piece-line_terminator t ended 10 rest space_is_white.1 space_is_white.2
    ∙ ap (λ b. Some (one_character line_terminator b 10 rest)) (sym (e ∙ or_true ended))
comment_blank t ended HtmlOpen flag rest e = as_white t ended flag rest e
comment_blank t ended HtmlClose flag rest e = as_white t ended flag rest e

pub piece_blank : (t : SourceType) (ended : Bool) (here : List ℕ) (x : Piece) (rest : List ℕ)
    → piece t ended here ≡ Some x → StandsBlank t ended x rest
piece_blank t ended here x rest e = by_piece (piece_is t ended here x e)
  where
    by_piece : PieceIs ended here x → StandsBlank t ended x rest
    by_piece (white c cs text is x_is) =
        subst (λ y. StandsBlank t ended y rest) (sym x_is)
        (record { here = piece-white t ended c rest is; line_ended = refl; left = refl })
    by_piece (line c cs text no_white is x_is) =
        subst (λ y. StandsBlank t ended y rest) (sym x_is)
        (record { here = piece-line_terminator t ended c rest no_white is; line_ended = refl; left = refl })
    by_piece (a_comment comment) = record {
      here =
          rw comment.is (comment_blank t ended comment.kind x.line_has_ended rest comment.line_ended);
      line_ended = rw comment.is refl;
      left = rw comment.is refl;
    }

-- a piece of a gap that reports nothing is no reported comment
unreported_piece : (t : SourceType) (ended : Bool) (here : List ℕ) (x : Piece) (place : ℕ)
    → whole_gap_piece t ended here ≡ Some x → piece_diagnostics place x.kind ≡ [] → piece t ended here ≡ Some x
unreported_piece t ended here x place e none = by_flag (is_reported t ended here) e
  where
    by_flag : (b : Bool) → (if b then Some (line_comment reported_comment ended here) else piece t ended here) ≡ Some x
        → piece t ended here ≡ Some x
    by_flag true f =
        let same : line_comment reported_comment ended here ≡ x = cc in
        let some : piece_diagnostics place reported_comment ≡ [] =
        ap (λ (y : Piece). piece_diagnostics place y.kind) same ∙ none in
        absurd (cc)
    by_flag false f = f

-- so a gap that reports nothing has pieces of any gap alone
pub unreported_pieces : (t : SourceType) (ended : Bool) (here : List ℕ) (xs : List Piece) (has : Bool)
    (rest : List ℕ) (place : ℕ) → Pieces (whole_gap_piece t) ended here xs has rest → gap_diagnostics place xs ≡ []
    → Pieces (piece t) ended here xs has rest
unreported_pieces t ended here [] has rest place g none = g
unreported_pieces t ended here (x ∷ xs) has rest place g none =
    let parts = append_nil (piece_diagnostics place x.kind) (gap_diagnostics (place_behind place x.text) xs) none in (
      unreported_piece t ended here x place g.0 parts.0,
      unreported_pieces t x.line_has_ended x.rest xs has rest (place_behind place x.text) g.1 parts.1,
    )

-- The pieces that stand for those of a gap, one behind the other.
pub pieces_blanked : (t : SourceType) (ended : Bool) (here : List ℕ) (xs : List Piece) (has : Bool)
    (left rest : List ℕ) → Pieces (piece t) ended here xs has left
    → Pieces (whole_gap_piece t) ended (blank_texts xs ++ rest) (blanked_pieces xs rest) has rest
pieces_blanked t ended here [] has left rest g = (g.0, refl)
pieces_blanked t ended here (x ∷ xs) has left rest g =
    let behind = blank_texts xs ++ rest in
    let stands = piece_blank t ended here x behind g.0 in (
      ap (whole_gap_piece t ended) (append_assoc (blank_text x) (blank_texts xs) rest)
          ∙ whole_gap_piece_of t ended (blank_text x ++ behind) (blanked x behind) stands.here,
      subst (λ b. Pieces (whole_gap_piece t) b (blanked x behind).rest (blanked_pieces xs rest) has rest)
          (sym stands.line_ended)
          (subst (λ h. Pieces (whole_gap_piece t) x.line_has_ended h (blanked_pieces xs rest) has rest)
          (sym stands.left) (pieces_blanked t x.line_has_ended x.rest xs has left rest g.1)),
    )
