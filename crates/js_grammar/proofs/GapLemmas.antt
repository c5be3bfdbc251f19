-- Laws of gaps: a piece stands at the beginning of its text, and the longest gap is one.
use Rattle.std.proofs.Common.{◌≡◌, ℕ, ◌<◌, Bool, true, false, ◌&&◌, ◌||◌, List, [], ◌∷◌, ◌++◌}
use Rattle.std.proofs.Common.{length, drop, refl, sym, ◌∙◌, ap, subst, arith, Option, Some, None, append_assoc}
use Rattle.std.proofs.Common.{length-append}
use Rattle.std.specs.Prelude.{IfSome, if◌then◌else◌, codes}
use Rattle.std.specs.List.{list_any}
use Rattle.std.specs.Option.{option_map}
use Rattle.js_text.specs.Characters.{is_white_space, is_line_terminator}
use Rattle.js_text.specs.declared.source_type.SourceType.{SourceType}
use Rattle.js_text.proofs.TextLemmas.{before_from, length-from_first}
use Rattle.js_grammar.specs.Gap.{is_prefix, Cut, cut-cons, cut_behind, Piece, PieceKind, line_comment}
use Rattle.js_grammar.specs.Gap.{has_html_comments, piece, LongestGap, is_reported, WholeGap}
use Rattle.js_grammar.specs.Gap.{Pieces, AllPieces, whole_gap_piece}
use Rattle.js_grammar.specs.Gap.PieceKind.{single_line_comment, multi_line_comment}
use Rattle.js_grammar.specs.Gap.PieceKind.{html_open_comment, html_close_comment, reported_comment}
use Rattle.js_grammar.proofs.Tests.{prefix_is}

-- the piece stands at the beginning of the text, and has a character at least
abbrev Stands : List ℕ → Option Piece → Type 0
Stands cs found = IfSome found (λ x. (cs ≡ x.text ++ x.rest) × (length x.rest < length cs))

-- what a choice gives, each way under its test
stands_if : (cs : List ℕ) (b : Bool) (x y : Option Piece) → (b ≡ true → Stands cs x) → (b ≡ false → Stands cs y)
    → Stands cs (if b then x else y)
stands_if cs true x y h k = h refl
stands_if cs false x y h k = k refl

line_comment_stands : (k : PieceKind) (line_has_ended : Bool) (c : ℕ) (cs : List ℕ) → is_line_terminator c ≡ false
    → Stands (c ∷ cs) (Some (line_comment k line_has_ended (c ∷ cs)))
line_comment_stands k line_has_ended c cs e =
    (sym (before_from is_line_terminator (c ∷ cs)), rw e (omega (arith, length-from_first is_line_terminator cs)))

-- a cut text is its two parts, and the mark is at most as long as the first
abbrev CutsText : List ℕ → Option Cut → Type 0
CutsText cs found = IfSome found (λ cut. cs ≡ cut.front ++ cut.rest)

cuts_if : (cs : List ℕ) (b : Bool) (x y : Option Cut) → (b ≡ true → CutsText cs x) → CutsText cs y
    → CutsText cs (if b then x else y)
cuts_if cs true x y h k = h refl
cuts_if cs false x y h k = k

cuts-cons : (c : ℕ) (cs : List ℕ) (found : Option Cut) → CutsText cs found
    → CutsText (c ∷ cs) (option_map (cut-cons c) found)
cuts-cons c cs None h = tt
cuts-cons c cs (Some cut) h = ap (λ t. c ∷ t) h

pub cuts : (mark cs : List ℕ) → CutsText cs (cut_behind mark cs)
cuts mark [] = tt
cuts mark (c ∷ cs) =
    cuts_if (c ∷ cs) (is_prefix mark (c ∷ cs)) _ _ (prefix_is mark (c ∷ cs))
    (cuts-cons c cs (cut_behind mark cs) (cuts mark cs))

block_stands : (line_has_ended : Bool) (cs : List ℕ) (found : Option Cut) → cs ≡ codes "/*" ++ drop 2 cs
    → CutsText (drop 2 cs) found
    → Stands cs
    (option_map
    (λ cut. record {
      kind = multi_line_comment;
      text = codes "/*" ++ cut.front;
      line_has_ended =
          line_has_ended || list_any is_line_terminator cut.front;
      rest = cut.rest;
    }) found)
block_stands line_has_ended cs None begins h = tt
block_stands line_has_ended cs (Some cut) begins h =
    let whole : cs ≡ codes "/*" ++ (cut.front ++ cut.rest) = begins ∙ ap (λ t. codes "/*" ++ t) h in (
      whole
          ∙ sym (append_assoc (codes "/*") cut.front cut.rest),
      omega (arith, ap length whole, length-append cut.front cut.rest),
    )

pub piece_stands : (t : SourceType) (line_has_ended : Bool) (cs : List ℕ) → Stands cs (piece t line_has_ended cs)
piece_stands t line_has_ended [] = tt
piece_stands t line_has_ended (c ∷ cs) =
    stands_if _ (is_white_space c) _ _ (λ e. (refl, omega arith)) (λ e0.
    stands_if _ (is_line_terminator c) _ _ (λ e. (refl, omega arith)) (λ e1.
    stands_if _ (is_prefix (codes "//") (c ∷ cs)) _ _
    (λ e. line_comment_stands single_line_comment line_has_ended c cs e1) (λ e2.
    stands_if _ (is_prefix (codes "/*") (c ∷ cs)) _ _
    (λ e. block_stands line_has_ended (c ∷ cs) (cut_behind (codes "*/") (drop 2 (c ∷ cs)))
    (prefix_is (codes "/*") (c ∷ cs) e) (cuts (codes "*/") (drop 2 (c ∷ cs)))) (λ e3.
    stands_if _ (is_prefix (codes "<!--") (c ∷ cs) && has_html_comments t) _ _
    (λ e. line_comment_stands html_open_comment line_has_ended c cs e1) (λ e4.
    stands_if _ (is_prefix (codes "-->") (c ∷ cs) && (has_html_comments t && line_has_ended)) _ None
    (λ e. line_comment_stands html_close_comment line_has_ended c cs e1) (λ e5. tt))))))

-- a piece takes at least one character
pub piece_takes : (t : SourceType) (line_has_ended : Bool) (cs : List ℕ) (x : Piece)
    → piece t line_has_ended cs ≡ Some x → length x.rest < length cs
piece_takes t line_has_ended cs x e = let both = subst (Stands cs) e (piece_stands t line_has_ended cs) in both.1

-- a piece is the characters that it carries
pub piece_text : (t : SourceType) (line_has_ended : Bool) (cs : List ℕ) (x : Piece)
    → piece t line_has_ended cs ≡ Some x → cs ≡ x.text ++ x.rest
piece_text t line_has_ended cs x e = let both = subst (Stands cs) e (piece_stands t line_has_ended cs) in both.0

-- All pieces of a text are one list, with one end.
pub all_pieces_unique : (step : Bool → List ℕ → Option Piece) (line_has_ended : Bool) (cs : List ℕ)
    (xs ys : List Piece) (e f : Bool) (r s : List ℕ)
    → Pieces step line_has_ended cs xs e r → step e r ≡ None → Pieces step line_has_ended cs ys f s → step f s ≡ None
    → (xs ≡ ys) × (e ≡ f) × (r ≡ s)
all_pieces_unique step line_has_ended cs [] [] e f r s g n h m = (refl, g.0 ∙ sym h.0, g.1 ∙ sym h.1)
all_pieces_unique step line_has_ended cs [] (y ∷ ys) e f r s g n h m =
    let here : step line_has_ended cs ≡ None = ap (λ b. step b cs) (sym g.0) ∙ ap (λ u. step e u) (sym g.1) ∙ n in cc
all_pieces_unique step line_has_ended cs (x ∷ xs) [] e f r s g n h m =
    let here : step line_has_ended cs ≡ None = ap (λ b. step b cs) (sym h.0) ∙ ap (λ u. step f u) (sym h.1) ∙ m in cc
all_pieces_unique step line_has_ended cs (x ∷ xs) (y ∷ ys) e f r s g n h m =
    let same : x ≡ y = cc in
    let rest =
    all_pieces_unique step y.line_has_ended y.rest xs ys e f r s
    (subst (λ z. Pieces step z.line_has_ended z.rest xs e r) same g.1) n h.1 m in
    (ap (λ z. z ∷ xs) same ∙ ap (λ zs. y ∷ zs) rest.0, rest.1, rest.2)

pub longest_gap_unique : (t : SourceType) (line_has_ended : Bool) (cs : List ℕ) (e f : Bool) (r s : List ℕ)
    → LongestGap t line_has_ended cs e r → LongestGap t line_has_ended cs f s → (e ≡ f) × (r ≡ s)
longest_gap_unique t line_has_ended cs e f r s g h =
    let same =
    all_pieces_unique
    (piece t) line_has_ended cs g.pieces h.pieces e f r s g.all.pieces_are g.all.longest h.all.pieces_are
    h.all.longest in (same.1, same.2)

pub whole_gap_unique : (t : SourceType) (line_has_ended : Bool) (cs : List ℕ) (xs ys : List Piece) (e f : Bool)
    (r s : List ℕ)
    → WholeGap t line_has_ended cs xs e r → WholeGap t line_has_ended cs ys f s → (xs ≡ ys) × (e ≡ f) × (r ≡ s)
whole_gap_unique t line_has_ended cs xs ys e f r s g h =
    all_pieces_unique (whole_gap_piece t) line_has_ended cs xs ys e f r s g.pieces_are g.longest h.pieces_are h.longest

-- a piece before all others
pub all_pieces-cons : (step : Bool → List ℕ → Option Piece) (line_has_ended : Bool) (cs : List ℕ) (x : Piece)
    (xs : List Piece) (e : Bool) (r : List ℕ)
    → step line_has_ended cs ≡ Some x → AllPieces step x.line_has_ended x.rest xs e r
    → AllPieces step line_has_ended cs (x ∷ xs) e r
all_pieces-cons step line_has_ended cs x xs e r h g = record { pieces_are = (h, g.pieces_are); longest = g.longest }

pub all_pieces-nil : (step : Bool → List ℕ → Option Piece) (line_has_ended : Bool) (cs : List ℕ)
    → step line_has_ended cs ≡ None → AllPieces step line_has_ended cs [] line_has_ended cs
all_pieces-nil step line_has_ended cs h = record { pieces_are = (refl, refl); longest = h }

-- Where no reported comment stands, the piece of a whole gap is that of any gap.
pub unreported : (t : SourceType) (line_has_ended : Bool) (cs : List ℕ) → is_reported t line_has_ended cs ≡ false
    → whole_gap_piece t line_has_ended cs ≡ piece t line_has_ended cs
unreported t line_has_ended cs e = rw e refl

pub reported : (t : SourceType) (line_has_ended : Bool) (cs : List ℕ) → is_reported t line_has_ended cs ≡ true
    → whole_gap_piece t line_has_ended cs ≡ Some (line_comment reported_comment line_has_ended cs)
reported t line_has_ended cs e = rw e refl

none_if : (b : Bool) (x : Piece) (y : Option Piece) → (if b then Some x else y) ≡ None → (b ≡ false) × (y ≡ None)
none_if true x y e = absurd (cc)
none_if false x y e = (refl, e)

-- behind a whole gap no reported comment stands, and no piece
pub none_behind : (t : SourceType) (line_has_ended : Bool) (cs : List ℕ) → whole_gap_piece t line_has_ended cs ≡ None
    → (is_reported t line_has_ended cs ≡ false) × (piece t line_has_ended cs ≡ None)
none_behind t line_has_ended cs e = none_if (is_reported t line_has_ended cs) _ (piece t line_has_ended cs) e
