-- Which piece a text begins with, by its first characters.
use Rattle.std.proofs.Common.{◌≡◌, ℕ, ◌≤◌, Bool, true, false, ◌&&◌, ◌==◌, List, [], ◌∷◌, ◌++◌}
use Rattle.std.proofs.Common.{length, refl, ap, arith, Some, None}
use Rattle.std.specs.Prelude.{if◌then◌else◌, codes}
use Rattle.std.proofs.lemmas.Bool.{ne_eqb}
use Rattle.js_text.specs.Characters.{is_white_space, is_irregular_whitespace, is_line_terminator, begins, from_first}
use Rattle.js_text.specs.declared.source_type.SourceType.{SourceType}
use Rattle.js_grammar.specs.Gap.{is_prefix, Piece, one_character, line_comment, block_comment}
use Rattle.js_grammar.specs.Gap.{has_html_comments, piece, Gap, LongestGap}
use Rattle.js_grammar.specs.Gap.PieceKind.{white_space, line_terminator, single_line_comment, html_open_comment}
use Rattle.js_grammar.specs.Gap.PieceKind.{html_close_comment}
use Rattle.js_grammar.proofs.GapLemmas.{piece_takes}

pub piece-white : (t : SourceType) (line_has_ended : Bool) (c : ℕ) (cs : List ℕ) → is_white_space c ≡ true
    → piece t line_has_ended (c ∷ cs) ≡ Some (one_character white_space line_has_ended c cs)
piece-white t line_has_ended c cs e = rw e refl

pub piece-line_terminator : (t : SourceType) (line_has_ended : Bool) (c : ℕ) (cs : List ℕ) → is_white_space c ≡ false
    → is_line_terminator c ≡ true
    → piece t line_has_ended (c ∷ cs) ≡ Some (one_character line_terminator true c cs)
piece-line_terminator t line_has_ended c cs e f = rw (e, f) refl

-- a character that begins no piece
pub piece-other : (t : SourceType) (line_has_ended : Bool) (c : ℕ) (cs : List ℕ) → is_white_space c ≡ false
    → is_line_terminator c ≡ false
    → (c ≡ 47 → ⊥) → (c ≡ 60 → ⊥) → (c ≡ 45 → ⊥) → piece t line_has_ended (c ∷ cs) ≡ None
piece-other t line_has_ended c cs e f slash angle minus =
    rw (e, f, ne_eqb c 47 slash, ne_eqb c 60 angle, ne_eqb c 45 minus) refl

pub piece-line_comment : (t : SourceType) (line_has_ended : Bool) (cs : List ℕ)
    → piece t line_has_ended (47 ∷ 47 ∷ cs) ≡ Some (line_comment single_line_comment line_has_ended (47 ∷ 47 ∷ cs))
unfolding is_white_space is_irregular_whitespace is_line_terminator
piece-line_comment t line_has_ended cs = refl

pub piece-block_comment : (t : SourceType) (line_has_ended : Bool) (cs : List ℕ)
    → piece t line_has_ended (47 ∷ 42 ∷ cs) ≡ block_comment line_has_ended (47 ∷ 42 ∷ cs)
unfolding is_white_space is_irregular_whitespace is_line_terminator
piece-block_comment t line_has_ended cs = refl

pub piece-slash : (t : SourceType) (line_has_ended : Bool) (cs : List ℕ) → begins (λ c. c == 47) cs ≡ false
    → begins (λ c. c == 42) cs ≡ false → piece t line_has_ended (47 ∷ cs) ≡ None
unfolding is_white_space is_irregular_whitespace is_line_terminator
piece-slash t line_has_ended [] e f = refl
piece-slash t line_has_ended (c ∷ cs) e f = rw (e, f) refl

pub piece-angle : (t : SourceType) (line_has_ended : Bool) (cs : List ℕ)
    → piece t line_has_ended (60 ∷ cs)
    ≡ (if is_prefix (codes "!--") cs && has_html_comments t then Some
    (line_comment html_open_comment line_has_ended (60 ∷ cs)) else None)
unfolding is_white_space is_irregular_whitespace is_line_terminator
piece-angle t line_has_ended cs = refl

pub piece-minus : (t : SourceType) (line_has_ended : Bool) (cs : List ℕ)
    → piece t line_has_ended (45 ∷ cs)
    ≡ (if is_prefix (codes "->") cs && (has_html_comments t && line_has_ended) then Some
    (line_comment html_close_comment line_has_ended (45 ∷ cs)) else None)
unfolding is_white_space is_irregular_whitespace is_line_terminator
piece-minus t line_has_ended cs = refl

pub from_first-html_open : (cs : List ℕ)
    → from_first is_line_terminator (codes "<!--" ++ cs) ≡ from_first is_line_terminator cs
unfolding is_line_terminator
from_first-html_open cs = refl

pub from_first-hashbang : (cs : List ℕ)
    → from_first is_line_terminator (codes "#!" ++ cs) ≡ from_first is_line_terminator cs
unfolding is_line_terminator
from_first-hashbang cs = refl

-- a gap leaves no more than there was
gap_leaves : (t : SourceType) (line_has_ended : Bool) (cs : List ℕ) (xs : List Piece) (e : Bool) (r : List ℕ)
    → Gap t line_has_ended cs xs e r → length r ≤ length cs
gap_leaves t line_has_ended cs [] e r g = omega (arith, ap length g.1)
gap_leaves t line_has_ended cs (x ∷ xs) e r g =
    omega (arith, piece_takes t line_has_ended cs x g.0, gap_leaves t x.line_has_ended x.rest xs e r g.1)

pub longest_gap_leaves : (t : SourceType) (line_has_ended : Bool) (cs : List ℕ) (e : Bool) (r : List ℕ)
    → LongestGap t line_has_ended cs e r → length r ≤ length cs
longest_gap_leaves t line_has_ended cs e r g = gap_leaves t line_has_ended cs g.pieces e r g.all.pieces_are
