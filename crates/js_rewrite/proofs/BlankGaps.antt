-- Gaps in which nothing is reported and no comment stands: none, a line end, or a space.
use Rattle.std.proofs.Common.{◌≡◌, ℕ, Bool, true, false, List, [], ◌∷◌, ◌++◌, refl, sym, ◌∙◌, ap, append-nil, Option}
use Rattle.std.specs.Prelude.{is_none}
use Rattle.js_text.specs.Characters.{from_place, is_irregular_whitespace, is_line_terminator, is_white_space}
use Rattle.js_text.specs.declared.source_type.SourceType.{SourceType}
use Rattle.js_kind.specs.TokenParts.{TokenParts}
use Rattle.js_grammar.specs.Attach.{attach}
use Rattle.js_grammar.specs.Gap.{Piece, one_character, whole_gap_piece}
use Rattle.js_grammar.specs.Gap.PieceKind.{white_space, line_terminator}
use Rattle.js_grammar.specs.GapItems.{token_before}
use Rattle.js_grammar.specs.Goals.{line_has_ended_behind, with_gap}
use Rattle.js_grammar.specs.Outcome.{Outcome}
use Rattle.js_grammar.specs.PieceItems.{gap_of, is_separator}
use Rattle.js_grammar.proofs.PieceLemmas.{piece-line_terminator, piece-white}
use Rattle.js_grammar.proofs.Reported.{whole_gap_piece_of}
use Rattle.js_rewrite.proofs.ReadAlike.{BlankGap}

-- the comments of a gap, where nothing else is found
pub gap_comments : (t : SourceType) (before : Option TokenParts) (place : ℕ) (pieces : List Piece) (inner : Outcome)
    → inner.findings.comments ≡ []
    → (with_gap t before place pieces inner).findings.comments
    ≡ attach (gap_of (is_none before) (token_before before) place pieces inner.token)
gap_comments t before place pieces inner none =
    ap (λ cs. attach (gap_of (is_none before) (token_before before) place pieces inner.token) ++ cs) none
    ∙ append-nil (attach (gap_of (is_none before) (token_before before) place pieces inner.token))

pub no_gap : (other : List ℕ) (t : SourceType) (there : Option TokenParts) (q : ℕ) (has : Bool) (rest : List ℕ)
    → from_place other q ≡ rest → has ≡ line_has_ended_behind there → BlankGap other t there q has rest
no_gap other t there q has rest here flag = record {
  pieces = [];
  pieces_are = (flag, sym here);
  quiet = refl;
  no_comment = λ inner none. gap_comments t there q [] inner none;
}

blanks : (is_white_space 32 ≡ true) × (is_white_space 10 ≡ false) × (is_line_terminator 10 ≡ true)
unfolding is_white_space is_irregular_whitespace is_line_terminator
blanks = (refl, refl, refl)

pub line_end_gap : (other : List ℕ) (t : SourceType) (there : Option TokenParts) (q : ℕ) (has : Bool) (rest : List ℕ)
    → from_place other q ≡ 10 ∷ rest → has ≡ true → BlankGap other t there q has rest
unfolding is_irregular_whitespace is_line_terminator is_separator
line_end_gap other t there q has rest here flag = record {
  pieces = one_character line_terminator true 10 rest ∷ [];
  pieces_are = (
    ap (λ h. whole_gap_piece t (line_has_ended_behind there) h) here
        ∙ whole_gap_piece_of t (line_has_ended_behind there) (10 ∷ rest) (one_character line_terminator true 10 rest)
        (piece-line_terminator t (line_has_ended_behind there) 10 rest blanks.1 blanks.2),
    (flag, refl),
  );
  quiet = refl;
  no_comment = λ inner none. gap_comments t there q (one_character line_terminator true 10 rest ∷ []) inner none;
}

pub space_gap : (other : List ℕ) (t : SourceType) (there : Option TokenParts) (q : ℕ) (has : Bool) (rest : List ℕ)
    → from_place other q ≡ 32 ∷ rest → has ≡ line_has_ended_behind there → BlankGap other t there q has rest
unfolding is_irregular_whitespace
space_gap other t there q has rest here flag =
    let nl = line_has_ended_behind there in
    record {
      pieces = one_character white_space nl 32 rest ∷ [];
      pieces_are = (
        ap (λ h. whole_gap_piece t nl h) here
            ∙ whole_gap_piece_of t nl (32 ∷ rest) (one_character white_space nl 32 rest)
            (piece-white t nl 32 rest blanks.0),
        (flag, refl),
      );
      quiet = refl;
      no_comment = λ inner none. gap_comments t there q (one_character white_space nl 32 rest ∷ []) inner none;
    }
