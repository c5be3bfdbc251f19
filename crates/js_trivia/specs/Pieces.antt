-- Gaps of pieces that a builder may be told of.
use Rattle.std.specs.Prelude.{ℕ, ◌+◌, ◌≤◌, ◌≡◌, ⊤, Bool, List, [], ◌∷◌}
use Rattle.js_kind.specs.TokenParts.{TokenParts}
use Rattle.js_grammar.specs.Gap.{Piece}
use Rattle.js_grammar.specs.PieceItems.{piece_length}
use Rattle.js_trivia.specs.Attachment.{between_gaps}
use Rattle.js_trivia.specs.Trivia.{Trivia, HeldBefore}

-- no piece is empty
abbrev pub HaveBytes : List Piece → Type 0
HaveBytes [] = ⊤
HaveBytes (x ∷ xs) = (1 ≤ piece_length x) × HaveBytes xs

-- where pieces end that start at this place
abbrev pub end_of : ℕ → List Piece → ℕ
end_of place [] = place
end_of place (x ∷ xs) = end_of (place + piece_length x) xs

-- A builder may be told of a gap of these pieces: no comment waits, both flags tell whether the gap is the first,
-- what is
-- held starts before it, and no piece is empty.
pub record MayRead (is_first : Bool) (previous : TokenParts) (place : ℕ) (pieces : List Piece) (s : Trivia) : Type 0
  where
    pub attachment : s.attachment ≡ between_gaps s.attachment.attached is_first previous
    pub held : HeldBefore place s
    pub have_bytes : HaveBytes pieces
