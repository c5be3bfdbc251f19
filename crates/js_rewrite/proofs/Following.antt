-- What follows a token in a text, and in another text in which a gap behind it is left out or is a blank.
use Rattle.std.proofs.Common.{◌≡◌, ℕ, Bool, true, false, ◌||◌, ◌&&◌, ◌==◌, List, [], ◌∷◌, ◌++◌, length, drop}
use Rattle.std.proofs.Common.{refl, sym, ◌∙◌, ap, Some, None, inl, inr, ◌⊎◌}
use Rattle.std.specs.Prelude.{unwrap_or}
use Rattle.std.specs.List.{last_or, list_all}
use Rattle.std.proofs.lemmas.Bool.{and_parts, eqb-true}
use Rattle.js_text.specs.Ascii.{full_stop, hyphen_minus}
use Rattle.js_text.specs.Characters.{begins, is_line_terminator, is_white_space}
use Rattle.js_text.specs.declared.source_type.SourceType.{SourceType}
use Rattle.js_kind.specs.declared.kind.Kind.{Kind}
use Rattle.js_grammar.specs.Gap.{Piece, is_prefix, piece}
use Rattle.js_grammar.proofs.BlankedGaps.{PieceIs, piece_is}
use Rattle.js_grammar.proofs.BlankedGaps.PieceIs.{white, line, a_comment}
use Rattle.js_grammar.proofs.Without.{FailsBlanks, begins_comment, comment_begins}
use Rattle.js_grammar.proofs.Without.{true_is_not_false}
use Rattle.js_rewrite.specs.Space.{begins_as_word, ends_as_word, is_operator, meets}

-- A piece of a gap begins the text.
pub record BeginsGap (t : SourceType) (ys : List ℕ) : Type 0 where
  pub ended : Bool
  pub found : Piece
  pub here : piece t ended ys ≡ Some found

-- The other text goes on as the text does, up to a gap of the text. In the place of the gap stands a line end, a space,
-- or nothing, where the character behind it, if there is one, does not meet the one before it. Before a gap that begins
-- with a line terminator stands a line end. The flag tells whether the token that ends there ends as a word, and the
-- number is its last character.
pub data Follows (t : SourceType) : Bool → ℕ → List ℕ → List ℕ → Type 0 where
  same : {word : Bool} {last : ℕ} {ys : List ℕ} → Follows t word last ys ys
  kept : {word : Bool} {last : ℕ} (is_word : Bool) (c : ℕ) {ys zs : List ℕ} → Follows t is_word c ys zs
      → Follows t word last (c ∷ ys) (c ∷ zs)
  line_end : {word : Bool} {last : ℕ} {ys zs : List ℕ} → BeginsGap t ys → Follows t word last ys (10 ∷ zs)
  space : {word : Bool} {last : ℕ} {ys zs : List ℕ} → BeginsGap t ys → begins is_line_terminator ys ≡ false
      → Follows t word last ys (32 ∷ zs)
  joined : {word : Bool} {last : ℕ} (c : ℕ) {ys zs : List ℕ} → BeginsGap t ys → begins is_line_terminator ys ≡ false
      → meets word last c ≡ false → Follows t word last ys (c ∷ zs)
  nothing_left : {word : Bool} {last : ℕ} {ys : List ℕ} → BeginsGap t ys → begins is_line_terminator ys ≡ false
      → Follows t word last ys []

-- the last character, or 0 where there is none
abbrev pub last_character : List ℕ → ℕ
last_character xs = unwrap_or (last_or None xs) 0

-- the same behind a token of the kind with these characters
abbrev pub FollowsToken : SourceType → Kind → List ℕ → List ℕ → List ℕ → Type 0
FollowsToken t kind xs ys zs = Follows t (ends_as_word kind (last_character xs)) (last_character xs) ys zs

-- A gap begins with white space, with a line terminator, or with the mark of a comment.
pub gap_begins : (t : SourceType) (ys : List ℕ) → BeginsGap t ys
    → (begins is_white_space ys ≡ true) ⊎ ((begins is_line_terminator ys ≡ true) ⊎ (begins begins_comment ys ≡ true))
gap_begins t ys g = by_piece (piece_is t g.ended ys g.found g.here)
  where
    by_piece : PieceIs g.ended ys g.found
        → (begins is_white_space ys ≡ true) ⊎ ((begins is_line_terminator ys ≡ true) ⊎ (begins begins_comment ys ≡ true))
    by_piece (white c cs here is x) = inl (ap (begins is_white_space) here ∙ is)
    by_piece (line c cs here no_white is x) = inr (inl (ap (begins is_line_terminator) here ∙ is))
    by_piece (a_comment is) = inr (inr (comment_begins t g.ended ys g.found is.kind g.here is.is))

-- nothing follows the end of a source
pub nothing_behind : (t : SourceType) (word : Bool) (last : ℕ) (ys zs : List ℕ) → ys ≡ [] → Follows t word last ys zs
    → zs ≡ []
nothing_behind t word last ys zs e same = e
nothing_behind t word last ys zs e (kept is_word c w) = absurd (cc)
nothing_behind t word last ys zs e (line_end g) =
    absurd (let no : None ≡ Some g.found = sym (ap (piece t g.ended) e) ∙ g.here in cc)
nothing_behind t word last ys zs e (space g f) =
    absurd (let no : None ≡ Some g.found = sym (ap (piece t g.ended) e) ∙ g.here in cc)
nothing_behind t word last ys zs e (joined c g f m) =
    absurd (let no : None ≡ Some g.found = sym (ap (piece t g.ended) e) ∙ g.here in cc)
nothing_behind t word last ys zs e (nothing_left g f) = refl

-- What follows whatever the token before is, follows one that ends as no word.
pub as_no_word : (t : SourceType) (word : Bool) (last : ℕ) (ys zs : List ℕ) → Follows t word last ys zs
    → Follows t false last ys zs
as_no_word t word last ys zs same = same
as_no_word t word last ys zs (kept is_word c w) = kept is_word c w
as_no_word t word last ys zs (line_end g) = line_end g
as_no_word t word last ys zs (space g f) = space g f
as_no_word t word last ys zs (nothing_left g f) = nothing_left g f
as_no_word t word last ys zs (joined c g f m) = joined c g f (less word m)
  where
    less : (word : Bool) → meets word last c ≡ false → meets false last c ≡ false
    less false e = e
    less true e =
        parts (begins_as_word c) (is_operator last && is_operator c) ((c == full_stop) || (c == hyphen_minus))
        ((last == full_stop) && begins_as_word c) e
      where
        parts : (a b d f : Bool) → (a || (b || (d || f))) ≡ false → (b || f) ≡ false
        parts true b d f h = absurd (cc)
        parts false true d f h = absurd (cc)
        parts false false true f h = absurd (cc)
        parts false false false f h = h

-- characters that stay before what follows
pub kept_before : (t : SourceType) (word : Bool) (last : ℕ) (xs ys zs : List ℕ) (is_word : Bool)
    → (xs ≡ [] → ⊥) → Follows t is_word (last_character xs) ys zs → Follows t word last (xs ++ ys) (xs ++ zs)
kept_before t word last [] ys zs is_word some w = absurd (some refl)
kept_before t word last (x ∷ []) ys zs is_word some w = kept is_word x w
kept_before t word last (x ∷ y ∷ xs) ys zs is_word some w =
    kept false x (kept_before t false x (y ∷ xs) ys zs is_word (λ no. absurd (cc)) w)

-- A test that no character passes with which a gap begins.
abbrev pub FailsGaps : (ℕ → Bool) → Type 0
FailsGaps p = (c : ℕ) → p c ≡ true → (is_white_space c ≡ false) × (is_line_terminator c ≡ false)
    × (begins_comment c ≡ false)

pub gap_fails : {A : Type 0} (p : ℕ → Bool) → FailsGaps p → (t : SourceType) (ys : List ℕ) → BeginsGap t ys
    → begins p ys ≡ true → A
gap_fails p fails t [] g e = absurd (cc)
gap_fails p fails t (c ∷ cs) g e =
    let no = fails c e in
    elim (gap_begins t (c ∷ cs) g) [
      | inl blank ↦ true_is_not_false (is_white_space c) blank no.0
      | inr (inl terminator) ↦ true_is_not_false (is_line_terminator c) terminator no.1
      | inr (inr mark) ↦ true_is_not_false (begins_comment c) mark no.2
    ]

-- What begins the text begins the other, where no gap begins with it.
pub begins_there : (p : ℕ → Bool) → FailsGaps p → (t : SourceType) (word : Bool) (last : ℕ) (ys zs : List ℕ)
    → Follows t word last ys zs → begins p ys ≡ true → begins p zs ≡ true
begins_there p fails t word last ys zs same e = e
begins_there p fails t word last ys zs (kept is_word c w) e = e
begins_there p fails t word last ys zs (line_end g) e = gap_fails p fails t ys g e
begins_there p fails t word last ys zs (space g f) e = gap_fails p fails t ys g e
begins_there p fails t word last ys zs (joined c g f m) e = gap_fails p fails t ys g e
begins_there p fails t word last ys zs (nothing_left g f) e = gap_fails p fails t ys g e

-- A test whose characters meet the token before, and are no blanks.
pub record Meets (p : ℕ → Bool) (word : Bool) (last : ℕ) : Type 0 where
  pub no_blank : FailsBlanks p
  pub meet : (c : ℕ) → p c ≡ true → meets word last c ≡ true

-- What begins the other text begins the text, where it would meet the token before.
pub begins_here : (p : ℕ → Bool) (t : SourceType) (word : Bool) (last : ℕ) (ys zs : List ℕ) → Meets p word last
    → Follows t word last ys zs → begins p zs ≡ true → begins p ys ≡ true
begins_here p t word last ys zs m same e = e
begins_here p t word last ys zs m (kept is_word c w) e = e
begins_here p t word last ys zs m (line_end g) e = true_is_not_false (p 10) e m.no_blank.1
begins_here p t word last ys zs m (space g f) e = true_is_not_false (p 32) e m.no_blank.0
begins_here p t word last ys zs m (joined c g f apart) e =
    true_is_not_false (meets word last c) (m.meet c e) apart
begins_here p t word last ys zs m (nothing_left g f) e = absurd (cc)

-- so where none such begins the text, none begins the other
pub none_begin : (p : ℕ → Bool) (t : SourceType) (word : Bool) (last : ℕ) (ys zs : List ℕ) → Meets p word last
    → Follows t word last ys zs → begins p ys ≡ false → begins p zs ≡ false
none_begin p t word last ys zs m w e = by_flag (begins p zs) refl
  where
    by_flag : (b : Bool) → begins p zs ≡ b → b ≡ false
    by_flag true is = true_is_not_false (begins p ys) (begins_here p t word last ys zs m w is) e
    by_flag false is = refl

-- A character that passes is the first of both, where a run of those that do not pass ends.
pub record Behind (t : SourceType) (mark ys zs : List ℕ) : Type 0 where
  pub here : is_prefix mark ys ≡ true
  pub is_word : Bool
  pub last : ℕ
  pub behind : Follows t is_word last (drop (length mark) ys) (drop (length mark) zs)

abbrev pub are_operators : List ℕ → Bool
are_operators mark = list_all is_operator mark

pub operators_meet : (word : Bool) (last c : ℕ) → is_operator last ≡ true → is_operator c ≡ true
    → meets word last c ≡ true
operators_meet word last c a b = by_parts _ (is_operator last) (is_operator c) _ a b
  where
    by_parts : (x y z w : Bool) → y ≡ true → z ≡ true → (x || ((y && z) || w)) ≡ true
    by_parts true y z w e f = refl
    by_parts false y z w e f = rw (e, f) refl

-- A mark of operator characters that begins the other text behind one begins the text.
pub mark_here : (t : SourceType) (mark : List ℕ) (word : Bool) (last : ℕ) (ys zs : List ℕ)
    → are_operators mark ≡ true → is_operator last ≡ true → Follows t word last ys zs → is_prefix mark zs ≡ true
    → Behind t mark ys zs
mark_here t [] word last ys zs all is w e = record { here = refl; is_word = word; last = last; behind = w }
mark_here t (m ∷ mark) word last ys zs all is same e =
    record { here = e; is_word = word; last = last; behind = same }
mark_here t (m ∷ mark) word last ys zs all is (kept is_word c {ys = ys'} {zs = zs'} w) e =
    let all' = and_parts (is_operator m) (are_operators mark) all in
    let both = and_parts (c == m) (is_prefix mark zs') e in
    let operator : is_operator c ≡ true = ap is_operator (eqb-true c m both.0) ∙ all'.0 in
    let later = mark_here t mark is_word c ys' zs' all'.1 operator w both.1 in
    record { here = rw both.0 later.here; is_word = later.is_word; last = later.last; behind = later.behind }
mark_here t (m ∷ mark) word last ys zs all is (line_end {zs = zs'} g) e =
    let all' = and_parts (is_operator m) (are_operators mark) all in
    let both = and_parts (10 == m) (is_prefix mark zs') e in
    true_is_not_false (is_operator m) all'.0 (ap is_operator (sym (eqb-true 10 m both.0)))
mark_here t (m ∷ mark) word last ys zs all is (space {zs = zs'} g f) e =
    let all' = and_parts (is_operator m) (are_operators mark) all in
    let both = and_parts (32 == m) (is_prefix mark zs') e in
    true_is_not_false (is_operator m) all'.0 (ap is_operator (sym (eqb-true 32 m both.0)))
mark_here t (m ∷ mark) word last ys zs all is (joined c {zs = zs'} g f apart) e =
    let all' = and_parts (is_operator m) (are_operators mark) all in
    let both = and_parts (c == m) (is_prefix mark zs') e in
    true_is_not_false (meets word last c)
    (operators_meet word last c is (ap is_operator (eqb-true c m both.0) ∙ all'.0)) apart
mark_here t (m ∷ mark) word last ys zs all is (nothing_left g f) e = absurd (cc)
