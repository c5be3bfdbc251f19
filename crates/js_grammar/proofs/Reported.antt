-- Reported comments: where none stands, a whole gap is a longest gap.
use Rattle.std.proofs.Common.{◌≡◌, ℕ, Bool, true, false, not, List, [], ◌∷◌, ◌++◌, ◌&&◌, ◌||◌, drop, length}
use Rattle.std.proofs.Common.{refl, sym, ◌∙◌, ap, subst, arith, append_assoc, length-append, add-zero, Option, Some}
use Rattle.std.proofs.Common.{None}
use Rattle.std.specs.Prelude.{codes, if◌then◌else◌, IfSome}
use Rattle.std.specs.List.{list_any}
use Rattle.std.specs.Option.{option_map}
use Rattle.std.specs.Str.{encode_utf8_all}
use Rattle.std.proofs.lemmas.Str.{encodes-append}
use Rattle.js_text.specs.Characters.{is_white_space, is_line_terminator}
use Rattle.js_text.proofs.TextLemmas.{before_from}
use Rattle.js_text.specs.SourceType.{is_module}
use Rattle.js_text.specs.declared.source_type.SourceType.{SourceType}
use Rattle.js_grammar.specs.Gap.{is_prefix, is_reported, Cut, cut_behind, Piece, piece, whole_gap_piece}
use Rattle.js_grammar.specs.Gap.{has_html_comments, line_comment, Pieces, LongestGap, WholeGap}
use Rattle.js_grammar.specs.Gap.PieceKind.{multi_line_comment, html_open_comment, reported_comment}
use Rattle.js_grammar.specs.Outcome.{piece_diagnostics, gap_diagnostics}
use Rattle.js_grammar.specs.Reading.{place_behind}
use Rattle.js_grammar.proofs.GapLemmas.{unreported, reported, none_behind, piece_text}
use Rattle.js_grammar.proofs.PieceLemmas.{piece-angle}
use Rattle.js_grammar.proofs.Tests.{and_true, and_false, prefix_is}

pub append_nil : {A : Type 0} (xs ys : List A) → xs ++ ys ≡ [] → (xs ≡ []) × (ys ≡ [])
append_nil [] ys e = (refl, e)
append_nil (x ∷ xs) ys e = absurd (cc)

-- a choice that gives a reported comment is reported
unreported_if : (b : Bool) (place : ℕ) (x z : Piece) (y : Option Piece) → z.kind ≡ reported_comment
    → (if b then Some z else y) ≡ Some x → piece_diagnostics place x.kind ≡ [] → y ≡ Some x
unreported_if true place x z y kind e none =
    let same : z ≡ x = cc in
    let some : piece_diagnostics place reported_comment ≡ [] =
    ap (piece_diagnostics place) (sym kind ∙ ap (λ p. p.kind) same) ∙ none in
    absurd (cc)
unreported_if false place x z y kind e none = e

unreported_pieces : (t : SourceType) (line_has_ended : Bool) (cs : List ℕ) (xs : List Piece) (e : Bool) (r : List ℕ)
    (place : ℕ)
    → Pieces (whole_gap_piece t) line_has_ended cs xs e r → gap_diagnostics place xs ≡ []
    → Pieces (piece t) line_has_ended cs xs e r
unreported_pieces t line_has_ended cs [] e r place g none = g
unreported_pieces t line_has_ended cs (x ∷ xs) e r place g none =
    let parts = append_nil (piece_diagnostics place x.kind) (gap_diagnostics (place_behind place x.text) xs) none in (
      unreported_if (is_reported t line_has_ended cs) place x _ (piece t line_has_ended cs) refl g.0 parts.0,
      unreported_pieces t x.line_has_ended x.rest xs e r (place_behind place x.text) g.1 parts.1,
    )

-- a whole gap of which nothing is reported is a longest gap
pub longest_of_whole : (t : SourceType) (line_has_ended : Bool) (cs : List ℕ) (xs : List Piece) (e : Bool) (r : List ℕ)
    (place : ℕ)
    → WholeGap t line_has_ended cs xs e r → gap_diagnostics place xs ≡ [] → LongestGap t line_has_ended cs e r
longest_of_whole t line_has_ended cs xs e r place g none = record {
  pieces = xs;
  all =
      record {
        pieces_are = unreported_pieces t line_has_ended cs xs e r place g.pieces_are none;
        longest =
            (none_behind t e r g.longest).1;
      };
}

-- nothing is reported of a piece of any gap
abbrev Quiet : Option Piece → Type 0
Quiet found = IfSome found (λ x. (place : ℕ) → piece_diagnostics place x.kind ≡ [])

quiet_if : (b : Bool) (x y : Option Piece) → Quiet x → Quiet y → Quiet (if b then x else y)
quiet_if true x y h k = h
quiet_if false x y h k = k

quiet_block : (line_has_ended : Bool) (found : Option Cut)
    → Quiet
    (option_map
    (λ cut. record {
      kind = multi_line_comment;
      text = codes "/*" ++ cut.front;
      line_has_ended =
          line_has_ended || list_any is_line_terminator cut.front;
      rest = cut.rest;
    }) found)
quiet_block line_has_ended None = tt
quiet_block line_has_ended (Some cut) = λ place. refl

piece_is_quiet : (t : SourceType) (line_has_ended : Bool) (cs : List ℕ) → Quiet (piece t line_has_ended cs)
piece_is_quiet t line_has_ended [] = tt
piece_is_quiet t line_has_ended (c ∷ cs) =
    quiet_if (is_white_space c) _ _ (λ place. refl) (
    quiet_if (is_line_terminator c) _ _ (λ place. refl) (
    quiet_if (is_prefix (codes "//") (c ∷ cs)) _ _ (λ place. refl) (
    quiet_if (is_prefix (codes "/*") (c ∷ cs)) _ _
    (quiet_block line_has_ended (cut_behind (codes "*/") (drop 2 (c ∷ cs)))) (
    quiet_if (is_prefix (codes "<!--") (c ∷ cs) && has_html_comments t) _ _ (λ place. refl) (
    quiet_if (is_prefix (codes "-->") (c ∷ cs) && (has_html_comments t && line_has_ended)) _ None
    (λ place. refl) tt)))))

pub gap_reports_nothing : (t : SourceType) (line_has_ended : Bool) (cs : List ℕ) (xs : List Piece) (e : Bool)
    (r : List ℕ) (place : ℕ)
    → Pieces (piece t) line_has_ended cs xs e r → gap_diagnostics place xs ≡ []
gap_reports_nothing t line_has_ended cs [] e r place g = refl
gap_reports_nothing t line_has_ended cs (x ∷ xs) e r place g =
    let quiet = subst Quiet g.0 (piece_is_quiet t line_has_ended cs) in
    ap (λ ds. ds ++ gap_diagnostics (place_behind place x.text) xs) (quiet place)
    ∙ gap_reports_nothing t x.line_has_ended x.rest xs e r (place_behind place x.text) g.1

-- where a reported comment stands, no piece of any gap does
angle_rest : (m : Bool) (line_has_ended : Bool) (p : Bool) (x : Piece) → (m && line_has_ended) ≡ true
    → (if p && not m then Some x else None) ≡ None
angle_rest true line_has_ended p x e = rw and_false refl
angle_rest false line_has_ended p x e = absurd (cc)

pub reported_is_no_piece : (t : SourceType) (line_has_ended : Bool) (cs : List ℕ)
    → is_reported t line_has_ended cs ≡ true → piece t line_has_ended cs ≡ None
reported_is_no_piece t line_has_ended cs e =
    let both = and_true (is_prefix (codes "<!--") cs) (is_module t && line_has_ended) e in
    let text : cs ≡ codes "<!--" ++ drop 4 cs = prefix_is (codes "<!--") cs both.0 in
    let behind = codes "!--" ++ drop 4 cs in
    ap (piece t line_has_ended) text ∙ piece-angle t line_has_ended behind
    ∙ angle_rest (is_module t) line_has_ended (is_prefix (codes "!--") behind)
    (line_comment html_open_comment line_has_ended (60 ∷ behind)) both.1

-- so a piece of any gap is one of a whole gap
pub whole_gap_piece_of : (t : SourceType) (line_has_ended : Bool) (cs : List ℕ) (x : Piece)
    → piece t line_has_ended cs ≡ Some x → whole_gap_piece t line_has_ended cs ≡ Some x
whole_gap_piece_of t line_has_ended cs x e =
    let family : Bool → Type 0 = λ b. is_reported t line_has_ended cs ≡ b
    → whole_gap_piece t line_has_ended cs ≡ Some x in
    elim (is_reported t line_has_ended cs) as family [
      | true ↦ λ h. absurd
          (let none = reported_is_no_piece t line_has_ended cs h in cc)
      | false ↦ λ h. unreported t line_has_ended cs h
          ∙ e
    ] refl

pub whole_pieces_of : (t : SourceType) (line_has_ended : Bool) (cs : List ℕ) (xs : List Piece) (e : Bool) (r : List ℕ)
    → Pieces (piece t) line_has_ended cs xs e r → Pieces (whole_gap_piece t) line_has_ended cs xs e r
whole_pieces_of t line_has_ended cs [] e r g = g
whole_pieces_of t line_has_ended cs (x ∷ xs) e r g =
    (whole_gap_piece_of t line_has_ended cs x g.0, whole_pieces_of t x.line_has_ended x.rest xs e r g.1)

-- a longest gap behind which no reported comment stands is a whole gap
pub whole_of_longest : (t : SourceType) (line_has_ended : Bool) (cs : List ℕ) (e : Bool) (r : List ℕ)
    (g : LongestGap t line_has_ended cs e r) → is_reported t e r ≡ false → WholeGap t line_has_ended cs g.pieces e r
whole_of_longest t line_has_ended cs e r g none =
    record {
      pieces_are = whole_pieces_of t line_has_ended cs g.pieces e r g.all.pieces_are;
      longest =
          unreported t e r none ∙ g.all.longest;
    }

-- the characters of pieces
abbrev pub piece_texts : List Piece → List ℕ
piece_texts [] = []
piece_texts (x ∷ xs) = x.text ++ piece_texts xs

-- a piece of a whole gap is the characters that it carries
pub whole_gap_piece_text : (t : SourceType) (line_has_ended : Bool) (cs : List ℕ) (x : Piece)
    → whole_gap_piece t line_has_ended cs ≡ Some x → cs ≡ x.text ++ x.rest
whole_gap_piece_text t line_has_ended cs x e =
    let family : Bool → Type 0 = λ b. is_reported t line_has_ended cs ≡ b → cs ≡ x.text ++ x.rest in
    elim (is_reported t line_has_ended cs) as family [
      | true ↦ λ h. let same : Some (line_comment reported_comment line_has_ended cs) ≡ Some x =
          sym (reported t line_has_ended cs h) ∙ e in
          let is : line_comment reported_comment line_has_ended cs ≡ x = cc in
          sym (before_from is_line_terminator cs) ∙ ap (λ p. p.text ++ p.rest) is
      | false ↦ λ h. piece_text t line_has_ended cs x (sym (unreported t line_has_ended cs h) ∙ e)
    ] refl

pub pieces_text : (t : SourceType) (line_has_ended : Bool) (cs : List ℕ) (xs : List Piece) (e : Bool) (r : List ℕ)
    → Pieces (whole_gap_piece t) line_has_ended cs xs e r → cs ≡ piece_texts xs ++ r
pieces_text t line_has_ended cs [] e r g = sym g.1
pieces_text t line_has_ended cs (x ∷ xs) e r g =
    whole_gap_piece_text t line_has_ended cs x g.0
    ∙ ap (λ ys. x.text ++ ys) (pieces_text t x.line_has_ended x.rest xs e r g.1)
    ∙ sym (append_assoc x.text (piece_texts xs) r)

-- pieces behind pieces
pub pieces-append : (step : Bool → List ℕ → Option Piece) (line_has_ended : Bool) (cs : List ℕ) (xs ys : List Piece)
    (e f : Bool) (r s : List ℕ)
    → Pieces step line_has_ended cs xs e r → Pieces step e r ys f s → Pieces step line_has_ended cs (xs ++ ys) f s
pieces-append step line_has_ended cs [] ys e f r s g h =
    subst (λ b. Pieces step b cs ys f s) g.0 (subst (λ zs. Pieces step e zs ys f s) g.1 h)
pieces-append step line_has_ended cs (x ∷ xs) ys e f r s g h =
    (g.0, pieces-append step x.line_has_ended x.rest xs ys e f r s g.1 h)

pub place_behind-append : (place : ℕ) (xs ys : List ℕ)
    → place_behind (place_behind place xs) ys ≡ place_behind place (xs ++ ys)
place_behind-append place xs ys =
    omega (arith, ap length (encodes-append xs ys), length-append (encode_utf8_all xs) (encode_utf8_all ys))

pub gap_diagnostics-append : (place : ℕ) (xs ys : List Piece)
    → gap_diagnostics place (xs ++ ys)
    ≡ gap_diagnostics place xs ++ gap_diagnostics (place_behind place (piece_texts xs)) ys
gap_diagnostics-append place [] ys = ap (λ p. gap_diagnostics p ys) (sym (add-zero place))
gap_diagnostics-append place (x ∷ xs) ys =
    ap (λ ds. piece_diagnostics place x.kind ++ ds) (gap_diagnostics-append (place_behind place x.text) xs ys)
    ∙ ap (λ p. piece_diagnostics place x.kind
    ++ (gap_diagnostics (place_behind place x.text) xs ++ gap_diagnostics p ys))
    (place_behind-append place x.text (piece_texts xs))
    ∙ sym
    (append_assoc (piece_diagnostics place x.kind) (gap_diagnostics (place_behind place x.text) xs)
    (gap_diagnostics (place_behind place (x.text ++ piece_texts xs)) ys))
