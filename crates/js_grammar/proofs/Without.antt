-- A text in which comments are replaced: what begins it, and what may follow a token.
use Rattle.std.proofs.Common.{◌≡◌, ℕ, Bool, true, false, not, ◌||◌, ◌&&◌, ◌==◌, List, [], ◌∷◌, ◌++◌, length, drop}
use Rattle.std.proofs.Common.{refl, sym, ◌∙◌, ap, Some, None, inl, inr}
use Rattle.std.specs.Prelude.{codes, if◌then◌else◌}
use Rattle.std.specs.List.{list_all}
use Rattle.std.proofs.lemmas.Bool.{and_parts, eqb-true}
use Rattle.js_text.specs.Characters.{begins, is_irregular_whitespace, is_line_terminator, is_white_space}
use Rattle.js_text.specs.SourceType.{is_module}
use Rattle.js_text.specs.declared.comment.CommentKind.{CommentKind}
use Rattle.js_text.specs.declared.comment.CommentKind.TheVariants.{Line, SingleLineBlock, MultiLineBlock, HtmlOpen}
use Rattle.js_text.specs.declared.comment.CommentKind.TheVariants.{HtmlClose}
use Rattle.js_text.specs.declared.source_type.SourceType.{SourceType}
use Rattle.js_grammar.specs.Gap.{Piece, PieceKind, block_comment, has_html_comments, is_prefix}
use Rattle.js_grammar.specs.Gap.{line_comment, one_character, piece}
use Rattle.js_grammar.specs.Gap.PieceKind.{white_space, line_terminator, single_line_comment}
use Rattle.js_grammar.specs.Gap.PieceKind.{html_open_comment, html_close_comment}
use Rattle.js_grammar.proofs.NumberItems.{true_or_false}
use Rattle.js_grammar.specs.Blanks.{stand_in}
use Rattle.js_grammar.specs.Blanks.{kind_of}

-- The other text is the text, in which what stands for some comments is in their place. None of them is one that a
-- module may not have.
pub data Without (t : SourceType) : List ℕ → List ℕ → Type 0 where
  same : {ys : List ℕ} → Without t ys ys
  kept : (c : ℕ) {ys zs : List ℕ} → Without t ys zs → Without t (c ∷ ys) (c ∷ zs)
  dropped : (ended : Bool) (x : Piece) (kind : CommentKind) {ys zs : List ℕ} → piece t ended ys ≡ Some x
      → kind_of x.kind x.text ≡ Some kind → Without t x.rest zs → Without t ys (stand_in kind ∷ zs)

pub kept_all : (t : SourceType) (xs ys zs : List ℕ) → Without t ys zs → Without t (xs ++ ys) (xs ++ zs)
kept_all t [] ys zs w = w
kept_all t (x ∷ xs) ys zs w = kept x (kept_all t xs ys zs w)

-- a test that neither a space nor a line feed passes
abbrev pub FailsBlanks : (ℕ → Bool) → Type 0
FailsBlanks p = (p 32 ≡ false) × (p 10 ≡ false)

pub blank_fails : (p : ℕ → Bool) → FailsBlanks p → (kind : CommentKind) → p (stand_in kind) ≡ false
blank_fails p fails Line = fails.0
blank_fails p fails SingleLineBlock = fails.0
blank_fails p fails MultiLineBlock = fails.1
blank_fails p fails HtmlOpen = fails.0
blank_fails p fails HtmlClose = fails.0

pub true_is_not_false : {A : Type 0} (b : Bool) → b ≡ true → b ≡ false → A
true_is_not_false b e f = absurd (let no : true ≡ false = sym e ∙ f in cc)

-- a mark without a blank
abbrev pub is_no_blank : ℕ → Bool
is_no_blank c = not ((c == 32) || (c == 10))

abbrev pub has_no_blank : List ℕ → Bool
has_no_blank mark = list_all is_no_blank mark

-- the texts begin with the mark, and what is left behind it
pub record BeginBoth (t : SourceType) (mark ys zs : List ℕ) : Type 0 where
  pub here : is_prefix mark ys ≡ true
  pub behind : Without t (drop (length mark) ys) (drop (length mark) zs)

no_blank_differs : (x : ℕ) → is_no_blank x ≡ true → (kind : CommentKind) → (stand_in kind == x) ≡ false
no_blank_differs x e kind = blank_fails (λ c. c == x) (differs 32 refl, differs 10 refl) kind
  where
    differs : (c : ℕ) → is_no_blank c ≡ false → (c == x) ≡ false
    differs c blank =
        elim (true_or_false (c == x)) [
          | inl is ↦
              true_is_not_false (is_no_blank x) e (ap is_no_blank (sym (eqb-true c x is)) ∙ blank)
          | inr other ↦ other
        ]

pub prefix_from : (t : SourceType) (mark ys zs : List ℕ) → has_no_blank mark ≡ true → Without t ys zs
    → is_prefix mark zs ≡ true → BeginBoth t mark ys zs
prefix_from t [] ys zs plain w e = record { here = refl; behind = w }
prefix_from t (m ∷ mark) ys zs plain same e = record { here = e; behind = same }
prefix_from t (m ∷ mark) ys zs plain (kept c {ys = ys'} {zs = zs'} w) e =
    let both = and_parts (c == m) (is_prefix mark zs') e in
    let later = prefix_from t mark ys' zs' (and_parts (is_no_blank m) (has_no_blank mark) plain).1 w both.1 in
    record { here = rw both.0 later.here; behind = later.behind }
prefix_from t (m ∷ mark) ys zs plain (dropped ended x kind {zs = zs'} here is w) e =
    true_is_not_false (stand_in kind == m) (and_parts (stand_in kind == m) (is_prefix mark zs') e).0
    (no_blank_differs m (and_parts (is_no_blank m) (has_no_blank mark) plain).0 kind)

-- The characters with which a comment begins.
abbrev pub begins_comment : ℕ → Bool
begins_comment c = (c == 47) || ((c == 60) || (c == 45))

-- a piece of one character is no comment
one_is_none : (k : PieceKind) (kind : CommentKind) (text : List ℕ) → k ≡ white_space → kind_of k text ≡ Some kind → ⊥
one_is_none k kind text e is = let no : None ≡ Some kind = sym (ap (λ z. kind_of z text) e) ∙ is in cc

line_is_none : (k : PieceKind) (kind : CommentKind) (text : List ℕ) → k ≡ line_terminator
    → kind_of k text ≡ Some kind → ⊥
line_is_none k kind text e is = let no : None ≡ Some kind = sym (ap (λ z. kind_of z text) e) ∙ is in cc

-- A comment begins with one of these characters.
pub comment_begins : (t : SourceType) (ended : Bool) (ys : List ℕ) (x : Piece) (kind : CommentKind)
    → piece t ended ys ≡ Some x → kind_of x.kind x.text ≡ Some kind → begins begins_comment ys ≡ true
comment_begins t ended [] x kind here is = absurd (cc)
comment_begins t ended (c ∷ cs) x kind here is = by_white (is_white_space c) here
  where
    by_mark : (if is_prefix (codes "//") (c ∷ cs) then Some (line_comment single_line_comment ended (c ∷ cs))
        else if is_prefix (codes "/*") (c ∷ cs) then block_comment ended (c ∷ cs)
        else if is_prefix (codes "<!--") (c ∷ cs) && has_html_comments t
        then Some (line_comment html_open_comment ended (c ∷ cs))
        else if is_prefix (codes "-->") (c ∷ cs) && (has_html_comments t && ended)
        then Some (line_comment html_close_comment ended (c ∷ cs))
        else None) ≡ Some x → begins_comment c ≡ true
    by_mark e =
        elim (true_or_false (c == 47)) [
          | inl slash ↦ rw slash refl
          | inr no_slash ↦
              elim (true_or_false (c == 60)) [
                | inl angle ↦ rw (no_slash, angle) refl
                | inr no_angle ↦
                    elim (true_or_false (c == 45)) [
                      | inl minus ↦ rw (no_slash, no_angle, minus) refl
                      | inr no_minus ↦ absurd
                          (let none : None ≡ Some x = rw (no_slash, no_angle, no_minus) at e in cc)
                    ]
              ]
        ]

    by_line : (b : Bool)
        → (if b then Some (one_character line_terminator true c cs)
        else if is_prefix (codes "//") (c ∷ cs) then Some (line_comment single_line_comment ended (c ∷ cs))
        else if is_prefix (codes "/*") (c ∷ cs) then block_comment ended (c ∷ cs)
        else if is_prefix (codes "<!--") (c ∷ cs) && has_html_comments t
        then Some (line_comment html_open_comment ended (c ∷ cs))
        else if is_prefix (codes "-->") (c ∷ cs) && (has_html_comments t && ended)
        then Some (line_comment html_close_comment ended (c ∷ cs))
        else None) ≡ Some x → begins_comment c ≡ true
    by_line true e =
        absurd
        (let same : one_character line_terminator true c cs ≡ x = cc in
        line_is_none x.kind kind x.text (sym (ap (λ (p : Piece). p.kind) same)) is)
    by_line false e = by_mark e

    by_white : (b : Bool)
        → (if b then Some (one_character white_space ended c cs)
        else if is_line_terminator c then Some (one_character line_terminator true c cs)
        else if is_prefix (codes "//") (c ∷ cs) then Some (line_comment single_line_comment ended (c ∷ cs))
        else if is_prefix (codes "/*") (c ∷ cs) then block_comment ended (c ∷ cs)
        else if is_prefix (codes "<!--") (c ∷ cs) && has_html_comments t
        then Some (line_comment html_open_comment ended (c ∷ cs))
        else if is_prefix (codes "-->") (c ∷ cs) && (has_html_comments t && ended)
        then Some (line_comment html_close_comment ended (c ∷ cs))
        else None) ≡ Some x → begins_comment c ≡ true
    by_white true e =
        absurd
        (let same : one_character white_space ended c cs ≡ x = cc in
        one_is_none x.kind kind x.text (sym (ap (λ (p : Piece). p.kind) same)) is)
    by_white false e = by_line (is_line_terminator c) e

-- a test that none of these passes
abbrev pub FailsMarks : (ℕ → Bool) → Type 0
FailsMarks p = (p 47 ≡ false) × (p 60 ≡ false) × (p 45 ≡ false)

pub mark_fails : (p : ℕ → Bool) → FailsMarks p → (ys : List ℕ) → begins begins_comment ys ≡ true → begins p ys ≡ false
mark_fails p fails [] e = refl
mark_fails p fails (c ∷ cs) e =
    elim (true_or_false (c == 47)) [
      | inl slash ↦ ap p (eqb-true c 47 slash) ∙ fails.0
      | inr no_slash ↦
          elim (true_or_false (c == 60)) [
            | inl angle ↦ ap p (eqb-true c 60 angle) ∙ fails.1
            | inr no_angle ↦
                let minus : (c == 45) ≡ true = rw (no_slash, no_angle) at e in
                ap p (eqb-true c 45 minus) ∙ fails.2
          ]
    ]

-- a `-` begins no comment of a module
pub no_close : (t : SourceType) (ended : Bool) (cs : List ℕ) (x : Piece) → is_module t ≡ true
    → piece t ended (45 ∷ cs) ≡ Some x → ⊥
unfolding is_white_space is_irregular_whitespace is_line_terminator
no_close t ended cs x module_is here =
    elim (true_or_false (is_prefix (codes "->") cs)) [
      | inl mark ↦ (let none : None ≡ Some x = rw (mark, module_is) at here in cc)
      | inr no_mark ↦ (let none : None ≡ Some x = rw no_mark at here in cc)
    ]
