-- The pieces of a gap depend on their characters, and on what they end before.
use Rattle.std.proofs.Common.{◌≡◌, ℕ, ◌+◌, ◌<◌, ◌≤◌, Bool, true, false, ◌==◌, ◌&&◌, ◌||◌, List, [], ◌∷◌, ◌++◌, length}
use Rattle.std.proofs.Common.{drop}
use Rattle.std.proofs.Common.{length-drop, refl, sym, ◌∙◌, ap, subst, arith, length-append, append_assoc, Option, Some}
use Rattle.std.proofs.Common.{None}
use Rattle.std.specs.Prelude.{codes, if◌then◌else◌}
use Rattle.std.specs.List.{list_any}
use Rattle.std.specs.Option.{option_map}
use Rattle.std.proofs.lemmas.Bool.{and_parts}
use Rattle.std.proofs.lemmas.List.{append_cancel_right, drop-append-le}
use Rattle.js_text.specs.Characters.{before_first, from_first}
use Rattle.js_text.proofs.TextLemmas.{length-from_first}
use Rattle.js_text.specs.Characters.{is_line_terminator, is_white_space}
use Rattle.js_text.specs.SourceType.{is_module}
use Rattle.js_text.specs.declared.source_type.SourceType.{SourceType}
use Rattle.js_grammar.specs.Gap.{Cut, Piece, PieceKind, Pieces, block_comment, cut_behind, cut-cons, has_html_comments}
use Rattle.js_grammar.specs.Gap.{is_prefix}
use Rattle.js_grammar.specs.Gap.{is_reported, line_comment, one_character, piece, whole_gap_piece}
use Rattle.js_grammar.specs.Gap.PieceKind.{white_space, line_terminator, single_line_comment, multi_line_comment}
use Rattle.js_grammar.specs.Gap.PieceKind.{html_open_comment, html_close_comment, reported_comment}
use Rattle.js_grammar.proofs.Ahead.{AgreeFor, BeginAlike, agree_behind, are_ascii, nothing_before, prefix_agrees}
use Rattle.js_kind.specs.TokenParts.{TokenParts}
use Rattle.js_grammar.specs.Outcome.{gap_deferred, gap_diagnostics, gap_findings, piece_deferred, piece_diagnostics}
use Rattle.js_grammar.specs.PieceItems.{is_line_comment, items_from, items_of_kind, piece_length}
use Rattle.js_grammar.specs.Reading.{place_behind}
use Rattle.js_grammar.proofs.GapLemmas.{piece_takes, reported, unreported}
use Rattle.js_grammar.proofs.PieceLemmas.{from_first-html_open}
use Rattle.js_grammar.proofs.Reported.{piece_texts, pieces_text, whole_gap_piece_text}
use Rattle.js_grammar.proofs.Tests.{prefix_is}

-- Where the first character that passes stands, in texts that go on alike.
pub record FirstIs (p : ℕ → Bool) (text other us zs : List ℕ) : Type 0 where
  pub from : from_first p other ≡ us ++ zs
  pub before : before_first p other ≡ before_first p text

first_here : (p : ℕ → Bool) (c : ℕ) (r o us : List ℕ) → from_first p (c ∷ r) ≡ us ++ (c ∷ r)
    → FirstIs p (c ∷ r) (c ∷ o) us (c ∷ o)
first_here p c r o us e = by_test (p c) refl
  where
    by_test : (b : Bool) → p c ≡ b → FirstIs p (c ∷ r) (c ∷ o) us (c ∷ o)
    by_test true is =
        let stands : c ∷ r ≡ us ++ (c ∷ r) = rw is at e in
        let none : us ≡ [] = nothing_before us (c ∷ r) stands in
        record { from = rw (is, none) refl; before = rw is refl }
    by_test false is =
        let stands : from_first p r ≡ us ++ (c ∷ r) = rw is at e in
        absurd (omega (arith, length-from_first p r, ap length stands, length-append us (c ∷ r)))

pub first_local : (p : ℕ → Bool) (xs ys zs us : List ℕ) → BeginAlike ys zs → from_first p (xs ++ ys) ≡ us ++ ys
    → FirstIs p (xs ++ ys) (xs ++ zs) us zs
first_local p [] ys zs us alike e =
    let here : from_first p (alike.first ∷ alike.rest) ≡ us ++ (alike.first ∷ alike.rest) =
    subst (λ t. from_first p t ≡ us ++ t) alike.here e in
    subst (λ t. FirstIs p ys t us t) (sym alike.there)
    (subst (λ t. FirstIs p t (alike.first ∷ alike.other) us (alike.first ∷ alike.other)) (sym alike.here)
    (first_here p alike.first alike.rest alike.other us here))
first_local p (x ∷ xs) ys zs us alike e = by_test (p x) refl (λ f. first_local p xs ys zs us alike f)
  where
    by_test : (b : Bool) → p x ≡ b
        → (from_first p (xs ++ ys) ≡ us ++ ys → FirstIs p (xs ++ ys) (xs ++ zs) us zs)
        → FirstIs p (x ∷ (xs ++ ys)) (x ∷ (xs ++ zs)) us zs
    by_test true is later =
        let stands : (x ∷ xs) ++ ys ≡ us ++ ys = rw is at e in
        let same : x ∷ xs ≡ us = append_cancel_right (x ∷ xs) us ys stands in
        record { from = rw is (ap (λ t. t ++ zs) same); before = rw is refl }
    by_test false is later =
        let found = later (rw is at e) in
        record { from = rw is found.from; before = rw is (ap (λ t. x ∷ t) found.before) }

-- A mark within the characters that texts have in common stands in both or in none.
pub prefix_within : (mark xs ys zs : List ℕ) → length mark ≤ length xs
    → is_prefix mark (xs ++ ys) ≡ is_prefix mark (xs ++ zs)
prefix_within [] xs ys zs short = refl
prefix_within (m ∷ mark) [] ys zs short = absurd (omega (arith, short))
prefix_within (m ∷ mark) (x ∷ xs) ys zs short =
    ap (λ b. (x == m) && b) (prefix_within mark xs ys zs (omega (arith, short)))

-- so much of a text is taken by its cut
cut_room : (mark cs : List ℕ) (cut : Cut) → cut_behind mark cs ≡ Some cut → length mark + length cut.rest ≤ length cs
cut_room mark [] cut e = absurd (cc)
cut_room mark (c ∷ cs) cut e = by_test (is_prefix mark (c ∷ cs)) refl (λ inner f. cut_room mark cs inner f)
  where
    by_test : (b : Bool) → is_prefix mark (c ∷ cs) ≡ b
        → ((inner : Cut) → cut_behind mark cs ≡ Some inner → length mark + length inner.rest ≤ length cs)
        → length mark + length cut.rest ≤ length (c ∷ cs)
    by_test true is later =
        let found : Some (record { front = mark; rest = drop (length mark) (c ∷ cs) }) ≡ Some cut = rw is at e in
        let same : record { front = mark; rest = drop (length mark) (c ∷ cs) } ≡ cut = cc in
        omega (
          arith,
          ap (λ (x : Cut). length x.rest) same,
          ap length (prefix_is mark (c ∷ cs) is),
          length-append mark (drop (length mark) (c ∷ cs)),
        )
    by_test false is later = inner (cut_behind mark cs) refl
      where
        inner : (found : Option Cut) → cut_behind mark cs ≡ found → length mark + length cut.rest ≤ length (c ∷ cs)
        inner None f = absurd (let no : None ≡ Some cut = ap (option_map (cut-cons c)) (sym f) ∙ (rw is at e) in cc)
        inner (Some x) f =
            let found : Some (cut-cons c x) ≡ Some cut = ap (option_map (cut-cons c)) (sym f) ∙ (rw is at e) in
            let same : cut-cons c x ≡ cut = cc in
            omega (arith, later x f, ap (λ (y : Cut). length y.rest) same)

-- A cut that ends before the text goes on.
pub cut_local : (mark : List ℕ) → 0 < length mark → (xs ys zs us : List ℕ) (cut : Cut)
    → cut_behind mark (xs ++ ys) ≡ Some cut → cut.rest ≡ us ++ ys
    → cut_behind mark (xs ++ zs) ≡ Some (record cut { rest = us ++ zs })
cut_local mark some [] ys zs us cut e left =
    absurd (omega (arith, some, cut_room mark ys cut e, ap length left, length-append us ys))
cut_local mark some (x ∷ xs) ys zs us cut e left =
    by_test (is_prefix mark (x ∷ (xs ++ ys))) refl
    (λ inner f same. cut_local mark some xs ys zs us inner f same)
  where
    room : length mark ≤ length (x ∷ xs)
    room =
        omega
        (arith, cut_room mark (x ∷ (xs ++ ys)) cut e, ap length left, length-append us ys, length-append (x ∷ xs) ys)

    there : is_prefix mark (x ∷ (xs ++ ys)) ≡ is_prefix mark (x ∷ (xs ++ zs))
    there = prefix_within mark (x ∷ xs) ys zs room

    by_test : (b : Bool) → is_prefix mark (x ∷ (xs ++ ys)) ≡ b
        → ((inner : Cut) → cut_behind mark (xs ++ ys) ≡ Some inner → inner.rest ≡ us ++ ys
        → cut_behind mark (xs ++ zs) ≡ Some (record inner { rest = us ++ zs }))
        → cut_behind mark (x ∷ (xs ++ zs)) ≡ Some (record cut { rest = us ++ zs })
    by_test true is later =
        let found : Some (record { front = mark; rest = drop (length mark) (x ∷ (xs ++ ys)) }) ≡ Some cut = rw is at e in
        let same : record { front = mark; rest = drop (length mark) (x ∷ (xs ++ ys)) } ≡ cut = cc in
        let rests : drop (length mark) (x ∷ xs) ++ ys ≡ us ++ ys =
        sym (drop-append-le (length mark) (x ∷ xs) ys room) ∙ ap (λ (y : Cut). y.rest) same ∙ left in
        let front : drop (length mark) (x ∷ xs) ≡ us = append_cancel_right _ _ _ rests in
        rw (sym there ∙ is)
        (ap (λ r. Some (record { front = mark; rest = r }))
        (drop-append-le (length mark) (x ∷ xs) zs room ∙ ap (λ t. t ++ zs) front)
        ∙ ap (λ (y : Cut). Some (record y { rest = us ++ zs })) same)
    by_test false is later = rw (sym there ∙ is) (inner (cut_behind mark (xs ++ ys)) refl)
      where
        inner : (found : Option Cut) → cut_behind mark (xs ++ ys) ≡ found
            → option_map (cut-cons x) (cut_behind mark (xs ++ zs)) ≡ Some (record cut { rest = us ++ zs })
        inner None f = absurd (let no : None ≡ Some cut = ap (option_map (cut-cons x)) (sym f) ∙ (rw is at e) in cc)
        inner (Some y) f =
            let found : Some (cut-cons x y) ≡ Some cut = ap (option_map (cut-cons x)) (sym f) ∙ (rw is at e) in
            let same : cut-cons x y ≡ cut = cc in
            ap (option_map (cut-cons x)) (later y f (ap (λ (z : Cut). z.rest) same ∙ left))
            ∙ ap (λ (z : Cut). Some (record z { rest = us ++ zs })) same

-- A piece that ends before these characters is one in the other text too.
abbrev pub IsLocal : List ℕ → List ℕ → List ℕ → Option Piece → Option Piece → Type 0
IsLocal us ys zs found other =
    (x : Piece) → found ≡ Some x → x.rest ≡ us ++ ys → other ≡ Some (record x { rest = us ++ zs })

either_local : (us ys zs : List ℕ) (b d : Bool) (f g o q : Option Piece) → b ≡ d → IsLocal us ys zs f o
    → IsLocal us ys zs g q → IsLocal us ys zs (if b then f else g) (if d then o else q)
either_local us ys zs true d f g o q e first second x found left = rw (sym e) (first x found left)
either_local us ys zs false d f g o q e first second x found left = rw (sym e) (second x found left)

none_is_local : (us ys zs : List ℕ) → IsLocal us ys zs None None
none_is_local us ys zs x found left = absurd (cc)

character_local : (kind : PieceKind) (line_has_ended : Bool) (c : ℕ) (cs us ys zs : List ℕ)
    → IsLocal us ys zs (Some (one_character kind line_has_ended c (cs ++ ys)))
    (Some (one_character kind line_has_ended c (cs ++ zs)))
character_local kind line_has_ended c cs us ys zs x found left =
    let same : one_character kind line_has_ended c (cs ++ ys) ≡ x = cc in
    let front : cs ≡ us = append_cancel_right cs us ys (ap (λ (p : Piece). p.rest) same ∙ left) in
    ap (λ t. Some (one_character kind line_has_ended c (t ++ zs))) front
    ∙ ap (λ (p : Piece). Some (record p { rest = us ++ zs })) same

line_local : (kind : PieceKind) (line_has_ended : Bool) (xs us ys zs : List ℕ) → BeginAlike ys zs
    → IsLocal us ys zs (Some (line_comment kind line_has_ended (xs ++ ys)))
    (Some (line_comment kind line_has_ended (xs ++ zs)))
line_local kind line_has_ended xs us ys zs alike x found left =
    let same : line_comment kind line_has_ended (xs ++ ys) ≡ x = cc in
    let is = first_local is_line_terminator xs ys zs us alike (ap (λ (p : Piece). p.rest) same ∙ left) in
    ap (λ t. Some (record {
      kind = kind;
      text = t;
      line_has_ended = line_has_ended;
      rest = from_first is_line_terminator (xs ++ zs);
    })) is.before
    ∙ ap (λ r. Some (record {
      kind = kind;
      text = before_first is_line_terminator (xs ++ ys);
      line_has_ended = line_has_ended;
      rest = r;
    })) is.from
    ∙ ap (λ (p : Piece). Some (record p { rest = us ++ zs })) same

-- the comment that a cut is of
abbrev comment_of : Bool → Cut → Piece
comment_of line_has_ended cut = record {
  kind = multi_line_comment;
  text = codes "/*" ++ cut.front;
  line_has_ended = line_has_ended || list_any is_line_terminator cut.front;
  rest = cut.rest;
}

block_local : (line_has_ended : Bool) (xs us ys zs : List ℕ)
    → IsLocal us ys zs (block_comment line_has_ended (xs ++ ys)) (block_comment line_has_ended (xs ++ zs))
block_local line_has_ended xs us ys zs x found left = by_cut (cut_behind (codes "*/") (drop 2 (xs ++ ys))) refl
  where
    by_cut : (cut : Option Cut) → cut_behind (codes "*/") (drop 2 (xs ++ ys)) ≡ cut
        → block_comment line_has_ended (xs ++ zs) ≡ Some (record x { rest = us ++ zs })
    by_cut None f =
        absurd (let no : None ≡ Some x = ap (option_map (comment_of line_has_ended)) (sym f) ∙ found in cc)
    by_cut (Some cut) f =
        let made : Some (comment_of line_has_ended cut) ≡ Some x =
        ap (option_map (comment_of line_has_ended)) (sym f) ∙ found in
        let same : comment_of line_has_ended cut ≡ x = cc in
        let rest : cut.rest ≡ us ++ ys = ap (λ (p : Piece). p.rest) same ∙ left in
        let room : 2 ≤ length xs =
        omega (
          arith,
          cut_room (codes "*/") (drop 2 (xs ++ ys)) cut f,
          ap length rest,
          length-append us ys,
          length-drop 2 (xs ++ ys),
          length-append xs ys,
        ) in
        let there =
        cut_local (codes "*/") (omega arith) (drop 2 xs) ys zs us cut
        (ap (cut_behind (codes "*/")) (sym (drop-append-le 2 xs ys room)) ∙ f) rest in
        ap (λ t. option_map (comment_of line_has_ended) (cut_behind (codes "*/") t)) (drop-append-le 2 xs zs room)
        ∙ ap (option_map (comment_of line_has_ended)) there
        ∙ ap (λ (p : Piece). Some (record p { rest = us ++ zs })) same

-- the marks of comments agree
pub mark_agrees : (mark xs ys zs : List ℕ) → are_ascii mark ≡ true → length mark ≤ 4 → AgreeFor 4 ys zs
    → is_prefix mark (xs ++ ys) ≡ is_prefix mark (xs ++ zs)
mark_agrees mark xs ys zs ascii short agree =
    prefix_agrees 4 mark (xs ++ ys) (xs ++ zs) ascii short (agree_behind 4 xs ys zs agree)

pub piece_local : (t : SourceType) (line_has_ended : Bool) (c : ℕ) (cs us ys zs : List ℕ) → BeginAlike ys zs
    → AgreeFor 4 ys zs
    → IsLocal us ys zs (piece t line_has_ended (c ∷ (cs ++ ys))) (piece t line_has_ended (c ∷ (cs ++ zs)))
piece_local t line_has_ended c cs us ys zs alike agree =
    let xs = c ∷ cs in
    either_local us ys zs (is_white_space c) _ _ _ _ _ refl (character_local white_space line_has_ended c cs us ys zs)
    (either_local us ys zs (is_line_terminator c) _ _ _ _ _ refl (character_local line_terminator true c cs us ys zs)
    (either_local us ys zs (is_prefix (codes "//") (xs ++ ys)) _ _ _ _ _
    (mark_agrees (codes "//") xs ys zs refl (omega arith) agree)
    (line_local single_line_comment line_has_ended xs us ys zs alike)
    (either_local us ys zs (is_prefix (codes "/*") (xs ++ ys)) _ _ _ _ _
    (mark_agrees (codes "/*") xs ys zs refl (omega arith) agree)
    (block_local line_has_ended xs us ys zs)
    (either_local us ys zs (is_prefix (codes "<!--") (xs ++ ys) && has_html_comments t) _ _ _ _ _
    (ap (λ b. b && has_html_comments t) (mark_agrees (codes "<!--") xs ys zs refl (omega arith) agree))
    (line_local html_open_comment line_has_ended xs us ys zs alike)
    (either_local us ys zs (is_prefix (codes "-->") (xs ++ ys) && (has_html_comments t && line_has_ended)) _ _ _ _ _
    (ap (λ b. b && (has_html_comments t && line_has_ended))
    (mark_agrees (codes "-->") xs ys zs refl (omega arith) agree))
    (line_local html_close_comment line_has_ended xs us ys zs alike) (none_is_local us ys zs))))))

reported_agrees : (t : SourceType) (line_has_ended : Bool) (xs ys zs : List ℕ) → AgreeFor 4 ys zs
    → is_reported t line_has_ended (xs ++ ys) ≡ is_reported t line_has_ended (xs ++ zs)
reported_agrees t line_has_ended xs ys zs agree =
    ap (λ b. b && (is_module t && line_has_ended)) (mark_agrees (codes "<!--") xs ys zs refl (omega arith) agree)

-- So is a piece of a whole gap.
pub whole_piece_local : (t : SourceType) (line_has_ended : Bool) (c : ℕ) (cs us ys zs : List ℕ) → BeginAlike ys zs
    → AgreeFor 4 ys zs
    → IsLocal us ys zs (whole_gap_piece t line_has_ended (c ∷ (cs ++ ys)))
    (whole_gap_piece t line_has_ended (c ∷ (cs ++ zs)))
whole_piece_local t line_has_ended c cs us ys zs alike agree =
    either_local us ys zs (is_reported t line_has_ended (c ∷ (cs ++ ys))) _ _ _ _ _
    (reported_agrees t line_has_ended (c ∷ cs) ys zs agree)
    (line_local reported_comment line_has_ended (c ∷ cs) us ys zs alike)
    (piece_local t line_has_ended c cs us ys zs alike agree)

-- where no piece stands, and no `/*`, none stands in the other text
abbrev NoneLocal : Option Piece → Option Piece → Type 0
NoneLocal found other = found ≡ None → other ≡ None

either_none : (b d : Bool) (f g o q : Option Piece) → b ≡ d → (b ≡ true → NoneLocal f o) → NoneLocal g q
    → NoneLocal (if b then f else g) (if d then o else q)
either_none true d f g o q e first second none = rw (sym e) (first refl none)
either_none false d f g o q e first second none = rw (sym e) (second none)

some_none : (x : Piece) (o : Option Piece) → NoneLocal (Some x) o
some_none x o none = absurd (cc)

pub none_local : (t : SourceType) (line_has_ended : Bool) (c : ℕ) (cs ys zs : List ℕ) → AgreeFor 4 ys zs
    → is_prefix (codes "/*") (c ∷ (cs ++ ys)) ≡ false → whole_gap_piece t line_has_ended (c ∷ (cs ++ ys)) ≡ None
    → whole_gap_piece t line_has_ended (c ∷ (cs ++ zs)) ≡ None
none_local t line_has_ended c cs ys zs agree no_comment =
    let xs = c ∷ cs in
    either_none (is_reported t line_has_ended (xs ++ ys)) _ _ _ _ _
    (reported_agrees t line_has_ended xs ys zs agree) (λ _. some_none _ _)
    (either_none (is_white_space c) _ _ _ _ _ refl (λ _. some_none _ _)
    (either_none (is_line_terminator c) _ _ _ _ _ refl (λ _. some_none _ _)
    (either_none (is_prefix (codes "//") (xs ++ ys)) _ _ _ _ _
    (mark_agrees (codes "//") xs ys zs refl (omega arith) agree) (λ _. some_none _ _)
    (either_none (is_prefix (codes "/*") (xs ++ ys)) _ _ _ _ _
    (mark_agrees (codes "/*") xs ys zs refl (omega arith) agree)
    (λ is none. absurd (let no : true ≡ false = sym is ∙ no_comment in cc))
    (either_none (is_prefix (codes "<!--") (xs ++ ys) && has_html_comments t) _ _ _ _ _
    (ap (λ b. b && has_html_comments t) (mark_agrees (codes "<!--") xs ys zs refl (omega arith) agree))
    (λ _. some_none _ _)
    (either_none (is_prefix (codes "-->") (xs ++ ys) && (has_html_comments t && line_has_ended)) _ _ _ _ _
    (ap (λ b. b && (has_html_comments t && line_has_ended))
    (mark_agrees (codes "-->") xs ys zs refl (omega arith) agree))
    (λ _. some_none _ _) (λ none. none)))))))

-- a piece of a whole gap takes something
pub whole_takes : (t : SourceType) (line_has_ended : Bool) (cs : List ℕ) (x : Piece)
    → whole_gap_piece t line_has_ended cs ≡ Some x → length x.rest < length cs
whole_takes t line_has_ended cs x e = by_test (is_reported t line_has_ended cs) refl
  where
    by_test : (b : Bool) → is_reported t line_has_ended cs ≡ b → length x.rest < length cs
    by_test true is =
        let begun =
        prefix_is (codes "<!--") cs (and_parts (is_prefix (codes "<!--") cs) (is_module t && line_has_ended) is).0 in
        let found : Some (line_comment reported_comment line_has_ended cs) ≡ Some x =
        sym (reported t line_has_ended cs is) ∙ e in
        let same : line_comment reported_comment line_has_ended cs ≡ x = cc in
        omega (
          arith,
          ap (λ (p : Piece). length p.rest) same,
          ap (λ text. length (from_first is_line_terminator text)) begun,
          ap length (from_first-html_open (drop 4 cs)),
          length-from_first is_line_terminator (drop 4 cs),
          ap length begun,
        )
    by_test false is = piece_takes t line_has_ended cs x (sym (unreported t line_has_ended cs is) ∙ e)

-- Pieces of the same characters, whatever follows them.
abbrev pub SamePieces : List Piece → List Piece → Type 0
SamePieces [] [] = Unit {0}
SamePieces [] (y ∷ ys) = ⊥
SamePieces (x ∷ xs) [] = ⊥
SamePieces (x ∷ xs) (y ∷ ys) = (y ≡ record x { rest = y.rest }) × SamePieces xs ys

-- the pieces of a gap in the other text
pub record LocalPieces (t : SourceType) (line_had_ended : Bool) (other : List ℕ) (pieces : List Piece)
    (line_has_ended : Bool) (left : List ℕ) : Type 0 where
  pub found : List Piece
  pub are : Pieces (whole_gap_piece t) line_had_ended other found line_has_ended left
  pub same : SamePieces pieces found

pub pieces_local : (t : SourceType) (line_had_ended : Bool) (xs ys zs us : List ℕ) (pieces : List Piece)
    (line_has_ended : Bool) → BeginAlike ys zs → AgreeFor 4 ys zs
    → Pieces (whole_gap_piece t) line_had_ended (xs ++ ys) pieces line_has_ended (us ++ ys)
    → LocalPieces t line_had_ended (xs ++ zs) pieces line_has_ended (us ++ zs)
pieces_local t line_had_ended xs ys zs us [] line_has_ended alike agree are =
    let front : us ≡ xs = append_cancel_right us xs ys are.1 in
    record { found = []; are = (are.0, ap (λ w. w ++ zs) front); same = tt }
pieces_local t line_had_ended xs ys zs us (p ∷ ps) line_has_ended alike agree are =
    let ws = piece_texts ps ++ us in
    let rest : p.rest ≡ ws ++ ys =
    pieces_text t p.line_has_ended p.rest ps line_has_ended (us ++ ys) are.1
    ∙ sym (append_assoc (piece_texts ps) us ys) in
    let there = first xs ws rest (are.0) in
    let later =
    pieces_local t p.line_has_ended ws ys zs us ps line_has_ended alike agree
    (subst (λ r. Pieces (whole_gap_piece t) p.line_has_ended r ps line_has_ended (us ++ ys)) rest are.1) in
    record {
      found = record p { rest = ws ++ zs } ∷ later.found;
      are = (there, later.are);
      same = (refl, later.same);
    }
  where
    first : (xs ws : List ℕ) → p.rest ≡ ws ++ ys → whole_gap_piece t line_had_ended (xs ++ ys) ≡ Some p
        → whole_gap_piece t line_had_ended (xs ++ zs) ≡ Some (record p { rest = ws ++ zs })
    first [] ws rest is =
        let whole = whole_gap_piece_text t line_had_ended ys p is in
        absurd (omega (
          arith,
          ap length whole,
          length-append p.text p.rest,
          ap length rest,
          length-append ws ys,
          whole_takes t line_had_ended ys p is,
        ))
    first (c ∷ cs) ws rest is = whole_piece_local t line_had_ended c cs ws ys zs alike agree p is rest

-- and the same findings
diagnostics_same : (place : ℕ) (xs ys : List Piece) → SamePieces xs ys
    → gap_diagnostics place ys ≡ gap_diagnostics place xs
diagnostics_same place [] [] same = refl
diagnostics_same place [] (y ∷ ys) same = absurd same
diagnostics_same place (x ∷ xs) [] same = absurd same
diagnostics_same place (x ∷ xs) (y ∷ ys) same =
    ap (λ (p : Piece). piece_diagnostics place p.kind ++ gap_diagnostics (place_behind place p.text) ys) same.0
    ∙ ap (λ ds. piece_diagnostics place x.kind ++ ds) (diagnostics_same (place_behind place x.text) xs ys same.1)

deferred_same : (t : SourceType) (place : ℕ) (xs ys : List Piece) → SamePieces xs ys
    → gap_deferred t place ys ≡ gap_deferred t place xs
deferred_same t place [] [] same = refl
deferred_same t place [] (y ∷ ys) same = absurd same
deferred_same t place (x ∷ xs) [] same = absurd same
deferred_same t place (x ∷ xs) (y ∷ ys) same =
    ap (λ (p : Piece). piece_deferred t place p.kind ++ gap_deferred t (place_behind place p.text) ys) same.0
    ∙ ap (λ ds. piece_deferred t place x.kind ++ ds) (deferred_same t (place_behind place x.text) xs ys same.1)

kinds_same : (kind : PieceKind) (place : ℕ) (ends : Bool) (x : Piece) (rest : List ℕ)
    → items_of_kind kind place ends (record x { rest = rest }) ≡ items_of_kind kind place ends x
kinds_same white_space place ends x rest = refl
kinds_same line_terminator place ends x rest = refl
kinds_same single_line_comment place ends x rest = refl
kinds_same multi_line_comment place ends x rest = refl
kinds_same html_open_comment place ends x rest = refl
kinds_same html_close_comment place ends x rest = refl
kinds_same reported_comment place ends x rest = refl

items_same : (place : ℕ) (ends : Bool) (xs ys : List Piece) → SamePieces xs ys
    → items_from place ends ys ≡ items_from place ends xs
items_same place ends [] [] same = refl
items_same place ends [] (y ∷ ys) same = absurd same
items_same place ends (x ∷ xs) [] same = absurd same
items_same place ends (x ∷ xs) (y ∷ ys) same =
    ap (λ (p : Piece).
    items_of_kind p.kind place ends p ++ items_from (place + piece_length p) (is_line_comment p.kind) ys) same.0
    ∙ ap (λ is. is ++ items_from (place + piece_length x) (is_line_comment x.kind) ys)
    (kinds_same x.kind place ends x y.rest)
    ∙ ap (λ is. items_of_kind x.kind place ends x ++ is)
    (items_same (place + piece_length x) (is_line_comment x.kind) xs ys same.1)

pub findings_same : (t : SourceType) (before : Option TokenParts) (place : ℕ) (xs ys : List Piece) (token : TokenParts)
    → SamePieces xs ys → gap_findings t before place ys token ≡ gap_findings t before place xs token
findings_same t before place xs ys token same =
    rw (diagnostics_same place xs ys same, deferred_same t place xs ys same, items_same place false xs ys same) refl
