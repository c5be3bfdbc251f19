-- What follows a token in a text without its comments, and the gaps of that text.
use Rattle.std.proofs.Common.{◌≡◌, ℕ, ◌+◌, ◌≤◌, Bool, false, List, [], ◌∷◌, ◌++◌, refl, sym, ◌∙◌, ap, subst}
use Rattle.std.proofs.Common.{Option, Some, None, inl, inr, ◌⊎◌}
use Rattle.std.specs.Prelude.{◌&&◌, is_none, not, slice_range}
use Rattle.std.specs.Str.{IsCharBoundary, IsUtf8, chars}
use Rattle.js_text.specs.Characters.{begins, from_place, is_irregular_whitespace, is_line_terminator}
use Rattle.js_text.specs.declared.comment.Comment.{Comment}
use Rattle.js_text.specs.declared.comment.CommentKind.{CommentKind}
use Rattle.js_text.specs.declared.comment.CommentKind.TheVariants.{Line, SingleLineBlock, MultiLineBlock, HtmlOpen}
use Rattle.js_text.specs.declared.comment.CommentKind.TheVariants.{HtmlClose}
use Rattle.js_text.specs.declared.source_type.SourceType.{SourceType}
use Rattle.js_kind.specs.TokenParts.{TokenParts}
use Rattle.js_kind.specs.declared.kind.Kind.{Kind}
use Rattle.js_grammar.specs.Attach.{attach_from}
use Rattle.js_grammar.specs.Blanks.{kind_of, stand_in}
use Rattle.js_grammar.specs.Gap.{Piece, PieceKind, Pieces, piece, whole_gap_piece}
use Rattle.js_grammar.specs.Gap.PieceKind.{white_space, line_terminator, single_line_comment, multi_line_comment}
use Rattle.js_grammar.specs.Gap.PieceKind.{html_open_comment, html_close_comment, reported_comment}
use Rattle.js_grammar.specs.GapItems.{Gap, Item, token_before}
use Rattle.js_grammar.specs.Goals.{line_has_ended_behind}
use Rattle.js_grammar.specs.Outcome.{Outcome, gap_diagnostics, piece_diagnostics}
use Rattle.js_grammar.specs.PieceItems.{gap_of, is_line_comment, is_separator, items_from, items_of_kind, piece_length}
use Rattle.js_grammar.specs.PieceItems.{piece_span}
use Rattle.js_grammar.specs.Reading.{place_behind}
use Rattle.js_grammar.proofs.AtPlaces.{gap_end}
use Rattle.js_grammar.proofs.BlankedGaps.{blank_kind, blank_texts, blanked, blanked_pieces, piece_for, pieces_blanked}
use Rattle.js_grammar.proofs.BlankedGaps.{unreported_pieces}
use Rattle.js_grammar.proofs.GapLemmas.{whole_gap_unique}
use Rattle.js_grammar.proofs.Reported.{piece_texts}
use Rattle.js_grammar.proofs.Without.{FailsMarks, Without, comment_begins, dropped, kept as kept_too, mark_fails}
use Rattle.js_grammar.proofs.Without.{same as unchanged}
use Rattle.js_rewrite.proofs.BlankGaps.{gap_comments}
use Rattle.js_rewrite.proofs.Following.{BeginsGap, Follows}
use Rattle.js_rewrite.proofs.Following.Follows.{same, kept, line_end, space}
use Rattle.js_rewrite.proofs.GapsBefore.{GapParts}
use Rattle.js_rewrite.proofs.GoalsAlike.{GapsFor}
use Rattle.js_rewrite.proofs.ReadAlike.{StandsAlike}
use Rattle.js_strip.proofs.Standing.{StandBetween, behind_line_end, behind_listed}
use Rattle.js_strip.proofs.StrippedChars.{chars_between, stripped_chars, without_from}
use Rattle.js_strip.proofs.StrippedGaps.{gap_stripped}
use Rattle.js_strip.proofs.StrippedText.{stripped_from}

line_is_no_mark : FailsMarks is_line_terminator
unfolding is_line_terminator
line_is_no_mark = (refl, refl, refl)

-- a line end or a space stands in the place of a comment
stands_blank : (t : SourceType) (word : Bool) (last : ℕ) (ys zs : List ℕ) → BeginsGap t ys
    → begins is_line_terminator ys ≡ false → (kind : CommentKind) → Follows t word last ys (stand_in kind ∷ zs)
stands_blank t word last ys zs g no_line Line = space g no_line
stands_blank t word last ys zs g no_line SingleLineBlock = space g no_line
stands_blank t word last ys zs g no_line MultiLineBlock = line_end g
stands_blank t word last ys zs g no_line HtmlOpen = space g no_line
stands_blank t word last ys zs g no_line HtmlClose = space g no_line

-- What is left without comments follows what the text does, behind any token.
pub follows_without : (t : SourceType) (word : Bool) (last : ℕ) (ys zs : List ℕ) → Without t ys zs
    → Follows t word last ys zs
follows_without t word last ys zs unchanged = same
follows_without t word last ys zs (kept_too c {ys = ys'} {zs = zs'} w) =
    kept false c (follows_without t false c ys' zs' w)
follows_without t word last ys zs (dropped ended x kind {zs = zs'} here is w) =
    stands_blank t word last ys zs' (record { ended = ended; found = x; here = here })
    (mark_fails is_line_terminator line_is_no_mark ys (comment_begins t ended ys x kind here is)) kind

-- A token stands in both texts, where comments are left behind it.
pub stands_alike : (text other : List ℕ) (t : SourceType) (kind : Kind) (start end there e : ℕ) (more : List Comment)
    → IsUtf8 text → start ≤ end → IsCharBoundary text start → IsCharBoundary text end
    → StandBetween text (piece t) end more e → from_place other there ≡ chars (stripped_from text start more)
    → StandsAlike text other t kind start end there (chars (stripped_from text end more))
stands_alike text other t kind start end there e more u ordered b d stand begun = record {
  characters = chars (slice_range text start end);
  here = chars_between text start end u ordered b d;
  there_is = begun ∙ stripped_chars text t start end e more u ordered b d stand;
  follows = follows_without t _ _ (from_place text end) (chars (stripped_from text end more))
      (without_from text t end e more u d stand);
}

-- Pieces that stand for others have no comment, and report nothing.
kind_for : (k : PieceKind) (text : List ℕ) → kind_of k text ≡ None → (k ≡ white_space) ⊎ (k ≡ line_terminator)
kind_for white_space text e = inl refl
kind_for line_terminator text e = inr refl
kind_for single_line_comment text e = absurd (cc)
kind_for multi_line_comment text e = absurd (cc)
kind_for html_open_comment text e = absurd (cc)
kind_for html_close_comment text e = absurd (cc)
kind_for reported_comment text e = absurd (cc)

blank_is_none : (kind : CommentKind) → (blank_kind kind ≡ white_space) ⊎ (blank_kind kind ≡ line_terminator)
blank_is_none Line = inl refl
blank_is_none SingleLineBlock = inl refl
blank_is_none MultiLineBlock = inr refl
blank_is_none HtmlOpen = inl refl
blank_is_none HtmlClose = inl refl

blanked_kind : (x : Piece) (rest : List ℕ) → ((blanked x rest).kind ≡ white_space) ⊎ ((blanked x rest).kind ≡ line_terminator)
blanked_kind x rest = by_kind (kind_of x.kind x.text) refl
  where
    by_kind : (found : Option CommentKind) → kind_of x.kind x.text ≡ found
        → ((piece_for found x rest).kind ≡ white_space) ⊎ ((piece_for found x rest).kind ≡ line_terminator)
    by_kind None e = kind_for x.kind x.text e
    by_kind (Some kind) e = blank_is_none kind

blanks_have_none : (gap : Gap) (before : List Item) (p : ℕ) (ends : Bool) (xs : List Piece) (rest : List ℕ)
    → attach_from gap before (items_from p ends (blanked_pieces xs rest)) ≡ []
blanks_have_none gap before p ends [] rest = refl
blanks_have_none gap before p ends (x ∷ xs) rest =
    of_kind (λ n earlier. blanks_have_none gap earlier n false xs rest) (blanked x (blank_texts xs ++ rest)).kind
    (blanked_kind x (blank_texts xs ++ rest)) (blanked x (blank_texts xs ++ rest))
  where
    of_kind : ((n : ℕ) (earlier : List Item) → attach_from gap earlier (items_from n false (blanked_pieces xs rest)) ≡ [])
        → (k : PieceKind) → (k ≡ white_space) ⊎ (k ≡ line_terminator)
        → (z : Piece) → attach_from gap before (items_of_kind k p ends z
        ++ items_from (p + piece_length z) (is_line_comment k) (blanked_pieces xs rest)) ≡ []
    of_kind later white_space is z =
        behind_listed (λ cs. cs ≡ []) gap before (items_from (p + piece_length z) false (blanked_pieces xs rest))
        (begins is_irregular_whitespace z.text) (piece_span p z) (later (p + piece_length z))
    of_kind later line_terminator is z =
        behind_line_end (λ cs. cs ≡ []) gap before (items_from (p + piece_length z) false (blanked_pieces xs rest))
        (begins is_separator z.text && not ends) (piece_span p z) (later (p + piece_length z))
    of_kind later single_line_comment (inl e) z = absurd (cc)
    of_kind later single_line_comment (inr e) z = absurd (cc)
    of_kind later multi_line_comment (inl e) z = absurd (cc)
    of_kind later multi_line_comment (inr e) z = absurd (cc)
    of_kind later html_open_comment (inl e) z = absurd (cc)
    of_kind later html_open_comment (inr e) z = absurd (cc)
    of_kind later html_close_comment (inl e) z = absurd (cc)
    of_kind later html_close_comment (inr e) z = absurd (cc)
    of_kind later reported_comment (inl e) z = absurd (cc)
    of_kind later reported_comment (inr e) z = absurd (cc)

blanks_report_none : (p : ℕ) (xs : List Piece) (rest : List ℕ) → gap_diagnostics p (blanked_pieces xs rest) ≡ []
blanks_report_none p [] rest = refl
blanks_report_none p (x ∷ xs) rest =
    both (piece_diagnostics p (blanked x (blank_texts xs ++ rest)).kind) _
    (by_kind (blanked x (blank_texts xs ++ rest)).kind (blanked_kind x (blank_texts xs ++ rest)))
    (blanks_report_none (place_behind p (blanked x (blank_texts xs ++ rest)).text) xs rest)
  where
    by_kind : (k : PieceKind) → (k ≡ white_space) ⊎ (k ≡ line_terminator) → piece_diagnostics p k ≡ []
    by_kind k (inl is) = ap (piece_diagnostics p) is
    by_kind k (inr is) = ap (piece_diagnostics p) is

    both : {A : Type 0} (xs ys : List A) → xs ≡ [] → ys ≡ [] → xs ++ ys ≡ []
    both xs ys e f = ap (λ zs. zs ++ ys) e ∙ f

-- The gap before a token, whose comments are left out, and the token behind it.
pub gaps_stripped : (text other : List ℕ) (t : SourceType) (before there : Option TokenParts) (place q e : ℕ)
    (o : Outcome) (more : List Comment) → IsUtf8 text → IsCharBoundary text place → is_none before ≡ is_none there
    → o.token.start ≤ o.token.end → IsCharBoundary text o.token.end → GapParts text t before place o
    → from_place other q ≡ chars (stripped_from text place (o.findings.comments ++ more))
    → StandBetween text (piece t) o.token.end more e → StandBetween text (piece t) o.token.start more e
    → GapsFor text other t before there place q o (chars (stripped_from text o.token.end more))
gaps_stripped text other t before there place q e o more u b same_before ordered ends parts begun stand from_start =
    λ pieces has gap quiet flag.
    let nl = line_has_ended_behind before in
    let s = o.token.start in
    let end = o.token.end in
    let zs = chars (stripped_from text end more) in
    let xs = chars (slice_range text s end) in
    let rest = xs ++ zs in
    let one : pieces ≡ parts.pieces =
    (whole_gap_unique t nl (from_place text place) pieces parts.pieces has parts.has (from_place text s)
    (from_place text s) gap parts.gap).0 in
    let of = gap_of (is_none before) (token_before before) place pieces parts.gap_token in
    let found : o.findings.comments ≡ attach_from of [] (items_from place false pieces) =
    parts.comments
    ∙ ap (λ ps. attach_from (gap_of (is_none before) (token_before before) place ps parts.gap_token) []
    (items_from place false ps)) (sym one) in
    let plain =
    unreported_pieces t nl (from_place text place) pieces has (from_place text s) place gap.pieces_are quiet in
    let start : s ≡ place_behind place (piece_texts pieces) =
    gap_end text t nl has place s pieces u b parts.start gap in
    let blanks =
    gap_stripped text t of [] nl place false pieces has (from_place text s) more e u b plain
    (subst (λ n. StandBetween text (piece t) n more e) start from_start) in
    let there_is : from_place other q ≡ blank_texts pieces ++ rest =
    begun ∙ ap (λ cs. chars (stripped_from text place (cs ++ more))) found ∙ blanks
    ∙ ap (λ n. blank_texts pieces ++ chars (stripped_from text n more)) (sym start)
    ∙ ap (λ h. blank_texts pieces ++ h) (stripped_chars text t s end e more u ordered parts.start ends stand) in
    record {
      characters = xs;
      here = chars_between text s end u ordered parts.start ends;
      follows = follows_without t _ _ (from_place text end) zs (without_from text t end e more u ends stand);
      gap = record {
        pieces = blanked_pieces pieces rest;
        pieces_are =
            subst (λ f. Pieces (whole_gap_piece t) f (from_place other q) (blanked_pieces pieces rest) has rest)
            same_before
            (subst (λ z. Pieces (whole_gap_piece t) nl z (blanked_pieces pieces rest) has rest) (sym there_is)
            (pieces_blanked t nl (from_place text place) pieces has (from_place text s) rest plain));
        quiet = blanks_report_none q pieces rest;
        no_comment = λ inner none.
            gap_comments t there q (blanked_pieces pieces rest) inner none
            ∙ blanks_have_none
            (gap_of (is_none there) (token_before there) q (blanked_pieces pieces rest) inner.token) [] q false pieces
            rest;
      };
    }
