-- The comments that a reading finds stand in its text before its token, one behind the other.
use Rattle.std.proofs.Common.{◌≡◌, ℕ, ◌≤◌, Bool, true, false, List, [], ◌∷◌, ◌++◌, refl, sym, ◌∙◌, ap}
use Rattle.std.proofs.Common.{zero, suc, subst, arith, length, ◌<◌, inl, inr, Option, Some}
use Rattle.std.proofs.lemmas.Bool.{cases_lt}
use Rattle.std.specs.Prelude.{◌&&◌, is_none, not}
use Rattle.std.specs.Str.{IsCharBoundary, IsUtf8}
use Rattle.js_text.specs.Characters.{begins, from_place, is_irregular_whitespace}
use Rattle.js_text.specs.declared.comment.Comment.{Comment}
use Rattle.js_text.specs.declared.comment.CommentKind.{CommentKind}
use Rattle.js_text.specs.declared.comment.CommentKind.TheVariants.{Line, HtmlOpen, HtmlClose}
use Rattle.js_text.specs.declared.source_type.SourceType.{SourceType}
use Rattle.js_text.specs.declared.span.Span.{Span}
use Rattle.js_kind.specs.TokenParts.{TokenParts}
use Rattle.js_grammar.specs.Attach.{attach, attach_from}
use Rattle.js_grammar.specs.Blanks.{kind_of}
use Rattle.js_grammar.specs.Gap.{Piece, PieceKind, Pieces, WholeGap, whole_gap_piece}
use Rattle.js_grammar.specs.Gap.PieceKind.{white_space, line_terminator, single_line_comment, multi_line_comment}
use Rattle.js_grammar.specs.Gap.PieceKind.{html_open_comment, html_close_comment, reported_comment}
use Rattle.js_grammar.specs.GapItems.{Gap, Item, comment, irregular, line_end, token_before}
use Rattle.js_grammar.specs.Goals.{GoalReads, ReadsAttributeValue, ReadsBehindGap, ReadsJsxChild}
use Rattle.js_grammar.specs.Goals.{ReadsPlainly, line_has_ended_behind, with_gap}
use Rattle.js_grammar.specs.Goals.ReadsAttributeValue.{string, plain}
use Rattle.js_grammar.specs.Goals.ReadsPlainly.{hashbang, behind_gap}
use Rattle.js_grammar.specs.Hashbang.{begins_hashbang}
use Rattle.js_grammar.specs.Outcome.{Outcome, outcome_at}
use Rattle.js_grammar.specs.PieceItems.{block_kind, found_comment, is_line_comment, items_from, items_of_kind, listed_if}
use Rattle.js_grammar.specs.PieceItems.{gap_of, is_separator, piece_span}
use Rattle.js_grammar.specs.Reading.{place_behind}
use Rattle.js_grammar.specs.declared.goal.Goal.{Goal}
use Rattle.js_grammar.specs.Reads.{is_onward}
use Rattle.js_grammar.specs.declared.goal.Goal.TheVariants.{First, Next, TemplateTail, RegularExpression, RightAngle}
use Rattle.js_grammar.specs.declared.goal.Goal.TheVariants.{TypeScriptLeftAngle, TypeScriptRightAngle, JsxIdentifier}
use Rattle.js_grammar.specs.declared.goal.Goal.TheVariants.{JsxChild, JsxAttributeValue}
use Rattle.js_grammar.proofs.AtPlaces.{behind_characters, gap_end}
use Rattle.js_grammar.proofs.Reported.{piece_texts, place_behind-append, whole_gap_piece_text}
use Rattle.js_rewrite.proofs.BlankGaps.{gap_comments}
use Rattle.js_strip.specs.StripText.{StandInOrder}

-- What finds the piece that a text begins with, where the flag tells whether a line has ended before it.
abbrev pub Step : Type 0
Step = Bool → List ℕ → Option Piece

-- the characters of a piece that it finds are those before what is left
abbrev pub Takes : Step → Type 0
Takes step = (ended : Bool) (cs : List ℕ) (x : Piece) → step ended cs ≡ Some x → cs ≡ x.text ++ x.rest

-- and less is left behind it
abbrev pub Shortens : Step → Type 0
Shortens step = (ended : Bool) (cs : List ℕ) (x : Piece) → step ended cs ≡ Some x → length x.rest < length cs

-- The comment stands in the text: it is the piece that the text begins with where it starts.
pub record IsComment (text : List ℕ) (step : Step) (comment : Comment) : Type 0 where
  pub ordered : comment.span.start ≤ comment.span.end
  pub starts : IsCharBoundary text comment.span.start
  pub ends : IsCharBoundary text comment.span.end
  pub line_had_ended : Bool
  pub piece : Piece
  pub here : step line_had_ended (from_place text comment.span.start) ≡ Some piece
  pub rest : piece.rest ≡ from_place text comment.span.end
  pub kind : kind_of piece.kind piece.text ≡ Some comment.kind

-- The comments stand in the text between two places, one behind the other.
abbrev pub StandBetween : List ℕ → Step → ℕ → List Comment → ℕ → Type 0
StandBetween text step place [] end = place ≤ end
StandBetween text step place (c ∷ cs) end =
    (place ≤ c.span.start) × IsComment text step c × StandBetween text step c.span.end cs end

-- they stand behind an earlier place too
pub between_from : (text : List ℕ) (step : Step) (p q e : ℕ) (comments : List Comment) → p ≤ q
    → StandBetween text step q comments e → StandBetween text step p comments e
between_from text step p q e [] h stand = omega (arith, h, stand)
between_from text step p q e (c ∷ cs) h stand = (let at = stand.0 in omega (arith, h, at), stand.1, stand.2)

-- and before a later one
pub between_to : (text : List ℕ) (step : Step) (p e f : ℕ) (comments : List Comment) → e ≤ f
    → StandBetween text step p comments e → StandBetween text step p comments f
between_to text step p e f [] h stand = omega (arith, h, stand)
between_to text step p e f (c ∷ cs) h stand = (stand.0, stand.1, between_to text step c.span.end e f cs h stand.2)

pub between_append : (text : List ℕ) (step : Step) (p q e : ℕ) (xs ys : List Comment)
    → StandBetween text step p xs q → StandBetween text step q ys e → StandBetween text step p (xs ++ ys) e
between_append text step p q e [] ys h stand = between_from text step p q e ys h stand
between_append text step p q e (x ∷ xs) ys h stand =
    (h.0, h.1, between_append text step x.span.end q e xs ys h.2 stand)

-- a comment is not empty
comment_some : (text : List ℕ) (step : Step) → Shortens step → (c : Comment) → IsComment text step c
    → c.span.start < c.span.end
comment_some text step shortens c is =
    elim (cases_lt c.span.start c.span.end) [
      | inl less ↦ less
      | inr more ↦
          let ordered = is.ordered in
          let same : c.span.start ≡ c.span.end = omega (arith, more, ordered) in
          let shorter = shortens is.line_had_ended (from_place text c.span.start) is.piece is.here in
          let count : length is.piece.rest ≡ length (from_place text c.span.start) =
          ap length is.rest ∙ ap (λ n. length (from_place text n)) (sym same) in
          absurd (omega (arith, shorter, count))
    ]

-- so they stand in order
pub in_order : (text : List ℕ) (step : Step) (p e : ℕ) (comments : List Comment) → Shortens step
    → StandBetween text step p comments e → StandInOrder text p comments
in_order text step p e [] shortens stand = tt
in_order text step p e (c ∷ cs) shortens stand = (
  record {
    behind = stand.0;
    ordered = stand.1.ordered;
    some = comment_some text step shortens c stand.1;
    starts = stand.1.starts;
    ends = stand.1.ends;
  },
  in_order text step c.span.end e cs shortens stand.2,
)

-- What holds of the comments of items holds of them where irregular white space stands first, and a line end.
pub behind_listed : (P : List Comment → Type 0) (gap : Gap) (before more : List Item) (b : Bool) (span : Span)
    → ((earlier : List Item) → P (attach_from gap earlier more)) → P (attach_from gap before (listed_if b span ++ more))
behind_listed P gap before more true span later = later (irregular span ∷ before)
behind_listed P gap before more false span later = later before

pub behind_line_end : (P : List Comment → Type 0) (gap : Gap) (before more : List Item) (b : Bool) (span : Span)
    → ((earlier : List Item) → P (attach_from gap earlier more))
    → P (attach_from gap before ((listed_if b span ++ line_end ∷ []) ++ more))
behind_line_end P gap before more true span later = later (line_end ∷ irregular span ∷ before)
behind_line_end P gap before more false span later = later (line_end ∷ before)

-- the comments of a piece, and of those behind it
piece_stands : (text : List ℕ) (step : Step) → Takes step → (gap : Gap) (before : List Item) (ended : Bool) (p : ℕ)
    (ends : Bool) (x : Piece) (xs : List Piece) → IsCharBoundary text p
    → IsCharBoundary text (place_behind p x.text) → from_place text (place_behind p x.text) ≡ x.rest
    → step ended (from_place text p) ≡ Some x
    → ((line : Bool) (earlier : List Item) → StandBetween text step (place_behind p x.text)
    (attach_from gap earlier (items_from (place_behind p x.text) line xs)) (place_behind p (piece_texts (x ∷ xs))))
    → StandBetween text step p (attach_from gap before (items_from p ends (x ∷ xs)))
    (place_behind p (piece_texts (x ∷ xs)))
piece_stands text step takes gap before ended p ends x xs b next rest here later = by_kind x.kind refl
  where
    from_here : (line : Bool) (earlier : List Item)
        → StandBetween text step p (attach_from gap earlier (items_from (place_behind p x.text) line xs))
        (place_behind p (piece_texts (x ∷ xs)))
    from_here line earlier =
        between_from text step p (place_behind p x.text) (place_behind p (piece_texts (x ∷ xs)))
        (attach_from gap earlier (items_from (place_behind p x.text) line xs)) (omega arith) (later line earlier)

    a_comment : (kind : CommentKind) (c : Comment) → c.span ≡ record { start = p; end = place_behind p x.text }
        → c.kind ≡ kind → kind_of x.kind x.text ≡ Some kind → (line : Bool) (earlier : List Item)
        → StandBetween text step p (c ∷ attach_from gap earlier (items_from (place_behind p x.text) line xs))
        (place_behind p (piece_texts (x ∷ xs)))
    a_comment kind c span is kind_is line earlier =
        let start : c.span.start ≡ p = ap (λ (s : Span). s.start) span in
        let end : c.span.end ≡ place_behind p x.text = ap (λ (s : Span). s.end) span in (
          omega (arith, start),
          record {
            ordered = omega (arith, start, end);
            starts = subst (IsCharBoundary text) (sym start) b;
            ends = subst (IsCharBoundary text) (sym end) next;
            line_had_ended = ended;
            piece = x;
            here = subst (λ n. step ended (from_place text n) ≡ Some x) (sym start) here;
            rest = sym (ap (from_place text) end ∙ rest);
            kind = kind_is ∙ ap Some (sym is);
          },
          subst
              (λ n. StandBetween text step n (attach_from gap earlier (items_from (place_behind p x.text) line xs))
              (place_behind p (piece_texts (x ∷ xs))))
              (sym end) (later line earlier),
        )

    by_kind : (k : PieceKind) → x.kind ≡ k
        → StandBetween text step p
        (attach_from gap before (items_of_kind k p ends x
        ++ items_from (place_behind p x.text) (is_line_comment k) xs))
        (place_behind p (piece_texts (x ∷ xs)))
    by_kind white_space k =
        behind_listed (λ cs. StandBetween text step p cs (place_behind p (piece_texts (x ∷ xs)))) gap before
        (items_from (place_behind p x.text) false xs) (begins is_irregular_whitespace x.text) (piece_span p x)
        (from_here false)
    by_kind line_terminator k =
        behind_line_end (λ cs. StandBetween text step p cs (place_behind p (piece_texts (x ∷ xs)))) gap before
        (items_from (place_behind p x.text) false xs) (begins is_separator x.text && not ends) (piece_span p x)
        (from_here false)
    by_kind single_line_comment k =
        a_comment Line _ refl refl (ap (λ z. kind_of z x.text) k) true
        (comment (found_comment p Line x) ∷ before)
    by_kind multi_line_comment k =
        a_comment (block_kind x.text) _ refl refl (ap (λ z. kind_of z x.text) k) false
        (comment (found_comment p (block_kind x.text) x) ∷ before)
    by_kind html_open_comment k =
        a_comment HtmlOpen _ refl refl (ap (λ z. kind_of z x.text) k) true
        (comment (found_comment p HtmlOpen x) ∷ before)
    by_kind html_close_comment k =
        a_comment HtmlClose _ refl refl (ap (λ z. kind_of z x.text) k) true
        (comment (found_comment p HtmlClose x) ∷ before)
    by_kind reported_comment k =
        a_comment HtmlOpen _ refl refl (ap (λ z. kind_of z x.text) k) true
        (comment (found_comment p HtmlOpen x) ∷ before)

-- the comments of pieces
pub pieces_stand : (text : List ℕ) (step : Step) → Takes step → (gap : Gap) (before : List Item) (ended : Bool) (p : ℕ)
    (ends : Bool) (pieces : List Piece) (has : Bool) (rest : List ℕ) → IsUtf8 text → IsCharBoundary text p
    → Pieces step ended (from_place text p) pieces has rest
    → StandBetween text step p (attach_from gap before (items_from p ends pieces)) (place_behind p (piece_texts pieces))
pieces_stand text step takes gap before ended p ends [] has rest u b g = omega arith
pieces_stand text step takes gap before ended p ends (x ∷ xs) has rest u b g =
    let next = behind_characters text p x.text x.rest u b (takes ended (from_place text p) x g.0) in
    piece_stands text step takes gap before ended p ends x xs b next.0 next.1 g.0
    (λ line earlier.
    subst
    (λ n. StandBetween text step (place_behind p x.text)
    (attach_from gap earlier (items_from (place_behind p x.text) line xs)) n)
    (place_behind-append p x.text (piece_texts xs))
    (pieces_stand text step takes gap earlier x.line_has_ended (place_behind p x.text) line xs has rest u next.0
    (subst (λ h. Pieces step x.line_has_ended h xs has rest) (sym next.1) g.1)))

-- What a gap finds stands before the token behind it.
gap_stands : (text : List ℕ) (t : SourceType) (before : Option TokenParts) (place : ℕ) (pieces : List Piece)
    (has : Bool) (inner o : Outcome) → IsUtf8 text → IsCharBoundary text place → IsCharBoundary text o.token.start
    → WholeGap t (line_has_ended_behind before) (from_place text place) pieces has (from_place text o.token.start)
    → inner.findings.comments ≡ [] → o ≡ with_gap t before place pieces inner
    → StandBetween text (whole_gap_piece t) place o.findings.comments o.token.start
gap_stands text t before place pieces has inner o u b d gap none is =
    let found =
    ap (λ (x : Outcome). x.findings.comments) is ∙ gap_comments t before place pieces inner none in
    let end =
    gap_end text t (line_has_ended_behind before) has place o.token.start pieces u b d gap in
    subst (λ cs. StandBetween text (whole_gap_piece t) place cs o.token.start) (sym found)
    (subst
    (λ n. StandBetween text (whole_gap_piece t) place
    (attach (gap_of (is_none before) (token_before before) place pieces inner.token)) n)
    (sym end)
    (pieces_stand text (whole_gap_piece t) (whole_gap_piece_text t) (gap_of (is_none before) (token_before before) place pieces inner.token) []
    (line_has_ended_behind before) place false pieces has (from_place text o.token.start) u b gap.pieces_are))

behind_gap_stands : (text : List ℕ) (t : SourceType) (before : Option TokenParts) (place : ℕ) (o : Outcome)
    → IsUtf8 text → IsCharBoundary text place → ReadsBehindGap text t before place o
    → StandBetween text (whole_gap_piece t) place o.findings.comments o.token.start
behind_gap_stands text t before place o u b reads =
    gap_stands text t before place reads.pieces reads.line_has_ended
    (outcome_at reads.line_has_ended o.token.start reads.reading) o u b reads.start reads.gap refl reads.outcome_is

pub no_hashbang_there : (goal : Goal) (text : List ℕ) (place : ℕ) → begins_hashbang goal text place ≡ true → place ≡ 0
no_hashbang_there First text zero e = refl
no_hashbang_there First text (suc place) e = absurd (cc)
no_hashbang_there Next text place e = absurd (cc)
no_hashbang_there TemplateTail text place e = absurd (cc)
no_hashbang_there RegularExpression text place e = absurd (cc)
no_hashbang_there RightAngle text place e = absurd (cc)
no_hashbang_there TypeScriptLeftAngle text place e = absurd (cc)
no_hashbang_there TypeScriptRightAngle text place e = absurd (cc)
no_hashbang_there JsxIdentifier text place e = absurd (cc)
no_hashbang_there JsxChild text place e = absurd (cc)
no_hashbang_there JsxAttributeValue text place e = absurd (cc)

plainly_stands : (text : List ℕ) (t : SourceType) (goal : Goal) (before : Option TokenParts) (place : ℕ)
    (o : Outcome) → IsUtf8 text → IsCharBoundary text place → ReadsPlainly text t goal before place o
    → StandBetween text (whole_gap_piece t) place o.findings.comments o.token.start
plainly_stands text t goal before place o u b (hashbang begins read) =
    let none : o.findings.comments ≡ [] = ap (λ (x : Outcome). x.findings.comments) read.alone in
    subst (λ cs. StandBetween text (whole_gap_piece t) place cs o.token.start) (sym none)
    (omega (arith, no_hashbang_there goal text place begins))
plainly_stands text t goal before place o u b (behind_gap begins read) =
    behind_gap_stands text t before place o u b read

attribute_stands : (text : List ℕ) (t : SourceType) (before : Option TokenParts) (place : ℕ) (o : Outcome)
    → IsUtf8 text → IsCharBoundary text place → ReadsAttributeValue text t before place o
    → StandBetween text (whole_gap_piece t) place o.findings.comments o.token.start
attribute_stands text t before place o u b (string read) =
    let none : read.string.findings.comments ≡ [] = ap (λ (x : Outcome). x.findings.comments) read.reads.outcome_is in
    gap_stands text t before place read.pieces read.line_has_ended read.string o u b read.reads.begins read.gap none
    read.outcome_is
attribute_stands text t before place o u b (plain no_quote read) = behind_gap_stands text t before place o u b read

pub child_none : (text : List ℕ) (step : Step) (ended : Bool) (place : ℕ) (o : Outcome)
    → ReadsJsxChild text ended place o → StandBetween text step place o.findings.comments o.token.start
child_none text step ended place o read =
    let none : o.findings.comments ≡ [] =
    ap (λ (x : Outcome). x.findings.comments) read.outcome_is
    ∙ ap (λ (x : Outcome). x.findings.comments) read.reads.outcome_is in
    let start : o.token.start ≡ place =
    ap (λ (x : Outcome). x.token.start) read.outcome_is
    ∙ ap (λ (x : Outcome). x.token.start) read.reads.outcome_is in
    subst (λ cs. StandBetween text step place cs o.token.start) (sym none) (omega (arith, start))

-- What a reading from a place on finds stands before its token.
pub onward_stands : (text : List ℕ) (t : SourceType) (goal : Goal) (before : Option TokenParts) (place : ℕ)
    (o : Outcome) → IsUtf8 text → IsCharBoundary text place → is_onward goal ≡ true
    → GoalReads text t goal before place o → StandBetween text (whole_gap_piece t) place o.findings.comments o.token.start
onward_stands text t First before place o u b on read = plainly_stands text t First before place o u b read
onward_stands text t Next before place o u b on read = plainly_stands text t Next before place o u b read
onward_stands text t TemplateTail before place o u b on read = absurd (cc)
onward_stands text t RegularExpression before place o u b on read = absurd (cc)
onward_stands text t RightAngle before place o u b on read = absurd (cc)
onward_stands text t TypeScriptLeftAngle before place o u b on read = absurd (cc)
onward_stands text t TypeScriptRightAngle before place o u b on read = absurd (cc)
onward_stands text t JsxIdentifier before place o u b on read = absurd (cc)
onward_stands text t JsxChild before place o u b on read =
    child_none text (whole_gap_piece t) (line_has_ended_behind before) place o read
onward_stands text t JsxAttributeValue before place o u b on read =
    attribute_stands text t before place o u b read
