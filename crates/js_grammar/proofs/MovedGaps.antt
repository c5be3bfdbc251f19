-- What is found in a gap at one place is, moved by the difference, what is found in it at another.
use Rattle.std.proofs.Common.{◌≡◌, ℕ, ◌+◌, Bool, true, false, not, ◌&&◌, ◌||◌, List, [], ◌∷◌, ◌++◌, map, refl, sym}
use Rattle.std.proofs.Common.{◌∙◌, ap, arith, Option, Some, None, inl, inr, ◌⊎◌}
use Rattle.std.specs.Prelude.{if◌then◌else◌, is_none, unwrap_or}
use Rattle.std.specs.Option.{option_map}
use Rattle.std.proofs.lemmas.List.{map-append}
use Rattle.js_text.specs.Characters.{begins, is_irregular_whitespace}
use Rattle.js_text.specs.SourceType.{is_unambiguous}
use Rattle.js_text.specs.declared.comment.CommentKind.{CommentKind}
use Rattle.js_text.specs.declared.comment.CommentKind.TheVariants.{HtmlClose, HtmlOpen, Line}
use Rattle.js_text.specs.declared.comment.CommentPosition.TheVariants.{Leading, Trailing}
use Rattle.js_text.specs.declared.diagnostic.Diagnostic.TheVariants.{HtmlCommentInModule}
use Rattle.js_text.specs.declared.source_type.SourceType.{SourceType}
use Rattle.js_text.specs.declared.span.Span.{Span}
use Rattle.js_kind.specs.TokenParts.{TokenParts}
use Rattle.js_grammar.specs.Attach.{attach, attach_from, attached, front_trails, is_followed, is_preceded, is_trailing}
use Rattle.js_grammar.specs.Attach.{may_trail}
use Rattle.js_grammar.specs.Gap.{Piece, PieceKind}
use Rattle.js_grammar.specs.Gap.PieceKind.{white_space, line_terminator, single_line_comment, multi_line_comment}
use Rattle.js_grammar.specs.Gap.PieceKind.{html_open_comment, html_close_comment, reported_comment}
use Rattle.js_grammar.specs.GapItems.{Found, Gap, Item, begins_with_line_end, comment, found_at, from_newline_event}
use Rattle.js_grammar.specs.GapItems.{has_comment}
use Rattle.js_grammar.specs.GapItems.{has_newline_event, irregular, irregular_of, is_comment, is_newline_event}
use Rattle.js_grammar.specs.GapItems.{last_comment, line_end, no_token, skip_irregular, stretch, token_before}
use Rattle.js_grammar.specs.GapItems.{up_to_newline_event}
use Rattle.js_grammar.specs.Moved.{moved_comment, moved_findings, moved_token}
use Rattle.js_grammar.specs.Outcome.{gap_deferred, gap_diagnostics, gap_findings, html_deferred, piece_deferred}
use Rattle.js_grammar.specs.Outcome.{piece_diagnostics}
use Rattle.js_grammar.specs.PieceItems.{block_kind, found_comment, gap_of, is_line_comment, is_separator, items_from}
use Rattle.js_grammar.specs.PieceItems.{items_of, items_of_kind}
use Rattle.js_grammar.specs.PieceItems.{listed_if, piece_length, piece_span}
use Rattle.js_grammar.specs.Reading.{moved_diagnostic, moved_diagnostics, moved_span, place_behind}
use Rattle.js_grammar.specs.TokensAround.{is_undetermined}
use Rattle.js_grammar.proofs.Moved.{behind_moved}

-- a span from a place on, of so many bytes
span_from : (by place n : ℕ)
    → record { start = by + place; end = (by + place) + n } ≡ moved_span by (record { start = place; end = place + n })
span_from by place n =
    let end : (by + place) + n ≡ by + (place + n) = omega arith in
    ap (λ (m : ℕ). record { start = by + place; end = m }) end

-- what is reported of pieces
piece_diagnostics_moved : (by place : ℕ) (kind : PieceKind)
    → piece_diagnostics (by + place) kind ≡ moved_diagnostics by (piece_diagnostics place kind)
piece_diagnostics_moved by place white_space = refl
piece_diagnostics_moved by place line_terminator = refl
piece_diagnostics_moved by place single_line_comment = refl
piece_diagnostics_moved by place multi_line_comment = refl
piece_diagnostics_moved by place html_open_comment = refl
piece_diagnostics_moved by place html_close_comment = refl
piece_diagnostics_moved by place reported_comment =
    ap (λ s. HtmlCommentInModule s ∷ []) (span_from by place 4)

pub gap_diagnostics_moved : (by place : ℕ) (xs : List Piece)
    → gap_diagnostics (by + place) xs ≡ moved_diagnostics by (gap_diagnostics place xs)
gap_diagnostics_moved by place [] = refl
gap_diagnostics_moved by place (x ∷ xs) =
    let rest = gap_diagnostics (place_behind place x.text) xs in
    ap (λ ds. ds ++ gap_diagnostics (place_behind (by + place) x.text) xs) (piece_diagnostics_moved by place x.kind)
    ∙ ap (λ n. moved_diagnostics by (piece_diagnostics place x.kind) ++ gap_diagnostics n xs)
    (behind_moved by place x.text)
    ∙ ap (λ ds. moved_diagnostics by (piece_diagnostics place x.kind) ++ ds)
    (gap_diagnostics_moved by (place_behind place x.text) xs)
    ∙ sym (map-append (moved_diagnostic by) (piece_diagnostics place x.kind) rest)

html_deferred_moved : (by : ℕ) (t : SourceType) (s : Span)
    → html_deferred t (moved_span by s) ≡ moved_diagnostics by (html_deferred t s)
html_deferred_moved by t s = by_type (is_unambiguous t)
  where
    by_type : (b : Bool) → (if b then HtmlCommentInModule (moved_span by s) ∷ [] else [])
        ≡ moved_diagnostics by (if b then HtmlCommentInModule s ∷ [] else [])
    by_type true = refl
    by_type false = refl

piece_deferred_moved : (by : ℕ) (t : SourceType) (place : ℕ) (kind : PieceKind)
    → piece_deferred t (by + place) kind ≡ moved_diagnostics by (piece_deferred t place kind)
piece_deferred_moved by t place white_space = refl
piece_deferred_moved by t place line_terminator = refl
piece_deferred_moved by t place single_line_comment = refl
piece_deferred_moved by t place multi_line_comment = refl
piece_deferred_moved by t place html_open_comment =
    ap (html_deferred t) (span_from by place 4) ∙ html_deferred_moved by t _
piece_deferred_moved by t place html_close_comment =
    ap (html_deferred t) (span_from by place 3) ∙ html_deferred_moved by t _
piece_deferred_moved by t place reported_comment = refl

pub gap_deferred_moved : (by : ℕ) (t : SourceType) (place : ℕ) (xs : List Piece)
    → gap_deferred t (by + place) xs ≡ moved_diagnostics by (gap_deferred t place xs)
gap_deferred_moved by t place [] = refl
gap_deferred_moved by t place (x ∷ xs) =
    let rest = gap_deferred t (place_behind place x.text) xs in
    ap (λ ds. ds ++ gap_deferred t (place_behind (by + place) x.text) xs) (piece_deferred_moved by t place x.kind)
    ∙ ap (λ n. moved_diagnostics by (piece_deferred t place x.kind) ++ gap_deferred t n xs)
    (behind_moved by place x.text)
    ∙ ap (λ ds. moved_diagnostics by (piece_deferred t place x.kind) ++ ds)
    (gap_deferred_moved by t (place_behind place x.text) xs)
    ∙ sym (map-append (moved_diagnostic by) (piece_deferred t place x.kind) rest)

-- items of a gap
abbrev pub moved_found : ℕ → Found → Found
moved_found by found = record found { span = moved_span by found.span }

abbrev pub moved_item : ℕ → Item → Item
moved_item by (irregular span) = irregular (moved_span by span)
moved_item by line_end = line_end
moved_item by (comment found) = comment (moved_found by found)

abbrev pub moved_items : ℕ → List Item → List Item
moved_items by items = map (moved_item by) items

listed_moved : (by : ℕ) (b : Bool) (s : Span) → listed_if b (moved_span by s) ≡ moved_items by (listed_if b s)
listed_moved by true s = refl
listed_moved by false s = refl

span_moved : (by place : ℕ) (x : Piece) → piece_span (by + place) x ≡ moved_span by (piece_span place x)
span_moved by place x = span_from by place (piece_length x)

comment_moved : (by place : ℕ) (kind : CommentKind) (x : Piece)
    → comment (found_comment (by + place) kind x) ∷ [] ≡ moved_items by (comment (found_comment place kind x) ∷ [])
comment_moved by place kind x =
    ap (λ s. comment (found_at s kind (found_comment place kind x).content) ∷ []) (span_moved by place x)

of_kind_moved : (by place : ℕ) (kind : PieceKind) (ends : Bool) (x : Piece)
    → items_of_kind kind (by + place) ends x ≡ moved_items by (items_of_kind kind place ends x)
of_kind_moved by place white_space ends x =
    ap (listed_if (begins is_irregular_whitespace x.text)) (span_moved by place x) ∙ listed_moved by _ _
of_kind_moved by place line_terminator ends x =
    let listed = begins is_separator x.text && not ends in
    ap (λ s. listed_if listed s ++ line_end ∷ []) (span_moved by place x)
    ∙ ap (λ is. is ++ line_end ∷ []) (listed_moved by listed (piece_span place x))
    ∙ sym (map-append (moved_item by) (listed_if listed (piece_span place x)) (line_end ∷ []))
of_kind_moved by place single_line_comment ends x = comment_moved by place Line x
of_kind_moved by place multi_line_comment ends x = comment_moved by place (block_kind x.text) x
of_kind_moved by place html_open_comment ends x = comment_moved by place HtmlOpen x
of_kind_moved by place html_close_comment ends x = comment_moved by place HtmlClose x
of_kind_moved by place reported_comment ends x = comment_moved by place HtmlOpen x

pub items_moved : (by place : ℕ) (ends : Bool) (xs : List Piece)
    → items_from (by + place) ends xs ≡ moved_items by (items_from place ends xs)
items_moved by place ends [] = refl
items_moved by place ends (x ∷ xs) =
    let next : (by + place) + piece_length x ≡ by + (place + piece_length x) = omega arith in
    let here = items_of_kind x.kind place ends x in
    ap (λ is. is ++ items_from ((by + place) + piece_length x) (is_line_comment x.kind) xs)
    (of_kind_moved by place x.kind ends x)
    ∙ ap (λ n. moved_items by here ++ items_from n (is_line_comment x.kind) xs) next
    ∙ ap (λ is. moved_items by here ++ is) (items_moved by (place + piece_length x) (is_line_comment x.kind) xs)
    ∙ sym (map-append (moved_item by) here (items_from (place + piece_length x) (is_line_comment x.kind) xs))

pub irregular_moved : (by : ℕ) (items : List Item)
    → irregular_of (moved_items by items) ≡ map (moved_span by) (irregular_of items)
irregular_moved by [] = refl
irregular_moved by (irregular span ∷ xs) = ap (λ ss. moved_span by span ∷ ss) (irregular_moved by xs)
irregular_moved by (line_end ∷ xs) = irregular_moved by xs
irregular_moved by (comment found ∷ xs) = irregular_moved by xs

-- what attachment asks of items does not tell where they stand
event_moved : (by : ℕ) (x : Item) → is_newline_event (moved_item by x) ≡ is_newline_event x
event_moved by (irregular span) = refl
event_moved by line_end = refl
event_moved by (comment found) = refl

is_comment_moved : (by : ℕ) (x : Item) → is_comment (moved_item by x) ≡ is_comment x
is_comment_moved by (irregular span) = refl
is_comment_moved by line_end = refl
is_comment_moved by (comment found) = refl

either_moved : (by : ℕ) (b : Bool) (us vs xs ys : List Item) → us ≡ moved_items by xs → vs ≡ moved_items by ys
    → (if b then us else vs) ≡ moved_items by (if b then xs else ys)
either_moved by true us vs xs ys e f = e
either_moved by false us vs xs ys e f = f

has_event_moved : (by : ℕ) (xs : List Item) → has_newline_event (moved_items by xs) ≡ has_newline_event xs
has_event_moved by [] = refl
has_event_moved by (x ∷ xs) =
    ap (λ b. b || has_newline_event (moved_items by xs)) (event_moved by x)
    ∙ ap (λ b. is_newline_event x || b) (has_event_moved by xs)

has_comment_moved : (by : ℕ) (xs : List Item) → has_comment (moved_items by xs) ≡ has_comment xs
has_comment_moved by [] = refl
has_comment_moved by (x ∷ xs) =
    ap (λ b. b || has_comment (moved_items by xs)) (is_comment_moved by x)
    ∙ ap (λ b. is_comment x || b) (has_comment_moved by xs)

stretch_moved : (by : ℕ) (xs : List Item) → stretch (moved_items by xs) ≡ moved_items by (stretch xs)
stretch_moved by [] = refl
stretch_moved by (x ∷ xs) =
    ap (λ is. moved_item by x ∷ is)
    (rw (is_comment_moved by x) (either_moved by (is_comment x) [] (stretch (moved_items by xs)) [] (stretch xs) refl
    (stretch_moved by xs)))

up_to_event_moved : (by : ℕ) (xs : List Item)
    → up_to_newline_event (moved_items by xs) ≡ moved_items by (up_to_newline_event xs)
up_to_event_moved by [] = refl
up_to_event_moved by (x ∷ xs) =
    ap (λ is. moved_item by x ∷ is)
    (rw (event_moved by x) (either_moved by (is_newline_event x) [] (up_to_newline_event (moved_items by xs)) []
    (up_to_newline_event xs) refl (up_to_event_moved by xs)))

from_event_moved : (by : ℕ) (xs : List Item)
    → from_newline_event (moved_items by xs) ≡ moved_items by (from_newline_event xs)
from_event_moved by [] = refl
from_event_moved by (x ∷ xs) =
    rw (event_moved by x) (either_moved by (is_newline_event x) (moved_items by (x ∷ xs))
    (from_newline_event (moved_items by xs)) (x ∷ xs) (from_newline_event xs) refl (from_event_moved by xs))

begins_line_end_moved : (by : ℕ) (xs : List Item) → begins_with_line_end (moved_items by xs) ≡ begins_with_line_end xs
begins_line_end_moved by [] = refl
begins_line_end_moved by (irregular span ∷ xs) = refl
begins_line_end_moved by (line_end ∷ xs) = refl
begins_line_end_moved by (comment found ∷ xs) = refl

skip_moved : (by : ℕ) (xs : List Item) → skip_irregular (moved_items by xs) ≡ moved_items by (skip_irregular xs)
skip_moved by [] = refl
skip_moved by (irregular span ∷ xs) = skip_moved by xs
skip_moved by (line_end ∷ xs) = refl
skip_moved by (comment found ∷ xs) = refl

last_comment_moved : (by : ℕ) (xs : List Item)
    → last_comment (moved_items by xs) ≡ option_map (moved_found by) (last_comment xs)
last_comment_moved by [] = refl
last_comment_moved by (irregular span ∷ xs) = last_comment_moved by xs
last_comment_moved by (line_end ∷ xs) = last_comment_moved by xs
last_comment_moved by (comment found ∷ xs) =
    ap (λ o. Some (unwrap_or o (moved_found by found))) (last_comment_moved by xs) ∙ one (last_comment xs)
  where
    one : (o : Option Found)
        → Some (unwrap_or (option_map (moved_found by) o) (moved_found by found))
        ≡ option_map (moved_found by) (Some (unwrap_or o found))
    one None = refl
    one (Some f) = refl

may_trail_moved : (by : ℕ) (o : Option Found) → may_trail (option_map (moved_found by) o) ≡ may_trail o
may_trail_moved by None = refl
may_trail_moved by (Some f) = refl

-- A gap, moved: the token before it ends so much further on, or there is none.
pub record IsMoved (by : ℕ) (gap other : Gap) : Type 0 where
  pub first : other.is_first ≡ gap.is_first
  pub items : other.items ≡ moved_items by gap.items
  pub token : other.token ≡ moved_token by gap.token
  pub kind : other.previous.kind ≡ gap.previous.kind
  pub end : (other.previous.end ≡ by + gap.previous.end)
      ⊎ ((gap.is_first ≡ true) × (is_undetermined gap.previous.kind ≡ true))

preceded_moved : (by : ℕ) (first : Bool) (before : List Item)
    → is_preceded first (moved_items by before) ≡ is_preceded first before
preceded_moved by first before =
    ap (λ is. has_newline_event is || (first && not (has_comment (moved_items by before)))) (stretch_moved by before)
    ∙ ap (λ b. b || (first && not (has_comment (moved_items by before)))) (has_event_moved by (stretch before))
    ∙ ap (λ b. has_newline_event (stretch before) || (first && not b)) (has_comment_moved by before)

front_moved : (by : ℕ) (gap other : Gap) → IsMoved by gap other → front_trails other ≡ front_trails gap
front_moved by gap other m =
    let up_to =
    ap (λ is. may_trail (last_comment is)) (up_to_event_moved by gap.items)
    ∙ ap may_trail (last_comment_moved by (up_to_newline_event gap.items)) ∙ may_trail_moved by _ in
    let from =
    ap begins_with_line_end (from_event_moved by gap.items) ∙ begins_line_end_moved by (from_newline_event gap.items) in
    rw (m.first, m.items, m.kind, has_event_moved by gap.items, up_to, from) refl

trailing_moved : (by : ℕ) (gap other : Gap) (before : List Item) (found : Found) → IsMoved by gap other
    → is_trailing other (moved_items by before) (moved_found by found) ≡ is_trailing gap before found
trailing_moved by gap other before found m =
    rw (
      front_moved by gap other m,
      has_event_moved by before,
      m.first,
      m.kind,
      m.token,
      preceded_moved by gap.is_first before,
    ) refl

-- before the first gap no comment trails
none_trails : (gap : Gap) (before : List Item) (found : Found) → gap.is_first ≡ true
    → is_undetermined gap.previous.kind ≡ true → is_trailing gap before found ≡ false
none_trails gap before found first none = rw (first, none) refl

attached_moved : (by : ℕ) (gap other : Gap) (before : List Item) (found : Found) (after : List Item)
    → IsMoved by gap other
    → attached other (moved_items by before) (moved_found by found) (moved_items by after)
    ≡ moved_comment by (attached gap before found after)
attached_moved by gap other before found after m =
    rw (
      trailing_moved by gap other before found m,
      m.first,
      m.token,
      preceded_moved by gap.is_first before,
      skip_moved by after,
      begins_line_end_moved by (skip_irregular after),
    ) (ap (λ (n : ℕ). record {
      span = moved_span by found.span;
      kind = found.kind;
      position = if is_trailing gap before found then Trailing else Leading;
      attached_to = n;
      preceded = is_preceded gap.is_first before;
      followed = is_followed found after;
      content = found.content;
    }) (place (is_trailing gap before found) refl))
  where
    place : (b : Bool) → is_trailing gap before found ≡ b
        → (if b then other.previous.end else by + gap.token.start)
        ≡ by + (if b then gap.previous.end else gap.token.start)
    place false e = refl
    place true e =
        elim m.end [
          | inl same ↦ same
          | inr none ↦
              absurd (let no : false ≡ true = sym (none_trails gap before found none.0 none.1) ∙ e in cc)
        ]

from_moved : (by : ℕ) (gap other : Gap) (before after : List Item) → IsMoved by gap other
    → attach_from other (moved_items by before) (moved_items by after)
    ≡ map (moved_comment by) (attach_from gap before after)
from_moved by gap other before [] m = refl
from_moved by gap other before (irregular span ∷ after) m = from_moved by gap other (irregular span ∷ before) after m
from_moved by gap other before (line_end ∷ after) m = from_moved by gap other (line_end ∷ before) after m
from_moved by gap other before (comment found ∷ after) m =
    ap (λ c. c ∷ attach_from other (moved_items by (comment found ∷ before)) (moved_items by after))
    (attached_moved by gap other before found after m)
    ∙ ap (λ cs. moved_comment by (attached gap before found after) ∷ cs)
    (from_moved by gap other (comment found ∷ before) after m)

-- The comments of a gap that is moved are moved.
pub attach_moved : (by : ℕ) (gap other : Gap) → IsMoved by gap other
    → attach other ≡ map (moved_comment by) (attach gap)
attach_moved by gap other m =
    ap (attach_from other []) m.items ∙ from_moved by gap other [] gap.items m

no_token_is_none : is_undetermined no_token.kind ≡ true
unfolding is_undetermined
no_token_is_none = refl

gap_is_moved : (by : ℕ) (before : Option TokenParts) (place : ℕ) (xs : List Piece) (token : TokenParts)
    → IsMoved by (gap_of (is_none before) (token_before before) place xs token)
    (gap_of (is_none (option_map (moved_token by) before)) (token_before (option_map (moved_token by) before))
    (by + place) xs (moved_token by token))
gap_is_moved by None place xs token = record {
  first = refl;
  items = items_moved by place false xs;
  token = refl;
  kind = refl;
  end = inr (refl, no_token_is_none);
}
gap_is_moved by (Some previous) place xs token = record {
  first = refl;
  items = items_moved by place false xs;
  token = refl;
  kind = refl;
  end = inl refl;
}

-- So are all findings of a gap.
pub gap_findings_moved : (by : ℕ) (t : SourceType) (before : Option TokenParts) (place : ℕ) (xs : List Piece)
    (token : TokenParts)
    → gap_findings t (option_map (moved_token by) before) (by + place) xs (moved_token by token)
    ≡ moved_findings by (gap_findings t before place xs token)
gap_findings_moved by t before place xs token =
    rw (
      gap_diagnostics_moved by place xs,
      gap_deferred_moved by t place xs,
      attach_moved by _ _ (gap_is_moved by before place xs token),
      items_moved by place false xs,
      irregular_moved by (items_of place xs),
    ) refl
