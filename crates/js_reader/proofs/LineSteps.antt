-- The steps of line comments.
use Rattle.std.proofs.Common.{◌≡◌, ℕ, ◌+◌, Bool, true, false, not, ◌&&◌, List, [], ◌∷◌, ◌++◌}
use Rattle.std.proofs.Common.{refl, sym, ◌∙◌, ap, subst, arith, append-nil, append_assoc, Option, Some, None}
use Rattle.std.specs.Prelude.{codes, if◌then◌else◌}
use Rattle.std.specs.Str.{IsCharBoundary}
use Rattle.js_text.specs.Characters.{from_place, begins, before_first, from_first, is_line_terminator}
use Rattle.js_text.specs.Comment.{is_line_kind, opening_length}
use Rattle.js_text.specs.SourceType.{is_module}
use Rattle.js_text.specs.declared.comment.CommentKind.{CommentKind}
use Rattle.js_text.specs.declared.comment.CommentKind.TheVariants.{Line, SingleLineBlock, MultiLineBlock, HtmlOpen}
use Rattle.js_text.specs.declared.comment.CommentKind.TheVariants.{HtmlClose}
use Rattle.js_text.proofs.TextLemmas.{before_from}
use Rattle.js_grammar.specs.Gap.{Piece, PieceKind, piece, is_prefix, line_comment}
use Rattle.js_grammar.specs.Gap.PieceKind.{single_line_comment, html_open_comment, html_close_comment}
use Rattle.js_grammar.specs.GapItems.{Item, comment}
use Rattle.js_grammar.specs.Outcome.{piece_deferred, piece_diagnostics, html_deferred}
use Rattle.js_grammar.specs.PieceItems.{is_line_comment, items_of_kind, found_comment}
use Rattle.js_grammar.proofs.PieceLemmas.{piece-angle, piece-minus, piece-line_comment}
use Rattle.js_grammar.proofs.Tests.{prefix_of}
use Rattle.js_source.specs.Source.{At, rest, BeginsWith}
use Rattle.js_source.proofs.Places.{begins_with}
use Rattle.js_trivia.specs.Trivia.{Trivia, add_comment, found_in, is_licensed_in}
use Rattle.js_spell.specs.Comments.{HasNoAt}
use Rattle.js_reader.specs.Gaps.{opening_sequence, piece_kind, is_html, IsAtLineEnd}
use Rattle.js_spell.specs.Sequences.{TakesSequence}
use Rattle.js_reader.specs.Reader.{IsBehindLine, IsOnlyPiece, SkipsSome, SkipsEndOfLine}
use Rattle.js_reader.specs.declared.findings_builder.FindingsBuilder.{FindingsBuilder}
use Rattle.js_reader.specs.declared.reader.Reader.{Reader}
use Rattle.js_reader.proofs.CommentTexts.{IsMarked, line_mark, placed_in, found_is, unlicensed}
use Rattle.js_reader.proofs.GapSteps.{IsBehindPiece, piece_leads, piece_shorter, on_to}
use Rattle.js_reader.proofs.TriviaSteps.{adds_piece, silently_added}

module _ (kind : CommentKind) (line : is_line_kind kind ≡ true) (old mid new : At)
    (takes : TakesSequence (opening_sequence kind) old true mid) (text : new.text ≡ mid.text)
    (left : rest new ≡ from_first is_line_terminator (rest mid)) where
  inside : List ℕ
  inside = before_first is_line_terminator (rest mid)

  -- a line comment in the text
  pub line_marked : IsMarked old.text kind old.place new.place (opening_sequence kind)
      (before_first is_line_terminator (rest mid)) []
  line_marked =
      let mark = line_mark kind line in
      let same : new.text ≡ old.text = text ∙ takes.0 in
      let inside = before_first is_line_terminator (rest mid) in
      record {
        utf8 = old.placed.utf8;
        start = old.placed.boundary;
        end = subst (λ (u : List ℕ). IsCharBoundary u new.place) same new.placed.boundary;
        here =
            takes.1
            ∙ ap (λ cs. opening_sequence kind ++ cs)
            (sym (before_from is_line_terminator (rest mid)) ∙ ap (λ cs. inside ++ cs) (sym left)
            ∙ ap (λ u. inside ++ from_place u new.place) same
            ∙ ap (λ cs. cs ++ from_place old.text new.place) (sym (append-nil inside)))
            ∙ sym (append_assoc (opening_sequence kind) (inside ++ []) (from_place old.text new.place));
        opening = mark.bytes;
        opening_characters = mark.characters;
        closing = sym mark.unclosed;
        closing_characters = sym mark.unclosed;
      }

  pub line_text : before_first is_line_terminator (rest old)
      ≡ opening_sequence kind ++ (before_first is_line_terminator (rest mid) ++ [])
  line_text =
      ap (before_first is_line_terminator) takes.1 ∙ (line_mark kind line).before (rest mid)
      ∙ ap (λ cs. opening_sequence kind ++ cs) (sym (append-nil (before_first is_line_terminator (rest mid))))

  pub line_left : rest new ≡ from_first is_line_terminator (rest old)
  line_left = left ∙ sym (ap (from_first is_line_terminator) takes.1 ∙ (line_mark kind line).from (rest mid))

  pub line_unlicensed : (is_plain : Bool) → (is_plain ≡ true → HasNoAt mid.text mid.place new.place)
      → not is_plain ≡ false → is_licensed_in old.text kind (record { start = old.place; end = new.place }) ≡ false
  line_unlicensed true plain e =
      let mark = line_mark kind line in
      unlicensed kind old mid new.place (opening_sequence kind) takes mark.bytes
      (λ k low high. plain refl k low (omega (arith, high, mark.unclosed)))
  line_unlicensed false plain e = absurd (cc)

-- what is told of a line comment
pub behind_line : (kind : CommentKind) → is_line_kind kind ≡ true → (old : Reader) (before : FindingsBuilder)
    (mid : At) (new : Reader) (trivia : Trivia) → TakesSequence (opening_sequence kind) old.source true mid
    → new.source.text ≡ mid.text
    → rest new.source ≡ from_first is_line_terminator (rest mid)
    → new.source_type ≡ old.source_type → new.line_has_ended ≡ old.line_has_ended
    → trivia
    ≡ add_comment
    (found_in old.source.text kind (record { start = old.source.place; end = new.source.place })) before.trivia
    → IsBehindLine kind old before new (record before { trivia = trivia })
behind_line kind line old before mid new trivia takes text left source_type line_has_ended told =
    let marked = line_marked kind line old.source mid new.source takes text left in
    let placed =
    placed_in old.source.text kind old.source.place new.source.place (opening_sequence kind)
    (before_first is_line_terminator (rest mid)) [] marked in
    record {
      text = text ∙ takes.0;
      stays = record { source_type = source_type; line_has_ended = line_has_ended };
      behind = rest mid;
      here = takes.1;
      left = line_left kind line old.source mid new.source takes text left;
      onward = omega (arith, placed.marks);
      told =
          ap (λ (s : Trivia). record before { trivia = s })
          (told
          ∙ ap (λ f. add_comment f before.trivia)
          (found_is old.source.text kind old.source.place new.source.place (opening_sequence kind)
          (before_first is_line_terminator (rest mid)) [] marked
          (line_comment single_line_comment old.line_has_ended (rest old.source))
          (line_text kind line old.source mid new.source takes text left)));
    }

-- a line comment as a piece of this kind
pub line_piece : (kind : CommentKind) (piece_is : PieceKind) (behind : Bool) (old : Reader) (before : FindingsBuilder)
    (new : Reader) (after : FindingsBuilder) (more : FindingsBuilder) → IsBehindLine kind old before new after
    → piece old.source_type old.line_has_ended (rest old.source)
    ≡ Some (line_comment piece_is old.line_has_ended (rest old.source))
    → ((place : ℕ) (x : Piece) → items_of_kind piece_is place behind x ≡ comment (found_comment place kind x) ∷ [])
    → is_line_comment piece_is ≡ true → ((place : ℕ) → piece_diagnostics place piece_is ≡ [])
    → more ≡ record after { deferred = after.deferred ++ piece_deferred old.source_type old.source.place piece_is }
    → IsBehindPiece behind old before true new more
line_piece kind piece_is behind old before new after more line is items ends silent more_is =
    let x = line_comment piece_is old.line_has_ended (rest old.source) in
    let defers = piece_deferred old.source_type old.source.place piece_is in
    let tells : List Item = comment (found_comment old.source.place kind x) ∷ [] in
    record {
      text = line.text;
      source_type = line.stays.source_type;
      x = x;
      is_next = is;
      line_has_ended = sym line.stays.line_has_ended;
      left = sym line.left;
      place =
          on_to old.source new.source x.text line.text
          (sym (before_from is_line_terminator (rest old.source)) ∙ ap (λ cs. x.text ++ cs) (sym line.left));
      adds =
          adds_piece behind old.source_type old.source.place x before more [] defers tells (silent old.source.place)
          refl (items old.source.place x)
          (more_is ∙ ap (λ (f : FindingsBuilder). record f { deferred = f.deferred ++ defers }) line.told
          ∙ silently_added defers tells before);
      ends_line = ends;
    }

-- a line comment, and the line end behind it
pub line_skipped : (old : Reader) (before : FindingsBuilder) (mid : Reader) (told : FindingsBuilder) (new : Reader)
    (after : FindingsBuilder) → IsBehindPiece false old before true mid told → SkipsEndOfLine mid told new after
    → SkipsSome old before new after
line_skipped old before mid told new after p end = record {
  text = end.text ∙ p.text;
  source_type = end.source_type ∙ p.source_type;
  leads = λ later found s. piece_leads false old before true mid told p later found (end.leads later found s);
  fewer = omega (arith, end.fewer, piece_shorter false old before true mid told p);
}

-- behind a line comment a line ends
line_end_next : (cs : List ℕ) → IsAtLineEnd (from_first is_line_terminator cs)
line_end_next [] = refl
line_end_next (c ∷ cs) = by_test (is_line_terminator c) refl (line_end_next cs)
  where
    by_test : (b : Bool) → is_line_terminator c ≡ b → IsAtLineEnd (from_first is_line_terminator cs)
        → IsAtLineEnd (if b then c ∷ cs else from_first is_line_terminator cs)
    by_test true e h = rw e refl
    by_test false e h = h

pub at_line_end : (kind : CommentKind) (old : Reader) (before : FindingsBuilder) (new : Reader)
    (after : FindingsBuilder)
    → IsBehindLine kind old before new after → IsAtLineEnd (rest new.source)
at_line_end kind old before new after line =
    subst (λ cs. IsAtLineEnd cs) (sym line.left) (line_end_next (rest old.source))

-- a comment that begins with `//`
pub slashes : (old : Reader) (before : FindingsBuilder) (new : Reader) (after : FindingsBuilder)
    → IsBehindLine Line old before new after
    → IsBehindPiece false old before true new after
slashes old before new after line =
    line_piece Line single_line_comment false old before new after after line
    (ap (piece old.source_type old.line_has_ended) line.here
    ∙ piece-line_comment old.source_type old.line_has_ended line.behind
    ∙ ap (λ cs. Some (line_comment single_line_comment old.line_has_ended cs)) (sym line.here)) (λ place x. refl) refl
    (λ place. refl) (ap (λ ds. record after { deferred = ds }) (sym (append-nil after.deferred)))

-- an HTML-like comment, where it is the only piece that may stand here
html_items : (kind : CommentKind) → is_html kind ≡ true → (place : ℕ) (x : Piece)
    → items_of_kind (piece_kind kind) place false x ≡ comment (found_comment place kind x) ∷ []
html_items Line e place x = absurd (cc)
html_items SingleLineBlock e place x = absurd (cc)
html_items MultiLineBlock e place x = absurd (cc)
html_items HtmlOpen e place x = refl
html_items HtmlClose e place x = refl

html_silent : (kind : CommentKind) → is_html kind ≡ true → (place : ℕ) → piece_diagnostics place (piece_kind kind) ≡ []
html_silent Line e place = absurd (cc)
html_silent SingleLineBlock e place = absurd (cc)
html_silent MultiLineBlock e place = absurd (cc)
html_silent HtmlOpen e place = refl
html_silent HtmlClose e place = refl

html_ends : (kind : CommentKind) → is_html kind ≡ true → is_line_comment (piece_kind kind) ≡ true
html_ends Line e = absurd (cc)
html_ends SingleLineBlock e = absurd (cc)
html_ends MultiLineBlock e = absurd (cc)
html_ends HtmlOpen e = refl
html_ends HtmlClose e = refl

html_reports : (kind : CommentKind) → is_html kind ≡ true → (old : Reader)
    → html_deferred old.source_type
    (record { start = old.source.place; end = old.source.place + opening_length kind })
    ≡ piece_deferred old.source_type old.source.place (piece_kind kind)
html_reports Line e old = absurd (cc)
html_reports SingleLineBlock e old = absurd (cc)
html_reports MultiLineBlock e old = absurd (cc)
html_reports HtmlOpen e old = refl
html_reports HtmlClose e old = refl

pub html_piece : (kind : CommentKind) → is_html kind ≡ true → (old : Reader) (before : FindingsBuilder) (new : Reader)
    (after more : FindingsBuilder) → IsBehindLine kind old before new after
    → IsOnlyPiece kind old
    → more
    ≡ record after {
      deferred =
          after.deferred
          ++ html_deferred old.source_type
          (record { start = old.source.place; end = old.source.place + opening_length kind });
    }
    → IsBehindPiece false old before true new more
html_piece kind html old before new after more line only more_is =
    let begins : is_prefix (opening_sequence kind) (rest old.source) ≡ true =
    ap (is_prefix (opening_sequence kind)) line.here ∙ prefix_of (opening_sequence kind) line.behind in
    line_piece kind (piece_kind kind) false old before new after more line (only
    ∙ ap (λ b. if b then Some (line_comment (piece_kind kind) old.line_has_ended (rest old.source)) else None) begins)
    (html_items kind html) (html_ends kind html) (html_silent kind html)
    (more_is ∙ ap (λ ds. record after { deferred = after.deferred ++ ds }) (html_reports kind html old))

first_alone : (a : Bool) (x : Option Piece) → (if a && true then x else None) ≡ (if a then x else None)
first_alone true x = refl
first_alone false x = refl

pub open_only : (old : Reader) → BeginsWith 60 (rest old.source) → is_module old.source_type ≡ false
    → IsOnlyPiece HtmlOpen old
open_only old begins m =
    let found = begins_with 60 (rest old.source) begins in
    subst (λ cs. piece old.source_type old.line_has_ended cs
    ≡ (if is_prefix (codes "<!--") cs then Some (line_comment html_open_comment old.line_has_ended cs) else None))
    (sym found.1)
    (piece-angle old.source_type old.line_has_ended found.0
    ∙ rw m (first_alone (is_prefix (codes "!--") found.0)
    (Some (line_comment html_open_comment old.line_has_ended (60 ∷ found.0)))))

pub close_only : (old : Reader) → BeginsWith 45 (rest old.source) → is_module old.source_type ≡ false
    → old.line_has_ended ≡ true → IsOnlyPiece HtmlClose old
close_only old begins m line_has_ended =
    let found = begins_with 45 (rest old.source) begins in
    subst (λ cs. piece old.source_type old.line_has_ended cs
    ≡ (if is_prefix (codes "-->") cs then Some (line_comment html_close_comment old.line_has_ended cs) else None))
    (sym found.1)
    (piece-minus old.source_type old.line_has_ended found.0
    ∙ rw (m, line_has_ended) (first_alone (is_prefix (codes "->") found.0)
    (Some (line_comment html_close_comment true (45 ∷ found.0)))))

if_false : (a b : Bool) (x : Option Piece) → b ≡ false → (if a && b then x else None) ≡ None
if_false true b x e = rw e refl
if_false false b x e = refl

not_true : (b : Bool) → b ≡ true → not b ≡ false
not_true b e = rw e refl

and_second : (a b : Bool) → b ≡ false → (a && b) ≡ false
and_second true b e = e
and_second false b e = refl

-- in a module there is no HTML-like comment, and none that begins with `-->` before a line has ended
pub no_open_in_module : (old : Reader) → BeginsWith 60 (rest old.source) → is_module old.source_type ≡ true
    → piece old.source_type old.line_has_ended (rest old.source) ≡ None
no_open_in_module old begins m =
    let found = begins_with 60 (rest old.source) begins in
    ap (piece old.source_type old.line_has_ended) found.1 ∙ piece-angle old.source_type old.line_has_ended found.0
    ∙ if_false (is_prefix (codes "!--") found.0) (not (is_module old.source_type)) _ (not_true _ m)

pub no_close_in_module : (old : Reader) → BeginsWith 45 (rest old.source) → is_module old.source_type ≡ true
    → piece old.source_type old.line_has_ended (rest old.source) ≡ None
no_close_in_module old begins m =
    let found = begins_with 45 (rest old.source) begins in
    ap (piece old.source_type old.line_has_ended) found.1 ∙ piece-minus old.source_type old.line_has_ended found.0
    ∙ if_false (is_prefix (codes "->") found.0) (not (is_module old.source_type) && old.line_has_ended) _ (rw m refl)

pub no_close_in_line : (old : Reader) → BeginsWith 45 (rest old.source) → old.line_has_ended ≡ false
    → piece old.source_type old.line_has_ended (rest old.source) ≡ None
no_close_in_line old begins e =
    let found = begins_with 45 (rest old.source) begins in
    ap (piece old.source_type old.line_has_ended) found.1 ∙ piece-minus old.source_type old.line_has_ended found.0
    ∙ if_false (is_prefix (codes "->") found.0) (not (is_module old.source_type) && old.line_has_ended) _
    (and_second (not (is_module old.source_type)) old.line_has_ended e)
