-- What gaps and readings add to what was found.
use Rattle.std.proofs.Common.{◌≡◌, ℕ, ◌+◌, Bool, List, [], ◌∷◌, ◌++◌, refl, sym, ◌∙◌, ap}
use Rattle.std.proofs.Common.{append_assoc, append-nil, add-zero}
use Rattle.std.proofs.Math.Seq.{take-append_seam}
use Rattle.std.specs.Prelude.{Result, Ok, Err, IfOk, OnErr}
use Rattle.std.specs.declared.alloc.AllocError.{AllocError}
use Rattle.js_text.specs.declared.diagnostic.Diagnostic.{Diagnostic}
use Rattle.js_text.specs.declared.source_type.SourceType.{SourceType}
use Rattle.js_grammar.specs.Gap.{Piece}
use Rattle.js_grammar.specs.GapItems.{Item}
use Rattle.js_grammar.specs.Outcome.{Findings, piece_deferred, gap_deferred, piece_diagnostics, gap_diagnostics}
use Rattle.js_grammar.specs.Outcome.{joined, no_findings}
use Rattle.js_grammar.specs.Reading.{place_behind}
use Rattle.js_grammar.specs.PieceItems.{piece_length, is_line_comment, items_of_kind, items_from}
use Rattle.js_grammar.proofs.Reported.{piece_texts, place_behind-append, gap_diagnostics-append}
use Rattle.js_trivia.specs.Trivia.{Trivia, call, calls}
use Rattle.js_reader.specs.Found.{Extends, Grows, found_lengths, found_up_to, gap_added, lists_added}
use Rattle.js_reader.specs.Gaps.{AddsPieces}
use Rattle.js_reader.specs.declared.findings_builder.FindingsBuilder.{FindingsBuilder}

pub calls-append : (xs ys : List Item) (s : Trivia) → calls (xs ++ ys) s ≡ calls ys (calls xs s)
calls-append [] ys s = refl
calls-append (x ∷ xs) ys s = calls-append xs ys (call x s)

pub extends_none : {A : Type 0} (ds : List A) → Extends ds ds
extends_none ds = record { more = []; is_more = sym (append-nil ds) }

pub extends_same : {A : Type 0} (a b : List A) → b ≡ a → Extends a b
extends_same a b same = record { more = []; is_more = same ∙ sym (append-nil a) }

-- whatever a call answers
pub either_way : {A B : Type 0} {a b : List B} (r : Result A AllocError) → IfOk r (λ x. Extends a b)
    → OnErr r (Extends a b) → Extends a b
either_way (Ok x) h e = h
either_way (Err x) h e = e

-- with nothing at the end of each list
pub lists_none : (found : FindingsBuilder) → found ≡ lists_added no_findings found
lists_none found = rw (append-nil found.errors, append-nil found.deferred, append-nil found.warnings) refl

-- with what a gap may report
pub lists_gap : (errors deferred : List Diagnostic) (trivia : Trivia) (found : FindingsBuilder)
    → record found { errors = found.errors ++ errors; deferred = found.deferred ++ deferred; trivia = trivia }
    ≡ record (lists_added (record no_findings { diagnostics = errors; deferred = deferred }) found) { trivia = trivia }
lists_gap errors deferred trivia found =
    ap (λ (f : FindingsBuilder).
    record f { errors = found.errors ++ errors; deferred = found.deferred ++ deferred; trivia = trivia })
    (lists_none found)

-- with some findings at the ends, and then with more
lists_again : (more later : Findings) (found : FindingsBuilder)
    → lists_added later (lists_added more found) ≡ lists_added (joined more later) found
lists_again more later found =
    rw (
      append_assoc found.errors more.diagnostics later.diagnostics,
      append_assoc found.deferred more.deferred later.deferred,
      append_assoc found.warnings more.warnings later.warnings,
    ) refl

-- with some at the ends, and then cut back
lists_back : (more : Findings) (trivia now : Trivia) (found : FindingsBuilder)
    → record (found_up_to (found_lengths found) (record (lists_added more found) { trivia = trivia })) { trivia = now }
    ≡ record found { trivia = now }
lists_back more trivia now found =
    rw (
      take-append_seam found.errors more.diagnostics,
      take-append_seam found.deferred more.deferred,
      take-append_seam found.warnings more.warnings,
    ) refl

pub grows_on : (a b c : FindingsBuilder) → Grows a b → Grows b c → Grows a c
grows_on a b c f g = record {
  more = joined f.more g.more;
  items = f.items ++ g.items;
  added =
      g.added
      ∙ ap (λ (s : FindingsBuilder). record (lists_added g.more s) { trivia = calls g.items s.trivia }) f.added
      ∙ ap (λ (s : FindingsBuilder). record s { trivia = calls g.items (calls f.items a.trivia) })
      (lists_again f.more g.more a)
      ∙ ap (λ (s : Trivia). record (lists_added (joined f.more g.more) a) { trivia = s })
      (sym (calls-append f.items g.items a.trivia));
}

-- what a gap may add
grows_gap : (a : FindingsBuilder) (errors deferred : List Diagnostic) (trivia : Trivia) (items : List Item)
    → Extends a.errors errors → Extends a.deferred deferred → trivia ≡ calls items a.trivia
    → Grows a (record a { errors = errors; deferred = deferred; trivia = trivia })
grows_gap a errors deferred trivia items reports defers told = record {
  more = record no_findings { diagnostics = reports.more; deferred = defers.more };
  items = items;
  added =
      rw (reports.is_more, defers.is_more, told) (lists_gap reports.more defers.more (calls items a.trivia) a);
}

-- nothing
pub grows_none : (found : FindingsBuilder) → Grows found found
grows_none found =
    grows_gap found found.errors found.deferred found.trivia [] (extends_none found.errors)
    (extends_none found.deferred) refl

-- items alone
pub grows_by : (found : FindingsBuilder) (trivia : Trivia) (items : List Item) → trivia ≡ calls items found.trivia
    → Grows found (record found { trivia = trivia })
grows_by found trivia items told =
    grows_gap found found.errors found.deferred trivia items (extends_none found.errors) (extends_none found.deferred)
    told

-- what is reported alone
pub grows_reports : (found : FindingsBuilder) (errors deferred : List Diagnostic) → Extends found.errors errors
    → Extends found.deferred deferred → Grows found (record found { errors = errors; deferred = deferred })
grows_reports found errors deferred reports defers =
    grows_gap found errors deferred found.trivia [] reports defers refl

-- what has only grown, cut back, but for the builder of trivia
pub grows_back : (a b : FindingsBuilder) (trivia : Trivia) → Grows a b
    → record (found_up_to (found_lengths a) b) { trivia = trivia } ≡ record a { trivia = trivia }
grows_back a b trivia h =
    ap (λ (s : FindingsBuilder). record (found_up_to (found_lengths a) s) { trivia = trivia }) h.added
    ∙ lists_back h.more (calls h.items a.trivia) trivia a

-- a gap that adds nothing
pub nothing_added : (found : FindingsBuilder) → found ≡ gap_added [] [] [] found
nothing_added found = rw (append-nil found.errors, append-nil found.deferred) refl

-- and one that reports for the case that the source is a module alone
pub silently_added : (deferred : List Diagnostic) (items : List Item) (found : FindingsBuilder)
    → record found { deferred = found.deferred ++ deferred; trivia = calls items found.trivia }
    ≡ gap_added [] deferred items found
silently_added deferred items found =
    ap (λ (f : FindingsBuilder).
    record f { deferred = found.deferred ++ deferred; trivia = calls items found.trivia }) (nothing_added found)

-- a gap, and then one more
added_again : (errors deferred : List Diagnostic) (items : List Item) (errors_then deferred_then : List Diagnostic)
    (items_then : List Item) (found : FindingsBuilder)
    → gap_added errors_then deferred_then items_then (gap_added errors deferred items found)
    ≡ gap_added (errors ++ errors_then) (deferred ++ deferred_then) (items ++ items_then) found
added_again errors deferred items errors_then deferred_then items_then found =
    rw (
      append_assoc found.errors errors errors_then,
      append_assoc found.deferred deferred deferred_then,
      calls-append items items_then found.trivia,
    ) refl

pub adds_none : (behind : Bool) (t : SourceType) (place : ℕ) (found : FindingsBuilder)
    → AddsPieces behind t place [] found found
adds_none behind t place found = nothing_added found

-- a piece that adds these
pub adds_piece : (behind : Bool) (t : SourceType) (place : ℕ) (x : Piece) (a b : FindingsBuilder)
    (errors deferred : List Diagnostic) (items : List Item) → piece_diagnostics place x.kind ≡ errors
    → piece_deferred t place x.kind ≡ deferred → items_of_kind x.kind place behind x ≡ items
    → b ≡ gap_added errors deferred items a → AddsPieces behind t place (x ∷ []) a b
adds_piece behind t place x a b errors deferred items reports defers tells is =
    is ∙ ap (λ ds. gap_added ds deferred items a) (sym (append-nil (piece_diagnostics place x.kind) ∙ reports))
    ∙ ap (λ ds. gap_added (gap_diagnostics place (x ∷ [])) ds items a)
    (sym (append-nil (piece_deferred t place x.kind) ∙ defers))
    ∙ ap (λ xs. gap_added (gap_diagnostics place (x ∷ [])) (gap_deferred t place (x ∷ [])) xs a)
    (sym (append-nil (items_of_kind x.kind place behind x) ∙ tells))

-- a piece that adds these items, and reports nothing
pub adds_items : (behind : Bool) (t : SourceType) (place : ℕ) (x : Piece) (found : FindingsBuilder) (trivia : Trivia)
    (items : List Item) → items_of_kind x.kind place behind x ≡ items → piece_diagnostics place x.kind ≡ []
    → piece_deferred t place x.kind ≡ [] → trivia ≡ calls items found.trivia
    → AddsPieces behind t place (x ∷ []) found (record found { trivia = trivia })
adds_items behind t place x found trivia items same silent none told =
    adds_piece behind t place x found (record found { trivia = trivia }) [] [] items silent none same
    (ap (λ (s : Trivia). record found { trivia = s }) told
    ∙ ap (λ (f : FindingsBuilder). record f { trivia = calls items found.trivia }) (nothing_added found))

-- a piece, and then more pieces
pub adds_behind : (behind : Bool) (t : SourceType) (place : ℕ) (x : Piece) (xs : List Piece) (a b c : FindingsBuilder)
    → AddsPieces behind t place (x ∷ []) a b
    → AddsPieces (is_line_comment x.kind) t (place + piece_length x) xs b c
    → AddsPieces behind t place (x ∷ xs) a c
adds_behind behind t place x xs a b c f g =
    let items = items_of_kind x.kind place behind x in
    let later = items_from (place + piece_length x) (is_line_comment x.kind) xs in
    let reported = piece_deferred t place x.kind in
    let later_reported = gap_deferred t (place_behind place x.text) xs in
    let told = piece_diagnostics place x.kind in
    let later_told = gap_diagnostics (place_behind place x.text) xs in
    g ∙ ap (gap_added later_told later_reported later) f
    ∙ added_again (told ++ []) (reported ++ []) (items ++ []) later_told later_reported later a
    ∙ rw (append-nil told, append-nil reported, append-nil items) refl

-- whether the last of the pieces is a line comment
abbrev pub ends_line : Bool → List Piece → Bool
ends_line behind [] = behind
ends_line behind (x ∷ xs) = ends_line (is_line_comment x.kind) xs

items_from-append : (place : ℕ) (behind : Bool) (xs ys : List Piece)
    → items_from place behind (xs ++ ys)
    ≡ items_from place behind xs ++ items_from (place_behind place (piece_texts xs)) (ends_line behind xs) ys
items_from-append place behind [] ys = ap (λ p. items_from p behind ys) (sym (add-zero place))
items_from-append place behind (x ∷ xs) ys =
    let items = items_of_kind x.kind place behind x in
    ap (λ is. items ++ is) (items_from-append (place_behind place x.text) (is_line_comment x.kind) xs ys)
    ∙ ap (λ p. items
    ++ (items_from (place_behind place x.text) (is_line_comment x.kind) xs
    ++ items_from p (ends_line (is_line_comment x.kind) xs) ys))
    (place_behind-append place x.text (piece_texts xs))
    ∙ sym
    (append_assoc items (items_from (place_behind place x.text) (is_line_comment x.kind) xs)
    (items_from (place_behind place (x.text ++ piece_texts xs)) (ends_line (is_line_comment x.kind) xs) ys))

gap_deferred-append : (t : SourceType) (place : ℕ) (xs ys : List Piece)
    → gap_deferred t place (xs ++ ys)
    ≡ gap_deferred t place xs ++ gap_deferred t (place_behind place (piece_texts xs)) ys
gap_deferred-append t place [] ys = ap (λ p. gap_deferred t p ys) (sym (add-zero place))
gap_deferred-append t place (x ∷ xs) ys =
    ap (λ ds. piece_deferred t place x.kind ++ ds) (gap_deferred-append t (place_behind place x.text) xs ys)
    ∙ ap (λ p. piece_deferred t place x.kind
    ++ (gap_deferred t (place_behind place x.text) xs ++ gap_deferred t p ys))
    (place_behind-append place x.text (piece_texts xs))
    ∙ sym
    (append_assoc (piece_deferred t place x.kind) (gap_deferred t (place_behind place x.text) xs)
    (gap_deferred t (place_behind place (x.text ++ piece_texts xs)) ys))

-- pieces, and then more pieces
pub adds_further : (behind : Bool) (t : SourceType) (place : ℕ) (xs ys : List Piece) (a b c : FindingsBuilder)
    → AddsPieces behind t place xs a b
    → AddsPieces (ends_line behind xs) t (place_behind place (piece_texts xs)) ys b c
    → AddsPieces behind t place (xs ++ ys) a c
adds_further behind t place xs ys a b c f g =
    let behind_there = ends_line behind xs in
    let there = place_behind place (piece_texts xs) in
    g
    ∙ ap (gap_added (gap_diagnostics there ys) (gap_deferred t there ys) (items_from there behind_there ys)) f
    ∙ added_again (gap_diagnostics place xs) (gap_deferred t place xs) (items_from place behind xs)
    (gap_diagnostics there ys) (gap_deferred t there ys) (items_from there behind_there ys) a
    ∙ rw (
      gap_diagnostics-append place xs ys,
      gap_deferred-append t place xs ys,
      items_from-append place behind xs ys,
    ) refl
