-- Rows of an edited text are read behind the last one that is kept, and may join those behind the gap.
use Rattle.std.proofs.Common.{◌≡◌, ℕ, suc, ◌+◌, ◌-◌, ◌<◌, List, [], ◌∷◌, ◌++◌, length, map, refl, sym, ◌∙◌, ap, subst, arith}
use Rattle.std.proofs.Common.{length-append, Option, Some, None}
use Rattle.std.specs.List.{AllByRecursion, last_or}
use Rattle.std.specs.Prelude.{◌^◌, reverse, slice_get}
use Rattle.std.specs.Str.{IsUtf8}
use Rattle.js_text.specs.declared.source_type.SourceType.{SourceType}
use Rattle.js_kind.specs.declared.kind.Kind.TheVariants.{Eof}
use Rattle.js_session.specs.declared.row.Row.{Row}
use Rattle.js_session.specs.Session.{MayResume, last_token}
use Rattle.js_session.specs.Shifted.{shifted_row}
use Rattle.js_session.proofs.LastingRuns.{GoesOnBehind}
use Rattle.js_choose.specs.Rules.{IsRule, Rule}
use Rattle.js_relex.specs.Documents.{edited}
use Rattle.js_document.specs.declared.gap.Entry.{Entry}
use Rattle.js_document.specs.declared.open.Node.{Node}
use Rattle.js_document.specs.Documents.{IsKept}
use Rattle.js_document.specs.Edited.{IsEditOf, ReadsIn, joining}
use Rattle.js_document.specs.Gap.{AreInOrder, ComesLater, GapState, IsPadded, entries_of, rows_of, shifted_entry, AreOrdered}
use Rattle.js_document.specs.Reading.{AreKnown, JoiningState, Knowledge, ReadsBehind, ReadsFromStart, states_of, with_rows}
use Rattle.js_document.specs.States.{AlikeAgain, AlikeBehind, AlikeItself, Alikeness, ChoosesAlike, IsLast, KnowsAlike}
use Rattle.js_document.proofs.EditedDocument.{IsBeing, all_turned, front_kept, kept_rows, last_token_of}
use Rattle.js_document.proofs.HeldLemmas.{held_rows}
use Rattle.js_document.proofs.KeptLemmas.{Before, IsEndedBy, all_first, all_last, ended_by, order_rest, rows_joined}
use Rattle.js_document.proofs.KnownLemmas.{known_front, known_last}
use Rattle.js_document.proofs.ListLemmas.{map_turned}
use Rattle.js_document.proofs.OrderLemmas.{IsSound, RowsOrdered, rows_ordered}
use Rattle.js_document.proofs.ReadParts.{AreReadRows, read_goes, read_tokens, state_of_read}

module _ {K : Type 0} where
  -- rows with padded places stand in order, where they do with those in the text
  later_padded : (pad : ℕ) (e : Entry K) (es : List (Entry K)) → IsPadded {K = K} pad e
      → AllByRecursion (IsPadded {K = K} pad) es
      → AllByRecursion (λ (later : Row). ComesLater (shifted_row pad 0 e.row).token later.token)
      (rows_of {K = K} (map (shifted_entry {K = K} pad 0) es))
      → AllByRecursion (λ (later : Row). ComesLater e.row.token later.token) (rows_of {K = K} es)
  later_padded pad e [] padded more all = tt
  later_padded pad e (x ∷ xs) padded more all = (
    record {
      starts =
          (let a = padded.places.start.padded in let b = more.0.places.start.padded in let less = all.0.starts in
          omega (arith, a, b, less));
      ends =
          (let a = padded.places.end.padded in let b = more.0.places.end.padded in let less = all.0.ends in
          omega (arith, a, b, less));
    },
    later_padded pad e xs padded more.1 all.1,
  )

  order_padded : (pad : ℕ) (es : List (Entry K)) → AllByRecursion (IsPadded {K = K} pad) es
      → AreInOrder (rows_of {K = K} (map (shifted_entry {K = K} pad 0) es)) → AreInOrder (rows_of {K = K} es)
  order_padded pad [] padded order = tt
  order_padded pad (e ∷ es) padded order =
      (later_padded pad e es padded.0 padded.1 order.0, order_padded pad es padded.1 order.1)

  -- What may be joined, as it is handed over.
  pub same_joining : (g : GapState K) (end long : ℕ) (back : List (Entry K)) (pad limit : ℕ) (j : JoiningState K)
      → j ≡ record { back = back; pad = pad; limit = limit } → back ≡ g.back → pad + long ≡ 2 ^ 32 - 1
      → limit ≡ end + g.pad → j ≡ joining {K = K} g end long
  same_joining g end long back pad limit j is backs pads limits =
      let other : pad ≡ 2 ^ 32 - 1 - long = omega (arith, pads) in
      is ∙ ap (λ bs. record { back = bs; pad = pad; limit = limit }) backs
      ∙ ap (λ n. record { back = g.back; pad = n; limit = limit }) other
      ∙ ap (λ n. record { back = g.back; pad = 2 ^ 32 - 1 - long; limit = n }) limits

-- there is no last item
pub no_last : {A : Type 0} (xs : List A) → slice_get xs (length xs - 1) ≡ None → xs ≡ []
no_last [] is = refl
no_last (x ∷ []) is = absurd (cc)
no_last (x ∷ y ∷ ys) is =
    let place : length (x ∷ y ∷ ys) - 1 ≡ suc (length (y ∷ ys) - 1) = omega arith in
    let none = no_last (y ∷ ys) (ap (slice_get (x ∷ y ∷ ys)) (sym place) ∙ is) in
    absurd (cc)

module _ {K : Type 0} (rule : Rule) (knows : Knowledge K) (Alike : Alikeness) (nodes new_nodes : List Node)
    (j : JoiningState K) (text : List ℕ) (t : SourceType) (front entries : List (Entry K)) (left : Option ℕ) where
  -- What was read behind the last of these rows.
  pub reads_in : (last : Entry K) → slice_get front (length front - 1) ≡ Some last
      → ReadsBehind {K = K} rule knows Alike nodes new_nodes j text t (with_rows [] (rows_of {K = K} front)) entries left
      → ReadsIn {K = K} rule knows Alike nodes new_nodes j text t front entries left
  reads_in last is = by_front front is
    where
      by_front : (front : List (Entry K)) → slice_get front (length front - 1) ≡ Some last
          → ReadsBehind {K = K} rule knows Alike nodes new_nodes j text t (with_rows [] (rows_of {K = K} front)) entries left
          → ReadsIn {K = K} rule knows Alike nodes new_nodes j text t front entries left
      by_front [] is reads = absurd (cc)
      by_front (e ∷ es) is reads = reads

  -- And from the start, where there is none.
  pub reads_all : slice_get front (length front - 1) ≡ None
      → ReadsFromStart {K = K} rule knows Alike nodes new_nodes j text t entries left
      → ReadsIn {K = K} rule knows Alike nodes new_nodes j text t front entries left
  reads_all none reads =
      subst (λ es. ReadsIn {K = K} rule knows Alike nodes new_nodes j text t es entries left)
      (sym (no_last {A = Entry K} front none)) reads

module _ {K : Type 0} (rule : Rule) (law : IsRule rule) (knows : Knowledge K) (old_text new : List ℕ) (start end : ℕ)
    (t : SourceType) (nodes : List Node) (g : GapState K) (text : List ℕ) where
  -- What is known when an edit is read, by what was held.
  pub being_of : IsEditOf {K = K} rule knows old_text t nodes g start end new text → IsUtf8 text
      → AllByRecursion (IsPadded {K = K} g.pad) g.back
      → IsKept start (rows_of {K = K} (entries_of {K = K} g)) (length g.front)
      → IsBeing {K = K} rule knows old_text new start end t nodes g
  being_of e u padded kept = record {
    edit = e.edit;
    utf8 = e.held.report_is.report_is.utf8;
    new_utf8 = subst IsUtf8 e.text_is u;
    rows = held_rows rule law old_text t (rows_of {K = K} (entries_of {K = K} g)) e.held.report_is;
    known = e.held.known;
    padded = padded;
    pad_is = e.held.pad_is;
    kept = kept;
  }

module _ {K : Type 0} (rule : Rule) (law : IsRule rule) (Alike : Alikeness) (choose : ChoosesAlike rule Alike)
    (itself : AlikeItself Alike) (behind_law : AlikeBehind Alike) (again_law : AlikeAgain Alike)
    (knows : Knowledge K) (known_alike : KnowsAlike {K = K} knows Alike) (old_text new : List ℕ) (start end : ℕ)
    (t : SourceType) (nodes : List Node) (g : GapState K)
    (b : IsBeing {K = K} rule knows old_text new start end t nodes g) where
  abbrev text : List ℕ
  text = edited old_text start end new

  abbrev all : List Row
  all = rows_of {K = K} (entries_of {K = K} g)

  abbrev front_rows : List Row
  front_rows = rows_of {K = K} g.front

  abbrev behind_gap : List (Entry K)
  behind_gap = map (shifted_entry {K = K} g.pad 0) (reverse g.back)

  all_are : all ≡ front_rows ++ rows_of {K = K} behind_gap
  all_are = rows_joined {K = K} g.front behind_gap

  ordered : RowsOrdered old_text all
  ordered = rows_ordered rule law old_text t all b.utf8 b.rows

  -- the rows behind the gap stand in order
  back_ordered : AreInOrder (reverse (rows_of {K = K} g.back))
  back_ordered =
      subst AreInOrder (map_turned (λ (e : Entry K). e.row) g.back)
      (order_padded {K = K} g.pad (reverse g.back) (all_turned {K = K} (IsPadded {K = K} g.pad) g.back b.padded)
      (order_rest front_rows (rows_of {K = K} behind_gap) (subst AreInOrder all_are ordered.order)))

  pub are_ordered : AreOrdered {K = K} g
  are_ordered = record { rows = ordered.order; back = back_ordered }

  -- the end of the edit is a padded place
  pub end_fits : end + g.pad < 2 ^ 32
  end_fits = (let inside = b.edit.ends.0 in let pads = b.pad_is in omega (arith, inside, pads))

  -- A session may go on behind the last row before the gap.
  pub record MayGoOn (last : Entry K) : Type 0 where
    pub resumes : MayResume (edited old_text start end new) last.row.token
    pub some_text : ¬ (last.row.token.kind ≡ Eof) → last.row.token.start < last.row.token.end
    pub known : knows nodes last.state (with_rows [] (rows_of {K = K} g.front))
    pub is_last : IsLast last.row.token (with_rows [] (rows_of {K = K} g.front))

  pub goes_on_kept : (last : Entry K) → slice_get g.front (length g.front - 1) ≡ Some last → MayGoOn last
  goes_on_kept last is = record {
    resumes = subst (MayResume text) same goes.may;
    some_text =
        (all_last (IsSound old_text) (rows_of {K = K} ended.before) last.row
        (subst (AllByRecursion (IsSound old_text)) rows
        (all_first (IsSound old_text) front_rows (rows_of {K = K} behind_gap)
        (subst (AllByRecursion (IsSound old_text)) all_are ordered.sound)))).has_text;
    known =
        subst (λ es. knows nodes last.state (with_rows [] (rows_of {K = K} es))) (sym ended.is)
        (known_last {K = K} knows nodes ended.before last []
        (subst (λ es. AreKnown {K = K} knows nodes [] (rows_of {K = K} es) (states_of {K = K} es)) ended.is
        (known_front {K = K} knows nodes g.front behind_gap [] b.known)));
    is_last = ap (last_or None) (sym (read_tokens rule law text t front_rows read)) ∙ goes.last_is ∙ ap Some same;
  }
    where
      ended : IsEndedBy {A = Entry K} g.front last
      ended = ended_by g.front last is

      rows : front_rows ≡ rows_of {K = K} ended.before ++ last.row ∷ []
      rows = ap (rows_of {K = K}) ended.is ∙ rows_joined {K = K} ended.before (last ∷ [])

      by_front : (front : List (Entry K)) → IsEndedBy {A = Entry K} front last
          → all ≡ rows_of {K = K} front ++ rows_of {K = K} behind_gap
          → AllByRecursion (Before start) (rows_of {K = K} front)
          → AreReadRows rule text t (rows_of {K = K} front)
      by_front [] ended are near =
          absurd
          (let none = ap (λ l. length l) ended.is in let some = length-append ended.before (last ∷ []) in
          omega (arith, none, some))
      by_front (e ∷ es) ended are near =
          kept_rows {K = K} rule law Alike choose itself behind_law again_law knows known_alike old_text new start end t nodes
          nodes (λ state tokens known. known) g b e es are near

      read : AreReadRows rule text t front_rows
      read =
          by_front g.front ended all_are
          (front_kept {K = K} rule law Alike choose itself behind_law again_law knows known_alike old_text new start end t
          nodes nodes (λ state tokens known. known) g b)

      goes : GoesOnBehind text (state_of_read rule law text t front_rows read) (last_token read.first.token read.behind)
      goes = read_goes rule law text t front_rows read

      same : last_token read.first.token read.behind ≡ last.row.token
      same = last_token_of read.first read.behind (rows_of {K = K} ended.before) last.row (sym read.rows_are ∙ rows)
