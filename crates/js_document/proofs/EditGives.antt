-- What an edit of a document gives, by what is known of its rows.
use Rattle.std.proofs.Common.{◌≡◌, ℕ, suc, ◌+◌, ◌-◌, ◌<◌, ◌≤◌, List, [], ◌∷◌, ◌++◌, length, map, take}
use Rattle.std.proofs.Common.{drop, refl, sym, ◌∙◌, ap, subst, add-zero, arith, append_assoc, length-append, Option, Some, None}
use Rattle.std.specs.List.{AllByRecursion, last_or}
use Rattle.std.specs.Prelude.{◌^◌, reverse, slice_get}
use Rattle.std.proofs.lemmas.List.{drop_at, length-drop, length-map, length-reverse, length-take-le, map-append}
use Rattle.std.proofs.lemmas.List.{reverse-append, take-append-drop, take_at}
use Rattle.js_text.specs.declared.source_type.SourceType.{SourceType}
use Rattle.js_session.specs.declared.row.Row.{Row}
use Rattle.js_session.specs.Shifted.{FitsShifted, OfEachPlace, shifted_row}
use Rattle.js_session.proofs.RowsWithin.{rows_weaker}
use Rattle.js_choose.specs.Rules.{IsRule, Rule}
use Rattle.js_relex.specs.Documents.{TakesOver, edited, last_rows, rows_taken_over}
use Rattle.js_relex.specs.LiveLists.{TokenMayMove}
use Rattle.js_document.specs.declared.change.Change.{Change}
use Rattle.js_document.specs.declared.gap.Entry.{Entry}
use Rattle.js_document.specs.declared.open.Node.{Node}
use Rattle.js_document.specs.Changed.{AreChangesOf, EndsWithLast, IsChangeOf, MayChange, last_token_of, token_of}
use Rattle.js_relex.specs.Joined.{FirstFrom}
use Rattle.js_document.specs.Documents.{DocState, Edits, IsKept, JoinsRow, as_relexed, document_of, report_of}
use Rattle.js_document.specs.Found.{findings_of, found_by}
use Rattle.js_document.specs.Gap.{GapState, IsPadded, around, entries_of, last_entry, rows_of, shifted_entry}
use Rattle.js_document.specs.Reading.{Knowledge, with_rows}
use Rattle.js_document.specs.States.{Alikeness}
use Rattle.js_document.proofs.BehindTokens.{is_behind}
use Rattle.js_document.proofs.ChangedRows.{all_tokens}
use Rattle.js_document.proofs.EditOutcome.{IsOutcome}
use Rattle.js_document.proofs.EditedDocument.{IsBeing, IsFar, all_kept, all_turned, entries_twice, rows_shifted}
use Rattle.js_document.proofs.EditedRows.{report_of_chosen}
use Rattle.js_document.proofs.FoundLemmas.{report_found}
use Rattle.js_document.proofs.HeldLemmas.{places_within, report_tokens}
use Rattle.js_document.proofs.KeptLemmas.{Before, all_first, ended_by, rows_joined}
use Rattle.js_document.proofs.KeptPlaces.{kept_within}
use Rattle.js_document.proofs.LastTokens.{last_some, last_split}
use Rattle.js_document.proofs.ListLemmas.{get_left, get_right}
use Rattle.js_document.proofs.OrderLemmas.{IsSound, rows_ordered}
use Rattle.js_document.proofs.ShiftLemmas.{row_to_shifted}

module _ {K : Type 0} (rule : Rule) (law : IsRule rule) (Alike : Alikeness) (knows : Knowledge K)
    (old_text new : List ℕ) (start end : ℕ) (t : SourceType) (nodes new_nodes : List Node) (g : GapState K)
    (b : IsBeing {K = K} rule knows old_text new start end t nodes g) (entries : List (Entry K)) (left other : ℕ)
    (joined : Option ℕ) (other_is : other + length (edited old_text start end new) ≡ 2 ^ 32 - 1) where
  abbrev text : List ℕ
  text = edited old_text start end new

  abbrev to : ℕ
  to = start + length new

  abbrev all : List Row
  all = rows_of {K = K} (entries_of {K = K} g)

  abbrev front_rows : List Row
  front_rows = rows_of {K = K} g.front

  abbrev behind_gap : List (Entry K)
  behind_gap = map (shifted_entry {K = K} g.pad 0) (reverse g.back)

  front_long : length front_rows ≡ length g.front
  front_long = length-map g.front (λ (e : Entry K). e.row)

  all_are : all ≡ front_rows ++ rows_of {K = K} behind_gap
  all_are = rows_joined {K = K} g.front behind_gap

  near : AllByRecursion (Before start) front_rows
  near =
      all_kept start front_rows (rows_of {K = K} behind_gap)
      (subst (λ n. IsKept start (front_rows ++ rows_of {K = K} behind_gap) n) (sym front_long)
      (subst (λ rs. IsKept start rs (length g.front)) all_are b.kept))

  long_text : length text + end ≡ length old_text + to
  long_text =
      let front = length-take-le start old_text b.edit.starts.0 in
      let rest = length-drop end old_text in
      let whole = length-append (take start old_text ++ new) (drop end old_text) in
      let first = length-append (take start old_text) new in
      let inside = b.edit.ends.0 in
      omega (arith, front, rest, whole, first, inside)

  pads : other + to ≡ g.pad + end
  pads = (let was = b.pad_is in omega (arith, other_is, long_text, was))

  -- The last of the tokens that are live behind the rows before the gap is that of the last of them.
  ends_with_last : EndsWithLast {K = K} g.front
  ends_with_last = by_last g.front (last_entry {K = K} g.front) refl all_are
    where
      by_last : (front : List (Entry K)) (last : Option (Entry K)) → last_entry {K = K} front ≡ last
          → all ≡ rows_of {K = K} front ++ rows_of {K = K} behind_gap → EndsWithLast {K = K} front
      by_last [] last is are = record { before = []; tokens_are = refl; alone = λ none. refl }
      by_last (e ∷ es) None is are = absurd (no_none e es is)
        where
          no_none : (e : Entry K) (es : List (Entry K)) → slice_get (e ∷ es) (length (e ∷ es) - 1) ≡ None → ⊥
          no_none e [] is = cc
          no_none e (f ∷ fs) is =
              let place : length (e ∷ f ∷ fs) - 1 ≡ suc (length (f ∷ fs) - 1) = omega arith in
              no_none f fs (ap (slice_get (e ∷ f ∷ fs)) (sym place) ∙ is)
      by_last (e ∷ es) (Some last) is are =
          let ended = ended_by (e ∷ es) last is in
          let front = rows_of {K = K} (e ∷ es) in
          let rows : front ≡ rows_of {K = K} ended.before ++ last.row ∷ [] =
          ap (rows_of {K = K}) ended.is ∙ rows_joined {K = K} ended.before (last ∷ []) in
          let index = length (rows_of {K = K} ended.before) in
          let long : length front ≡ suc index =
          ap (λ l. length l) rows ∙ length-append (rows_of {K = K} ended.before) (last.row ∷ []) ∙ omega arith in
          let within : index < length all =
          (let whole = ap (λ l. length l) are ∙ length-append front (rows_of {K = K} behind_gap) in
          omega (arith, whole, long)) in
          let cut : take (suc index) all ≡ front =
          ap (take (suc index)) are ∙ take_at front (rows_of {K = K} behind_gap) (suc index) long in
          let at : slice_get all index ≡ Some last.row =
          ap (λ rs. slice_get rs index) are
          ∙ get_left front (rows_of {K = K} behind_gap) index (omega (arith, long))
          ∙ ap (λ rs. slice_get rs index) rows
          ∙ ap (slice_get (rows_of {K = K} ended.before ++ last.row ∷ [])) (sym (add-zero index))
          ∙ get_right (rows_of {K = K} ended.before) (last.row ∷ []) 0 in
          let there = is_behind rule law old_text t all b.rows index within in
          let last_live : last_or None (with_rows [] front) ≡ Some last.row.token =
          subst (λ ts. last_or None ts ≡ Some last.row.token) (there.tokens_are ∙ ap (with_rows []) cut)
          (there.last_is last.row at) in
          let split = last_split None (with_rows [] front) last.row.token last_live
          (last_some (with_rows [] front) last.row.token last_live) in
          let token : last_token_of {K = K} (e ∷ es) ≡ last.row.token ∷ [] = ap (λ o. token_of {K = K} o) is in
          record {
            before = split.0;
            tokens_are = split.1 ∙ ap (λ ts. split.0 ++ ts) (sym token);
            alone = λ none. absurd (let no = ap (λ l. length l) none in omega (arith, no));
          }

  module _ (old : DocState) (o : IsOutcome {K = K} rule knows Alike old new start end t text new_nodes g entries left other
      joined) where
    padded_old : AllByRecursion (IsPadded {K = K} g.pad) (take left g.back)
    padded_old =
        all_first (IsPadded {K = K} g.pad) (take left g.back) (drop left g.back)
        (subst (AllByRecursion (IsPadded {K = K} g.pad)) (sym (take-append-drop left g.back)) b.padded)

    rows_twice : map (shifted_row other 0) (rows_of {K = K} (take left g.back))
        ≡ map (shifted_row end to) (map (shifted_row g.pad 0) (rows_of {K = K} (take left g.back)))
    rows_twice =
        sym (rows_shifted {K = K} other 0 (take left g.back))
        ∙ ap (rows_of {K = K}) (entries_twice {K = K} g.pad other end to pads (take left g.back) padded_old o.far)
        ∙ rows_shifted {K = K} end to (map (shifted_entry {K = K} g.pad 0) (take left g.back))
        ∙ ap (map (shifted_row end to)) (rows_shifted {K = K} g.pad 0 (take left g.back))

    tokens_may_move : AllByRecursion (TokenMayMove end to) (with_rows [] all)
    tokens_may_move =
        all_tokens (TokenMayMove end to) all []
        (each all (places_within rule law old_text t all b.utf8 b.rows)
        (rows_ordered rule law old_text t all b.utf8 b.rows).sound) tt
      where
        each : (rows : List Row) → AllByRecursion (OfEachPlace (λ place. place ≤ length old_text)) rows
            → AllByRecursion (IsSound old_text) rows → AllByRecursion (λ (row : Row). TokenMayMove end to row.token) rows
        each [] within sound = tt
        each (row ∷ rows) within sound = (
          record {
            ordered = sound.0.lies.ordered;
            start = (let inside = within.0.start in omega (arith, inside, long_text, other_is));
            end = (let inside = within.0.end in omega (arith, inside, long_text, other_is));
          },
          each rows within.1 sound.1,
        )

    pub may_change : MayChange {K = K} start end new g left other
    may_change = record {
      few = o.few;
      short = omega (arith, long_text, other_is, b.edit.ends.0);
      last = ends_with_last;
      before =
          kept_within rule law old_text t start b.utf8 b.edit.starts all front_rows (rows_of {K = K} behind_gap) b.rows
          all_are near;
      behind = o.far;
      fits =
          rows_weaker (λ place. place ≤ length old_text) (FitsShifted end to)
          (λ place inside. omega (arith, inside, long_text, other_is, b.edit.ends.0)) all
          (places_within rule law old_text t all b.utf8 b.rows);
      may_move = tokens_may_move;
      padded = o.padded;
      moved = rows_twice;
    }

    -- the last old rows
    abbrev later : List (Entry K)
    later = map (shifted_entry {K = K} g.pad 0) (reverse (take left g.back))

    last_are : last_rows left all ≡ rows_of {K = K} later
    last_are =
        let turned : reverse g.back ≡ reverse (drop left g.back) ++ reverse (take left g.back) =
        ap (λ l. reverse l) (sym (take-append-drop left g.back))
        ∙ reverse-append (take left g.back) (drop left g.back) in
        let gone = map (shifted_entry {K = K} g.pad 0) (reverse (drop left g.back)) in
        let split : all ≡ rows_of {K = K} (g.front ++ gone) ++ rows_of {K = K} later =
        ap (λ es. rows_of {K = K} (g.front ++ map (shifted_entry {K = K} g.pad 0) es)) turned
        ∙ ap (λ es. rows_of {K = K} (g.front ++ es))
        (map-append (shifted_entry {K = K} g.pad 0) (reverse (drop left g.back)) (reverse (take left g.back)))
        ∙ ap (rows_of {K = K}) (sym (append_assoc g.front gone later)) ∙ rows_joined {K = K} (g.front ++ gone) later in
        let count : length (rows_of {K = K} later) ≡ left =
        length-map later (λ (e : Entry K). e.row)
        ∙ length-map (reverse (take left g.back)) (shifted_entry {K = K} g.pad 0) ∙ length-reverse (take left g.back)
        ∙ length-take-le left g.back o.few in
        let whole = ap (λ l. length l) split
        ∙ length-append (rows_of {K = K} (g.front ++ gone)) (rows_of {K = K} later) in
        let place : length (rows_of {K = K} (g.front ++ gone)) ≡ length all - left = omega (arith, whole, count) in
        ap (drop (length all - left)) split
        ∙ drop_at (rows_of {K = K} (g.front ++ gone)) (rows_of {K = K} later) (length all - left) place

    abbrev new_entries : List (Entry K)
    new_entries = around {K = K} (g.front ++ entries) other (take left g.back)

    abbrev new_rows : List Row
    new_rows = rows_of {K = K} new_entries

    abbrev read_rows : List Row
    read_rows = rows_of {K = K} entries

    abbrev new_later : List (Entry K)
    new_later = map (shifted_entry {K = K} other 0) (reverse (take left g.back))

    new_are : new_rows ≡ front_rows ++ (read_rows ++ rows_of {K = K} new_later)
    new_are =
        rows_joined {K = K} (g.front ++ entries) new_later
        ∙ ap (λ rs. rs ++ rows_of {K = K} new_later) (rows_joined {K = K} g.front entries)
        ∙ append_assoc front_rows read_rows (rows_of {K = K} new_later)

    far_later : AllByRecursion (OfEachPlace (λ place. end ≤ place)) (rows_of {K = K} later)
    far_later =
        each (reverse (take left g.back))
        (all_turned {K = K} (IsFar {K = K} g.pad end) (take left g.back) o.far)
      where
        each : (es : List (Entry K)) → AllByRecursion (IsFar {K = K} g.pad end) es
            → AllByRecursion (OfEachPlace (λ place. end ≤ place))
            (rows_of {K = K} (map (shifted_entry {K = K} g.pad 0) es))
        each [] all = tt
        each (e ∷ es) all = (row_to_shifted (λ place. end ≤ place) g.pad 0 e.row all.0, each es all.1)

    module _ (old_change change : Change) (old_is : old ≡ document_of old_text t all old_change)
        (kept_is : change.kept_rows ≡ length g.front) (read_is : change.read_rows ≡ length entries)
        (moved_is : change.moved ≡ record { from = end; to = to })
        (tokens_are : IsChangeOf start end new (with_rows [] all) (with_rows [] new_rows) change.tokens)
        (found_are : AreChangesOf start end new (found_by all) (found_by new_rows) change)
        (before now : ℕ) (ticks : now ≡ before + length entries) where
      abbrev d : DocState
      d = document_of text t new_rows change

      abbrev was : DocState
      was = document_of old_text t all old_change

      short : length text < 2 ^ 32
      short = omega (arith, other_is)

      takes_over : TakesOver (as_relexed was) start end new new_rows (length g.front) joined
      takes_over = record {
        front =
            ap (take (length g.front)) new_are
            ∙ take_at front_rows (read_rows ++ rows_of {K = K} new_later) (length g.front) front_long
            ∙ sym (ap (take (length g.front)) all_are
            ∙ take_at front_rows (rows_of {K = K} behind_gap) (length g.front) front_long);
        few_front =
            (let whole = ap (λ l. length l) all_are ∙ length-append front_rows (rows_of {K = K} behind_gap) in
            omega (arith, whole, front_long));
        behind =
            o.behind ∙ ap (rows_of {K = K}) o.later_are ∙ rows_shifted {K = K} end to later
            ∙ ap (map (shifted_row end to)) (sym last_are ∙ ap (λ n. last_rows n all) (sym o.taken_over));
        few_behind =
            subst (λ n. n ≤ length all) (sym o.taken_over)
            (let whole = ap (λ l. length l) all_are ∙ length-append front_rows (rows_of {K = K} behind_gap) in
            let gap = length-map behind_gap (λ (e : Entry K). e.row)
            ∙ length-map (reverse g.back) (shifted_entry {K = K} g.pad 0) ∙ length-reverse g.back in
            let few = o.few in
            omega (arith, whole, gap, few));
        behind_edit =
            subst (λ n. AllByRecursion (OfEachPlace (λ place. end ≤ place)) (last_rows n all)) (sym o.taken_over)
            (subst (AllByRecursion (OfEachPlace (λ place. end ≤ place))) (sym last_are) far_later);
      }

      counted : change.kept_rows + change.read_rows + rows_taken_over joined new_rows ≡ length new_rows
      counted =
          let whole = ap (λ l. length l) new_are
          ∙ length-append front_rows (read_rows ++ rows_of {K = K} new_later) in
          let behind = length-append read_rows (rows_of {K = K} new_later) in
          let read = length-map entries (λ (e : Entry K). e.row) in
          let later_long = length-map new_later (λ (e : Entry K). e.row)
          ∙ length-map (reverse (take left g.back)) (shifted_entry {K = K} other 0)
          ∙ length-reverse (take left g.back) ∙ length-take-le left g.back o.few in
          let taken = o.taken_over in
          omega (arith, whole, behind, read, later_long, taken, kept_is, read_is, front_long)

      edits_was : (first : FirstFrom (JoinsRow Alike was start end new d.commands d.report.rows) (length g.front)
          (drop (length g.front) d.report.rows) joined) → Edits rule Alike was start end new before now d
      edits_was first = record {
        edit = b.edit;
        document = record {
          text_is = refl;
          type_is = refl;
          report_is = report_of_chosen rule law text t new_rows b.new_utf8 short o.rows;
        };
        kept = subst (IsKept start all) (sym kept_is) b.kept;
        joined = joined;
        joined_is =
            subst (λ n. FirstFrom (JoinsRow Alike was start end new d.commands d.report.rows) n
            (drop n d.report.rows) joined) (sym kept_is) first;
        takes_over = subst (λ n. TakesOver (as_relexed was) start end new new_rows n joined) (sym kept_is) takes_over;
        read = counted;
        ticks = ticks ∙ ap (λ n. before + n) (sym read_is);
        tokens =
            subst (λ ts. IsChangeOf start end new ts (report_of new_rows).tokens change.tokens)
            (sym (report_tokens rule law old_text t all b.rows))
            (subst (λ ts. IsChangeOf start end new (with_rows [] all) ts change.tokens)
            (sym (report_tokens rule law text t new_rows o.rows)) tokens_are);
        found =
            subst (λ f. AreChangesOf start end new f (findings_of (report_of new_rows)) change)
            (sym (report_found rule law old_text t all b.utf8 b.rows))
            (subst (λ f. AreChangesOf start end new (found_by all) f change)
            (sym (report_found rule law text t new_rows b.new_utf8 o.rows)) found_are);
        moved = moved_is;
      }

      -- The document that was edited becomes that of the edited text.
      pub edits : Edits rule Alike old start end new before now d
      edits =
          subst (λ x. Edits rule Alike x start end new before now d) (sym old_is)
          (edits_was
          (subst
          (λ x. FirstFrom (JoinsRow Alike x start end new d.commands d.report.rows) (length g.front)
          (drop (length g.front) d.report.rows) joined) old_is (o.first d refl refl)))
