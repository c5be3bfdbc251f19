-- The rows of a document of an edited text: those that are kept, those that were read, and the old ones behind them.
use Rattle.std.proofs.Common.{◌≡◌, ℕ, zero, suc, ◌+◌, ◌-◌, ◌<◌, ◌≤◌, true, List, [], ◌∷◌, ◌++◌, length, map, take, drop}
use Rattle.std.proofs.Common.{refl, sym, ◌∙◌, ap, subst, arith, append_assoc, length-append, Option, Some, None}
use Rattle.std.specs.List.{AllByRecursion, list_all}
use Rattle.std.specs.Prelude.{◌^◌, reverse, slice_get}
use Rattle.std.specs.Str.{IsUtf8}
use Rattle.std.proofs.lemmas.List.{drop_at, length-map, map-append, reverse-append}
use Rattle.std.proofs.lemmas.List.{length-drop, length-take, length-take-le, reverse-reverse, take_at}
use Rattle.js_text.specs.declared.source_type.SourceType.{SourceType}
use Rattle.js_kind.specs.TokenParts.{TokenParts}
use Rattle.js_session.specs.declared.row.Row.{Row}
use Rattle.js_session.specs.Effects.{is_lasting}
use Rattle.js_session.specs.Live.{State, last_live, state_after_first}
use Rattle.js_session.specs.Report.{Run}
use Rattle.js_session.specs.Session.{last_token}
use Rattle.js_session.specs.Shifted.{OfEachPlace, shifted, shifted_row, shifted_token}
use Rattle.js_session.proofs.LastingRuns.{GoesOnBehind, behind_first}
use Rattle.js_session.proofs.RowsWithin.{row_weaker}
use Rattle.js_choose.specs.Rules.{IsRule, Rule}
use Rattle.js_choose.proofs.ChosenLemmas.{ChosenFrom}
use Rattle.js_relex.specs.Documents.{IsEdit, edited}
use Rattle.js_relex.specs.Joined.{at_start}
use Rattle.js_document.specs.declared.gap.Entry.{Entry}
use Rattle.js_document.specs.declared.open.Node.{Node}
use Rattle.js_document.specs.Documents.{IsKept}
use Rattle.js_document.specs.Edited.{ReadsEdited, ReadsIn, joining}
use Rattle.js_document.specs.Gap.{GapState, IsPadded, IsPaddedPlace, entries_of, rows_of, shifted_entry}
use Rattle.js_document.specs.Reading.{AreKnown, JoiningState, Knowledge, LastJoins, states_of}
use Rattle.js_document.specs.Reading.{UntilJoined, with_rows}
use Rattle.js_document.specs.States.{AlikeAgain, AlikeBehind, AlikeItself, Alikeness, ChoosesAlike, KnowsAlike}
use Rattle.js_document.proofs.EditedRows.{AreChosenRows, Behind, Cuts, Kept, behind, cuts, goes_on_rows, kept, state_at}
use Rattle.js_document.proofs.EditedRows.{chosen_lasts, token_at}
use Rattle.js_document.proofs.KeptLemmas.{Before, all_first, all_rest, rows_joined}
use Rattle.js_document.proofs.KnownLemmas.{known_both, known_front, known_last, known_rest, known_shifted}
use Rattle.js_document.proofs.KnownLemmas.{known_stays}
use Rattle.js_relex.proofs.KeptRows.{drop_lasting, take_lasting}
use Rattle.js_document.proofs.ReadParts.{AreReadRows, first_tokens, read_behind, read_from_start, read_goes}
use Rattle.js_document.proofs.ReadParts.{read_joined, read_tokens, state_of_read}
use Rattle.js_document.proofs.ShiftLemmas.{row_both, row_of_shifted, row_twice}
use Rattle.js_document.proofs.TokenLemmas.{rows_both, rows_tokens}

-- lists that begin alike
pub split_first : {A : Type 0} (xs : List A) (x : A) (ys : List A) (first : A) (behind : List A)
    → (xs ++ x ∷ []) ++ ys ≡ first ∷ behind
    → (first ∷ take (length xs) behind ≡ xs ++ x ∷ []) × (drop (length xs) behind ≡ ys)
split_first [] x ys first behind e = (
  (let same : x ∷ ys ≡ first ∷ behind = e in ap (λ l. take 1 l) (sym same)),
  sym (ap (λ l. drop 1 l) e),
)
split_first (z ∷ zs) x ys first behind e =
    let rest : (zs ++ x ∷ []) ++ ys ≡ behind = ap (λ l. drop 1 l) e in
    let head : z ∷ [] ≡ first ∷ [] = ap (λ l. take 1 l) e in
    let long : length (zs ++ x ∷ []) ≡ suc (length zs) =
    length-append zs (x ∷ []) ∙ omega arith in (
      ap (λ l. l ++ take (suc (length zs)) behind) (sym head)
          ∙ ap (λ l. z ∷ take (suc (length zs)) l) (sym rest)
          ∙ ap (λ l. z ∷ l) (take_at (zs ++ x ∷ []) ys (suc (length zs)) long),
      ap (drop (suc (length zs))) (sym rest) ∙ drop_at (zs ++ x ∷ []) ys (suc (length zs)) long,
    )

-- the token of the last row
pub last_token_of : (first : Row) (behind rows : List Row) (last : Row) → first ∷ behind ≡ rows ++ last ∷ []
    → last_token first.token behind ≡ last.token
last_token_of first behind rows last e = ap from_first e ∙ of_ended rows last
  where
    from_first : List Row → TokenParts
    from_first [] = first.token
    from_first (r ∷ rs) = last_token r.token rs

    go : (token : TokenParts) (rows : List Row) (last : Row) → last_token token (rows ++ last ∷ []) ≡ last.token
    go token [] last = refl
    go token (r ∷ rs) last = go r.token rs last

    of_ended : (rows : List Row) (last : Row) → from_first (rows ++ last ∷ []) ≡ last.token
    of_ended [] last = refl
    of_ended (r ∷ rs) last = go r.token rs last

-- all that are kept end before the edit
pub all_kept : (start : ℕ) (rows more : List Row) → IsKept start (rows ++ more) (length rows)
    → AllByRecursion (Before start) rows
all_kept start [] more kept = tt
all_kept start (row ∷ rows) more kept = (kept.0, all_kept start rows more kept.1)

module _ {K : Type 0} where
  pub rows_shifted : (from to : ℕ) (es : List (Entry K))
      → rows_of {K = K} (map (shifted_entry {K = K} from to) es) ≡ map (shifted_row from to) (rows_of {K = K} es)
  rows_shifted from to [] = refl
  rows_shifted from to (e ∷ es) = ap (λ l. shifted_row from to e.row ∷ l) (rows_shifted from to es)

  -- An entry behind the gap, between those before it and those behind it.
  pub record IsAt (back : List (Entry K)) (left : ℕ) (entry : Entry K) : Type 0 where
    pub later : List (Entry K)
    pub back_is : back ≡ take left back ++ entry ∷ later
    pub few : left < length back

  pub is_at : (back : List (Entry K)) (left : ℕ) (entry : Entry K) → slice_get back left ≡ Some entry
      → IsAt back left entry
  is_at [] left entry is = absurd (cc)
  is_at (e ∷ es) zero entry is = record {
    later = es;
    back_is = (let same : e ≡ entry = cc in ap (λ x. x ∷ es) same);
    few = omega arith;
  }
  is_at (e ∷ es) (suc left) entry is =
      let more = is_at es left entry is in
      record {
        later = more.later;
        back_is = ap (λ l. e ∷ l) more.back_is;
        few = (let few = more.few in omega (arith, few));
      }

  -- Padded entries that stand behind the edit: with the other pad they are those with the old one, shifted.
  abbrev pub IsFar : ℕ → ℕ → Entry K → Type 0
  IsFar pad end entry = OfEachPlace (λ place. end ≤ shifted pad 0 place) entry.row

  far_behind : (pad end : ℕ) (entry : Entry K) → IsPadded {K = K} pad entry → IsFar pad end entry
      → OfEachPlace (λ place. end + pad ≤ place) entry.row
  far_behind pad end entry padded far =
      row_weaker (λ place. IsPaddedPlace pad place × (end ≤ shifted pad 0 place)) (λ place. end + pad ≤ place)
      (λ place both. (let a = both.0.padded in let b = both.1 in omega (arith, a, b))) entry.row
      (row_both (IsPaddedPlace pad) (λ place. end ≤ shifted pad 0 place) entry.row padded.places far)

  module _ (pad other end to : ℕ) (pads : other + to ≡ pad + end) where
    pub entries_twice : (es : List (Entry K)) → AllByRecursion (IsPadded {K = K} pad) es
        → AllByRecursion (IsFar pad end) es
        → map (shifted_entry {K = K} other 0) es
        ≡ map (shifted_entry {K = K} end to) (map (shifted_entry {K = K} pad 0) es)
    entries_twice [] padded far = refl
    entries_twice (e ∷ es) padded far =
        let one : shifted_entry {K = K} other 0 e ≡ shifted_entry {K = K} end to (shifted_entry {K = K} pad 0 e) =
        ap (λ (r : Row). record e { row = r })
        (row_twice pad other end to pads e.row (far_behind pad end e padded.0 far.0)) in
        ap (λ (x : Entry K). x ∷ map (shifted_entry {K = K} other 0) es) one
        ∙ ap (λ l. shifted_entry {K = K} end to (shifted_entry {K = K} pad 0 e) ∷ l) (entries_twice es padded.1 far.1)

    pub padded_anew : (es : List (Entry K)) → AllByRecursion (IsPadded {K = K} pad) es
        → AllByRecursion (IsFar pad end) es → AllByRecursion (IsPadded {K = K} other) es
    padded_anew [] padded far = tt
    padded_anew (e ∷ es) padded far = (
      record {
        places =
            row_weaker (λ place. IsPaddedPlace pad place × (end ≤ shifted pad 0 place)) (IsPaddedPlace other)
            (λ place both. record {
              padded = (let a = both.0.padded in let b = both.1 in omega (arith, a, b, pads));
              fits = both.0.fits;
            }) e.row
            (row_both (IsPaddedPlace pad) (λ place. end ≤ shifted pad 0 place) e.row padded.0.places far.0);
        ordered = padded.0.ordered;
      },
      padded_anew es padded.1 far.1,
    )

  -- what holds of the places of rows with their places in the text
  far_entries : (pad end : ℕ) (es : List (Entry K))
      → AllByRecursion (OfEachPlace (λ place. end ≤ place)) (rows_of {K = K} (map (shifted_entry {K = K} pad 0) es))
      → AllByRecursion (IsFar pad end) es
  far_entries pad end [] all = tt
  far_entries pad end (e ∷ es) all =
      (row_of_shifted (λ place. end ≤ place) pad 0 e.row all.0, far_entries pad end es all.1)

  pub all_turned : (P : Entry K → Type 0) (es : List (Entry K)) → AllByRecursion P es → AllByRecursion P (reverse es)
  all_turned P [] all = tt
  all_turned P (e ∷ es) all =
      subst (AllByRecursion P) (sym (reverse-append (e ∷ []) es)) (snoc (reverse es) (all_turned P es all.1))
    where
      snoc : (xs : List (Entry K)) → AllByRecursion P xs → AllByRecursion P (xs ++ e ∷ [])
      snoc [] h = (all.0, tt)
      snoc (x ∷ xs) h = (h.0, snoc xs h.1)

-- What is known of a document when an edit has been read.
pub record IsBeing {K : Type 0} (rule : Rule) (knows : Knowledge K) (old_text new : List ℕ) (start end : ℕ)
    (t : SourceType) (nodes : List Node) (g : GapState K) : Type 0 where
  pub edit : IsEdit old_text start end
  pub utf8 : IsUtf8 old_text
  pub new_utf8 : IsUtf8 (edited old_text start end new)
  pub rows : AreChosenRows rule old_text t (rows_of {K = K} (entries_of {K = K} g))
  pub known : AreKnown {K = K} knows nodes [] (rows_of {K = K} (entries_of {K = K} g))
      (states_of {K = K} (entries_of {K = K} g))
  pub padded : AllByRecursion (IsPadded {K = K} g.pad) g.back
  pub pad_is : g.pad + length old_text ≡ 2 ^ 32 - 1
  pub kept : IsKept start (rows_of {K = K} (entries_of {K = K} g)) (length g.front)

module _ {K : Type 0} (rule : Rule) (law : IsRule rule) (Alike : Alikeness) (choose : ChoosesAlike rule Alike)
    (itself : AlikeItself Alike) (behind_law : AlikeBehind Alike) (again_law : AlikeAgain Alike)
    (knows : Knowledge K) (known_alike : KnowsAlike {K = K} knows Alike) (old_text new : List ℕ) (start end : ℕ)
    (t : SourceType) (nodes new_nodes : List Node)
    (stays : (state : K) (tokens : List TokenParts) → knows nodes state tokens → knows new_nodes state tokens)
    (g : GapState K) (b : IsBeing {K = K} rule knows old_text new start end t nodes g) where
  abbrev text : List ℕ
  text = edited old_text start end new

  abbrev all : List Row
  all = rows_of {K = K} (entries_of {K = K} g)

  -- the rows before the gap
  abbrev front_rows : List Row
  front_rows = rows_of {K = K} g.front

  abbrev behind_gap : List (Entry K)
  behind_gap = map (shifted_entry {K = K} g.pad 0) (reverse g.back)

  all_are : all ≡ front_rows ++ rows_of {K = K} behind_gap
  all_are = rows_joined {K = K} g.front behind_gap

  pub front_kept : AllByRecursion (Before start) front_rows
  front_kept =
      all_kept start front_rows (rows_of {K = K} behind_gap)
      (subst (λ n. IsKept start (front_rows ++ rows_of {K = K} behind_gap) n)
      (sym (length-map g.front (λ (e : Entry K). e.row)))
      (subst (λ rs. IsKept start rs (length g.front)) all_are b.kept))

  abbrev KeptAt : ℕ → Type 0
  KeptAt n =
      Kept rule Alike law choose itself behind_law again_law old_text new start end t all b.edit b.utf8 b.new_utf8 b.rows
      n

  -- The rows before the gap are rows of the edited text too, where there is one.
  pub kept_rows : (e : Entry K) (es : List (Entry K)) → all ≡ rows_of {K = K} (e ∷ es) ++ rows_of {K = K} behind_gap
      → AllByRecursion (Before start) (rows_of {K = K} (e ∷ es))
      → AreReadRows rule text t (rows_of {K = K} (e ∷ es))
  kept_rows e es are near =
      let a = b.rows in
      let same : e.row ∷ (rows_of {K = K} es ++ rows_of {K = K} behind_gap) ≡ a.first ∷ a.behind =
      sym are ∙ a.rows_are in
      let first : e.row ∷ [] ≡ a.first ∷ [] = ap (λ l. take 1 l) same in
      let rest : rows_of {K = K} es ++ rows_of {K = K} behind_gap ≡ a.behind = ap (λ l. drop 1 l) same in
      let count = length (rows_of {K = K} es) in
      let front : take count a.behind ≡ rows_of {K = K} es =
      ap (take count) (sym rest) ∙ take_at (rows_of {K = K} es) (rows_of {K = K} behind_gap) count refl in
      let long : length a.behind ≡ count + length (rows_of {K = K} behind_gap) =
      ap (λ l. length l) (sym rest) ∙ length-append (rows_of {K = K} es) (rows_of {K = K} behind_gap) in
      let first_near : a.first.token.end + 4 ≤ start =
      (subst (AllByRecursion (Before start)) first (near.0, tt)).0 in
      let k : KeptAt count =
      kept rule Alike law choose itself behind_law again_law old_text new start end t all b.edit b.utf8 b.new_utf8 a count
      (omega (arith, long)) first_near (subst (AllByRecursion (Before start)) (sym front) near.1) in
      record {
        first = a.first;
        behind = take count a.behind;
        commands = take count a.commands;
        rows_are = ap (λ l. l ++ rows_of {K = K} es) first ∙ ap (λ l. a.first ∷ l) (sym front);
        is_first = k.is_first;
        run = k.run;
        chosen = k.chosen;
      }

  module _ (entries : List (Entry K)) (left : Option ℕ)
      (reads : ReadsEdited {K = K} rule knows Alike nodes new_nodes g end text t entries left) where
    abbrev j : JoiningState K
    j = joining {K = K} g end (length text)

    abbrev read_rows : List Row
    read_rows = rows_of {K = K} entries

    -- The rows before the gap, and those that were read.
    pub rows_read : AreReadRows rule text t (front_rows ++ read_rows)
    rows_read = by_front g.front all_are front_kept reads
      where
        by_front : (front : List (Entry K)) → all ≡ rows_of {K = K} front ++ rows_of {K = K} behind_gap
            → AllByRecursion (Before start) (rows_of {K = K} front)
            → ReadsIn {K = K} rule knows Alike nodes new_nodes j text t front entries left
            → AreReadRows rule text t (rows_of {K = K} front ++ read_rows)
        by_front [] are near reads = read_from_start rule law text t {K = K} knows Alike nodes new_nodes j left entries reads
        by_front (e ∷ es) are near reads =
            read_behind rule law text t {K = K} knows Alike nodes new_nodes j left entries (rows_of {K = K} (e ∷ es))
            (kept_rows e es are near) reads

    -- What is known of them.
    pub known_read : AreKnown {K = K} knows new_nodes [] (rows_of {K = K} (g.front ++ entries))
        (states_of {K = K} (g.front ++ entries))
    known_read =
        known_both {K = K} knows new_nodes g.front entries []
        (known_stays {K = K} knows nodes new_nodes stays front_rows (states_of {K = K} g.front) []
        (known_front {K = K} knows nodes g.front behind_gap [] b.known)) (by_front g.front reads)
      where
        by_front : (front : List (Entry K)) → ReadsIn {K = K} rule knows Alike nodes new_nodes j text t front entries left
            → AreKnown {K = K} knows new_nodes (with_rows [] (rows_of {K = K} front)) read_rows (states_of {K = K} entries)
        by_front [] reads = reads.known
        by_front (e ∷ es) reads = reads.known

    -- where no command is chosen behind them
    pub stops_read : left ≡ None → rule text (with_rows [] (front_rows ++ read_rows)) ≡ None
    stops_read none = ap (rule text) (rows_both [] front_rows read_rows) ∙ by_front g.front reads
      where
        by_front : (front : List (Entry K)) → ReadsIn {K = K} rule knows Alike nodes new_nodes j text t front entries left
            → rule text (with_rows (with_rows [] (rows_of {K = K} front)) read_rows) ≡ None
        by_front [] reads = reads.stops none
        by_front (e ∷ es) reads = reads.stops none

    -- Where the last of them joins an old row, the old rows behind that one are rows of the text too, shifted.
    module _ (n : ℕ) (is_left : left ≡ Some n) (other : ℕ) (other_is : other + length text ≡ 2 ^ 32 - 1) where
      abbrev a : AreChosenRows rule old_text t all
      a = b.rows

      abbrev to : ℕ
      to = start + length new

      abbrev unpadded : List (Entry K) → List (Entry K)
      unpadded es = map (shifted_entry {K = K} g.pad 0) es

      pub joins : LastJoins {K = K} knows Alike nodes j (with_rows [] front_rows) read_rows n
      joins = by_front g.front reads
        where
          by_front : (front : List (Entry K))
              → ReadsIn {K = K} rule knows Alike nodes new_nodes j text t front entries left
              → LastJoins {K = K} knows Alike nodes j (with_rows [] (rows_of {K = K} front)) read_rows n
          by_front [] reads = subst (UntilJoined {K = K} knows Alike nodes j [] read_rows) is_left reads.joined
          by_front (e ∷ es) reads =
              subst (UntilJoined {K = K} knows Alike nodes j (with_rows [] (rows_of {K = K} (e ∷ es))) read_rows) is_left
              reads.joined

      abbrev entry : Entry K
      entry = joins.joins.entry

      at : IsAt {K = K} g.back n entry
      at = is_at {K = K} g.back n entry joins.joins.is_there

      -- the old entries before the one that is joined, that one, and those behind it
      abbrev before : List (Entry K)
      before = g.front ++ unpadded (reverse at.later)

      abbrev joined : Entry K
      joined = shifted_entry {K = K} g.pad 0 entry

      abbrev later : List (Entry K)
      later = unpadded (reverse (take n g.back))

      entries_are : entries_of {K = K} g ≡ (before ++ joined ∷ []) ++ later
      entries_are =
          let turned : reverse g.back ≡ (reverse at.later ++ entry ∷ []) ++ reverse (take n g.back) =
          ap (λ l. reverse l) at.back_is ∙ reverse-append (take n g.back) (entry ∷ at.later)
          ∙ ap (λ l. l ++ reverse (take n g.back)) (reverse-append (entry ∷ []) at.later) in
          ap (λ l. g.front ++ unpadded l) turned
          ∙ ap (λ l. g.front ++ l)
          (map-append (shifted_entry {K = K} g.pad 0) (reverse at.later ++ entry ∷ []) (reverse (take n g.back))
          ∙ ap (λ l. l ++ later) (map-append (shifted_entry {K = K} g.pad 0) (reverse at.later) (entry ∷ [])))
          ∙ sym (append_assoc g.front (unpadded (reverse at.later) ++ joined ∷ []) later)
          ∙ ap (λ l. l ++ later) (sym (append_assoc g.front (unpadded (reverse at.later)) (joined ∷ [])))

      abbrev index : ℕ
      index = length (rows_of {K = K} before)

      rows_split : (a.first ∷ take index a.behind ≡ rows_of {K = K} before ++ joined.row ∷ [])
          × (drop index a.behind ≡ rows_of {K = K} later)
      rows_split =
          split_first (rows_of {K = K} before) joined.row (rows_of {K = K} later) a.first a.behind
          (sym (rows_joined {K = K} (before ++ joined ∷ []) later
          ∙ ap (λ l. l ++ rows_of {K = K} later) (rows_joined {K = K} before (joined ∷ [])))
          ∙ ap (rows_of {K = K}) (sym entries_are) ∙ a.rows_are)

      few : index ≤ length a.behind
      few =
          let long = ap (λ l. length l) rows_split.0 in
          let sum = length-append (rows_of {K = K} before) (joined.row ∷ []) in
          let cut = length-take index a.behind in
          omega (arith, long, sum, cut)

      abbrev old_state : State
      old_state =
          state_at rule Alike law choose itself behind_law again_law old_text new start end t all b.edit b.utf8 b.new_utf8 a
          index

      abbrev old_last : TokenParts
      old_last =
          token_at rule Alike law choose itself behind_law again_law old_text new start end t all b.edit b.utf8 b.new_utf8 a
          index

      lasting : list_all is_lasting a.commands ≡ true
      lasting = chosen_lasts rule law old_text (state_after_first a.first) a.commands a.behind a.chosen

      cut : Cuts rule old_text t (state_after_first a.first) a.commands a.behind index
      cut =
          cuts rule old_text t (state_after_first a.first) a.commands a.behind index few lasting a.run a.chosen

      old_goes : GoesOnBehind old_text old_state old_last
      old_goes =
          goes_on_rows old_text t (state_after_first a.first) (take index a.commands) (take index a.behind) a.first.token
          (take_lasting index a.commands lasting) (behind_first old_text t a.first a.is_first) cut.run

      old_last_is : old_last ≡ joined.row.token
      old_last_is =
          last_token_of a.first (take index a.behind) (rows_of {K = K} before) joined.row rows_split.0

      old_tokens : old_state.now.tokens ≡ with_rows [] (rows_of {K = K} (before ++ joined ∷ []))
      old_tokens =
          rows_tokens old_text t (state_after_first a.first) (take index a.commands) (take index a.behind)
          (take_lasting index a.commands lasting) cut.run
          ∙ sym (first_tokens rule law old_text t a.first a.is_first (take index a.behind))
          ∙ ap (with_rows []) (rows_split.0 ∙ sym (rows_joined {K = K} before (joined ∷ [])))

      known_split : AreKnown {K = K} knows nodes [] (rows_of {K = K} ((before ++ joined ∷ []) ++ later))
          (states_of {K = K} ((before ++ joined ∷ []) ++ later))
      known_split =
          subst (λ es. AreKnown {K = K} knows nodes [] (rows_of {K = K} es) (states_of {K = K} es)) entries_are b.known

      known_there : knows nodes entry.state old_state.now.tokens
      known_there =
          subst (knows nodes entry.state) (sym old_tokens)
          (known_last {K = K} knows nodes before joined []
          (known_front {K = K} knows nodes (before ++ joined ∷ []) later [] known_split))

      abbrev new_state : State
      new_state = state_of_read rule law text t (front_rows ++ read_rows) rows_read

      new_tokens : new_state.now.tokens ≡ with_rows (with_rows [] front_rows) read_rows
      new_tokens =
          read_tokens rule law text t (front_rows ++ read_rows) rows_read ∙ rows_both [] front_rows read_rows

      alike : Alike new_state.now.tokens old_state.now.tokens
      alike =
          subst (λ ts. Alike ts old_state.now.tokens) (sym new_tokens)
          (joins.joins.alike old_state.now.tokens old_last known_there old_goes.last_is (ap at_start old_last_is))

      long_text : length text + end ≡ length old_text + to
      long_text =
          let front = length-take-le start old_text b.edit.starts.0 in
          let rest = length-drop end old_text in
          let whole = length-append (take start old_text ++ new) (drop end old_text) in
          let first = length-append (take start old_text) new in
          let inside = b.edit.ends.0 in
          omega (arith, front, rest, whole, first, inside)

      pad_is : j.pad ≡ other
      pad_is = omega (arith, other_is)

      pub pads : other + to ≡ g.pad + end
      pads = (let was = b.pad_is in omega (arith, other_is, long_text, was))

      entry_ordered : entry.row.token.start ≤ entry.row.token.end
      entry_ordered =
          (all_rest (IsPadded {K = K} g.pad) (take n g.back) (entry ∷ at.later)
          (subst (AllByRecursion (IsPadded {K = K} g.pad)) at.back_is b.padded)).0.ordered

      token_thrice : (token : TokenParts) → end + g.pad ≤ token.start + other → token.start ≤ token.end
          → shifted_token end to (shifted_token g.pad 0 (shifted_token 0 other token)) ≡ token
      token_thrice token far ordered =
          let s : shifted end to (shifted g.pad 0 (shifted 0 other token.start)) ≡ token.start =
          omega (arith, far, pads) in
          let e : shifted end to (shifted g.pad 0 (shifted 0 other token.end)) ≡ token.end =
          omega (arith, far, ordered, pads) in
          λ i. record token { start = s i; end = e i }

      held : entry.row.token ≡ shifted_token 0 other joins.last.token
      held = subst (λ p. entry.row.token ≡ shifted_token 0 p joins.last.token) pad_is joins.joins.is_held.same

      far_token : end + g.pad ≤ joins.last.token.start + other
      far_token =
          let far = joins.joins.is_held.behind in
          let start_is = ap (λ (x : TokenParts). x.start) held in
          omega (arith, far, start_is)

      last_ordered : joins.last.token.start ≤ joins.last.token.end
      last_ordered =
          let start_is = ap (λ (x : TokenParts). x.start) held in
          let end_is = ap (λ (x : TokenParts). x.end) held in
          omega (arith, entry_ordered, start_is, end_is)

      moved : joins.last.token ≡ shifted_token end to old_last
      moved =
          sym (token_thrice joins.last.token far_token last_ordered)
          ∙ ap (λ x. shifted_token end to (shifted_token g.pad 0 x)) (sym held)
          ∙ ap (shifted_token end to) (sym old_last_is)

      last_there : last_live new_state.now ≡ Some (shifted_token end to old_last)
      last_there =
          let goes = read_goes rule law text t (front_rows ++ read_rows) rows_read in
          let rows : rows_read.first ∷ rows_read.behind ≡ (front_rows ++ joins.before) ++ joins.last ∷ [] =
          sym rows_read.rows_are ∙ ap (λ l. front_rows ++ l) joins.rows_are
          ∙ sym (append_assoc front_rows joins.before (joins.last ∷ [])) in
          goes.last_is
          ∙ ap Some (last_token_of rows_read.first rows_read.behind (front_rows ++ joins.before) joins.last rows)
          ∙ ap Some moved

      less : end ≤ old_last.start
      less =
          let start_is = ap (λ (x : TokenParts). x.start) old_last_is in
          let far = joins.joins.is_held.behind in
          omega (arith, start_is, far)

      old_behind : Behind rule Alike law choose itself behind_law again_law old_text new start end t all b.edit b.utf8
          b.new_utf8 a index new_state
      old_behind =
          behind rule Alike law choose itself behind_law again_law old_text new start end t all b.edit b.utf8 b.new_utf8 a
          index new_state few last_there less alike

      far : AllByRecursion (IsFar {K = K} g.pad end) (reverse (take n g.back))
      far =
          far_entries {K = K} g.pad end (reverse (take n g.back))
          (subst (AllByRecursion (OfEachPlace (λ place. end ≤ place))) rows_split.1 old_behind.lies)

      pub left_padded : AllByRecursion (IsPadded {K = K} g.pad) (take n g.back)
      left_padded =
          all_first (IsPadded {K = K} g.pad) (take n g.back) (entry ∷ at.later)
          (subst (AllByRecursion (IsPadded {K = K} g.pad)) at.back_is b.padded)

      pub far_left : AllByRecursion (IsFar {K = K} g.pad end) (take n g.back)
      far_left =
          subst (AllByRecursion (IsFar {K = K} g.pad end)) (reverse-reverse (take n g.back))
          (all_turned {K = K} (IsFar {K = K} g.pad end) (reverse (take n g.back)) far)

      pub padded_left : AllByRecursion (IsPadded {K = K} other) (take n g.back)
      padded_left = padded_anew {K = K} g.pad other end to pads (take n g.back) left_padded far_left

      pub few_left : n ≤ length g.back
      few_left = (let few = at.few in omega (arith, few))

      -- the rows behind the one that is joined, in the new text
      abbrev pub new_later : List (Entry K)
      new_later = map (shifted_entry {K = K} other 0) (reverse (take n g.back))

      pub later_are : new_later ≡ map (shifted_entry {K = K} end to) later
      later_are =
          entries_twice {K = K} g.pad other end to pads (reverse (take n g.back))
          (all_turned {K = K} (IsPadded {K = K} g.pad) (take n g.back) left_padded) far

      rows_later : map (shifted_row end to) (drop index a.behind) ≡ rows_of {K = K} new_later
      rows_later =
          ap (map (shifted_row end to)) rows_split.1 ∙ sym (rows_shifted {K = K} end to later)
          ∙ ap (rows_of {K = K}) (sym later_are)

      pub rows_joined_are : AreChosenRows rule text t ((front_rows ++ read_rows) ++ rows_of {K = K} new_later)
      rows_joined_are =
          read_joined rule law text t (front_rows ++ read_rows) (rows_of {K = K} new_later) (drop index a.commands) rows_read
          (subst (Run text t new_state (drop index a.commands)) rows_later old_behind.run)
          (subst (ChosenFrom (rule text) new_state (drop index a.commands)) rows_later old_behind.chosen)

      pub known_joined : AreKnown {K = K} knows new_nodes [] (rows_of {K = K} ((g.front ++ entries) ++ new_later))
          (states_of {K = K} ((g.front ++ entries) ++ new_later))
      known_joined =
          let old_known : AreKnown {K = K} knows nodes old_state.now.tokens (rows_of {K = K} later)
          (states_of {K = K} later) =
          subst (λ ts. AreKnown {K = K} knows nodes ts (rows_of {K = K} later) (states_of {K = K} later)) (sym old_tokens)
          (known_rest {K = K} knows nodes (before ++ joined ∷ []) later [] known_split) in
          let shifted_known : AreKnown {K = K} knows nodes new_state.now.tokens
          (rows_of {K = K} (map (shifted_entry {K = K} end to) later))
          (states_of {K = K} (map (shifted_entry {K = K} end to) later)) =
          known_shifted {K = K} knows rule Alike law choose behind_law again_law known_alike nodes end to old_text t old_state
          new_state (drop index a.commands) later old_last b.utf8 (drop_lasting index a.commands lasting) old_goes
          (subst (Run old_text t old_state (drop index a.commands)) rows_split.1 cut.rest_run)
          (subst (ChosenFrom (rule old_text) old_state (drop index a.commands)) rows_split.1 cut.rest_chosen) alike
          old_known in
          let here : AreKnown {K = K} knows nodes new_state.now.tokens (rows_of {K = K} new_later)
          (states_of {K = K} new_later) =
          subst
          (λ es. AreKnown {K = K} knows nodes new_state.now.tokens (rows_of {K = K} es) (states_of {K = K} es))
          (sym later_are) shifted_known in
          let tokens : new_state.now.tokens ≡ with_rows [] (rows_of {K = K} (g.front ++ entries)) =
          read_tokens rule law text t (front_rows ++ read_rows) rows_read
          ∙ ap (with_rows []) (sym (rows_joined {K = K} g.front entries)) in
          known_both {K = K} knows new_nodes (g.front ++ entries) new_later [] known_read
          (known_stays {K = K} knows nodes new_nodes stays (rows_of {K = K} new_later) (states_of {K = K} new_later)
          (with_rows [] (rows_of {K = K} (g.front ++ entries)))
          (subst
          (λ ts. AreKnown {K = K} knows nodes ts (rows_of {K = K} new_later) (states_of {K = K} new_later)) tokens
          here))
