-- What is known of the rows of an edited document, whether old rows are joined or not.
use Rattle.std.proofs.Common.{◌≡◌, ℕ, suc, ◌+◌, ◌-◌, ◌<◌, ◌≤◌, List, [], ◌∷◌, ◌++◌, length, map, take}
use Rattle.std.proofs.Common.{drop, refl, sym, ◌∙◌, ap, subst, arith, append_assoc, append-nil, length-append, Option, Some, None}
use Rattle.std.specs.List.{AllByRecursion}
use Rattle.std.specs.Prelude.{◌^◌, reverse}
use Rattle.std.proofs.lemmas.List.{drop_at, length-drop, length-map, length-reverse, length-take-le}
use Rattle.js_text.specs.declared.source_type.SourceType.{SourceType}
use Rattle.js_kind.specs.TokenParts.{TokenParts}
use Rattle.js_session.specs.declared.row.Row.{Row}
use Rattle.js_choose.specs.Rules.{IsRule, Rule}
use Rattle.js_relex.specs.Documents.{edited, rows_behind_joined, rows_taken_over}
use Rattle.js_relex.specs.Joined.{FirstFrom}
use Rattle.js_document.specs.declared.gap.Entry.{Entry}
use Rattle.js_document.specs.declared.open.Node.{Node}
use Rattle.js_document.specs.Documents.{DocState, JoinsRow, commands_of}
use Rattle.js_document.specs.Edited.{ReadsEdited, ReadsIn, joining}
use Rattle.js_document.specs.Gap.{GapState, IsPadded, around, entries_of, rows_of, shifted_entry}
use Rattle.js_document.specs.Reading.{AreKnown, JoiningState, JoinsHeld, JoinsNone, Knowledge, LastJoins, NoneJoins, UntilJoined}
use Rattle.js_document.specs.Reading.{states_of, with_rows}
use Rattle.js_document.specs.States.{AlikeAgain, AlikeBehind, AlikeItself, Alikeness, ChoosesAlike, KnowsAlike}
use Rattle.js_document.proofs.EditClauses.{last_first, none_first}
use Rattle.js_document.proofs.EditedDocument.{IsBeing, IsFar, far_left, few_left, front_kept, known_joined, known_read}
use Rattle.js_document.proofs.EditedDocument.{later_are, padded_left, rows_joined_are, rows_read, stops_read}
use Rattle.js_document.proofs.EditedRows.{AreChosenRows}
use Rattle.js_document.proofs.JoinedDocument.{joins_held, joins_none}
use Rattle.js_document.proofs.KeptLemmas.{Before, all_first, rows_joined}
use Rattle.js_document.proofs.OrderLemmas.{IsSound, rows_ordered}
use Rattle.js_document.proofs.ReadParts.{read_all}

-- Behind the rows before the gap, and those that were read, so many old ones are left; this row joins them.
pub record IsOutcome {K : Type 0} (rule : Rule) (knows : Knowledge K) (Alike : Alikeness) (old : DocState)
    (new : List ℕ) (start end : ℕ) (t : SourceType) (text : List ℕ) (new_nodes : List Node) (g : GapState K)
    (entries : List (Entry K)) (left other : ℕ) (joined : Option ℕ) : Type 0 where
  pub few : left ≤ length g.back
  pub padded : AllByRecursion (IsPadded {K = K} other) (take left g.back)
  pub far : AllByRecursion (IsFar {K = K} g.pad end) (take left g.back)
  pub later_are : map (shifted_entry {K = K} other 0) (reverse (take left g.back))
      ≡ map (shifted_entry {K = K} end (start + length new))
      (map (shifted_entry {K = K} g.pad 0) (reverse (take left g.back)))
  pub rows : AreChosenRows rule text t
      (rows_of {K = K} (around {K = K} (g.front ++ entries) other (take left g.back)))
  pub known : AreKnown {K = K} knows new_nodes []
      (rows_of {K = K} (around {K = K} (g.front ++ entries) other (take left g.back)))
      (states_of {K = K} (around {K = K} (g.front ++ entries) other (take left g.back)))
  pub first : (d : DocState)
      → d.report.rows ≡ rows_of {K = K} (around {K = K} (g.front ++ entries) other (take left g.back))
      → d.commands ≡ commands_of (rows_of {K = K} (around {K = K} (g.front ++ entries) other (take left g.back)))
      → FirstFrom (JoinsRow Alike old start end new d.commands d.report.rows) (length g.front)
      (drop (length g.front) d.report.rows) joined
  pub taken_over : rows_taken_over joined
      (rows_of {K = K} (around {K = K} (g.front ++ entries) other (take left g.back))) ≡ left
  pub behind : rows_behind_joined joined
      (rows_of {K = K} (around {K = K} (g.front ++ entries) other (take left g.back)))
      ≡ rows_of {K = K} (map (shifted_entry {K = K} other 0) (reverse (take left g.back)))

module _ {K : Type 0} (rule : Rule) (law : IsRule rule) (Alike : Alikeness) (choose : ChoosesAlike rule Alike)
    (itself : AlikeItself Alike) (behind_law : AlikeBehind Alike) (again_law : AlikeAgain Alike)
    (knows : Knowledge K) (known_alike : KnowsAlike {K = K} knows Alike) (old_text new : List ℕ) (start end : ℕ)
    (t : SourceType) (nodes new_nodes : List Node)
    (stays : (state : K) (tokens : List TokenParts) → knows nodes state tokens → knows new_nodes state tokens)
    (g : GapState K) (b : IsBeing {K = K} rule knows old_text new start end t nodes g) (entries : List (Entry K))
    (left : Option ℕ)
    (reads : ReadsEdited {K = K} rule knows Alike nodes new_nodes g end (edited old_text start end new) t entries left)
    (other : ℕ) (other_is : other + length (edited old_text start end new) ≡ 2 ^ 32 - 1) (old : DocState)
    (old_rows : old.report.rows ≡ rows_of {K = K} (entries_of {K = K} g))
    (old_commands : old.commands ≡ commands_of (rows_of {K = K} (entries_of {K = K} g))) where
  abbrev text : List ℕ
  text = edited old_text start end new

  abbrev front_rows : List Row
  front_rows = rows_of {K = K} g.front

  abbrev read_rows : List Row
  read_rows = rows_of {K = K} entries

  abbrev j : JoiningState K
  j = joining {K = K} g end (length text)

  front_long : length front_rows ≡ length g.front
  front_long = length-map g.front (λ (e : Entry K). e.row)

  front_ordered : AllByRecursion (λ (row : Row). row.token.start ≤ row.token.end) front_rows
  front_ordered =
      weaker front_rows
      (all_first (IsSound old_text) front_rows
      (rows_of {K = K} (map (shifted_entry {K = K} g.pad 0) (reverse g.back)))
      (subst (AllByRecursion (IsSound old_text))
      (rows_joined {K = K} g.front (map (shifted_entry {K = K} g.pad 0) (reverse g.back)))
      (rows_ordered rule law old_text t (rows_of {K = K} (entries_of {K = K} g)) b.utf8 b.rows).sound))
    where
      weaker : (rows : List Row) → AllByRecursion (IsSound old_text) rows
          → AllByRecursion (λ (row : Row). row.token.start ≤ row.token.end) rows
      weaker [] all = tt
      weaker (row ∷ rows) all = (all.0.lies.ordered, weaker rows all.1)

  near : AllByRecursion (Before start) front_rows
  near =
      front_kept {K = K} rule law Alike choose itself behind_law again_law knows known_alike old_text new start end t nodes
      new_nodes stays g b

  pads : j.pad + (start + length new) ≡ g.pad + end
  pads =
      let front = length-take-le start old_text b.edit.starts.0 in
      let rest = length-drop end old_text in
      let whole = length-append (take start old_text ++ new) (drop end old_text) in
      let first = length-append (take start old_text) new in
      let inside = b.edit.ends.0 in
      let was = b.pad_is in
      omega (arith, front, rest, whole, first, inside, other_is, was)

  joined_until : UntilJoined {K = K} knows Alike nodes j (with_rows [] front_rows) read_rows left
  joined_until = by_front g.front reads
    where
      by_front : (front : List (Entry K))
          → ReadsIn {K = K} rule knows Alike nodes new_nodes j text t front entries left
          → UntilJoined {K = K} knows Alike nodes j (with_rows [] (rows_of {K = K} front)) read_rows left
      by_front [] reads = reads.joined
      by_front (e ∷ es) reads = reads.joined

  module _ (later : List Row) (rows : List Row) (rows_are : rows ≡ front_rows ++ read_rows ++ later)
      (c : AreChosenRows rule text t rows) (d : DocState) (new_rows : d.report.rows ≡ rows)
      (new_commands : d.commands ≡ commands_of rows) where
    abbrev Joins : ℕ → Row → Type 0
    Joins = JoinsRow Alike old start end new d.commands d.report.rows

    pub each_none : (index : ℕ) (row : Row) → index < length (front_rows ++ read_rows ++ later)
        → JoinsNone {K = K} knows Alike nodes j row.token (with_rows [] (take (suc index) (front_rows ++ read_rows
        ++ later))) → Joins index row → ⊥
    each_none index row less none =
        joins_none {K = K} rule law Alike knows nodes old_text new start end t g old old_rows old_commands b.rows b.known
        b.padded b.edit.ordered near front_ordered j refl refl pads text d rows new_rows new_commands c index row
        (subst (λ xs. index < length xs) (sym rows_are) less)
        (subst (λ xs. JoinsNone {K = K} knows Alike nodes j row.token (with_rows [] (take (suc index) xs))) (sym rows_are)
        none)

    pub each_held : (n : ℕ) (index : ℕ) (row : Row) → index < length (front_rows ++ read_rows ++ later)
        → JoinsHeld {K = K} knows Alike nodes j row.token (with_rows [] (take (suc index) (front_rows ++ read_rows
        ++ later))) n → Joins index row
    each_held n index row less held =
        joins_held {K = K} rule law Alike knows nodes old_text new start end t g old old_rows old_commands b.rows b.known
        b.padded b.edit.ordered near front_ordered j refl refl pads text d rows new_rows new_commands c index row n
        (subst (λ xs. index < length xs) (sym rows_are) less)
        (subst (λ xs. JoinsHeld {K = K} knows Alike nodes j row.token (with_rows [] (take (suc index) xs)) n)
        (sym rows_are) held)

    dropped : drop (length g.front) d.report.rows ≡ read_rows ++ later
    dropped =
        ap (drop (length g.front)) (new_rows ∙ rows_are ∙ append_assoc front_rows read_rows later)
        ∙ drop_at front_rows (read_rows ++ later) (length g.front) front_long

    pub first_is : (joined : Option ℕ) → FirstFrom Joins (length front_rows) (read_rows ++ later) joined
        → FirstFrom Joins (length g.front) (drop (length g.front) d.report.rows) joined
    first_is joined first =
        subst (λ xs. FirstFrom Joins (length g.front) xs joined) (sym dropped)
        (subst (λ n. FirstFrom Joins n (read_rows ++ later) joined) front_long first)

  -- No row joins an old one: those that were read go on to the end.
  pub outcome_none : left ≡ None
      → IsOutcome {K = K} rule knows Alike old new start end t text new_nodes g entries 0 other None
  outcome_none none =
      let all : around {K = K} (g.front ++ entries) other [] ≡ g.front ++ entries = append-nil (g.front ++ entries) in
      let rows : rows_of {K = K} (around {K = K} (g.front ++ entries) other []) ≡ front_rows ++ read_rows =
      ap (rows_of {K = K}) all ∙ rows_joined {K = K} g.front entries in
      let chosen : AreChosenRows rule text t (front_rows ++ read_rows) =
      read_all rule law text t (front_rows ++ read_rows)
      (rows_read {K = K} rule law Alike choose itself behind_law again_law knows known_alike old_text new start end t nodes
      new_nodes stays g b entries left reads)
      (stops_read {K = K} rule law Alike choose itself behind_law again_law knows known_alike old_text new start end t nodes
      new_nodes stays g b entries left reads none) in
      let here : AreChosenRows rule text t (rows_of {K = K} (around {K = K} (g.front ++ entries) other [])) =
      subst (AreChosenRows rule text t) (sym rows) chosen in
      let until : NoneJoins {K = K} knows Alike nodes j (with_rows [] front_rows) read_rows =
      subst (UntilJoined {K = K} knows Alike nodes j (with_rows [] front_rows) read_rows) none joined_until in
      let rows_are : rows_of {K = K} (around {K = K} (g.front ++ entries) other []) ≡ front_rows ++ read_rows ++ [] =
      rows ∙ sym (append-nil (front_rows ++ read_rows)) in
      record {
        few = omega arith;
        padded = tt;
        far = tt;
        later_are = refl;
        rows = here;
        known =
            subst (λ es. AreKnown {K = K} knows new_nodes [] (rows_of {K = K} es) (states_of {K = K} es)) (sym all)
            (known_read {K = K} rule law Alike choose itself behind_law again_law knows known_alike old_text new start end t
            nodes new_nodes stays g b entries left reads);
        first = λ d new_rows new_commands.
            first_is [] (rows_of {K = K} (around {K = K} (g.front ++ entries) other [])) rows_are here d new_rows
            new_commands None
            (subst (λ xs. FirstFrom (JoinsRow Alike old start end new d.commands d.report.rows) (length front_rows) xs
            None) (sym (append-nil read_rows))
            (none_first {K = K} knows Alike nodes j (JoinsRow Alike old start end new d.commands d.report.rows) front_rows
            read_rows []
            (each_none [] (rows_of {K = K} (around {K = K} (g.front ++ entries) other [])) rows_are here d new_rows
            new_commands) until));
        taken_over = refl;
        behind = refl;
      }

  -- The last row that was read joins an old one.
  pub outcome_joined : (n : ℕ) → left ≡ Some n
      → IsOutcome {K = K} rule knows Alike old new start end t text new_nodes g entries n other
      (Some (length front_rows + length read_rows - 1))
  outcome_joined n is =
      let later = rows_of {K = K} (map (shifted_entry {K = K} other 0) (reverse (take n g.back))) in
      let rows_are : rows_of {K = K} (around {K = K} (g.front ++ entries) other (take n g.back))
      ≡ front_rows ++ read_rows ++ later =
      rows_joined {K = K} (g.front ++ entries) (map (shifted_entry {K = K} other 0) (reverse (take n g.back)))
      ∙ ap (λ rs. rs ++ later) (rows_joined {K = K} g.front entries) in
      let here : AreChosenRows rule text t (rows_of {K = K} (around {K = K} (g.front ++ entries) other (take n g.back))) =
      subst (AreChosenRows rule text t) (sym rows_are)
      (rows_joined_are {K = K} rule law Alike choose itself behind_law again_law knows known_alike old_text new start end t
      nodes new_nodes stays g b entries left reads n is other other_is) in
      let last : LastJoins {K = K} knows Alike nodes j (with_rows [] front_rows) read_rows n =
      subst (UntilJoined {K = K} knows Alike nodes j (with_rows [] front_rows) read_rows) is joined_until in
      let some : length read_rows ≡ length last.before + 1 =
      ap (λ l. length l) last.rows_are ∙ length-append last.before (last.last ∷ []) in
      let index = length front_rows + length read_rows - 1 in
      let long : length (front_rows ++ read_rows) ≡ suc index =
      length-append front_rows read_rows ∙ omega (arith, some) in
      let count : length later ≡ n =
      length-map (map (shifted_entry {K = K} other 0) (reverse (take n g.back))) (λ (e : Entry K). e.row)
      ∙ length-map (reverse (take n g.back)) (shifted_entry {K = K} other 0) ∙ length-reverse (take n g.back)
      ∙ length-take-le n g.back
      (few_left {K = K} rule law Alike choose itself behind_law again_law knows known_alike old_text new start end t nodes
      new_nodes stays g b entries left reads n is other other_is) in
      let whole = ap (λ l. length l) rows_are ∙ length-append (front_rows ++ read_rows) later in
      record {
        few =
            few_left {K = K} rule law Alike choose itself behind_law again_law knows known_alike old_text new start end t
            nodes new_nodes stays g b entries left reads n is other other_is;
        padded =
            padded_left {K = K} rule law Alike choose itself behind_law again_law knows known_alike old_text new start end t
            nodes new_nodes stays g b entries left reads n is other other_is;
        far =
            far_left {K = K} rule law Alike choose itself behind_law again_law knows known_alike old_text new start end t
            nodes new_nodes stays g b entries left reads n is other other_is;
        later_are =
            later_are {K = K} rule law Alike choose itself behind_law again_law knows known_alike old_text new start end t
            nodes new_nodes stays g b entries left reads n is other other_is;
        rows = here;
        known =
            known_joined {K = K} rule law Alike choose itself behind_law again_law knows known_alike old_text new start end
            t nodes new_nodes stays g b entries left reads n is other other_is;
        first = λ d new_rows new_commands.
            first_is later (rows_of {K = K} (around {K = K} (g.front ++ entries) other (take n g.back))) rows_are here d
            new_rows new_commands (Some index)
            (last_first {K = K} knows Alike nodes j (JoinsRow Alike old start end new d.commands d.report.rows) front_rows
            read_rows later n
            (each_none later (rows_of {K = K} (around {K = K} (g.front ++ entries) other (take n g.back))) rows_are here d
            new_rows new_commands)
            (each_held later (rows_of {K = K} (around {K = K} (g.front ++ entries) other (take n g.back))) rows_are here d
            new_rows new_commands n) last);
        taken_over = omega (arith, whole, long, count);
        behind =
            ap (drop (suc index)) rows_are ∙ drop_at (front_rows ++ read_rows) later (suc index) long;
      }
