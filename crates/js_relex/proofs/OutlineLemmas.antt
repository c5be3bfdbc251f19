-- Outlines of rows: one by one, and of rows that are moved.
use Rattle.std.proofs.Common.{◌≡◌, ℕ, zero, suc, ◌+◌, ◌<◌, ◌≤◌, not, ◌&&◌, ◌==◌, List, [], ◌∷◌, length, map}
use Rattle.std.proofs.Common.{Option, Some, refl, sym, ◌∙◌, ap, subst, arith, get_or, ◌-◌, ◌++◌, take, drop}
use Rattle.std.specs.List.{AllByRecursion}
use Rattle.std.proofs.lemmas.List.{drop-map, length-map, map-append, take-map}
use Rattle.js_session.specs.declared.command.Command.{Command}
use Rattle.js_session.specs.declared.row.Row.{Row}
use Rattle.js_session.specs.Shifted.{shifted_comment, shifted_diagnostic, shifted_row, shifted_span}
use Rattle.js_relex.specs.Documents.{MayMove}
use Rattle.js_relex.specs.Kept.{MayStay}
use Rattle.js_relex.specs.Outlines.{AreOutlined, OutlineFits, outline_of, shifted_outline}
use Rattle.js_relex.specs.declared.outline.RowOutline.{RowOutline}

-- there are as many outlines as rows
pub count_outlined : (commands : List (Option Command)) (outlines : List RowOutline) (rows : List Row)
    → AreOutlined commands outlines rows → length outlines ≡ length rows
count_outlined commands outlines rows are = ap length are.outlines_are ∙ length-map rows outline_of

-- What is asked of an outline at an index is asked of the row there.
pub record OutlinedAt (start : ℕ) (rows : List Row) (index : ℕ) (outline : RowOutline) (old new : Command) : Type 0 where
  pub row : Row
  pub asks : MayStay start (Some new) (get_or rows index row) → (old ≡ new) × (outline.end + 4 ≤ start)
  pub gives : (old ≡ new) × (outline.end + 4 ≤ start) → MayStay start (Some new) (get_or rows index row)

outlined_here : (start : ℕ) (row : Row) (old new : Command) (outline : RowOutline) → row.command ≡ Some old
    → outline ≡ outline_of row
    → (MayStay start (Some new) row → (old ≡ new) × (outline.end + 4 ≤ start))
    × ((old ≡ new) × (outline.end + 4 ≤ start) → MayStay start (Some new) row)
outlined_here start row old new outline command is = (
  λ stays. (
    let both : Some old ≡ Some new = sym command ∙ stays.command_is in cc,
    subst (λ (o : RowOutline). o.end + 4 ≤ start) (sym is) stays.ends_before,
  ),
  λ both. record {
    command_is = command ∙ ap Some both.0;
    ends_before = subst (λ (o : RowOutline). o.end + 4 ≤ start) is both.1;
  },
)

pub outlined_at : (start : ℕ) (olds : List Command) (outlines : List RowOutline) (rows : List Row) (index : ℕ)
    (d : RowOutline) (c new : Command) → AreOutlined (map Some olds) outlines rows → index < length outlines
    → OutlinedAt start rows index (get_or outlines index d) (get_or olds index c) new
outlined_at start olds outlines rows index d c new are some =
    subst (λ os. OutlinedAt start rows index (get_or os index d) (get_or olds index c) new) (sym are.outlines_are)
    (there olds rows index are.commands_are
    (subst (λ n. index < n) (count_outlined (map Some olds) outlines rows are) some))
  where
    there : (olds : List Command) (rows : List Row) (index : ℕ)
        → map (λ (row : Row). row.command) rows ≡ map Some olds → index < length rows
        → OutlinedAt start rows index (get_or (map outline_of rows) index d) (get_or olds index c) new
    there olds [] index commands some = absurd (omega (arith, some))
    there [] (row ∷ rows) index commands some = absurd (let no = commands in cc)
    there (old ∷ olds) (row ∷ rows) zero commands some =
        let command : row.command ≡ Some old = (let both = commands in cc) in
        let here = outlined_here start row old new (outline_of row) command refl in
        record { row = row; asks = here.0; gives = here.1 }
    there (old ∷ olds) (row ∷ rows) (suc index) commands some =
        let rest : map (λ (row : Row). row.command) rows ≡ map Some olds = (let both = commands in cc) in
        let more = there olds rows index rest (omega (arith, some)) in
        record { row = more.row; asks = more.asks; gives = more.gives }

-- a list that is mapped has as many items
none_mapped : {A B : Type 0} (f : A → B) (xs : List A) → (length (map f xs) == 0) ≡ (length xs == 0)
none_mapped f xs = ap (λ n. n == 0) (length-map xs f)

-- the outline of a row that is moved
outline_moved : (from to : ℕ) (row : Row)
    → shifted_outline from to (outline_of row) ≡ outline_of (shifted_row from to row)
outline_moved from to row =
    let diagnostics = none_mapped (shifted_diagnostic from to) row.diagnostics in
    let deferred = none_mapped (shifted_diagnostic from to) row.deferred in
    let comments = none_mapped (shifted_comment from to) row.comments in
    let irregular = none_mapped (shifted_span from to) row.irregular in
    let warnings = none_mapped (shifted_span from to) row.warnings in
    sym (λ i. record {
      end = (shifted_row from to row).token.end;
      has_found = not (diagnostics i && (deferred i && (comments i && (irregular i && warnings i))));
    })

pub outlines_moved : (from to : ℕ) (rows : List Row)
    → map (shifted_outline from to) (map outline_of rows) ≡ map outline_of (map (shifted_row from to) rows)
outlines_moved from to [] = refl
outlines_moved from to (row ∷ rows) = λ i. outline_moved from to row i ∷ outlines_moved from to rows i

-- The outlines of rows that may be moved fit where these go.
pub outlines_fit : (from to : ℕ) (behind : ℕ) (rows : List Row) (outlines : List RowOutline)
    → outlines ≡ map outline_of rows → AllByRecursion (MayMove from to) (drop (length rows - behind) rows)
    → AllByRecursion (OutlineFits from to) (drop (length outlines - behind) outlines)
outlines_fit from to behind rows outlines are h =
    subst (λ os. AllByRecursion (OutlineFits from to) (drop (length os - behind) os)) (sym are)
    (subst (AllByRecursion (OutlineFits from to))
    (sym
    (ap (λ n. drop (n - behind) (map outline_of rows)) (length-map rows outline_of)
    ∙ drop-map outline_of (length rows - behind) rows))
    (each (drop (length rows - behind) rows) h))
  where
    each : (rows : List Row) → AllByRecursion (MayMove from to) rows
        → AllByRecursion (OutlineFits from to) (map outline_of rows)
    each [] h = tt
    each (row ∷ rows) h = (h.0.fits.end, each rows h.1)

-- The outlines of rows that were replaced.
pub outlines_replaced : (from to kept behind : ℕ) (rows read new : List Row) (olds outlines : List RowOutline)
    → olds ≡ map outline_of rows
    → outlines ≡ take kept olds ++ map outline_of read ++ map (shifted_outline from to) (drop (length olds - behind) olds)
    → new ≡ take kept rows ++ read ++ map (shifted_row from to) (drop (length rows - behind) rows)
    → outlines ≡ map outline_of new
outlines_replaced from to kept behind rows read new olds outlines olds_are outlines_are new_is =
    let f = outline_of in
    let s = shifted_outline from to in
    let front = take kept rows in
    let rest = drop (length rows - behind) rows in
    let moved = map (shifted_row from to) rest in
    outlines_are
    ∙ (λ i. take kept (olds_are i) ++ map f read ++ map s (drop (length (olds_are i) - behind) (olds_are i)))
    ∙ (λ i. take-map f kept rows i ++ map f read ++ map s (drop (length-map rows f i - behind) (map f rows)))
    ∙ (λ i. map f front ++ map f read ++ map s (drop-map f (length rows - behind) rows i))
    ∙ ap (λ xs. map f front ++ map f read ++ xs) (outlines_moved from to rest)
    ∙ ap (λ xs. xs ++ map f moved) (sym (map-append f front read))
    ∙ sym (map-append f (front ++ read) moved)
    ∙ ap (map f) (sym new_is)

-- The outlines of rows from one place up to another.
pub outlines_between : (start count : ℕ) (all rows : List Row) (outlines : List RowOutline) → rows ≡ all
    → outlines ≡ map outline_of all
    → take count (drop start outlines) ≡ map outline_of (take count (drop start rows))
outlines_between start count all rows outlines rows_are outlines_are =
    (λ i. take count (drop start (outlines_are i)))
    ∙ ap (take count) (drop-map outline_of start all)
    ∙ take-map outline_of count (drop start all)
    ∙ (λ i. map outline_of (take count (drop start (sym rows_are i))))
