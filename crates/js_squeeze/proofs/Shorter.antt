-- What is squeezed is no longer than its source.
use Rattle.std.proofs.Common.{◌≡◌, ℕ, ◌+◌, ◌-◌, ◌≤◌, ◌==◌, Bool, true, false, List, [], ◌∷◌, ◌++◌, length, drop}
use Rattle.std.proofs.Common.{refl, sym, ◌∙◌, ap, subst, arith, Option, None, Some, inl, inr}
use Rattle.std.specs.Prelude.{MatchBool, if◌then◌else◌, slice_get}
use Rattle.std.specs.List.{AllByRecursion, filter, last_or, list_all}
use Rattle.std.specs.Str.{IsUtf8, chars}
use Rattle.std.proofs.lemmas.Bool.{and_parts, cases_lt, eqb-false}
use Rattle.std.proofs.lemmas.List.{length-append, length-drop, length-take-le}
use Rattle.js_text.specs.declared.source_type.SourceType.{SourceType}
use Rattle.js_kind.specs.TokenParts.{TokenParts}
use Rattle.js_grammar.specs.Goals.{GoalReads}
use Rattle.js_grammar.specs.ReLexed.{fits}
use Rattle.js_grammar.proofs.AtPlaces.{gap_end}
use Rattle.js_grammar.proofs.ReadingLemmas.{by_choice}
use Rattle.js_lexer.specs.Lexer.{IsOnPlaces, token_or_default}
use Rattle.js_session.specs.declared.command.Command.{Command}
use Rattle.js_session.specs.declared.report.Report.{Report}
use Rattle.js_session.specs.declared.row.Row.{Row}
use Rattle.js_session.specs.Effects.{effect_of, row_effect}
use Rattle.js_session.specs.declared.command.Effect.{Effect}
use Rattle.js_session.specs.declared.command.Effect.TheVariants.{Reads, Peeks, ReLexes, Opens, Rewinds, Commits}
use Rattle.js_session.specs.Live.{Live, State, after_row, last_live, live, outcome_of, place_behind_last}
use Rattle.js_session.specs.Live.{state_after_first}
use Rattle.js_session.specs.Report.{AreRows, IsNotTaken, IsOfEffect, IsReLexed, ReportOf, Run}
use Rattle.js_session.proofs.LastingRuns.{lasting_steps}
use Rattle.js_rewrite.specs.Faults.{may_rewrite}
use Rattle.js_rewrite.specs.Space.{need_space}
use Rattle.js_rewrite.proofs.GapsBefore.{onward_parts}
use Rattle.js_rewrite.proofs.LastTokens.{IsLast, IsQuiet, Rewrites, again_starts, last_behind, lasting_of, rewrites}
use Rattle.js_squeeze.specs.SqueezeText.{first_reads, reads_on, separator, separator_behind, squeeze_text, squeezed}
use Rattle.js_squeeze.specs.SqueezeText.{token_text}
use Rattle.js_squeeze.proofs.Futures.{onward}
use Rattle.js_squeeze.proofs.SameReports.{first_ends, first_last, live_tokens}
use Rattle.js_squeeze.proofs.Written.{TokensLie, finals}

-- A token that is read on stands where the one before it ends, or behind that; one that is read again starts where it
-- started.
abbrev StandsNext : Bool → TokenParts → Row → Type 0
StandsNext true token row = (row.place ≡ token.end) × (token.end ≤ row.token.start)
StandsNext false token row = row.token.start ≡ token.start

-- Each does.
abbrev StandNext : TokenParts → List Row → Type 0
StandNext token [] = Unit {0}
StandNext token (row ∷ rows) = StandsNext (first_reads row) token row × StandNext row.token rows

-- where the step of a token reads it, behind the one before it, if there is one
abbrev StandsBehind : Option TokenParts → Row → Type 0
StandsBehind None step = Unit {0}
StandsBehind (Some before) step = (step.place ≡ before.end) × (before.end ≤ step.token.start)

-- So many bytes from an end on are no more than up to a start.
abbrev FitsIn : ℕ → ℕ → List ℕ → Type 0
FitsIn end start xs = end + length xs ≤ start

room_behind : (end place start : ℕ) → place ≡ end → end ≤ start → (start ≡ place → ⊥) → end + 1 ≤ start
room_behind end place start at ordered other =
    elim (cases_lt end start) [
      | inl less ↦ omega (arith, less)
      | inr more ↦ absurd (other (omega (arith, at, ordered, more)))
    ]

-- What stands between two tokens fits between them.
between_fits : (text : List ℕ) (before : TokenParts) (step : Row) (token : TokenParts)
    → StandsBehind (Some before) step → FitsIn before.end step.token.start (separator_behind text before step token)
between_fits text before step token behind =
    let at = behind.0 in
    let ordered = behind.1 in
    let needs =
    need_space before.kind (last_or None (chars (token_text text before)))
    (slice_get (chars (token_text text token)) 0) in
    by_choice (FitsIn before.end step.token.start) (step.token.start == step.place) []
    (if step.token.is_on_new_line then 10 ∷ [] else if needs then 32 ∷ [] else [])
    (λ _. omega (arith, ordered))
    (λ apart.
    let room =
    room_behind before.end step.place step.token.start at ordered
    (eqb-false step.token.start step.place apart) in
    by_choice (FitsIn before.end step.token.start) step.token.is_on_new_line (10 ∷ [])
    (if needs then 32 ∷ [] else []) (λ _. omega (arith, room))
    (λ _. by_choice (FitsIn before.end step.token.start) needs (32 ∷ []) [] (λ _. omega (arith, room))
    (λ _. omega (arith, ordered))))

separator_fits : (text : List ℕ) (before : Option TokenParts) (step : Row) (token : TokenParts)
    → StandsBehind before step
    → FitsIn (token_or_default before).end step.token.start (separator text before step token)
separator_fits text None step token behind = omega arith
separator_fits text (Some before) step token behind = between_fits text before step token behind

text_length : (text : List ℕ) (token : TokenParts) → IsOnPlaces text token
    → token.start + length (token_text text token) ≡ token.end
text_length text token lies =
    let ordered = lies.ordered in
    let inside = lies.end.0 in
    let rest = length-drop token.start text in
    let taken : length (token_text text token) ≡ token.end - token.start =
    length-take-le (token.end - token.start) (drop token.start text) (omega (arith, rest, ordered, inside)) in
    omega (arith, taken, ordered)

-- three stretches, one behind the other
all_fit : (from start end limit : ℕ) (xs ys zs : List ℕ) → FitsIn from start xs → start + length ys ≡ end
    → FitsIn end limit zs → FitsIn from limit (xs ++ (ys ++ zs))
all_fit from start end limit xs ys zs fits own rest =
    let all = length-append xs (ys ++ zs) in
    let both = length-append ys zs in
    omega (arith, fits, own, rest, all, both)

-- From the end of the token before on, no more is written than stands there.
squeezed_fits : (text : List ℕ) (before : Option TokenParts) (step : Row) (token : TokenParts) (rows : List Row)
    → StandsBehind before step → token.start ≡ step.token.start → IsOnPlaces text token → TokensLie text rows
    → StandNext token rows
    → FitsIn (token_or_default before).end (length text)
    (squeezed text before (step ∷ filter first_reads rows) (finals token rows))
squeezed_fits text before step token [] behind same lies later next =
    let own = text_length text token lies in
    let rest = length-drop token.end text in
    let inside = lies.end.0 in
    all_fit (token_or_default before).end step.token.start token.end (length text) (separator text before step token)
    (token_text text token) (drop token.end text) (separator_fits text before step token behind)
    (omega (arith, own, same)) (omega (arith, rest, inside))
squeezed_fits text before step token (row ∷ rows) behind same lies later next =
    by_row (λ here. squeezed_fits text (Some token) row row.token rows here refl later.0 later.1 next.1)
    (λ start. squeezed_fits text before step row.token rows behind start later.0 later.1 next.1) (first_reads row) refl
    next.0
  where
    by_row : (StandsBehind (Some token) row → FitsIn token.end (length text)
        (squeezed text (Some token) (row ∷ filter first_reads rows) (finals row.token rows)))
        → (row.token.start ≡ step.token.start → FitsIn (token_or_default before).end (length text)
        (squeezed text before (step ∷ filter first_reads rows) (finals row.token rows)))
        → (b : Bool) → first_reads row ≡ b → StandsNext b token row
        → FitsIn (token_or_default before).end (length text)
        (squeezed text before (step ∷ filter first_reads (row ∷ rows)) (finals token (row ∷ rows)))
    by_row more again true e here =
        let own = text_length text token lies in
        rw e
        (all_fit (token_or_default before).end step.token.start token.end (length text)
        (separator text before step token) (token_text text token)
        (squeezed text (Some token) (row ∷ filter first_reads rows) (finals row.token rows))
        (separator_fits text before step token behind) (omega (arith, own, same)) (more here))
    by_row more again false e here = rw e (again (here ∙ same))

-- A step stands next.
step_next : (text : List ℕ) (t : SourceType) (effect : Effect) (s : State) (token : TokenParts) (row : Row)
    → IsUtf8 text → Rewrites t effect → IsLast text s token → first_reads row ≡ reads_on effect
    → row.place ≡ place_behind_last s.now → IsOfEffect text t s.now effect row → IsQuiet row
    → StandsNext (first_reads row) token row
step_next text t (Reads goal) s token row u on l first at is quiet =
    let place : row.place ≡ token.end = at ∙ ap (λ l. (token_or_default l).end) l.last_is in
    let read : GoalReads text t goal (Some token) token.end (outcome_of row) =
    subst (λ p. GoalReads text t goal (Some token) p (outcome_of row)) place
    (subst (λ l. GoalReads text t goal l row.place (outcome_of row)) l.last_is is.reads) in
    let ordered : token.end ≤ row.token.start =
    elim (onward_parts text t goal token token.end (outcome_of row) on.0 on.1 read quiet) [
      | inl here ↦ omega (arith, here)
      | inr parts ↦ (
          let end = gap_end text t false parts.has token.end row.token.start parts.pieces u l.lies.end parts.start parts.gap in
          omega (arith, end))
    ] in
    subst (λ b. StandsNext b token row) (sym first) (place, ordered)
step_next text t (Peeks goal) s token row u on l first at is quiet = absurd on
step_next text t Opens s token row u on l first at is quiet = absurd on
step_next text t Rewinds s token row u on l first at is quiet = absurd on
step_next text t Commits s token row u on l first at is quiet = absurd on
step_next text t (ReLexes goal) s token row u on l first at is quiet =
    subst (λ b. StandsNext b token row) (sym first) (by_flag (fits text goal (token_or_default (last_live s.now))) is)
  where
    by_flag : (b : Bool) → MatchBool b (IsReLexed text t s.now goal row) (IsNotTaken s.now row)
        → row.token.start ≡ token.start
    by_flag true is =
        let read : GoalReads text t goal (Some token) token.start (outcome_of row) =
        subst (λ l. GoalReads text t goal l (token_or_default l).start (outcome_of row)) l.last_is is.reads in
        (again_starts text t goal token token.start (outcome_of row) on.0 read).start_is
    by_flag false is =
        ap (λ (x : TokenParts). x.start) (is.token ∙ ap token_or_default l.last_is)

stand_next : (text : List ℕ) (t : SourceType) (s : State) (commands : List Command) (rows : List Row)
    (token : TokenParts) → IsUtf8 text → list_all (may_rewrite t) commands ≡ true → AllByRecursion IsQuiet rows
    → IsLast text s token → Run text t s commands rows → StandNext token rows
stand_next text t s [] rows token u may quiet l run = subst (StandNext token) (sym run) tt
stand_next text t s (c ∷ cs) [] token u may quiet l run = tt
stand_next text t s (c ∷ cs) (row ∷ rows) token u may quiet l run =
    let both = and_parts (may_rewrite t c) (list_all (may_rewrite t) cs) may in
    let step = lasting_steps c (lasting_of t c both.0) in
    let here = rw step at run in
    let on = rewrites t c both.0 in
    let next = last_behind text t (effect_of c) row s token on l here.0.places.token here.0.gives in (
      step_next text t (effect_of c) s token row u on l (ap (λ o. reads_on (row_effect o)) here.0.command_is)
          here.0.place here.0.gives quiet.0,
      stand_next text t (after_row (effect_of c) row s) cs rows row.token u both.1 quiet.1 next here.1,
    )

rows_short : (text : List ℕ) (t : SourceType) (commands : List Command) (rows : List Row) → IsUtf8 text
    → list_all (may_rewrite t) commands ≡ true → AllByRecursion IsQuiet rows → AreRows text t commands rows
    → length (squeezed text None (filter first_reads rows) (live commands rows).tokens) ≤ length text
rows_short text t commands [] u may quiet are = absurd are
rows_short text t commands (a ∷ xs) u may quiet are =
    let first : first_reads a ≡ true = ap (λ o. reads_on (row_effect o)) are.0.command_is in
    let tokens = live_tokens text t (state_after_first a) commands xs [] a.token may are.1 refl in
    let fits =
    squeezed_fits text None a a.token xs tt refl are.0.places.token
    (onward text t (state_after_first a) commands xs a.token u may quiet.1 (first_last text t commands a xs are)
    (first_ends text t commands a xs u quiet.0 are) are.1).later_lie
    (stand_next text t (state_after_first a) commands xs a.token u may quiet.1 (first_last text t commands a xs are)
    are.1) in
    let begun : filter first_reads (a ∷ xs) ≡ a ∷ filter first_reads xs = rw first refl in
    let same : squeezed text None (filter first_reads (a ∷ xs)) (live commands (a ∷ xs)).tokens
    ≡ squeezed text None (a ∷ filter first_reads xs) (finals a.token xs) =
    ap (squeezed text None (filter first_reads (a ∷ xs))) tokens
    ∙ ap (λ rs. squeezed text None rs (finals a.token xs)) begun in
    let count = ap length same in
    omega (arith, fits, count)

-- A squeezed source is no longer than the source.
pub squeezed_short : (source : List ℕ) (t : SourceType) (commands : List Command) (report : Report)
    → list_all (may_rewrite t) commands ≡ true → AllByRecursion IsQuiet report.rows
    → ReportOf source t false commands report → length (squeeze_text source report) ≤ length source
squeezed_short source t commands report may quiet is =
    let tokens : report.tokens ≡ (live commands report.rows).tokens = ap (λ (l : Live). l.tokens) is.lists in
    let same = ap (λ ts. length (squeezed source None (filter first_reads report.rows) ts)) tokens in
    let short = rows_short source t commands report.rows is.utf8 may quiet is.rows in
    omega (arith, same, short)
