-- What rows make live, list by list: where rows start anew, what they make live stands behind what those before them do.
use Rattle.std.proofs.Common.{◌≡◌, ℕ, zero, suc, ◌+◌, ◌-◌, ◌<◌, ◌≤◌, Bool, true, false, List, [], ◌∷◌, ◌++◌, length}
use Rattle.std.proofs.Common.{take, drop, map, Some, None, refl, sym, ◌∙◌, ap, subst, arith, append_assoc, append-nil, length-append, inl, inr}
use Rattle.std.proofs.Common.{◌⊎◌}
use Rattle.std.specs.Prelude.{if◌then◌else◌, slice_range}
use Rattle.std.specs.List.{AllByRecursion}
use Rattle.std.proofs.Math.Seq.{drop-append_seam, take-append_seam}
use Rattle.std.proofs.lemmas.List.Sums.{sum_by-cons}
use Rattle.std.proofs.lemmas.List.{drop-take, length-take, take-append-drop, take-take}
use Rattle.js_text.specs.Lists.{with_last}
use Rattle.js_kind.specs.TokenParts.{TokenParts}
use Rattle.js_session.specs.Restated.{Findings, joined, no_findings}
use Rattle.js_session.proofs.Restated.{joined-assoc, joined-none}
use Rattle.js_session.specs.declared.command.Command.{Command}
use Rattle.js_session.specs.declared.row.Row.{Row}
use Rattle.js_session.specs.Effects.{lasts, row_effect}
use Rattle.js_session.specs.declared.command.Effect.{Effect}
use Rattle.js_session.specs.declared.command.Effect.TheVariants.{Reads, Peeks, ReLexes, Opens, Rewinds, Commits}
use Rattle.js_session.specs.Live.{Live, State, after_row, nothing_live, outcome_of, row_findings, with_outcome}
use Rattle.js_session.specs.Live.{with_re_lexed}
use Rattle.js_session.proofs.LiveLemmas.{length-with_last, same_live, with_last-append}
use Rattle.js_relex.specs.Documents.{live_behind}
use Rattle.js_relex.specs.LiveLists.{AreWithin, Lasts, StartsAnew, count_readings, first_readings, is_reading}
use Rattle.js_relex.specs.LiveLists.{joined_live, live_from, live_lengths, live_up_to, more_lengths, reads_on}
use Rattle.js_relex.specs.LiveLists.{found_length, row_readings, total_found}
use Rattle.js_relex.specs.declared.live.FoundList.{FoundList}
use Rattle.js_relex.specs.declared.live.FoundList.TheVariants.{Diagnostics, Deferred, Comments, Irregular, Warnings}
use Rattle.js_relex.specs.declared.live.LiveLengths.{LiveLengths}
use Rattle.js_relex.proofs.LiveInPlace.{all_dropped, all_taken}
use Rattle.js_relex.proofs.LiveRows.{live-append}

-- what is live behind a row of the effect
abbrev behind_row : Effect → Row → Live → Live
behind_row effect row live = (after_row effect row (record { now = live; marks = [] })).now

abbrev one : Bool → ℕ
one b = if b then 1 else 0

-- A token stands at the end, which may be read again.
abbrev HasToken : Live → Type 0
HasToken live = 0 < length live.tokens

-- What is live behind a row is put behind what was live before.
row_joined : (a b : Live) (effect : Effect) (row : Row) → lasts effect ≡ true
    → HasToken b ⊎ (reads_on effect ≡ true)
    → behind_row effect row (joined_live a b) ≡ joined_live a (behind_row effect row b)
row_joined a b (Reads goal) row lasting some =
    same_live (with_outcome (joined_live a b) (outcome_of row)) (joined_live a (with_outcome b (outcome_of row)))
    (append_assoc a.tokens b.tokens (row.token ∷ []))
    (joined-assoc a.findings b.findings (row_findings row))
row_joined a b (ReLexes goal) row lasting (inr reading) = absurd (cc)
row_joined a b (ReLexes goal) row lasting (inl some) = by_taken row.taken
  where
    tokens : (ts : List TokenParts) → 0 < length ts
        → with_last (a.tokens ++ ts) row.token ≡ a.tokens ++ with_last ts row.token
    tokens [] none = absurd (omega (arith, none))
    tokens (t ∷ ts) some = with_last-append a.tokens t ts row.token

    again : Live → Bool → Live
    again live taken =
        (if◌then◌else◌ {A = State} taken
        (record { now = with_re_lexed live (outcome_of row); marks = [] }) (record { now = live; marks = [] })).now

    by_taken : (taken : Bool)
        → (if◌then◌else◌ {A = State} taken
        (record { now = with_re_lexed (joined_live a b) (outcome_of row); marks = [] })
        (record { now = joined_live a b; marks = [] })).now
        ≡ joined_live a (if◌then◌else◌ {A = State} taken
        (record { now = with_re_lexed b (outcome_of row); marks = [] }) (record { now = b; marks = [] })).now
    by_taken true =
        same_live (with_re_lexed (joined_live a b) (outcome_of row)) (joined_live a (with_re_lexed b (outcome_of row)))
        (tokens b.tokens some)
        (joined-assoc a.findings b.findings (row_findings row))
    by_taken false = refl
row_joined a b (Peeks goal) row lasting some = absurd (cc)
row_joined a b Opens row lasting some = absurd (cc)
row_joined a b Rewinds row lasting some = absurd (cc)
row_joined a b Commits row lasting some = absurd (cc)

-- how many tokens are live behind a row
row_tokens : (live : Live) (effect : Effect) (row : Row)
    → length (behind_row effect row live).tokens ≡ length live.tokens + one (reads_on effect)
row_tokens live (Reads goal) row = length-append live.tokens (row.token ∷ [])
row_tokens live (ReLexes goal) row = by_taken row.taken
  where
    by_taken : (taken : Bool)
        → length (if◌then◌else◌ {A = State} taken
        (record { now = with_re_lexed live (outcome_of row); marks = [] })
        (record { now = live; marks = [] })).now.tokens ≡ length live.tokens + 0
    by_taken true = length-with_last live.tokens row.token ∙ (omega arith)
    by_taken false = omega arith
row_tokens live (Peeks goal) row = omega arith
row_tokens live Opens row = omega arith
row_tokens live Rewinds row = omega arith
row_tokens live Commits row = omega arith

-- what is found behind a row
row_found : (live : Live) (effect : Effect) (row : Row) → lasts effect ≡ true
    → (row.taken ≡ false → row_findings row ≡ no_findings)
    → (behind_row effect row live).findings ≡ joined live.findings (row_findings row)
row_found live (Reads goal) row lasting untaken = refl
row_found live (ReLexes goal) row lasting untaken = by_taken row.taken refl
  where
    by_taken : (taken : Bool) → row.taken ≡ taken
        → (if◌then◌else◌ {A = State} taken
        (record { now = with_re_lexed live (outcome_of row); marks = [] })
        (record { now = live; marks = [] })).now.findings ≡ joined live.findings (row_findings row)
    by_taken true is = refl
    by_taken false is = sym (ap (joined live.findings) (untaken is) ∙ joined-none live.findings)
row_found live (Peeks goal) row lasting untaken = absurd (cc)
row_found live Opens row lasting untaken = absurd (cc)
row_found live Rewinds row lasting untaken = absurd (cc)
row_found live Commits row lasting untaken = absurd (cc)

-- Behind rows, where there was a token, or the first of them reads one.
joined_behind : (a b : Live) (rows : List Row) → AllByRecursion Lasts rows → HasToken b ⊎ StartsAnew rows
    → live_behind (joined_live a b) rows ≡ joined_live a (live_behind b rows)
joined_behind a b [] lasted some = refl
joined_behind a b (row ∷ rows) lasted some =
    let effect = row_effect row.command in
    let one = row_joined a b effect row lasted.0.lasting some in
    let count = row_tokens b effect row in
    ap (λ l. live_behind l rows) one
    ∙ joined_behind a (behind_row effect row b) rows lasted.1 (inl (has_token some count))
  where
    has_token : HasToken b ⊎ (is_reading row.command ≡ true)
        → length (behind_row (row_effect row.command) row b).tokens
        ≡ length b.tokens + one (is_reading row.command)
        → HasToken (behind_row (row_effect row.command) row b)
    has_token (inl some) count = omega (arith, some, count)
    has_token (inr reading) count =
        let Reads : one (is_reading row.command) ≡ 1 = ap one reading in
        omega (arith, Reads, count)

-- What rows that start anew make live stands behind what was live.
pub starts_anew : (live : Live) (rows : List Row) → AllByRecursion Lasts rows → StartsAnew rows
    → live_behind live rows ≡ joined_live live (live_behind nothing_live rows)
starts_anew live rows lasted anew =
    let none : joined_live live nothing_live ≡ live =
    same_live (joined_live live nothing_live) live (append-nil live.tokens) (joined-none live.findings) in
    ap (λ l. live_behind l rows) (sym none) ∙ joined_behind live nothing_live rows lasted (inr anew)

same_lengths : (a b : LiveLengths) → a.tokens ≡ b.tokens → a.diagnostics ≡ b.diagnostics → a.deferred ≡ b.deferred
    → a.comments ≡ b.comments → a.irregular ≡ b.irregular → a.warnings ≡ b.warnings → a ≡ b
same_lengths a b tokens diagnostics deferred comments irregular warnings =
    rw (tokens, diagnostics, deferred, comments, irregular, warnings) refl

-- The lengths of the live lists behind rows.
pub lengths_behind : (live : Live) (rows : List Row) → AllByRecursion Lasts rows
    → live_lengths (live_behind live rows) ≡ more_lengths (live_lengths live) (row_readings rows) rows
lengths_behind live [] lasted =
    same_lengths (live_lengths live) (more_lengths (live_lengths live) 0 []) (omega arith) (omega arith) (omega arith)
    (omega arith) (omega arith) (omega arith)
lengths_behind live (row ∷ rows) lasted =
    let effect = row_effect row.command in
    let next = behind_row effect row live in
    let tokens = row_tokens live effect row in
    let readings = sum_by-cons (λ (r : Row). one (is_reading r.command)) row rows in
    let found = row_found live effect row lasted.0.lasting lasted.0.untaken in
    lengths_behind next rows lasted.1
    ∙ same_lengths (more_lengths (live_lengths next) (row_readings rows) rows)
    (more_lengths (live_lengths live) (row_readings (row ∷ rows)) (row ∷ rows))
    (omega (arith, tokens, readings))
    (longer Diagnostics live.findings.diagnostics row.diagnostics next.findings.diagnostics refl
    (ap (λ (f : Findings). f.diagnostics) found))
    (longer Deferred live.findings.deferred row.deferred next.findings.deferred refl
    (ap (λ (f : Findings). f.deferred) found))
    (longer Comments live.findings.comments row.comments next.findings.comments refl
    (ap (λ (f : Findings). f.comments) found))
    (longer Irregular live.findings.irregular row.irregular next.findings.irregular refl
    (ap (λ (f : Findings). f.irregular) found))
    (longer Warnings live.findings.warnings row.warnings next.findings.warnings refl
    (ap (λ (f : Findings). f.warnings) found))
  where
    longer : {A : Type 0} (list : FoundList) (before here all : List A) → length here ≡ found_length list row
        → all ≡ before ++ here
        → length all + total_found list rows ≡ length before + total_found list (row ∷ rows)
    longer list before here all found is =
        let long = ap length is ∙ length-append before here in
        let total = sum_by-cons (found_length list) row rows in
        omega (arith, long, found, total)

-- Rows behind others add to each list.
pub lengths_within : (before more : List Row) → AllByRecursion Lasts more
    → AreWithin (live_lengths (live_behind nothing_live before)) (live_lengths (live_behind nothing_live (before ++ more)))
lengths_within before more lasted =
    let live = live_behind nothing_live before in
    let all : live_lengths (live_behind nothing_live (before ++ more))
    ≡ more_lengths (live_lengths live) (row_readings more) more =
    ap live_lengths (live-append nothing_live before more) ∙ lengths_behind live more lasted in
    subst (AreWithin (live_lengths live)) (sym all)
    (record {
      tokens = omega arith;
      diagnostics = omega arith;
      deferred = omega arith;
      comments = omega arith;
      irregular = omega arith;
      warnings = omega arith;
    })

-- what is live first
pub up_to_front : (a b : Live) → live_up_to (live_lengths a) (joined_live a b) ≡ a
up_to_front a b =
    λ i. record {
      tokens = take-append_seam a.tokens b.tokens i;
      findings = record {
        diagnostics = take-append_seam a.findings.diagnostics b.findings.diagnostics i;
        deferred = take-append_seam a.findings.deferred b.findings.deferred i;
        comments = take-append_seam a.findings.comments b.findings.comments i;
        irregular = take-append_seam a.findings.irregular b.findings.irregular i;
        warnings = take-append_seam a.findings.warnings b.findings.warnings i;
      };
    }

-- and what is live behind it
pub from_rest : (a b : Live) → live_from (live_lengths a) (joined_live a b) ≡ b
from_rest a b =
    λ i. record {
      tokens = drop-append_seam a.tokens b.tokens i;
      findings = record {
        diagnostics = drop-append_seam a.findings.diagnostics b.findings.diagnostics i;
        deferred = drop-append_seam a.findings.deferred b.findings.deferred i;
        comments = drop-append_seam a.findings.comments b.findings.comments i;
        irregular = drop-append_seam a.findings.irregular b.findings.irregular i;
        warnings = drop-append_seam a.findings.warnings b.findings.warnings i;
      };
    }

-- What is live of rows, where those from a place on start anew.
pub split_live : (rows : List Row) (place : ℕ) → AllByRecursion Lasts rows → StartsAnew (drop place rows)
    → live_behind nothing_live rows
    ≡ joined_live (live_behind nothing_live (take place rows)) (live_behind nothing_live (drop place rows))
split_live rows place lasted anew =
    ap (live_behind nothing_live) (sym (take-append-drop place rows))
    ∙ live-append nothing_live (take place rows) (drop place rows)
    ∙ starts_anew (live_behind nothing_live (take place rows)) (drop place rows) (all_dropped Lasts place rows lasted)
    anew

-- Rows that answer commands read as many tokens as these say.
readings_answer : (rows : List Row) (commands : List Command) (n : ℕ)
    → map (λ (row : Row). row.command) rows ≡ map Some commands
    → row_readings (take n rows) ≡ count_readings (take n commands)
readings_answer rows commands zero e = refl
readings_answer [] [] (suc n) e = refl
readings_answer [] (c ∷ cs) (suc n) e = absurd (cc)
readings_answer (row ∷ rows) [] (suc n) e = absurd (cc)
readings_answer (row ∷ rows) (c ∷ cs) (suc n) e =
    let first : row.command ≡ Some c = cc in
    let rest : map (λ (row : Row). row.command) rows ≡ map Some cs = cc in
    let Reads : one (is_reading row.command) ≡ one (is_reading (Some c)) = ap (λ c. one (is_reading c)) first in
    let here = sum_by-cons (λ (r : Row). one (is_reading r.command)) row (take n rows) in
    let there = sum_by-cons (λ (c : Command). one (is_reading (Some c))) c (take n cs) in
    let more = readings_answer rows cs n rest in
    omega (arith, Reads, here, there, more)

pub first_readings_are : (rows : List Row) (commands : List Command) (n : ℕ)
    → map (λ (row : Row). row.command) rows ≡ None ∷ map Some commands
    → first_readings commands n ≡ row_readings (take n rows)
first_readings_are rows commands zero e = refl
first_readings_are [] commands (suc n) e = absurd (cc)
first_readings_are (row ∷ rows) commands (suc n) e =
    let first : row.command ≡ None = cc in
    let rest : map (λ (row : Row). row.command) rows ≡ map Some commands = cc in
    let Reads : one (is_reading row.command) ≡ 1 = ap (λ c. one (is_reading c)) first in
    let here = sum_by-cons (λ (r : Row). one (is_reading r.command)) row (take n rows) in
    let more = readings_answer rows commands n rest in
    omega (arith, Reads, here, more)

-- The lengths at a place, by the commands.
pub lengths_at_place : (rows : List Row) (commands : List Command) (place : ℕ) → AllByRecursion Lasts rows
    → map (λ (row : Row). row.command) rows ≡ None ∷ map Some commands
    → more_lengths (live_lengths nothing_live) (first_readings commands place) (take place rows)
    ≡ live_lengths (live_behind nothing_live (take place rows))
lengths_at_place rows commands place lasted answers =
    ap (λ n. more_lengths (live_lengths nothing_live) n (take place rows)) (first_readings_are rows commands place answers)
    ∙ sym (lengths_behind nothing_live (take place rows) (all_taken Lasts place rows lasted))

-- what stands further on
pub take_further : {A : Type 0} (xs : List A) (n m : ℕ) → n ≤ m → take n xs ++ slice_range xs n m ≡ take m xs
take_further xs n m ordered =
    let whole : n + (m - n) ≡ m = omega (arith, ordered) in
    let within : n ≤ n + (m - n) = omega arith in
    (λ i. sym (take-take n (n + (m - n)) xs within) i ++ sym (drop-take n (m - n) xs) i)
    ∙ take-append-drop n (take (n + (m - n)) xs)
    ∙ ap (λ k. take k xs) whole

-- The lengths at a place, by those at a place before it.
pub lengths_further_on : (rows : List Row) (start end : ℕ) → start ≤ end → AllByRecursion Lasts rows
    → more_lengths (live_lengths (live_behind nothing_live (take start rows))) (row_readings (slice_range rows start end))
    (slice_range rows start end)
    ≡ live_lengths (live_behind nothing_live (take end rows))
lengths_further_on rows start end ordered lasted =
    let front = take start rows in
    let more = slice_range rows start end in
    sym
    (ap (λ rs. live_lengths (live_behind nothing_live rs)) (sym (take_further rows start end ordered))
    ∙ ap live_lengths (live-append nothing_live front more)
    ∙ lengths_behind (live_behind nothing_live front) more
    (all_taken Lasts (end - start) (drop start rows) (all_dropped Lasts start rows lasted)))

-- The lengths at a place are no more than all.
pub place_within : (rows : List Row) (place : ℕ) → AllByRecursion Lasts rows
    → AreWithin (live_lengths (live_behind nothing_live (take place rows)))
    (live_lengths (live_behind nothing_live rows))
place_within rows place lasted =
    subst (λ rs. AreWithin (live_lengths (live_behind nothing_live (take place rows)))
    (live_lengths (live_behind nothing_live rs))) (take-append-drop place rows)
    (lengths_within (take place rows) (drop place rows) (all_dropped Lasts place rows lasted))

-- No more rows read than there are.
readings_few : (rows : List Row) → row_readings rows ≤ length rows
readings_few [] = omega arith
readings_few (row ∷ rows) =
    let here = sum_by-cons (λ (r : Row). one (is_reading r.command)) row rows in
    let more = readings_few rows in
    omega (arith, here, more, at_most_one (is_reading row.command))
  where
    at_most_one : (b : Bool) → one b ≤ 1
    at_most_one true = omega arith
    at_most_one false = omega arith

-- so no more tokens are live than there are rows
pub tokens_few : (rows : List Row) (place : ℕ) → AllByRecursion Lasts rows
    → length (live_behind nothing_live (take place rows)).tokens ≤ length rows
tokens_few rows place lasted =
    let all = lengths_behind nothing_live (take place rows) (all_taken Lasts place rows lasted) in
    let count : length (live_behind nothing_live (take place rows)).tokens ≡ row_readings (take place rows) =
    ap (λ (l : LiveLengths). l.tokens) all ∙ omega arith in
    let few = readings_few (take place rows) in
    let less = length-take place rows in
    omega (arith, count, few, less)
