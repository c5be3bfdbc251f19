-- Rows of an edited text, as sessions read them up to the first that joins the old ones.
use Rattle.std.proofs.Common.{◌≡◌, ℕ, suc, ◌+◌, ◌-◌, ◌<◌, ◌≤◌, Bool, true}
use Rattle.std.proofs.Common.{List, [], ◌∷◌, ◌++◌, length, take, drop}
use Rattle.std.proofs.Common.{refl, sym, ◌∙◌, ap, subst, arith, inl, inr, get_or, Some, None}
use Rattle.std.specs.List.{list_all}
use Rattle.std.specs.Str.{IsUtf8}
use Rattle.std.proofs.Math.Seq.{drop-append_seam, drop-cons}
use Rattle.std.proofs.lemmas.List.{length-drop, take-append-drop}
use Rattle.js_text.specs.declared.source_type.SourceType.{SourceType}
use Rattle.js_kind.specs.TokenParts.{TokenParts}
use Rattle.js_session.specs.declared.command.Command.{Command}
use Rattle.js_session.specs.declared.command.Command.TheVariants.{Next}
use Rattle.js_session.specs.declared.row.Row.{Row}
use Rattle.js_session.specs.Effects.{is_lasting}
use Rattle.js_session.specs.Live.{State, nothing_live, state_after, state_after_first}
use Rattle.js_session.specs.Report.{AreRows, IsRow, Run}
use Rattle.js_session.specs.Session.{Begins, RunsFrom, SessionState, resumed, state_behind}
use Rattle.js_session.proofs.LastingRuns.{all_steps}
use Rattle.js_session.proofs.LocalRuns.{run_of_last}
use Rattle.js_session.proofs.RunsOn.{run_resumed}
use Rattle.js_session.proofs.Unique.{row_unique}
use Rattle.js_relex.specs.Joined.{FirstFrom, JoiningState, Joins}
use Rattle.js_relex.specs.Joining.{BreaksBehind, BreaksEdited, BreaksIn, ReadsEdited, ReadsUntil, StepsBroken}
use Rattle.js_relex.specs.Joining.{StepsUntil, index_behind, joined_at}
use Rattle.js_relex.proofs.KeptRows.{KeptAll, drop_lasting, take_lasting}
use Rattle.js_relex.proofs.Relexed.{goes_on, rest_of, whole_rows}
use Rattle.js_relex.proofs.SplitRuns.{run_begins_with, some_row, take_both}

-- the rows that a session has added are those that answer its commands
run_of_rows : (text : List ℕ) (t : SourceType) (collects : Bool) (start : State) (before : List Row)
    (commands : List Command) (s : SessionState) (rows : List Row) → s.rows ≡ before ++ rows
    → RunsFrom text t collects start before commands s → Run text t start commands rows
run_of_rows text t collects start before commands s rows is h =
    subst (Run text t start commands)
    (sym (drop-append_seam before h.rows) ∙ ap (drop (length before)) (sym h.rows_are ∙ is)
    ∙ drop-append_seam before rows)
    h.answers

-- Behind a token, where a session goes on.
record StepsOn (text : List ℕ) (t : SourceType) (token : TokenParts) (commands : List Command) (rows : List Row)
    (new : SessionState) : Type 0 where
  pub rows_are : rows ≡ new.rows
  pub run : Run text t (state_behind token) (take (length rows) commands) rows

steps_on : (text : List ℕ) (t : SourceType) (collects : Bool) (token : TokenParts) (commands : List Command)
    (old new : SessionState) (rows : List Row) → old ≡ resumed text t collects token
    → new.rows ≡ old.rows ++ rows
    → (RunsFrom text t collects (state_behind token) [] [] old
    → RunsFrom text t collects (state_behind token) [] (take (length rows) commands) new)
    → StepsOn text t token commands rows new
steps_on text t collects token commands old new rows is added runs =
    let whole : new.rows ≡ rows = added ∙ ap (λ (s : SessionState). s.rows ++ rows) is in
    record {
      rows_are = sym whole;
      run =
          run_of_rows text t collects (state_behind token) [] (take (length rows) commands) new rows whole
          (runs
          (subst (RunsFrom text t collects (state_behind token) [] []) (sym is) (run_resumed text t collects token)));
    }

pub reads_behind : (text : List ℕ) (t : SourceType) (collects : Bool) (token : TokenParts) (j : JoiningState)
    (commands : List Command) (old new : SessionState) (before now : ℕ) (joined : Bool)
    → old ≡ resumed text t collects token → StepsUntil j commands old new before now joined
    → ReadsUntil text t (state_behind token) j commands new.rows joined
reads_behind text t collects token j commands old new before now joined is h =
    let on =
    steps_on text t collects token commands old new h.rows is h.stepped.rows_are
    (h.stepped.runs text t collects (state_behind token) []) in
    subst (λ rs. ReadsUntil text t (state_behind token) j commands rs joined) on.rows_are
    (record { run = on.run; few = h.stepped.few; first = h.first; all = h.all })

pub ticks_behind : (text : List ℕ) (t : SourceType) (collects : Bool) (token : TokenParts) (j : JoiningState)
    (commands : List Command) (old new : SessionState) (before now : ℕ) (joined : Bool)
    → old ≡ resumed text t collects token → StepsUntil j commands old new before now joined
    → now ≡ before + length new.rows
ticks_behind text t collects token j commands old new before now joined is h =
    let whole : new.rows ≡ h.rows = h.stepped.rows_are ∙ ap (λ (s : SessionState). s.rows ++ h.rows) is in
    h.ticks ∙ ap (λ (rs : List Row). before + length rs) (sym whole)

-- Where a command is left, a row is.
record Begun (rows : List Row) : Type 0 where
  pub next : Row
  pub more : List Row
  pub rows_are : rows ≡ next ∷ more

begun : (text : List ℕ) (t : SourceType) (s : State) (commands : List Command) (n : ℕ) (rows : List Row)
    → list_all is_lasting commands ≡ true → n < length commands → Run text t s (drop n commands) rows → Begun rows
begun text t s commands n [] lasting some run =
    let left = drop-cons commands n Next some in
    absurd
    (some_row text t s (get_or commands n Next) (drop (suc n) commands)
    (subst (λ cs. list_all is_lasting cs ≡ true) left (drop_lasting n commands lasting))
    (subst (λ cs. Run text t s cs []) left run))
begun text t s commands n (row ∷ rows) lasting some run = record { next = row; more = rows; rows_are = refl }

pub breaks_behind : (text : List ℕ) (t : SourceType) (collects : Bool) (token : TokenParts) (j : JoiningState)
    (commands : List Command) (old new : SessionState) (before now : ℕ) → IsUtf8 text
    → list_all is_lasting commands ≡ true → old ≡ resumed text t collects token
    → StepsBroken j commands old new before now → BreaksBehind text t (state_behind token) j commands before now
breaks_behind text t collects token j commands old new before now u lasting is h = λ all run.
    let n = length h.rows in
    let s = state_behind token in
    let on =
    steps_on text t collects token commands old new h.rows is h.stepped.rows_are
    (h.stepped.runs text t collects (state_behind token) []) in
    let rest =
    run_begins_with text t s (take n commands) (drop n commands) h.rows all u (take_lasting n commands lasting) on.run
    (subst (λ cs. Run text t s cs all) (sym (take-append-drop n commands)) run) in
    let left =
    begun text t (state_after s (take n commands) h.rows) commands n rest.behind lasting h.some_left rest.on in
    record {
      rows = h.rows;
      next = left.next;
      more = left.more;
      all_are = rest.all_are ∙ ap (λ rs. h.rows ++ rs) left.rows_are;
      none = h.none;
      ticks = h.ticks;
    }

-- From the start of the text.
record FirstRow (text : List ℕ) (t : SourceType) (collects : Bool) (s : SessionState) (row : Row) : Type 0 where
  pub is_first : IsRow text t nothing_live None row
  pub rows_are : s.rows ≡ row ∷ []
  pub runs : RunsFrom text t collects (state_after_first row) (row ∷ []) [] s

first_row : (text : List ℕ) (t : SourceType) (collects : Bool) (s : SessionState) (b : Begins text t collects s)
    → FirstRow text t collects s b.row
first_row text t collects s b = record {
  is_first = b.is_row;
  rows_are = ap (λ (x : SessionState). x.rows) b.after;
  runs = record {
    text_is = ap (λ (x : SessionState). x.text) b.after;
    type_is = ap (λ (x : SessionState). x.source_type) b.after;
    collects_is = ap (λ (x : SessionState). x.collects) b.after;
    rows = [];
    rows_are = ap (λ (x : SessionState). x.rows) b.after;
    answers = refl;
    state = ap (λ (x : SessionState). x.state) b.after;
  };
}

-- the first row joins the old ones
pub first_joins : (text : List ℕ) (t : SourceType) (collects : Bool) (j : JoiningState) (s : SessionState)
    (b : Begins text t collects s) → Joins j (length j.commands - length j.commands) b.row
    → ReadsEdited text t j 0 s.rows true
first_joins text t collects j s b joins =
    let first = first_row text t collects s b in
    let none : 0 + length (b.row ∷ []) - 1 ≡ 0 = omega arith in
    let start : length j.commands - length j.commands ≡ 0 = omega arith in
    subst (λ rs. ReadsEdited text t j 0 rs true) (sym first.rows_are)
    (record {
      are = subst (λ n. AreRows text t (take n j.commands) (b.row ∷ [])) (sym none) (first.is_first, refl);
      some = omega arith;
      few = omega arith;
      first = inl (subst (λ i. Joins j i b.row) start joins, ap Some none);
      all = λ no. absurd (cc);
    })

-- The rows that a session has read from the start.
record StepsFromFirst (text : List ℕ) (t : SourceType) (j : JoiningState) (row : Row) (rows : List Row)
    (new : SessionState) : Type 0 where
  pub is_first : IsRow text t nothing_live None row
  pub rows_are : row ∷ rows ≡ new.rows
  pub run : Run text t (state_after_first row) (take (length rows) j.commands) rows

steps_from_first : (text : List ℕ) (t : SourceType) (collects : Bool) (j : JoiningState) (old new : SessionState)
    (rows : List Row) (b : Begins text t collects old) → new.rows ≡ old.rows ++ rows
    → (RunsFrom text t collects (state_after_first b.row) (b.row ∷ []) [] old
    → RunsFrom text t collects (state_after_first b.row) (b.row ∷ []) (take (length rows) j.commands) new)
    → StepsFromFirst text t j b.row rows new
steps_from_first text t collects j old new rows b added runs =
    let first = first_row text t collects old b in
    let whole : new.rows ≡ (b.row ∷ []) ++ rows = added ∙ ap (λ rs. rs ++ rows) first.rows_are in
    record {
      is_first = first.is_first;
      rows_are = sym whole;
      run =
          run_of_rows text t collects (state_after_first b.row) (b.row ∷ []) (take (length rows) j.commands) new rows
          whole (runs first.runs);
    }

pub reads_from_start : (text : List ℕ) (t : SourceType) (collects : Bool) (j : JoiningState) (old new : SessionState)
    (before now : ℕ) (joined : Bool) (b : Begins text t collects old)
    → (Joins j (length j.commands - length j.commands) b.row → ⊥)
    → StepsUntil j j.commands old new before now joined → ReadsEdited text t j 0 new.rows joined
reads_from_start text t collects j old new before now joined b none h =
    let steps =
    steps_from_first text t collects j old new h.rows b h.stepped.rows_are
    (h.stepped.runs text t collects (state_after_first b.row) (b.row ∷ [])) in
    let few = h.stepped.few in
    let count : 0 + length (b.row ∷ h.rows) - 1 ≡ length h.rows = omega arith in
    let start : length j.commands - length j.commands ≡ 0 = omega arith in
    let next : index_behind j j.commands ≡ suc 0 = omega arith in
    let last : length j.commands - length j.commands + length h.rows ≡ 0 + length (b.row ∷ h.rows) - 1 =
    omega arith in
    subst (λ rs. ReadsEdited text t j 0 rs joined) steps.rows_are
    (record {
      are =
          subst (λ n. AreRows text t (take n j.commands) (b.row ∷ h.rows)) (sym count) (steps.is_first, steps.run);
      some = omega arith;
      few = omega (arith, few);
      first = inr (
        subst (λ i. Joins j i b.row → ⊥) start none,
        subst (λ i. FirstFrom (Joins j) i h.rows (joined_at joined (0 + length (b.row ∷ h.rows) - 1))) next
            (subst (λ n. FirstFrom (Joins j) (index_behind j j.commands) h.rows (joined_at joined n)) last h.first),
      );
      all = λ no. let all = h.all no in omega (arith, all);
    })

pub ticks_from_start : (text : List ℕ) (t : SourceType) (collects : Bool) (j : JoiningState) (old new : SessionState)
    (start before now : ℕ) (joined : Bool) (b : Begins text t collects old) → before ≡ start + 1
    → StepsUntil j j.commands old new before now joined → now ≡ start + length new.rows
ticks_from_start text t collects j old new start before now joined b one h =
    let whole : new.rows ≡ b.row ∷ h.rows =
    h.stepped.rows_are ∙ ap (λ (s : SessionState). s.rows ++ h.rows) b.after in
    let count = ap length whole in
    let ticks = h.ticks in
    omega (arith, one, count, ticks)

-- Reading broke off before the first row.
pub breaks_at_once : (text : List ℕ) (t : SourceType) (j : JoiningState) (before now : ℕ) → now ≤ before + 1
    → BreaksEdited text t j 0 before now
breaks_at_once text t j before now less = λ all are. by_rows all are
  where
    by_rows : (all : List Row) → AreRows text t j.commands all
        → (behind : List Row) × (all ≡ take 0 j.rows ++ behind) × BreaksIn j 0 before now behind
    by_rows [] are = absurd are
    by_rows (row ∷ rows) are = (
      row ∷ rows,
      refl,
      record { rows = []; next = row; more = rows; all_are = refl; none = refl; ticks = omega (arith, less) },
    )

pub breaks_from_start : (text : List ℕ) (t : SourceType) (collects : Bool) (j : JoiningState)
    (old new : SessionState) (start before now : ℕ) (b : Begins text t collects old) → IsUtf8 text
    → list_all is_lasting j.commands ≡ true → before ≡ start + 1
    → (Joins j (length j.commands - length j.commands) b.row → ⊥)
    → StepsBroken j j.commands old new before now → BreaksEdited text t j 0 start now
breaks_from_start text t collects j old new start before now b u lasting one none h = λ all are. by_rows all are
  where
    n : ℕ
    n = length h.rows

    steps : StepsFromFirst text t j b.row h.rows new
    steps =
        steps_from_first text t collects j old new h.rows b h.stepped.rows_are
        (h.stepped.runs text t collects (state_after_first b.row) (b.row ∷ []))

    by_rows : (all : List Row) → AreRows text t j.commands all
        → (behind : List Row) × (all ≡ take 0 j.rows ++ behind) × BreaksIn j 0 start now behind
    by_rows [] are = absurd are
    by_rows (row ∷ rows) are =
        let same : row ≡ b.row = row_unique text t nothing_live None row b.row u are.0 steps.is_first in
        let s = state_after_first b.row in
        let rest =
        run_begins_with text t s (take n j.commands) (drop n j.commands) h.rows rows u
        (take_lasting n j.commands lasting) steps.run
        (subst (λ cs. Run text t s cs rows) (sym (take-append-drop n j.commands))
        (subst (λ r. Run text t (state_after_first r) j.commands rows) same are.1)) in
        let left =
        begun text t (state_after s (take n j.commands) h.rows) j.commands n rest.behind lasting h.some_left rest.on in
        let begin : length j.commands - length j.commands ≡ 0 = omega arith in
        let next : index_behind j j.commands ≡ suc 0 = omega arith in
        let ticks = h.ticks in (
          row ∷ rows,
          refl,
          record {
            rows = b.row ∷ h.rows;
            next = left.next;
            more = left.more;
            all_are =
                ap (λ r. r ∷ rows) same ∙ ap (λ rs. b.row ∷ rs) (rest.all_are ∙ ap (λ rs. h.rows ++ rs) left.rows_are);
            none = inr (
              subst (λ i. Joins j i b.row → ⊥) begin none,
              subst (λ i. FirstFrom (Joins j) i h.rows None) next h.none,
            );
            ticks = omega (arith, ticks, one);
          },
        )

-- Behind kept rows: which commands are left there.
abbrev left_behind : JoiningState → ℕ → List Command
left_behind j last = take (length j.commands - last) (drop last j.commands)

count_left : (j : JoiningState) (last : ℕ) → length (left_behind j last) ≡ length j.commands - last
count_left j last = ap length (rest_of j.commands last) ∙ length-drop last j.commands

pub reads_kept : (text : List ℕ) (t : SourceType) (j : JoiningState) (last : ℕ) (token : TokenParts) (rows : List Row)
    (joined : Bool) → list_all is_lasting j.commands ≡ true → last ≤ length j.commands
    → KeptAll text t j.commands j.rows last token
    → ReadsUntil text t (state_behind token) j (left_behind j last) rows joined
    → ReadsEdited text t j (last + 1) rows joined
reads_kept text t j last token rows joined lasting fits k h =
    let n = length rows in
    let left = count_left j last in
    let few = h.few in
    let suc_is : suc last ≡ last + 1 = omega arith in
    let count : last + n ≡ last + 1 + n - 1 = omega arith in
    let next : index_behind j (left_behind j last) ≡ last + 1 = omega (arith, left, fits) in
    let end : length j.commands - length (left_behind j last) + n ≡ last + 1 + n - 1 = omega (arith, left, fits) in
    let run : Run text t (state_behind token) (take n (drop last j.commands)) rows =
    subst (λ cs. Run text t (state_behind token) (take n cs) rows) (rest_of j.commands last) h.run in
    record {
      are =
          subst (λ m. AreRows text t (take m j.commands) (take (last + 1) j.rows ++ rows)) count
          (subst (λ cs. AreRows text t cs (take (last + 1) j.rows ++ rows)) (sym (take_both last n j.commands fits))
          (subst (λ m. AreRows text t (take last j.commands ++ take n (drop last j.commands)) (take m j.rows ++ rows))
          suc_is
          (whole_rows text t j.commands (take n (drop last j.commands)) j.rows rows last token lasting
          (take_lasting n (drop last j.commands) (drop_lasting last j.commands lasting)) k run)));
      some = omega arith;
      few = omega (arith, few, left, fits);
      first =
          subst (λ i. FirstFrom (Joins j) i rows (joined_at joined (last + 1 + n - 1))) next
          (subst (λ m. FirstFrom (Joins j) (index_behind j (left_behind j last)) rows (joined_at joined m)) end
          h.first);
      all = λ no. let all = h.all no in omega (arith, all, left, fits);
    }

pub breaks_kept : (text : List ℕ) (t : SourceType) (j : JoiningState) (last : ℕ) (token : TokenParts) (before now : ℕ)
    → IsUtf8 text → list_all is_lasting j.commands ≡ true → last ≤ length j.commands
    → KeptAll text t j.commands j.rows last token
    → BreaksBehind text t (state_behind token) j (left_behind j last) before now
    → BreaksEdited text t j (last + 1) before now
breaks_kept text t j last token before now u lasting fits k h = λ all are. by_rows all are
  where
    s : State
    s = state_after_first k.first

    next : index_behind j (left_behind j last) ≡ last + 1
    next = let left = count_left j last in omega (arith, left, fits)

    front : take (last + 1) j.rows ≡ k.first ∷ take last k.rows
    front =
        let suc_is : last + 1 ≡ suc last = omega arith in
        ap (λ m. take m j.rows) suc_is ∙ ap (take (suc last)) k.all_are

    by_rows : (all : List Row) → AreRows text t j.commands all
        → (behind : List Row) × (all ≡ take (last + 1) j.rows ++ behind) × BreaksIn j (last + 1) before now behind
    by_rows [] are = absurd are
    by_rows (row ∷ rows) are =
        let same : row ≡ k.first = row_unique text t nothing_live None row k.first u are.0 k.is_first in
        let rest =
        run_begins_with text t s (take last j.commands) (drop last j.commands) (take last k.rows) rows u
        (take_lasting last j.commands lasting) k.run
        (subst (λ cs. Run text t s cs rows) (sym (take-append-drop last j.commands))
        (subst (λ r. Run text t (state_after_first r) j.commands rows) same are.1)) in
        let on = goes_on text t j.commands j.rows last token lasting k in
        let behind : Run text t (state_behind token) (drop last j.commands) rest.behind =
        run_of_last text t (state_after s (take last j.commands) (take last k.rows)) (state_behind token) token
        (drop last j.commands) rest.behind (all_steps (drop last j.commands) (drop_lasting last j.commands lasting))
        on.last_is refl rest.on in (
          rest.behind,
          ap (λ r. r ∷ rows) same ∙ ap (λ rs. k.first ∷ rs) rest.all_are ∙ ap (λ rs. rs ++ rest.behind) (sym front),
          subst (λ i. BreaksIn j i before now rest.behind) next
              (h rest.behind
              (subst (λ cs. Run text t (state_behind token) cs rest.behind) (sym (rest_of j.commands last)) behind)),
        )
