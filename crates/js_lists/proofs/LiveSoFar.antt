-- Which rows are live so far, as commands are answered one by one.
use Rattle.std.proofs.Common.{◌≡◌, true, false, List, [], ◌∷◌, ◌++◌, reverse, refl, sym, ◌∙◌, ap, append-nil}
use Rattle.std.proofs.Common.{append_assoc}
use Rattle.js_session.specs.Effects.{effect_of, is_step}
use Rattle.js_session.specs.declared.command.Effect.TheVariants.{Reads, ReLexes}
use Rattle.js_grammar.specs.declared.goal.Goal.{Goal}
use Rattle.js_session.specs.declared.command.Command.{Command}
use Rattle.js_session.specs.declared.row.Row.{Row}
use Rattle.js_lists.specs.LiveRows.{RowState, live_rows, rows_behind, with_mark, with_row}
use Rattle.js_lists.proofs.LiveLemmas.{rows_mark, rows_step}

-- what is live where no mark is open: these rows, the last one first
abbrev pub unmarked : List Row → RowState
unmarked backward = record { now = backward; marks = [] }

-- Behind the first row these commands were answered by these rows, and this is live: whatever commands and rows follow.
pub record LiveSoFar (first : Row) (commands : List Command) (rows : List Row) (state : RowState) : Type 0 where
  pub follows : (left : List Command) (more : List Row)
      → rows_behind (unmarked (first ∷ [])) (commands ++ left) (rows ++ more) ≡ rows_behind state left more

pub live_first : (first : Row) → LiveSoFar first [] [] (unmarked (first ∷ []))
live_first first = record { follows = λ left more. refl }

-- one more row, which answers a step
pub live_step : (first : Row) (commands : List Command) (rows : List Row) (state now : RowState) (c : Command)
    (row : Row) → is_step c ≡ true → with_row (effect_of c) row state ≡ now
    → LiveSoFar first commands rows state → LiveSoFar first (commands ++ c ∷ []) (rows ++ row ∷ []) now
live_step first commands rows state now c row step is l = record {
  follows =
      λ left more. ap (λ cs. rows_behind (unmarked (first ∷ [])) cs ((rows ++ row ∷ []) ++ more))
      (append_assoc commands (c ∷ []) left)
      ∙ ap (rows_behind (unmarked (first ∷ [])) (commands ++ c ∷ left)) (append_assoc rows (row ∷ []) more)
      ∙ l.follows (c ∷ left) (row ∷ more) ∙ rows_step state c left row more step
      ∙ ap (λ s. rows_behind s left more) is;
}

-- one more command, which gives no row
pub live_mark : (first : Row) (commands : List Command) (rows : List Row) (state now : RowState) (c : Command)
    → is_step c ≡ false → with_mark (effect_of c) state ≡ now
    → LiveSoFar first commands rows state → LiveSoFar first (commands ++ c ∷ []) rows now
live_mark first commands rows state now c step is l = record {
  follows =
      λ left more. ap (λ cs. rows_behind (unmarked (first ∷ [])) cs (rows ++ more))
      (append_assoc commands (c ∷ []) left)
      ∙ l.follows (c ∷ left) more ∙ rows_mark state c left more step ∙ ap (λ s. rows_behind s left more) is;
}

-- one more row, whose token was read on
pub live_on : (first : Row) (commands : List Command) (rows backward : List Row) (c : Command) (goal : Goal) (row : Row)
    → effect_of c ≡ Reads goal → is_step c ≡ true → LiveSoFar first commands rows (unmarked backward)
    → LiveSoFar first (commands ++ c ∷ []) (rows ++ row ∷ []) (unmarked (row ∷ backward))
live_on first commands rows backward c goal row effect step l =
    live_step first commands rows (unmarked backward) (unmarked (row ∷ backward)) c row step
    (ap (λ e. with_row e row (unmarked backward)) effect) l

-- one more row, whose token was read again in the place of the last one
pub live_again : (first : Row) (commands : List Command) (rows before : List Row) (last : Row) (c : Command)
    (goal : Goal) (row : Row) → effect_of c ≡ ReLexes goal → is_step c ≡ true → row.taken ≡ true
    → LiveSoFar first commands rows (unmarked (last ∷ before))
    → LiveSoFar first (commands ++ c ∷ []) (rows ++ row ∷ []) (unmarked (row ∷ before))
live_again first commands rows before last c goal row effect step taken l =
    live_step first commands rows (unmarked (last ∷ before)) (unmarked (row ∷ before)) c row step
    (ap (λ e. with_row e row (unmarked (last ∷ before))) effect ∙ put row taken) l
  where
    put : (row : Row) → row.taken ≡ true
        → with_row (ReLexes goal) row (unmarked (last ∷ before)) ≡ unmarked (row ∷ before)
    put row taken = rw taken refl

-- the live rows behind all commands
pub live_end : (first : Row) (commands : List Command) (rows : List Row) (state : RowState)
    → LiveSoFar first commands rows state → live_rows commands (first ∷ rows) ≡ reverse state.now
live_end first commands rows state l =
    let all : rows_behind (unmarked (first ∷ [])) commands rows ≡ state =
    ap (λ cs. rows_behind (unmarked (first ∷ [])) cs rows) (sym (append-nil commands))
    ∙ ap (rows_behind (unmarked (first ∷ [])) (commands ++ [])) (sym (append-nil rows)) ∙ l.follows [] [] in
    ap (λ (s : RowState). reverse s.now) all
