-- Rows that are kept, counted one by one.
use Rattle.std.proofs.Common.{◌≡◌, ℕ, suc, ◌+◌, ◌<◌, ◌≤◌, List, [], ◌∷◌, length, drop, refl, sym, subst}
use Rattle.std.proofs.Common.{arith, Some, get_or}
use Rattle.std.proofs.Math.ListN.{drop_of_length-le}
use Rattle.std.proofs.Math.Seq.{drop-cons}
use Rattle.js_session.specs.declared.command.Command.{Command}
use Rattle.js_session.specs.declared.row.Row.{Row}
use Rattle.js_relex.specs.Kept.{IsKeptBehind, MayStay}

-- what is kept behind so many rows is kept behind the first one
abbrev pub KeptFrom : ℕ → List Row → List Command → ℕ → Type 0
KeptFrom start rows commands kept =
    (n : ℕ) → IsKeptBehind start (drop kept rows) (drop kept commands) n → IsKeptBehind start rows commands (kept + n)

none_of_none : (start : ℕ) (commands : List Command) → IsKeptBehind start [] commands 0
none_of_none start commands = refl

no_command_left : (start : ℕ) (rows : List Row) → IsKeptBehind start rows [] 0
no_command_left start [] = refl
no_command_left start (row ∷ rows) = refl

at_end : (start : ℕ) (rows : List Row) (commands : List Command) (kept : ℕ) → KeptFrom start rows commands kept
    → IsKeptBehind start (drop kept rows) (drop kept commands) 0 → IsKeptBehind start rows commands kept
at_end start rows commands kept from h =
    let same : kept + 0 ≡ kept = omega arith in subst (IsKeptBehind start rows commands) same (from 0 h)

pub no_row_more : (start : ℕ) (rows : List Row) (commands : List Command) (kept : ℕ)
    → KeptFrom start rows commands kept → length rows ≤ kept → IsKeptBehind start rows commands kept
no_row_more start rows commands kept from all =
    at_end start rows commands kept from
    (subst (λ rs. IsKeptBehind start rs (drop kept commands) 0) (sym (drop_of_length-le rows all))
    (none_of_none start (drop kept commands)))

pub no_command_more : (start : ℕ) (rows : List Row) (commands : List Command) (kept : ℕ)
    → KeptFrom start rows commands kept → length commands ≤ kept → IsKeptBehind start rows commands kept
no_command_more start rows commands kept from all =
    at_end start rows commands kept from
    (subst (λ cs. IsKeptBehind start (drop kept rows) cs 0) (sym (drop_of_length-le commands all))
    (no_command_left start (drop kept rows)))

pub none_stays : (start : ℕ) (rows : List Row) (commands : List Command) (kept : ℕ) (row : Row) (command : Command)
    → KeptFrom start rows commands kept → kept < length rows → kept < length commands
    → (MayStay start (Some (get_or commands kept command)) (get_or rows kept row) → ⊥)
    → IsKeptBehind start rows commands kept
none_stays start rows commands kept row command from some some_command none =
    at_end start rows commands kept from
    (rw (drop-cons rows kept row some, drop-cons commands kept command some_command) none)

pub one_stays : (start : ℕ) (rows : List Row) (commands : List Command) (kept : ℕ) (row : Row) (command : Command)
    → KeptFrom start rows commands kept → kept < length rows → kept < length commands
    → MayStay start (Some (get_or commands kept command)) (get_or rows kept row)
    → KeptFrom start rows commands (kept + 1)
one_stays start rows commands kept row command from some some_command stays = λ n h.
    let more : kept + suc n ≡ kept + 1 + n = omega arith in
    let behind : suc kept ≡ kept + 1 = omega arith in
    subst (IsKeptBehind start rows commands) more
    (from (suc n)
    (rw (drop-cons rows kept row some, drop-cons commands kept command some_command)
    (stays, subst (λ k. IsKeptBehind start (drop k rows) (drop k commands) n) (sym behind) h)))

pub all_before : (start : ℕ) (rows : List Row) (commands : List Command) → KeptFrom start rows commands 0
all_before start rows commands = λ n h.
    let same : n ≡ 0 + n = omega arith in subst (IsKeptBehind start rows commands) same h
