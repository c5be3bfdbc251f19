-- The tests of a source and of a list of commands.
use Rattle.std.proofs.Common.{◌≡◌, ℕ, ◌+◌, ◌<◌, ◌≤◌, Bool, true, false, cond, List, length, take, get_or, refl}
use Rattle.std.proofs.Common.{◌∙◌, ap, subst, arith, count_by, inl, inr}
use Rattle.std.proofs.lemmas.List.Sums.{count_by_more_no, count_by_more_yes}
use Rattle.std.proofs.lemmas.Bool.{cases_lt}
use Rattle.std.proofs.lemmas.Option.{slice_get_within, get_or_from_slice_get}
use Rattle.js_session.specs.declared.command.Command.{Command}
use Rattle.js_session.specs.Faults.{ClosesNoMark, HasMarks}
use Rattle.js_session.specs.Effects.{opens_one, closes}

-- one more command is counted
count_more_by : (p : Command → Bool) (xs : List Command) (i : ℕ) (d : Command) → i < length xs → (b : Bool)
    → p (get_or xs i d) ≡ b → count_by p (take (i + 1) xs) ≡ count_by p (take i xs) + cond b 1 0
count_more_by p xs i d h true e = count_by_more_yes p xs i d h e
count_more_by p xs i d h false e = omega (arith, count_by_more_no p xs i d h e)

pub count_more : (p : Command → Bool) (xs : List Command) (i : ℕ) (d : Command) → i < length xs
    → count_by p (take (i + 1) xs) ≡ count_by p (take i xs) + cond (p (get_or xs i d)) 1 0
count_more p xs i d h = count_more_by p xs i d h (p (get_or xs i d)) refl

-- Where a command that closes a mark has one to close, no mark too many was closed up to it.
pub none_without : (commands : List Command) (index now : ℕ) (d : Command)
    → (closes (get_or commands index d) ≡ true → 0 < now)
    → now + count_by closes (take index commands) ≡ count_by opens_one (take index commands)
    → ((i : ℕ) → i < index → ¬ (ClosesNoMark commands i))
    → (i : ℕ) → i < index + 1 → ¬ (ClosesNoMark commands i)
none_without commands index now d can balance earlier i below h =
    elim (cases_lt i index) [
      | inl before ↦ earlier i before h
      | inr past ↦
          let there : i ≡ index = omega (arith, past, below) in
          let at : ClosesNoMark commands index = subst (ClosesNoMark commands) there h in
          let some : 0 < now =
          can (ap closes (get_or_from_slice_get commands index at.command d at.here) ∙ at.is_close) in
          absurd (omega (arith, some, balance, at.none_open))
    ]

pub never_without : (commands : List Command) (index : ℕ) → length commands ≤ index
    → ((i : ℕ) → i < index → ¬ (ClosesNoMark commands i)) → HasMarks commands
never_without commands index whole earlier i h =
    earlier i (omega (arith, slice_get_within commands i h.command h.here, whole)) h

-- one command more
pub keeps_count : (commands : List Command) (index marks now : ℕ) (d : Command) → index < length commands
    → now + cond (closes (get_or commands index d)) 1 0 ≡ marks + cond (opens_one (get_or commands index d)) 1 0
    → (closes (get_or commands index d) ≡ true → 0 < marks)
    → (marks + count_by closes (take index commands) ≡ count_by opens_one (take index commands))
    × ((i : ℕ) → i < index → ¬ (ClosesNoMark commands i))
    → (now + count_by closes (take (index + 1) commands) ≡ count_by opens_one (take (index + 1) commands))
    × ((i : ℕ) → i < index + 1 → ¬ (ClosesNoMark commands i))
keeps_count commands index marks now d within some can h =
    let balance : marks + count_by closes (take index commands) ≡ count_by opens_one (take index commands) = h.0 in (
      omega (
        arith,
        balance,
        some,
        count_more closes commands index d within,
        count_more opens_one commands index d within,
      ),
      none_without commands index marks d can h.0 h.1,
    )
