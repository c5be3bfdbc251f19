-- What is known where a test passes nowhere in a list.
use Rattle.std.proofs.Common.{◌≡◌, ℕ, ◌+◌, ◌≤◌, Bool, true, false, not, ◌==◌, List, [], ◌∷◌, length, refl}
use Rattle.std.proofs.Common.{zero, suc, ◌∙◌, ap, arith, Some, None, cond}
use Rattle.std.specs.Prelude.{nat_lt, slice_get}
use Rattle.std.specs.List.{AllByRecursion, list_all, position, position_or_len, prefix_len}
use Rattle.std.proofs.lemmas.Bool.{eqb-true}
use Rattle.std.proofs.lemmas.Bool.Decides.{nat_tests}
use Rattle.js_text.specs.declared.source_type.SourceType.{SourceType}
use Rattle.js_session.specs.declared.command.Command.{Command}
use Rattle.js_session.specs.declared.row.Row.{Row}
use Rattle.js_session.specs.Effects.{closes, closes_mark, effect_of, is_lasting, lasts}
use Rattle.js_session.specs.declared.command.Effect.{Effect}
use Rattle.js_session.specs.declared.command.Effect.TheVariants.{Reads, Peeks, ReLexes, Opens, Rewinds, Commits}
use Rattle.js_session.specs.Faults.{HasMarks}
use Rattle.std.proofs.lemmas.Bool.{and_parts}
use Rattle.js_rewrite.specs.Faults.{first_bad, first_diagnosed, may_rewrite}

whole_prefix : {X : Type 0} (p : X → Bool) (xs : List X) → length xs ≤ prefix_len p xs → list_all p xs ≡ true
whole_prefix p [] h = refl
whole_prefix p (x ∷ xs) h = by_test (whole_prefix p xs) (p x) refl
  where
    by_test : (length xs ≤ prefix_len p xs → list_all p xs ≡ true) → (b : Bool) → p x ≡ b
        → list_all p (x ∷ xs) ≡ true
    by_test later true e = rw e (later (let more : length (x ∷ xs) ≤ 1 + prefix_len p xs = rw e at h in omega arith))
    by_test later false e = absurd (let none : length (x ∷ xs) ≤ 0 = rw e at h in omega arith)

-- none passes
none_passes : {X : Type 0} (p : X → Bool) (xs : List X) → position p xs ≡ None
    → list_all (λ x. not (p x)) xs ≡ true
none_passes p xs e = by_test (nat_lt (position_or_len p xs) (length xs)) refl e
  where
    by_test : (b : Bool) → nat_lt (position_or_len p xs) (length xs) ≡ b
        → cond b (Some (position_or_len p xs)) None ≡ None → list_all (λ x. not (p x)) xs ≡ true
    by_test true less f = absurd (let no : Some (position_or_len p xs) ≡ None = f in cc)
    by_test false less f =
        whole_prefix (λ x. not (p x)) xs
        (let far : length xs ≤ position_or_len p xs = grind (arith, nat_tests) in far)

twice : (b : Bool) → not (not b) ≡ true → b ≡ true
twice true e = refl
twice false e = absurd (cc)

all_twice : {X : Type 0} (p : X → Bool) (xs : List X) → list_all (λ x. not (not (p x))) xs ≡ true
    → list_all p xs ≡ true
all_twice p [] e = refl
all_twice p (x ∷ xs) e =
    let both = and_parts (not (not (p x))) (list_all (λ x. not (not (p x))) xs) e in
    rw (twice (p x) both.0) (all_twice p xs both.1)

-- Where no command is bad, a source may be written anew with each.
pub all_may : (t : SourceType) (commands : List Command) → first_bad t commands ≡ None
    → list_all (may_rewrite t) commands ≡ true
all_may t commands e = all_twice (may_rewrite t) commands (none_passes (λ c. not (may_rewrite t c)) commands e)

-- and so each gives a row which stays
pub all_last : (t : SourceType) (commands : List Command) → first_bad t commands ≡ None
    → list_all is_lasting commands ≡ true
all_last t commands e = each commands (all_may t commands e)
  where
    each : (cs : List Command) → list_all (may_rewrite t) cs ≡ true → list_all is_lasting cs ≡ true
    each [] f = refl
    each (c ∷ cs) f =
        let both = and_parts (may_rewrite t c) (list_all (may_rewrite t) cs) f in
        rw (and_parts (is_lasting c) _ both.0).0 (each cs both.1)

-- what gives a row which stays closes no mark
stays_open : (e : Effect) → lasts e ≡ true → closes_mark e ≡ true → ⊥
stays_open (Reads goal) e f = cc
stays_open (Peeks goal) e f = cc
stays_open (ReLexes goal) e f = cc
stays_open Opens e f = cc
stays_open Rewinds e f = cc
stays_open Commits e f = cc

-- and no command closes a mark
pub none_closes : (t : SourceType) (commands : List Command) → first_bad t commands ≡ None → HasMarks commands
none_closes t commands e i h = each commands (all_last t commands e) i h.command h.here h.is_close
  where
    each : (cs : List Command) → list_all is_lasting cs ≡ true → (i : ℕ) (c : Command) → slice_get cs i ≡ Some c
        → closes c ≡ true → ⊥
    each [] f i c here closed = cc
    each (d ∷ ds) f zero c here closed =
        let same : d ≡ c = cc in
        stays_open (effect_of d) (and_parts (is_lasting d) (list_all is_lasting ds) f).0 (ap closes same ∙ closed)
    each (d ∷ ds) f (suc i) c here closed =
        each ds (and_parts (is_lasting d) (list_all is_lasting ds) f).1 i c here closed

no_length : {X : Type 0} (xs : List X) → (length xs == 0) ≡ true → xs ≡ []
no_length [] e = refl
no_length (x ∷ xs) e = absurd (omega (arith, eqb-true (length (x ∷ xs)) 0 e))

-- Where no row is the first with a diagnostic, none has one.
pub all_quiet : (rows : List Row) → first_diagnosed rows ≡ None
    → AllByRecursion (λ (row : Row). row.diagnostics ≡ []) rows
all_quiet rows e =
    each rows (all_twice (λ (row : Row). length row.diagnostics == 0) rows
    (none_passes (λ (row : Row). not (length row.diagnostics == 0)) rows e))
  where
    each : (rows : List Row) → list_all (λ (row : Row). length row.diagnostics == 0) rows ≡ true
        → AllByRecursion (λ (row : Row). row.diagnostics ≡ []) rows
    each [] f = tt
    each (row ∷ rows) f =
        let both =
        and_parts (length row.diagnostics == 0)
        (list_all (λ (row : Row). length row.diagnostics == 0) rows) f in
        (no_length row.diagnostics both.0, each rows both.1)
