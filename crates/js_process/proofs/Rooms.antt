-- Reads that ask for as many bytes as they are to.
use Rattle.std.proofs.Common.{◌≡◌, ℕ, ◌+◌, ◌≤◌, List, ◌++◌, length, take, arith, ap, ◌∙◌, sym, subst}
use Rattle.std.proofs.lemmas.Grind.{common_steps}
use Rattle.std.proofs.lemmas.List.{take-append-le}
use Rattle.js_process.specs.Reads.{AskForRoom, given_by, room_after}
use Rattle.js_process.specs.Reads.AskForRoom.{none, more}
use Rattle.js_process.specs.declared.outside.InAnswer.{InAnswer}
use Rattle.js_process.specs.declared.outside.InAnswer.TheVariants.{Took}

pub no_read : {S : Type 0} (gives : S → ℕ → InAnswer → S → Type 0) (most : ℕ) (start : S) (n : ℕ) → n ≡ 0
    → AskForRoom gives most start n start
no_read gives most start n e = subst (λ k. AskForRoom gives most start k start) (sym e) none

pub one_more_read : {S : Type 0} (gives : S → ℕ → InAnswer → S → Type 0) (most : ℕ) (start last now : S)
    (given room : ℕ) (answer : InAnswer) → AskForRoom gives most start given last → gives last room answer now
    → room ≡ room_after most given → AskForRoom gives most start (given + given_by answer) now
one_more_read gives most start last now given room answer reads g e =
    more given last now answer reads (subst (λ r. gives last r answer now) e g)

-- one more read, that gave some bytes
pub bytes_read : {S : Type 0} (gives : S → ℕ → InAnswer → S → Type 0) (most : ℕ) (start last now : S)
    (given room n all : ℕ) (answer : InAnswer) → AskForRoom gives most start given last → gives last room answer now
    → room ≡ room_after most given → answer ≡ Took n → all ≡ given + n → AskForRoom gives most start all now
bytes_read gives most start last now given room n all answer reads g e took same =
    subst (λ k. AskForRoom gives most start k now) (ap (λ a. given + given_by a) took ∙ sym same)
    (one_more_read gives most start last now given room answer reads g e)

-- bytes with those that a buffer begins with
pub bytes_behind : (all xs ys zs : List ℕ) (n : ℕ) → all ≡ xs ++ take n (ys ++ zs) → n ≤ length ys
    → all ≡ xs ++ take n ys
bytes_behind all xs ys zs n e few = e ∙ ap (λ us. xs ++ us) (take-append-le n ys zs few)

-- how many there are
pub length_behind : (all xs ys : List ℕ) (n : ℕ) → all ≡ xs ++ take n ys → n ≤ length ys → length all ≡ length xs + n
length_behind all xs ys n e few =
    let more : length (xs ++ take n ys) ≡ length xs + n = grind (arith, common_steps) in
    ap length e ∙ more
