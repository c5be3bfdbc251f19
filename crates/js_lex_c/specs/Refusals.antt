-- Why a call about a document does nothing, and what it answers.
use Rattle.std.specs.Prelude.{◌≡◌, ◌⊎◌, ℕ, Result, Ok, Err}
use Rattle.js_session.specs.declared.fault.LexFault.TheVariants as lex_fault
use Rattle.js_lex_c.specs.Faults.{lex_fault_number}
use Rattle.js_lex_c.specs.declared.refusal.Refusal.{Refusal}
use Rattle.js_lex_c.specs.declared.refusal.Refusal.TheVariants.{Lex, UnknownSourceType, BadEdit, NoDocument}
use Rattle.js_lex_c.specs.declared.refusal.Refusal.TheVariants.{UnknownNumber, NothingThere}

abbrev pub no_memory : Refusal
no_memory = Lex lex_fault.Memory

-- what a call answers
abbrev pub refusal_number : Refusal → ℕ
refusal_number (Lex fault) = lex_fault_number fault
refusal_number UnknownSourceType = 13
refusal_number BadEdit = 14
refusal_number NoDocument = 15
refusal_number UnknownNumber = 16
refusal_number NothingThere = 17

-- A call did what it is to do, or was refused for a cause or for want of memory, and left all as it was.
abbrev pub Tries : (Refusal → Type 0) → Type 0 → Type 0 → Result (Unit {0}) Refusal → Type 0
Tries Cause Done Kept (Ok u) = Done
Tries Cause Done Kept (Err refusal) = ((refusal ≡ no_memory) ⊎ Cause refusal) × Kept

-- What a call answers that did it, or was refused.
abbrev pub EndsWith : Result (Unit {0}) Refusal → ℕ → Type 0
EndsWith (Ok u) answer = answer ≡ 0
EndsWith (Err refusal) answer = answer ≡ refusal_number refusal

-- The call answers the number of a refusal, which has its cause or is for want of memory, and has left all as it was.
pub record Declines (Cause : Refusal → Type 0) (Kept : Type 0) (answer : ℕ) : Type 0 where
  pub refusal : Refusal
  pub cause : (refusal ≡ no_memory) ⊎ Cause refusal
  pub number : answer ≡ refusal_number refusal
  pub kept : Kept

-- The call answers 0 and has done what it is to do, or declines.
abbrev pub DoesOr : (Refusal → Type 0) → Type 0 → Type 0 → ℕ → Type 0
DoesOr Cause Done Kept answer = ((answer ≡ 0) × Done) ⊎ Declines Cause Kept answer
