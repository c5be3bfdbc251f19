-- A source has one fault at most, and it is told at once.
use Rattle.std.proofs.Common.{◌≡◌, ℕ, List, subst, inl, inr, Result, Ok, Err}
use Rattle.js_session.specs.Faults.{IsReadable}
use Rattle.js_choose.proofs.Causes.{exactly}
use Rattle.js_choose.specs.Faults.{ChoiceCause}
use Rattle.js_choose.specs.declared.fault.ChoiceFault.{ChoiceFault}
use Rattle.js_choose.specs.declared.fault.ChoiceFault.TheVariants.{Memory}

-- a source that can be read is at fault for nothing
pub no_fault : {A : Type 0} (a : A) (source : List ℕ) (fault : ChoiceFault) → IsReadable source
    → ¬ (ChoiceCause source fault)
no_fault {A} a source fault h cause =
    let result : Result A ChoiceFault = Ok a in
    elim (exactly source result fault h tt cause)
    [ inl same ↦ (let no : result ≡ Err fault = same in cc) | inr same ↦ (let no : result ≡ Err Memory = same in cc) ]

-- the fault that is told is the one that has its cause
pub one_fault : {A : Type 0} (source : List ℕ) (told fault : ChoiceFault) → ChoiceCause source told
    → ChoiceCause source fault → ◌≡◌ {A = Result A ChoiceFault} (Err told) (Err fault)
one_fault {A} source told fault cause other =
    let result : Result A ChoiceFault = Err told in
    elim (exactly source result fault tt (inr cause) other) [
      | inl same ↦ same
      | inr same ↦ absurd (let memory : told ≡ Memory = cc in subst (ChoiceCause source) memory cause)
    ]
