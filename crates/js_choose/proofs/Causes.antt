-- A source has one fault at most.
use Rattle.std.proofs.Common.{◌≡◌, ◌⊎◌, ℕ, List, [], refl, ap, inl, inr, Result, Ok, Err, OnOk, IfErr, IsOk}
use Rattle.js_session.specs.Faults.{IsReadable}
use Rattle.js_session.proofs.Causes.{cause_unique, sound_no_cause, source_cause, no_commands}
use Rattle.js_choose.specs.Faults.{ChoiceCause, as_lex_fault}
use Rattle.js_choose.specs.declared.fault.ChoiceFault.{ChoiceFault}
use Rattle.js_choose.specs.declared.fault.ChoiceFault.TheVariants.{Overlong, NotUtf8, Memory}

as_lex_fault_injective : (a b : ChoiceFault) → as_lex_fault a ≡ as_lex_fault b → a ≡ b
as_lex_fault_injective Overlong Overlong e = refl
as_lex_fault_injective Overlong (NotUtf8 j) e = absurd cc
as_lex_fault_injective Overlong Memory e = absurd cc
as_lex_fault_injective (NotUtf8 i) Overlong e = absurd cc
as_lex_fault_injective (NotUtf8 i) (NotUtf8 j) e = cc
as_lex_fault_injective (NotUtf8 i) Memory e = absurd cc
as_lex_fault_injective Memory Overlong e = absurd cc
as_lex_fault_injective Memory (NotUtf8 j) e = absurd cc
as_lex_fault_injective Memory Memory e = refl

no_cause : (source : List ℕ) (fault : ChoiceFault) → IsReadable source → ¬ (ChoiceCause source fault)
no_cause source fault h c =
    sound_no_cause source [] (as_lex_fault fault) h no_commands (source_cause source [] (as_lex_fault fault) c)

one_cause : (source : List ℕ) (a b : ChoiceFault) → ChoiceCause source a → ChoiceCause source b → a ≡ b
one_cause source a b c d =
    as_lex_fault_injective a b
    (cause_unique source [] (as_lex_fault a) (as_lex_fault b) (source_cause source [] (as_lex_fault a) c)
    (source_cause source [] (as_lex_fault b) d))

-- Where a fault has its cause, it comes, or a lack of memory is reported.
pub exactly : {A : Type 0} (source : List ℕ) (result : Result A ChoiceFault) (fault : ChoiceFault)
    → OnOk result (IsReadable source) → IfErr result (λ e. (e ≡ Memory) ⊎ ChoiceCause source e)
    → ChoiceCause source fault → (result ≡ Err fault) ⊎ (result ≡ Err Memory)
exactly source (Ok auto) fault ok cause c = absurd (no_cause source fault ok c)
exactly source (Err e) fault ok cause c =
    elim cause
    [ inl memory ↦ inr (ap Err memory) | inr other ↦ inl (ap Err (one_cause source e fault other c)) ]

-- Where the source is not at fault, there is a report, or a lack of memory is reported.
pub completely : {A : Type 0} (source : List ℕ) (result : Result A ChoiceFault)
    → IfErr result (λ e. (e ≡ Memory) ⊎ ChoiceCause source e) → IsReadable source → IsOk result ⊎ (result ≡ Err Memory)
completely source (Ok auto) cause h = inl refl
completely source (Err e) cause h =
    elim cause [ inl memory ↦ inr (ap Err memory) | inr other ↦ absurd (no_cause source e h other) ]
