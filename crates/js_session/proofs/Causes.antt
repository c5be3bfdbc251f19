-- A source and a list of commands have one fault at most.
use Rattle.std.proofs.Common.{◌≡◌, ◌≢◌, ◌⊎◌, ℕ, List, [], refl, sym, ◌∙◌, ap, arith, inl, inr}
use Rattle.std.proofs.Common.{Result, Ok, Err, OnOk, IfErr, IsOk, subst}
use Rattle.std.proofs.lemmas.Bool.{cases_lt}
use Rattle.std.proofs.lemmas.Result.{on_ok_weaker}
use Rattle.js_session.specs.declared.command.Command.{Command}
use Rattle.js_session.specs.declared.fault.LexFault.{LexFault}
use Rattle.js_session.specs.declared.fault.LexFault.TheVariants.{Overlong, NotUtf8, NoMark, Memory}
use Rattle.js_session.specs.Faults.{FirstWithoutMark, HasMarks, IsReadable, SourceCause, Cause}

mark_unique : (commands : List Command) (a b : ℕ) → FirstWithoutMark commands a → FirstWithoutMark commands b → a ≡ b
mark_unique commands a b h g =
    elim (cases_lt a b) [
      | inl before ↦ absurd (g.earlier a before h.here)
      | inr past ↦
          elim (cases_lt b a) [
            | inl before ↦ absurd (h.earlier b before g.here)
            | inr same ↦ omega (arith, past, same)
          ]
    ]

-- a source that can be read, with commands that close no mark too many, has no fault
pub sound_no_cause : (source : List ℕ) (commands : List Command) (fault : LexFault) → IsReadable source
    → HasMarks commands → ¬ (Cause source commands fault)
sound_no_cause source commands Overlong h marks c = absurd (omega (arith, h.short, c))
sound_no_cause source commands (NotUtf8 at) h marks c = c.1 h.utf8
sound_no_cause source commands (NoMark i) h marks c = marks i c.1.here
sound_no_cause source commands Memory h marks c = c

pub cause_unique : (source : List ℕ) (commands : List Command) (a b : LexFault) → Cause source commands a
    → Cause source commands b → a ≡ b
cause_unique source commands Overlong Overlong c d = refl
cause_unique source commands Overlong (NotUtf8 j) c d = absurd (omega (arith, c, d.0))
cause_unique source commands Overlong (NoMark j) c d = absurd (omega (arith, c, d.0.short))
cause_unique source commands Overlong Memory c d = absurd d
cause_unique source commands (NotUtf8 i) Overlong c d = absurd (omega (arith, d, c.0))
cause_unique source commands (NotUtf8 i) (NotUtf8 j) c d = ap NotUtf8 (c.2 ∙ sym d.2)
cause_unique source commands (NotUtf8 i) (NoMark j) c d = absurd (c.1 d.0.utf8)
cause_unique source commands (NotUtf8 i) Memory c d = absurd d
cause_unique source commands (NoMark i) Overlong c d = absurd (omega (arith, d, c.0.short))
cause_unique source commands (NoMark i) (NotUtf8 j) c d = absurd (d.1 c.0.utf8)
cause_unique source commands (NoMark i) (NoMark j) c d = ap NoMark (mark_unique commands i j c.1 d.1)
cause_unique source commands (NoMark i) Memory c d = absurd d
cause_unique source commands Memory b c d = absurd c

-- what is a cause in the source is one whatever the commands are
pub source_cause : (source : List ℕ) (commands : List Command) (fault : LexFault) → SourceCause source fault
    → Cause source commands fault
source_cause source commands Overlong c = c
source_cause source commands (NotUtf8 at) c = c
source_cause source commands (NoMark index) c = absurd c
source_cause source commands Memory c = absurd c

-- Where a fault has its cause, it comes, or a lack of memory is reported.
pub exactly : {A : Type 0} (source : List ℕ) (commands : List Command) (result : Result A LexFault) (fault : LexFault)
    → OnOk result (IsReadable source × HasMarks commands)
    → IfErr result (λ e. (e ≡ Memory) ⊎ Cause source commands e) → Cause source commands fault
    → (result ≡ Err fault) ⊎ (result ≡ Err Memory)
exactly source commands (Ok report) fault ok cause c = absurd (sound_no_cause source commands fault ok.0 ok.1 c)
exactly source commands (Err e) fault ok cause c =
    elim cause
    [ inl memory ↦ inr (ap Err memory) | inr other ↦ inl (ap Err (cause_unique source commands e fault other c)) ]

-- Where nothing is at fault, there is a report, or a lack of memory is reported.
pub completely : {A : Type 0} (source : List ℕ) (commands : List Command) (result : Result A LexFault)
    → IfErr result (λ e. (e ≡ Memory) ⊎ Cause source commands e)
    → IsReadable source → HasMarks commands → IsOk result ⊎ (result ≡ Err Memory)
completely source commands (Ok report) cause h marks = inl refl
completely source commands (Err e) cause h marks =
    elim cause
    [ inl memory ↦ inr (ap Err memory) | inr other ↦ absurd (sound_no_cause source commands e h marks other) ]

-- where there are no commands, none closes a mark
pub no_commands : HasMarks []
no_commands i c = absurd (let no = c.here in cc)

-- a cause in the source, or a lack of memory, seen as that of a session without commands
source_causes : {A : Type 0} (source : List ℕ) (result : Result A LexFault)
    → IfErr result (λ e. (e ≡ Memory) ⊎ SourceCause source e) → IfErr result (λ e. (e ≡ Memory) ⊎ Cause source [] e)
source_causes source (Ok whole) cause = tt
source_causes source (Err e) (inl memory) = inl memory
source_causes source (Err e) (inr cause) = inr (source_cause source [] e cause)

pub exactly_source : {A : Type 0} (source : List ℕ) (result : Result A LexFault) (fault : LexFault)
    → OnOk result (IsReadable source) → IfErr result (λ e. (e ≡ Memory) ⊎ SourceCause source e)
    → SourceCause source fault → (result ≡ Err fault) ⊎ (result ≡ Err Memory)
exactly_source source result fault ok cause c =
    exactly source [] result fault (on_ok_weaker result (λ h. (h, no_commands)) ok) (source_causes source result cause)
    (source_cause source [] fault c)

pub completely_source : {A : Type 0} (source : List ℕ) (result : Result A LexFault)
    → IfErr result (λ e. (e ≡ Memory) ⊎ SourceCause source e) → IsReadable source → IsOk result ⊎ (result ≡ Err Memory)
completely_source source result cause h =
    completely source [] result (source_causes source result cause) h no_commands

-- no command closes a mark too many where there are none
pub never_no_mark : {A : Type 0} (source : List ℕ) (result : Result A LexFault) (index : ℕ)
    → IfErr result (λ e. (e ≡ Memory) ⊎ SourceCause source e) → result ≢ Err (NoMark index)
never_no_mark source (Ok whole) index cause e = absurd (cc)
never_no_mark source (Err fault) index (inl memory) e = absurd (cc)
never_no_mark source (Err fault) index (inr cause) e =
    let is : fault ≡ NoMark index = cc in absurd (subst (SourceCause source) is cause)
