-- A source and commands have one fault at most.
use Rattle.std.proofs.Common.{◌≡◌, ◌⊎◌, ℕ, List, refl, sym, ◌∙◌, ap, inl, inr, arith, Option, Some, None}
use Rattle.std.proofs.Common.{Result, Ok, Err, OnOk, IfErr, IsOk}
use Rattle.std.specs.Prelude.{false}
use Rattle.js_text.specs.declared.source_type.SourceType.{SourceType}
use Rattle.js_session.specs.declared.command.Command.{Command}
use Rattle.js_session.specs.declared.report.Report.{Report}
use Rattle.js_session.specs.Faults.{IsReadable}
use Rattle.js_session.specs.Report.{ReportOf}
use Rattle.js_session.proofs.Unique.{report_unique}
use Rattle.js_rewrite.specs.Faults.{IsFirstDiagnosed, RewriteCause, first_bad, first_diagnosed}
use Rattle.js_rewrite.specs.declared.fault.RewriteFault.{RewriteFault}
use Rattle.js_rewrite.specs.declared.fault.RewriteFault.TheVariants.{Overlong, NotUtf8, BadCommand, Diagnosed, Memory}

-- A source that can be read, with commands that may stand, and a report in which no row has a diagnostic.
pub record IsSound (source : List ℕ) (t : SourceType) (commands : List Command) : Type 0 where
  pub readable : IsReadable source
  pub no_bad : first_bad t commands ≡ None
  pub report : Report
  pub report_is : ReportOf source t false commands report
  pub clean : first_diagnosed report.rows ≡ None

one_index : (i j : ℕ) (found : Option ℕ) → found ≡ Some i → found ≡ Some j → i ≡ j
one_index i j found e f = let same : Some i ≡ Some j = sym e ∙ f in cc

no_index : {A : Type 0} (i : ℕ) (found : Option ℕ) → found ≡ Some i → found ≡ None → A
no_index i found e f = absurd (let no : Some i ≡ None = sym e ∙ f in cc)

-- the report of one first diagnosed row is that of another
first_of : (source : List ℕ) (t : SourceType) (commands : List Command) (index : ℕ) (report : Report)
    → ReportOf source t false commands report → IsFirstDiagnosed source t commands index
    → first_diagnosed report.rows ≡ Some index
first_of source t commands index report is d =
    ap (λ (r : Report). first_diagnosed r.rows)
    (report_unique source t false commands report d.report is d.report_is) ∙ d.first

pub sound_no_cause : (source : List ℕ) (t : SourceType) (commands : List Command) (fault : RewriteFault)
    → IsSound source t commands → ¬ (RewriteCause source t commands fault)
sound_no_cause source t commands Overlong s c = omega (arith, s.readable.short, c)
sound_no_cause source t commands (NotUtf8 at) s c = c.1 s.readable.utf8
sound_no_cause source t commands (BadCommand i) s c = no_index i (first_bad t commands) c.1 s.no_bad
sound_no_cause source t commands (Diagnosed i) s c =
    no_index i (first_diagnosed s.report.rows) (first_of source t commands i s.report s.report_is c.2) s.clean
sound_no_cause source t commands Memory s c = c

pub cause_unique : (source : List ℕ) (t : SourceType) (commands : List Command) (a b : RewriteFault)
    → RewriteCause source t commands a → RewriteCause source t commands b → a ≡ b
cause_unique source t commands Overlong Overlong c d = refl
cause_unique source t commands Overlong (NotUtf8 j) c d = absurd (omega (arith, c, d.0))
cause_unique source t commands Overlong (BadCommand j) c d = absurd (omega (arith, c, d.0.short))
cause_unique source t commands Overlong (Diagnosed j) c d = absurd (omega (arith, c, d.0.short))
cause_unique source t commands Overlong Memory c d = absurd d
cause_unique source t commands (NotUtf8 i) Overlong c d = absurd (omega (arith, d, c.0))
cause_unique source t commands (NotUtf8 i) (NotUtf8 j) c d = ap NotUtf8 (c.2 ∙ sym d.2)
cause_unique source t commands (NotUtf8 i) (BadCommand j) c d = absurd (c.1 d.0.utf8)
cause_unique source t commands (NotUtf8 i) (Diagnosed j) c d = absurd (c.1 d.0.utf8)
cause_unique source t commands (NotUtf8 i) Memory c d = absurd d
cause_unique source t commands (BadCommand i) Overlong c d = absurd (omega (arith, d, c.0.short))
cause_unique source t commands (BadCommand i) (NotUtf8 j) c d = absurd (d.1 c.0.utf8)
cause_unique source t commands (BadCommand i) (BadCommand j) c d =
    ap BadCommand (one_index i j (first_bad t commands) c.1 d.1)
cause_unique source t commands (BadCommand i) (Diagnosed j) c d = no_index i (first_bad t commands) c.1 d.1
cause_unique source t commands (BadCommand i) Memory c d = absurd d
cause_unique source t commands (Diagnosed i) Overlong c d = absurd (omega (arith, d, c.0.short))
cause_unique source t commands (Diagnosed i) (NotUtf8 j) c d = absurd (d.1 c.0.utf8)
cause_unique source t commands (Diagnosed i) (BadCommand j) c d = no_index j (first_bad t commands) d.1 c.1
cause_unique source t commands (Diagnosed i) (Diagnosed j) c d =
    ap Diagnosed
    (one_index i j (first_diagnosed c.2.report.rows) c.2.first
    (first_of source t commands j c.2.report c.2.report_is d.2))
cause_unique source t commands (Diagnosed i) Memory c d = absurd d
cause_unique source t commands Memory b c d = absurd c

-- Where a fault has its cause, it comes, or a lack of memory is reported.
pub exactly : {A : Type 0} (source : List ℕ) (t : SourceType) (commands : List Command) (result : Result A RewriteFault)
    (fault : RewriteFault) → OnOk result ((fault : RewriteFault) → ¬ (RewriteCause source t commands fault))
    → IfErr result (λ e. (e ≡ Memory) ⊎ RewriteCause source t commands e) → RewriteCause source t commands fault
    → (result ≡ Err fault) ⊎ (result ≡ Err Memory)
exactly source t commands (Ok a) fault ok cause c = absurd (ok fault c)
exactly source t commands (Err e) fault ok cause c =
    elim cause [
      | inl memory ↦ inr (ap Err memory)
      | inr other ↦ inl (ap Err (cause_unique source t commands e fault other c))
    ]

-- Where nothing is at fault, the source is written anew, or a lack of memory is reported.
pub completely : {A : Type 0} (source : List ℕ) (t : SourceType) (commands : List Command)
    (result : Result A RewriteFault) → IfErr result (λ e. (e ≡ Memory) ⊎ RewriteCause source t commands e)
    → ((fault : RewriteFault) → ¬ (RewriteCause source t commands fault)) → IsOk result ⊎ (result ≡ Err Memory)
completely source t commands (Ok a) cause none = inl refl
completely source t commands (Err e) cause none =
    elim cause [ inl memory ↦ inr (ap Err memory) | inr other ↦ absurd (none e other) ]
