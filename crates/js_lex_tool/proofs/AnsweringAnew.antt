-- What a run answers that writes its source anew.
use Rattle.std.proofs.Common.{◌≡◌, ℕ, zero, suc, ◌+◌, ◌≤◌, ◌⊎◌, Bool, false, List, [], ◌∷◌, length, arith, refl, sym}
use Rattle.std.proofs.Common.{inl, inr, None, Some, Result, Ok, Err, OnOk, cond, not, subst, ◌∙◌}
use Rattle.std.specs.Prelude.{nat_lt}
use Rattle.std.specs.List.{position, position_or_len}
use Rattle.std.specs.Str.{IsUtf8}
use Rattle.std.proofs.KnownBytes.{Keeps-refl}
use Rattle.std.proofs.lemmas.Bool.Decides.{nat_tests}
use Rattle.js_text.specs.declared.source_type.SourceType.{SourceType}
use Rattle.js_text.specs.declared.source_type.SourceType.TheVariants.{Module, Script, Unambiguous}
use Rattle.js_session.specs.Faults.{SourceCause}
use Rattle.js_session.specs.Report.{ReportOf}
use Rattle.js_session.specs.WholeSource.{nexts}
use Rattle.js_session.specs.declared.command.Command.{Command}
use Rattle.js_session.specs.declared.fault.LexFault.{LexFault}
use Rattle.js_session.specs.declared.fault.LexFault.TheVariants as lex_fault
use Rattle.js_session.specs.declared.report.Report.{Report}
use Rattle.js_session.proofs.Unique.{report_unique}
use Rattle.js_session.proofs.WholeUnique.{whole_unique}
use Rattle.js_auto.specs.Choice.{choice_in}
use Rattle.js_auto.specs.DueLemmas.{each_is_due}
use Rattle.js_choose.proofs.ChosenLemmas.{one_list}
use Rattle.js_rewrite.specs.Faults.{RewriteCause, first_bad, first_diagnosed, may_rewrite}
use Rattle.js_rewrite.specs.declared.fault.RewriteFault.{RewriteFault}
use Rattle.js_rewrite.specs.declared.fault.RewriteFault.TheVariants as rewrite_fault
use Rattle.js_process.specs.Outside.{InTime, OutputState}
use Rattle.js_process.specs.Reads.{most_bytes}
use Rattle.js_process.specs.Status.{CountsFault, number, IsOneOf, HasPassed, Tests}
use Rattle.js_process.specs.Status.Status.{OutOfMemory, WriteFailed, NotUtf8, NoMark, Diagnosed}
use Rattle.js_process.specs.Writing.{Writes}
use Rattle.js_process.proofs.Courses.{InTime-refl}
use Rattle.js_lex_tool.specs.Anew.{KeepsRows, lexes_anew, text_anew}
use Rattle.js_lex_tool.specs.Run.{AnswersAnew, AreMeant, IsDiagnosed, IsRunOver, status_anew, status_of}
use Rattle.js_lex_tool.specs.Words.{MayRewrite}
use Rattle.js_lex_tool.specs.declared.tool.Ran.{Ran}
use Rattle.js_lex_tool.specs.declared.tool.ToolOutcome.{ToolOutcome}
use Rattle.js_lex_tool.specs.declared.words.Commands.{Commands}
use Rattle.js_lex_tool.specs.declared.words.Commands.TheVariants.{Listed, All, Auto}
use Rattle.js_lex_tool.specs.declared.words.Rewriting.{Rewriting}
use Rattle.js_lex_tool.proofs.Answering.{report_over, without_run}

one_more : (m n : ℕ) → m ≡ n → 1 + m ≡ suc n
one_more m n e = omega (arith, e)

no_next_is_bad : (t : SourceType) (n : ℕ) → position_or_len (λ c. not (may_rewrite t c)) (nexts n) ≡ length (nexts n)
no_next_is_bad t zero = refl
no_next_is_bad Module (suc n) = one_more _ _ (no_next_is_bad Module n)
no_next_is_bad Script (suc n) = one_more _ _ (no_next_is_bad Script n)
no_next_is_bad Unambiguous (suc n) = one_more _ _ (no_next_is_bad Unambiguous n)

none_at_end : (n : ℕ) → cond (nat_lt n n) (Some n) None ≡ None
none_at_end n = let no : nat_lt n n ≡ false = grind (arith, nat_tests) in rw no refl

none_passes : {X : Type 0} (p : X → Bool) (xs : List X) → position_or_len p xs ≡ length xs → position p xs ≡ None
none_passes p xs e =
    subst (λ k. cond (nat_lt k (length xs)) (Some k) None ≡ None) (sym e) (none_at_end (length xs))

-- A source of any type is written anew with each `next`.
nexts_allowed : (t : SourceType) (n : ℕ) → first_bad t (nexts n) ≡ None
nexts_allowed t n = none_passes (λ command. not (may_rewrite t command)) (nexts n) (no_next_is_bad t n)

-- Commands that are meant may stand, where the words may.
pub meant_allowed : (commands : Commands) (source : List ℕ) (t : SourceType) (tokens : Bool) (list : List Command)
    (report : Report) → MayRewrite t commands → AreMeant commands source t tokens list report → first_bad t list ≡ None
meant_allowed (Listed listed) source t tokens list report may meant =
    subst (λ l. first_bad t l ≡ None) (sym meant) may
meant_allowed All source t tokens list report may meant =
    subst (λ l. first_bad t l ≡ None) (sym meant.1) (nexts_allowed t meant.0)
meant_allowed Auto source t tokens list report may meant = absurd may

-- Commands that are meant are so by each report of theirs.
pub meant_by_each : (commands : Commands) (source : List ℕ) (t : SourceType) (tokens : Bool) (list : List Command)
    (report other : Report) → AreMeant commands source t tokens list report → ReportOf source t tokens list report
    → ReportOf source t tokens list other → AreMeant commands source t tokens list other
meant_by_each commands source t tokens list report other meant is also =
    subst (AreMeant commands source t tokens list) (report_unique source t tokens list report other is also) meant

-- What is meant has one report.
meant_unique : (commands : Commands) (source : List ℕ) (t : SourceType) (tokens : Bool) (c d : List Command)
    (a b : Report) → AreMeant commands source t tokens c a → ReportOf source t tokens c a
    → AreMeant commands source t tokens d b → ReportOf source t tokens d b → a ≡ b
meant_unique (Listed listed) source t tokens c d a b m r n s =
    report_unique source t tokens listed a b (subst (λ l. ReportOf source t tokens l a) m r)
    (subst (λ l. ReportOf source t tokens l b) n s)
meant_unique All source t tokens c d a b m r n s = (whole_unique source t tokens m.0 n.0 a b m.2 n.2).1
meant_unique Auto source t tokens c d a b m r n s = (one_list choice_in each_is_due source t tokens c d a b m n).1

-- A source that is written anew has no cause of a fault.
pub no_cause : {A : Type 0} (source : List ℕ) (t : SourceType) (commands : List Command) (result : Result A RewriteFault)
    → ((fault : RewriteFault) → RewriteCause source t commands fault
    → (result ≡ Err fault) ⊎ (result ≡ Err rewrite_fault.Memory))
    → OnOk result ((fault : RewriteFault) → ¬ (RewriteCause source t commands fault))
no_cause source t commands (Ok a) exact =
    λ fault cause. elim (exact fault cause) [ inl e ↦ absurd (cc) | inr e ↦ absurd (cc) ]
no_cause source t commands (Err e) exact = tt

-- Where no row of the report has a diagnostic, the source has none.
pub not_diagnosed : (r : Rewriting) (bytes : List ℕ) (list : List Command) (report : Report)
    → AreMeant r.commands bytes r.source_type false list report → ReportOf bytes r.source_type false list report
    → first_bad r.source_type list ≡ None
    → ((fault : RewriteFault) → ¬ (RewriteCause bytes r.source_type list fault)) → ¬ (IsDiagnosed (lexes_anew r) bytes)
not_diagnosed r bytes list report meant is allowed none d =
    let same : d.report ≡ report =
    meant_unique r.commands bytes r.source_type false d.report_is.0 list d.report report d.report_is.1 d.report_is.2
    meant is in
    none (rewrite_fault.Diagnosed d.index) (
      record { short = is.short; utf8 = is.utf8 },
      allowed,
      record {
        report = report;
        report_is = is;
        first = subst (λ (x : Report). first_diagnosed x.rows ≡ Some d.index) same d.first;
      },
    )

-- A run without a report has written nothing; what is left to show are its two tests.
refusal : (r : Rewriting) (bytes : List ℕ) (output : OutputState) (n : ℕ)
    → IsOneOf (OutOfMemory ∷ NotUtf8 ∷ Diagnosed ∷ []) n → Tests NotUtf8 n (¬ (IsUtf8 bytes)) (IsUtf8 bytes)
    → Tests Diagnosed n (IsDiagnosed (lexes_anew r) bytes) (¬ (IsDiagnosed (lexes_anew r) bytes))
    → AnswersAnew r bytes output output (without_run n)
refusal r bytes output n is utf8 rows = record {
  known = grind (arith, is);
  utf8 = utf8;
  rows = rows;
  has_run = (λ some. absurd cc, λ passed. absurd (omega (arith, is, passed)));
  ran = tt;
  text = tt;
  keeps = tt;
  faults = record { rises = λ e. absurd (omega (arith, is, e)); stays = λ _. refl };
  in_time = InTime-refl output.course;
  quiet = λ _ _. refl;
  memory = λ _. inl (Keeps-refl output.written);
}

-- a run that is out of memory has failed none of the tests, and passed none
at_memory : (r : Rewriting) (bytes : List ℕ) (output : OutputState) → AnswersAnew r bytes output output (without_run 1)
at_memory r bytes output = refusal r bytes output 1 (inl refl)
    (record { fails = λ e. absurd (omega (arith, e)); passes = λ h. absurd (omega (arith, h)) })
    (record { fails = λ e. absurd (omega (arith, e)); passes = λ h. absurd (omega (arith, h)) })

at_no_utf8 : (r : Rewriting) (bytes : List ℕ) (output : OutputState) → ¬ (IsUtf8 bytes)
    → AnswersAnew r bytes output output (without_run 6)
at_no_utf8 r bytes output none = refusal r bytes output 6 (inr (inl refl))
    (record { fails = λ _. none; passes = λ h. absurd (omega (arith, h)) })
    (record { fails = λ e. absurd (omega (arith, e)); passes = λ h. absurd (omega (arith, h)) })

at_source_cause : (r : Rewriting) (bytes : List ℕ) (output : OutputState) (fault : LexFault)
    → length bytes ≤ most_bytes → SourceCause bytes fault
    → AnswersAnew r bytes output output (without_run (number (status_of fault)))
at_source_cause r bytes output lex_fault.Overlong few cause = absurd (omega (arith, few, cause))
at_source_cause r bytes output (lex_fault.NotUtf8 at) few cause = at_no_utf8 r bytes output cause.1
at_source_cause r bytes output (lex_fault.NoMark index) few cause = absurd cause
at_source_cause r bytes output lex_fault.Memory few cause = absurd cause

-- What a fault comes to of the session that finds the commands.
pub at_lex_fault : (r : Rewriting) (bytes : List ℕ) (output : OutputState) (fault : LexFault)
    → length bytes ≤ most_bytes → (fault ≡ lex_fault.Memory) ⊎ SourceCause bytes fault
    → AnswersAnew r bytes output output (without_run (number (status_of fault)))
at_lex_fault r bytes output fault few (inl e) = rw e (at_memory r bytes output)
at_lex_fault r bytes output fault few (inr cause) = at_source_cause r bytes output fault few cause

at_cause : (r : Rewriting) (bytes : List ℕ) (list : List Command) (output : OutputState) (fault : RewriteFault)
    → length bytes ≤ most_bytes → first_bad r.source_type list ≡ None
    → ((report : Report) → ReportOf bytes r.source_type false list report
    → AreMeant r.commands bytes r.source_type false list report)
    → RewriteCause bytes r.source_type list fault
    → AnswersAnew r bytes output output (without_run (number (status_anew fault)))
at_cause r bytes list output rewrite_fault.Overlong few allowed meant cause = absurd (omega (arith, few, cause))
at_cause r bytes list output (rewrite_fault.NotUtf8 at) few allowed meant cause = at_no_utf8 r bytes output cause.1
at_cause r bytes list output (rewrite_fault.BadCommand index) few allowed meant cause =
    absurd (let no : Some index ≡ None = sym cause.1 ∙ allowed in cc)
at_cause r bytes list output (rewrite_fault.Diagnosed index) few allowed meant cause =
    let d = cause.2 in
    refusal r bytes output 9 (inr (inr (inl refl)))
    (record { fails = λ e. absurd (omega (arith, e)); passes = λ _. cause.0.utf8 })
    (record {
      fails = λ _. record {
        report = d.report;
        report_is = (list, meant d.report d.report_is, d.report_is);
        index = index;
        first = d.first;
      };
      passes = λ h. absurd (omega (arith, h));
    })
at_cause r bytes list output rewrite_fault.Memory few allowed meant cause = absurd cause

-- What a fault comes to of the text that is made.
pub at_rewrite_fault : (r : Rewriting) (bytes : List ℕ) (list : List Command) (output : OutputState) (fault : RewriteFault)
    → length bytes ≤ most_bytes → first_bad r.source_type list ≡ None
    → ((report : Report) → ReportOf bytes r.source_type false list report
    → AreMeant r.commands bytes r.source_type false list report)
    → (fault ≡ rewrite_fault.Memory) ⊎ RewriteCause bytes r.source_type list fault
    → AnswersAnew r bytes output output (without_run (number (status_anew fault)))
at_rewrite_fault r bytes list output fault few allowed meant (inl e) = rw e (at_memory r bytes output)
at_rewrite_fault r bytes list output fault few allowed meant (inr cause) =
    at_cause r bytes list output fault few allowed meant cause

-- A run that has made its text has passed both tests, or is out of memory.
pub at_text : (r : Rewriting) (bytes : List ℕ) (ran : Ran) (old new : OutputState) (outcome : ToolOutcome)
    → IsRunOver (lexes_anew r) bytes ran → IsUtf8 bytes → ¬ (IsDiagnosed (lexes_anew r) bytes)
    → KeepsRows bytes r.source_type ran.commands ran.report (text_anew r.rewrite bytes ran.report)
    → (outcome ≡ without_run 1) ⊎ (HasPassed NoMark outcome.status × (outcome.ran ≡ Some ran))
    → Writes (text_anew r.rewrite bytes ran.report) old new outcome.status
    → CountsFault WriteFailed outcome.status old.faults new.faults → InTime old.course new.course
    → AnswersAnew r bytes old new outcome
at_text r bytes ran old new outcome over utf8 clean keeps (inl e) writes faults in_time = record {
  known = rw e (inl refl);
  utf8 = rw e (record { fails = λ h. absurd (omega (arith, h)); passes = λ h. absurd (omega (arith, h)) });
  rows = rw e (record { fails = λ h. absurd (omega (arith, h)); passes = λ h. absurd (omega (arith, h)) });
  has_run = rw e (λ some. absurd cc, λ passed. absurd (omega (arith, passed)));
  ran = rw e tt;
  text = rw e tt;
  keeps = rw e tt;
  faults = faults;
  in_time = in_time;
  quiet = rw e (λ _ other. absurd (other refl));
  memory = λ _. inr (ran.report, report_over (lexes_anew r) bytes ran over, writes.partly);
}
at_text r bytes ran old new outcome over utf8 clean keeps (inr has) writes faults in_time =
    let passed = has.0 in
    let done : HasPassed Diagnosed outcome.status = grind (arith, passed) in
    record {
      known = grind (arith, passed);
      utf8 = record { fails = λ e. absurd (omega (arith, e, passed)); passes = λ _. utf8 };
      rows = record { fails = λ e. absurd (omega (arith, e, passed)); passes = λ _. clean };
      has_run = (λ _. done, λ _. rw has.1 refl);
      ran = rw has.1 over;
      text = rw has.1 writes;
      keeps = rw has.1 keeps;
      faults = faults;
      in_time = in_time;
      quiet = λ other. absurd (other done);
      memory = λ e. absurd (omega (arith, e, passed));
    }
