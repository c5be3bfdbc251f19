-- What stands in the lists of a caller behind a call, from what was taken.
use Rattle.std.proofs.Common.{◌≡◌, ◌⊎◌, ℕ, List, refl, sym, ◌∙◌, ap, subst, inl, inr}
use Rattle.std.proofs.Common.{Result, Ok, Err}
use Rattle.std.proofs.lemmas.List.{length-map}
use Rattle.js_text.specs.declared.source_type.SourceType.{SourceType}
use Rattle.js_session.specs.Faults.{HasMarks, SourceCause}
use Rattle.js_session.specs.declared.command.Command.{Command}
use Rattle.js_session.specs.declared.fault.LexFault.{LexFault}
use Rattle.js_session.specs.declared.fault.LexFault.TheVariants.{Overlong, NotUtf8, NoMark, Memory}
use Rattle.js_session.specs.declared.report.Report.{Report}
use Rattle.js_choose.specs.Faults.{ChoiceCause, as_lex_fault}
use Rattle.js_choose.specs.Rules.{Rule}
use Rattle.js_choose.specs.declared.fault.ChoiceFault.{ChoiceFault}
use Rattle.js_choose.specs.declared.fault.ChoiceFault.TheVariants as choice_fault
use Rattle.js_lists.specs.LiveLists.{TakesChosen, TakesCommands, TakesReport, live_found, live_taken}
use Rattle.js_lists.specs.Taken.{BreaksOff}
use Rattle.js_lex_c.specs.Filler.{PutsFound, PutsTaken, token_counts, with_found_counts}
use Rattle.js_lex_c.specs.Held.{Held, StayInPlace, held, no_room, with_findings}
use Rattle.js_lex_c.specs.Lists.{Answers, AreBegun, AreFilled, AreListsOf, Ends, FaultLeaves, FillsOfNumber, Gives}
use Rattle.js_lex_c.specs.Lists.{LexFaultLeaves}
use Rattle.js_lex_c.specs.Lists.{ListsBy, ListsOfCommands, ReportLists, counts_of, lists_of}
use Rattle.js_lex_c.specs.Tokens.{pool, token_records}
use Rattle.js_lex_c.specs.declared.fault.Fault.{Fault}
use Rattle.js_lex_c.specs.declared.fault.Fault.TheVariants.{UnknownSourceType, UnknownCommand, Lex}
use Rattle.js_lex_c.specs.declared.fill.JsCounts.{JsCounts}
use Rattle.js_lex_c.specs.declared.filler.Filler.{Filler}
use Rattle.js_lex_c.proofs.FillLemmas.{filled_nowhere}
use Rattle.js_lex_c.proofs.FillerLemmas.{has_taken, stay_on}

-- The lists are filled with what was taken.
filled_report : (start new : Filler) (commands : List Command) (report : Report) → start.counts ≡ token_counts 0 0
    → TakesReport PutsTaken PutsFound commands report start new
    → AreFilled (lists_of commands report) (held start.out.now) (held new.out.now)
filled_report start new commands report none t =
    let h = has_taken start t.behind (live_taken commands report.rows) none t.takes_each in
    let found = t.after.lists in
    let all = found ∙ ap (with_findings (live_found report)) h.rest in
    record {
      tokens = ap (λ l. l.tokens) found ∙ h.tokens;
      units = ap (λ l. l.units) found ∙ h.units;
      diagnostics = ap (λ l. l.diagnostics) all;
      deferred = ap (λ l. l.deferred) all;
      comments = ap (λ l. l.comments) all;
      irregular = ap (λ l. l.irregular) all;
      warnings = ap (λ l. l.warnings) all;
    }

-- and its items are counted
counted_report : (start new : Filler) (commands : List Command) (report : Report) → start.counts ≡ token_counts 0 0
    → TakesReport PutsTaken PutsFound commands report start new → new.counts ≡ counts_of (lists_of commands report)
counted_report start new commands report none t =
    let h = has_taken start t.behind (live_taken commands report.rows) none t.takes_each in
    t.after.counted ∙ ap (with_found_counts (live_found report)) h.counted ∙ sym (simp length-map refl)

-- Each list stays in its place, and so does the reference to them.
pub record IsInPlace (start now : Filler) : Type 0 where
  pub stay : StayInPlace start.out.now now.out.now
  pub same : now.out.ghost_name ≡ start.out.ghost_name

in_place : (start : Filler) → IsInPlace start start
in_place start = record {
  stay = record {
    tokens = refl;
    units = refl;
    diagnostics = refl;
    deferred = refl;
    comments = refl;
    irregular = refl;
    warnings = refl;
  };
  same = refl;
}

pub stays_report : (start new : Filler) (commands : List Command) (report : Report) → start.counts ≡ token_counts 0 0
    → TakesReport PutsTaken PutsFound commands report start new → IsInPlace start new
stays_report start new commands report none t =
    let h = has_taken start t.behind (live_taken commands report.rows) none t.takes_each in
    record {
      stay = stay_on start.out.now t.behind.out.now new.out.now h.stay t.after.stay;
      same = t.after.same ∙ h.same;
    }

are_lists : (start new : Filler) (commands : List Command) (report : Report)
    → TakesReport PutsTaken PutsFound commands report start new → AreListsOf commands report (lists_of commands report)
are_lists start new commands report t = record { lists_are = refl; tokens_are = t.tokens_are }

-- What was found of a source whose goals are chosen.
pub gives_chosen : (rule : Rule) (source : List ℕ) (t : SourceType) (start new : Filler)
    → start.counts ≡ token_counts 0 0 → TakesChosen PutsTaken PutsFound rule source t start new
    → Gives (ListsBy rule source t) (held start.out.now) (held new.out.now) new.counts
gives_chosen rule source t start new none c = record {
  lists = lists_of c.commands c.report;
  are = record {
    commands = c.commands;
    report = c.report;
    chosen = c.report_is;
    are_lists = are_lists start new c.commands c.report c.taken;
  };
  filled = filled_report start new c.commands c.report none c.taken;
  counted = counted_report start new c.commands c.report none c.taken;
}

-- and of a source and commands
pub gives_followed : (source : List ℕ) (t : SourceType) (commands : List Command) (start new : Filler)
    → start.counts ≡ token_counts 0 0 → HasMarks commands
    → TakesCommands PutsTaken PutsFound commands source t start new
    → Gives (ListsOfCommands source t commands) (held start.out.now) (held new.out.now) new.counts
gives_followed source t commands start new none marks c = record {
  lists = lists_of commands c.report;
  are = record {
    report = c.report;
    report_is = c.report_is;
    are_lists = are_lists start new commands c.report c.taken;
    marks = marks;
  };
  filled = filled_report start new commands c.report none c.taken;
  counted = counted_report start new commands c.report none c.taken;
}

-- Where there is no memory, nothing is written any more.
abbrev pub Stops : Filler → Filler → Type 0
Stops old new = new ≡ old

-- So the lists were begun.
begun : (start new : Filler) → start.counts ≡ token_counts 0 0 → BreaksOff PutsTaken Stops start new
    → AreBegun (held start.out.now) (held new.out.now) × IsInPlace start new
begun start new none b =
    let h = has_taken start b.behind b.taken none b.takes_each in
    let same : new ≡ b.behind = elim b.after [ inl e ↦ e | inr e ↦ e ] in
    subst (λ f. AreBegun (held start.out.now) (held f.out.now) × IsInPlace start f) (sym same) (
      record { taken = b.taken; tokens = h.tokens; units = h.units; rest = h.rest },
      record { stay = h.stay; same = h.same },
    )

-- What there is of a fault: it has its cause and nothing was taken, or there was no memory.
abbrev pub Broken : (LexFault → Type 0) → LexFault → Filler → Filler → Type 0
Broken Causes fault start new =
    ((fault ≡ Memory) × BreaksOff PutsTaken Stops start new) ⊎ (Causes fault × (new ≡ start))

-- What is left then.
pub broken_stays : (Causes : LexFault → Type 0) (fault : LexFault) (start new : Filler)
    → start.counts ≡ token_counts 0 0 → Broken Causes fault start new → IsInPlace start new
broken_stays Causes fault start new none b =
    elim b [
      | inl lacks ↦ (begun start new none lacks.1).1
      | inr found ↦ subst (IsInPlace start) (sym found.1) (in_place start)
    ]

leaves_memory : (Causes : LexFault → Type 0) (fault : LexFault) (start new : Filler) → start.counts ≡ token_counts 0 0
    → (fault ≡ Memory) × BreaksOff PutsTaken Stops start new
    → LexFaultLeaves fault (held start.out.now) (held new.out.now)
leaves_memory Causes fault start new none lacks =
    subst (λ f. LexFaultLeaves f (held start.out.now) (held new.out.now)) (sym lacks.0)
    (begun start new none lacks.1).0

leaves_found : (Causes : LexFault → Type 0) (fault : LexFault) (start new : Filler) → ¬ (Causes Memory)
    → Causes fault → new ≡ start → LexFaultLeaves fault (held start.out.now) (held new.out.now)
leaves_found Causes Overlong start new never cause same = ap (λ f. held f.out.now) same
leaves_found Causes (NotUtf8 at) start new never cause same = ap (λ f. held f.out.now) same
leaves_found Causes (NoMark index) start new never cause same = ap (λ f. held f.out.now) same
leaves_found Causes Memory start new never cause same = absurd (never cause)

pub broken_leaves : (Causes : LexFault → Type 0) (fault : LexFault) (start new : Filler)
    → start.counts ≡ token_counts 0 0 → ¬ (Causes Memory) → Broken Causes fault start new
    → ((fault ≡ Memory) ⊎ Causes fault) × LexFaultLeaves fault (held start.out.now) (held new.out.now)
broken_leaves Causes fault start new none never b =
    elim b [
      | inl lacks ↦ (inl lacks.0, leaves_memory Causes fault start new none lacks)
      | inr found ↦ (inr found.0, leaves_found Causes fault start new never found.0 found.1)
    ]

-- What was found is what is answered.
pub answers : (source_type : ℕ) (Are : ReportLists → Type 0) (Causes : Fault → Type 0)
    (found : Result JsCounts Fault) (answer : ℕ) (old new : Held) (counts : JsCounts)
    → FillsOfNumber source_type Are Causes old new found → Ends found answer counts
    → Answers source_type Are Causes answer old new counts
answers source_type Are Causes (Ok found) answer old new counts is e =
    inl (e.0, subst (Gives Are old new) (sym e.1) is)
answers source_type Are Causes (Err fault) answer old new counts is e =
    inr (record { fault = fault; cause = is.0; number = e.0; leaves = is.1; counted = e.1 })

-- A list without room is filled with nothing.
without_items : (lists : ReportLists) → AreFilled lists no_room no_room
without_items lists = record {
  tokens = sym (filled_nowhere lists.tokens);
  units = sym (filled_nowhere lists.units);
  diagnostics = sym (filled_nowhere lists.diagnostics);
  deferred = sym (filled_nowhere lists.deferred);
  comments = sym (filled_nowhere lists.comments);
  irregular = sym (filled_nowhere lists.irregular);
  warnings = sym (filled_nowhere lists.warnings);
}

leaves_nothing : (fault : Fault) (new : Held) → FaultLeaves fault no_room new → FaultLeaves fault no_room no_room
leaves_nothing UnknownSourceType new e = refl
leaves_nothing (UnknownCommand index) new e = refl
leaves_nothing (Lex Overlong) new e = refl
leaves_nothing (Lex (NotUtf8 at)) new e = refl
leaves_nothing (Lex (NoMark index)) new e = refl
leaves_nothing (Lex Memory) new b = record {
  taken = b.taken;
  tokens = sym (filled_nowhere (token_records 0 b.taken));
  units = sym (filled_nowhere (pool b.taken));
  rest = refl;
}

-- So lists without room are left without items.
pub without_room : (source_type : ℕ) (Are : ReportLists → Type 0) (Causes : Fault → Type 0) (answer : ℕ) (new : Held)
    (counts : JsCounts) → Answers source_type Are Causes answer no_room new counts
    → Answers source_type Are Causes answer no_room no_room counts
without_room source_type Are Causes answer new counts (inl given) =
    inl (
      given.0,
      record {
        lists = given.1.lists;
        are = given.1.are;
        filled = without_items given.1.lists;
        counted = given.1.counted;
      },
    )
without_room source_type Are Causes answer new counts (inr refused) =
    inr (record {
      fault = refused.fault;
      cause = refused.cause;
      number = refused.number;
      leaves = leaves_nothing refused.fault new refused.leaves;
      counted = refused.counted;
    })

-- A fault of a source whose goals are chosen is that of a session.
pub broken_choice : (source : List ℕ) (fault : ChoiceFault) (start new : Filler)
    → ((fault ≡ choice_fault.Memory) × BreaksOff PutsTaken Stops start new)
    ⊎ (ChoiceCause source fault × (new ≡ start))
    → Broken (SourceCause source) (as_lex_fault fault) start new
broken_choice source fault start new b =
    elim b [
      | inl lacks ↦ inl (ap as_lex_fault lacks.0, lacks.1)
      | inr found ↦ inr found
    ]
