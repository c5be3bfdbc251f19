-- A call has one fault at most, so that each cause has its answer.
use Rattle.std.proofs.Common.{◌≡◌, ◌⊎◌, ℕ, zero, suc, ◌<◌, ◌≤◌, List, [], ◌∷◌, length, map, get_or, refl, sym, ◌∙◌, ap}
use Rattle.std.proofs.Common.{subst, arith, inl, inr}
use Rattle.std.proofs.lemmas.Bool.{cases_lt}
use Rattle.std.proofs.lemmas.List.{length-map}
use denote.Enum.Bare.{tag_one}
use Rattle.js_session.specs.Faults.{Cause, HasMarks, IsReadable}
use Rattle.js_session.specs.contracts.command.Command.{the_type as command_type}
use Rattle.js_session.specs.declared.command.Command.{Command}
use Rattle.js_choose.specs.Rules.{Rule}
use Rattle.js_session.proofs.Causes.{cause_unique, no_commands, sound_no_cause, source_cause}
use Rattle.js_lex_c.specs.Faults.{AutoFaultCause, FirstUnknown, StepsFaultCause, fault_number}
use Rattle.js_lex_c.specs.Held.{Held}
use Rattle.js_lex_c.specs.Lists.{Answers, AutoLists, ListsBy, NumberedLists, ReportLists, StepLists}
use Rattle.js_lex_c.specs.Numbers.{command_number}
use Rattle.js_lex_c.specs.declared.fault.Fault.{Fault}
use Rattle.js_lex_c.specs.declared.fault.Fault.TheVariants.{UnknownSourceType, UnknownCommand, Lex}
use Rattle.js_lex_c.specs.declared.fill.JsCounts.{JsCounts}
use Rattle.js_lex_c.proofs.NumberLemmas.{command_below, source_type_below}

-- What a call answers, where its causes exclude one another and exclude that it gives lists.
exactly : (number : ℕ) (Are : ReportLists → Type 0) (Causes : Fault → Type 0) (answer : ℕ) (old new : Held)
    (counts : JsCounts) → Answers number Are Causes answer old new counts
    → ((lists : ReportLists) (fault : Fault) → Are lists → ¬ (Causes fault))
    → ((a b : Fault) → Causes a → Causes b → a ≡ b)
    → (fault : Fault) → Causes fault → (answer ≡ fault_number fault) ⊎ (answer ≡ 1)
exactly number Are Causes answer old new counts (inl given) none one fault cause =
    absurd (none given.1.lists fault given.1.are cause)
exactly number Are Causes answer old new counts (inr refused) none one fault cause =
    elim refused.cause [
      | inl lacks ↦ inr (refused.number ∙ ap fault_number lacks.memory)
      | inr found ↦ inl (refused.number ∙ ap fault_number (one refused.fault fault found cause))
    ]

-- What it answers where there is no cause.
completely : (number : ℕ) (Are : ReportLists → Type 0) (Causes : Fault → Type 0) (answer : ℕ) (old new : Held)
    (counts : JsCounts) → Answers number Are Causes answer old new counts → ((fault : Fault) → ¬ (Causes fault))
    → (answer ≡ 0) ⊎ (answer ≡ 1)
completely number Are Causes answer old new counts (inl given) none = inl given.0
completely number Are Causes answer old new counts (inr refused) none =
    elim refused.cause [
      | inl lacks ↦ inr (refused.number ∙ ap fault_number lacks.memory)
      | inr found ↦ absurd (none refused.fault found)
    ]

-- An unknown source type is answered by 13, where this is the only cause.
unknown : (number : ℕ) (Are : ReportLists → Type 0) (Causes : Fault → Type 0) (answer : ℕ) (old new : Held)
    (counts : JsCounts) → Answers number Are Causes answer old new counts → ((lists : ReportLists) → ¬ (Are lists))
    → ((fault : Fault) → Causes fault → fault ≡ UnknownSourceType) → 3 ≤ number → answer ≡ 13
unknown number Are Causes answer old new counts (inl given) none one past = absurd (none given.1.lists given.1.are)
unknown number Are Causes answer old new counts (inr refused) none one past =
    elim refused.cause [
      | inl lacks ↦ absurd (omega (arith, lacks.known, past))
      | inr found ↦ refused.number ∙ ap fault_number (one refused.fault found)
    ]

auto_none : (source : List ℕ) (number : ℕ) (fault : Fault) → IsReadable source → number < 3
    → ¬ (AutoFaultCause source number fault)
auto_none source number UnknownSourceType h few cause = absurd (omega (arith, few, cause))
auto_none source number (UnknownCommand index) h few cause = cause
auto_none source number (Lex fault) h few cause =
    sound_no_cause source [] fault h no_commands (source_cause source [] fault cause.1)

auto_one : (source : List ℕ) (number : ℕ) (a b : Fault) → AutoFaultCause source number a
    → AutoFaultCause source number b → a ≡ b
auto_one source number UnknownSourceType UnknownSourceType c d = refl
auto_one source number UnknownSourceType (UnknownCommand j) c d = absurd d
auto_one source number UnknownSourceType (Lex g) c d = absurd (omega (arith, c, d.0))
auto_one source number (UnknownCommand i) b c d = absurd c
auto_one source number (Lex f) UnknownSourceType c d = absurd (omega (arith, d, c.0))
auto_one source number (Lex f) (UnknownCommand j) c d = absurd d
auto_one source number (Lex f) (Lex g) c d =
    ap Lex (cause_unique source [] f g (source_cause source [] f c.1) (source_cause source [] g d.1))

-- Only of a source that is readable, with the number of a source type, there are such lists.
abbrev pub AreOfReadable : (source : List ℕ) (number : ℕ) (Are : ReportLists → Type 0) → Type 0
AreOfReadable source number Are = (lists : ReportLists) → Are lists → IsReadable source × (number < 3)

-- Such are those of a report of a rule.
pub rule_readable : (rule : Rule) (source : List ℕ) (number : ℕ)
    → AreOfReadable source number (NumberedLists (ListsBy rule source) number)
rule_readable rule source number lists are =
    let h = are.are_lists.chosen.report_is in (
      record { short = h.short; utf8 = h.utf8 },
      omega (arith, are.type_is, source_type_below are.source_type),
    )

-- and those of chosen goals
pub auto_readable : (source : List ℕ) (number : ℕ) → AreOfReadable source number (AutoLists source number)
auto_readable source number lists are =
    let h = are.are_lists.chosen.report_is in (
      record { short = h.short; utf8 = h.utf8 },
      omega (arith, are.type_is, source_type_below are.source_type),
    )

-- What a call over a source alone answers.
module _ (source : List ℕ) (number : ℕ) (Are : ReportLists → Type 0) (answer : ℕ) (old new : Held) (counts : JsCounts)
    (sound : AreOfReadable source number Are)
    (a : Answers number Are (AutoFaultCause source number) answer old new counts) where
  pub auto_exactly : (fault : Fault) → AutoFaultCause source number fault
      → (answer ≡ fault_number fault) ⊎ (answer ≡ 1)
  auto_exactly =
      exactly number Are (AutoFaultCause source number) answer old new counts a
      (λ lists fault are. auto_none source number fault (sound lists are).0 (sound lists are).1)
      (auto_one source number)

  pub auto_completely : IsReadable source → number < 3 → (answer ≡ 0) ⊎ (answer ≡ 1)
  auto_completely h few =
      completely number Are (AutoFaultCause source number) answer old new counts a
      (λ fault. auto_none source number fault h few)

  pub auto_unknown : 3 ≤ number → answer ≡ 13
  auto_unknown past =
      unknown number Are (AutoFaultCause source number) answer old new counts a
      (λ lists are. omega (arith, (sound lists are).1, past))
      (λ fault cause. auto_one source number fault UnknownSourceType cause past) past

command_one : (a b : Command) → command_number a ≡ command_number b → a ≡ b
command_one = tag_one command_type tt

-- commands of the same numbers are the same
commands_one : (xs ys : List Command) → map command_number xs ≡ map command_number ys → xs ≡ ys
commands_one [] [] e = refl
commands_one [] (y ∷ ys) e = absurd cc
commands_one (x ∷ xs) [] e = absurd cc
commands_one (x ∷ xs) (y ∷ ys) e =
    let first : command_number x ≡ command_number y = cc in
    let rest : map command_number xs ≡ map command_number ys = cc in
    ap (λ c. c ∷ xs) (command_one x y first) ∙ ap (λ cs. y ∷ cs) (commands_one xs ys rest)

-- the numbers of commands are all known
number_known : (commands : List Command) (index : ℕ) → index < length commands
    → get_or (map command_number commands) index 0 < 13
number_known [] index within = absurd (omega (arith, within))
number_known (c ∷ cs) zero within = command_below c
number_known (c ∷ cs) (suc k) within = number_known cs k (omega (arith, within))

all_known : (numbers : List ℕ) (commands : List Command) (index : ℕ) → map command_number commands ≡ numbers
    → ¬ (FirstUnknown numbers index)
all_known numbers commands index is first =
    let within : index < length commands =
    omega (arith, first.within, ap length is, length-map commands command_number) in
    let low = number_known commands index within in
    omega (arith, low, ap (λ ns. get_or ns index 0) is, first.unknown)

first_one : (numbers : List ℕ) (a b : ℕ) → FirstUnknown numbers a → FirstUnknown numbers b → a ≡ b
first_one numbers a b h g =
    elim (cases_lt a b) [
      | inl before ↦ absurd (omega (arith, g.earlier a before, h.unknown))
      | inr past ↦
          elim (cases_lt b a) [
            | inl before ↦ absurd (omega (arith, h.earlier b before, g.unknown))
            | inr same ↦ omega (arith, past, same)
          ]
    ]

-- commands of these numbers
same_commands : (numbers : List ℕ) (xs ys : List Command) → map command_number xs ≡ numbers
    → map command_number ys ≡ numbers → xs ≡ ys
same_commands numbers xs ys e g = commands_one xs ys (e ∙ sym g)

steps_none : (source : List ℕ) (number : ℕ) (numbers : List ℕ) (commands : List Command) (fault : Fault)
    → IsReadable source → number < 3 → map command_number commands ≡ numbers → HasMarks commands
    → ¬ (StepsFaultCause source number numbers fault)
steps_none source number numbers commands UnknownSourceType h few is marks cause = absurd (omega (arith, few, cause))
steps_none source number numbers commands (UnknownCommand index) h few is marks cause =
    all_known numbers commands index is cause.1
steps_none source number numbers commands (Lex fault) h few is marks cause =
    sound_no_cause source commands fault h marks
    (subst (λ cs. Cause source cs fault) (same_commands numbers cause.1.0 commands cause.1.1 is) cause.1.2)

steps_one : (source : List ℕ) (number : ℕ) (numbers : List ℕ) (a b : Fault) → StepsFaultCause source number numbers a
    → StepsFaultCause source number numbers b → a ≡ b
steps_one source number numbers UnknownSourceType UnknownSourceType c d = refl
steps_one source number numbers UnknownSourceType (UnknownCommand j) c d = absurd (omega (arith, c, d.0))
steps_one source number numbers UnknownSourceType (Lex g) c d = absurd (omega (arith, c, d.0))
steps_one source number numbers (UnknownCommand i) UnknownSourceType c d = absurd (omega (arith, d, c.0))
steps_one source number numbers (UnknownCommand i) (UnknownCommand j) c d =
    ap UnknownCommand (first_one numbers i j c.1 d.1)
steps_one source number numbers (UnknownCommand i) (Lex g) c d = absurd (all_known numbers d.1.0 i d.1.1 c.1)
steps_one source number numbers (Lex f) UnknownSourceType c d = absurd (omega (arith, d, c.0))
steps_one source number numbers (Lex f) (UnknownCommand j) c d = absurd (all_known numbers c.1.0 j c.1.1 d.1)
steps_one source number numbers (Lex f) (Lex g) c d =
    ap Lex
    (cause_unique source c.1.0 f g c.1.2
    (subst (λ cs. Cause source cs g) (same_commands numbers d.1.0 c.1.0 d.1.1 c.1.1) d.1.2))

pub steps_exactly : (source : List ℕ) (number : ℕ) (numbers : List ℕ) (answer : ℕ) (old new : Held) (counts : JsCounts)
    → Answers number (StepLists source number numbers) (StepsFaultCause source number numbers) answer old new counts
    → (fault : Fault) → StepsFaultCause source number numbers fault → (answer ≡ fault_number fault) ⊎ (answer ≡ 1)
steps_exactly source number numbers answer old new counts a =
    exactly number (StepLists source number numbers) (StepsFaultCause source number numbers) answer old new counts a
    (λ lists fault are.
    let h = are.are_lists.report_is in
    steps_none source number numbers are.commands fault (record { short = h.short; utf8 = h.utf8 })
    (omega (arith, are.type_is, source_type_below are.source_type)) are.commands_are are.are_lists.marks)
    (steps_one source number numbers)

pub steps_completely : (source : List ℕ) (number : ℕ) (numbers : List ℕ) (answer : ℕ) (old new : Held)
    (counts : JsCounts)
    → Answers number (StepLists source number numbers) (StepsFaultCause source number numbers) answer old new counts
    → (commands : List Command) → IsReadable source → number < 3 → map command_number commands ≡ numbers
    → HasMarks commands → (answer ≡ 0) ⊎ (answer ≡ 1)
steps_completely source number numbers answer old new counts a commands h few is marks =
    completely number (StepLists source number numbers) (StepsFaultCause source number numbers) answer old new counts a
    (λ fault. steps_none source number numbers commands fault h few is marks)

pub steps_unknown : (source : List ℕ) (number : ℕ) (numbers : List ℕ) (answer : ℕ) (old new : Held) (counts : JsCounts)
    → Answers number (StepLists source number numbers) (StepsFaultCause source number numbers) answer old new counts
    → 3 ≤ number → answer ≡ 13
steps_unknown source number numbers answer old new counts a past =
    unknown number (StepLists source number numbers) (StepsFaultCause source number numbers) answer old new counts a
    (λ lists are. omega (arith, are.type_is, source_type_below are.source_type, past))
    (λ fault cause. steps_one source number numbers fault UnknownSourceType cause past) past
