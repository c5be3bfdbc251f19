-- Commands that are chosen, one after the other, and that there is one list of them for a rule.
use Rattle.std.proofs.Common.{◌≡◌, ℕ, zero, suc, Bool, true, List, [], ◌∷◌, take, refl, sym, ◌∙◌, ap, subst}
use Rattle.std.proofs.Common.{Option, Some, None}
use Rattle.std.specs.Prelude.{MatchBool, slice_get}
use Rattle.std.specs.Str.{IsUtf8}
use Rattle.js_text.specs.declared.source_type.SourceType.{SourceType}
use Rattle.js_kind.specs.TokenParts.{TokenParts}
use Rattle.js_session.specs.declared.command.Command.{Command}
use Rattle.js_session.specs.declared.report.Report.{Report}
use Rattle.js_session.specs.declared.row.Row.{Row}
use Rattle.js_session.specs.Effects.{effect_of, gives_row, is_step}
use Rattle.js_session.specs.Live.{State, after_row, after_mark, nothing_live, state_after, state_after_first}
use Rattle.js_session.specs.Report.{AreRows, HasMark, IsRow, ReportOf, Run}
use Rattle.js_session.proofs.RunLemmas.{state_step}
use Rattle.js_session.proofs.Unique.{report_unique, row_unique}
use Rattle.js_choose.specs.Rules.{AreChosenBy, IsDue, IsRule, ReportBy, Rule}
use Rattle.js_choose.specs.Rules.IsDue.{reads_on, reads_again}

-- what chooses a command behind tokens of a text
abbrev pub Choice : Type 0
Choice = List TokenParts → Option Command

-- each command that is chosen gives a row
abbrev pub ChoosesSteps : Choice → Type 0
ChoosesSteps choice = (tokens : List TokenParts) (c : Command) → choice tokens ≡ Some c → is_step c ≡ true

pub due_is_step : (text : List ℕ) (tokens : List TokenParts) (c : Command) → IsDue text tokens c → is_step c ≡ true
due_is_step text tokens c (reads_on goal effect onward later may) = ap gives_row effect
due_is_step text tokens c (reads_again goal effect final last is_last fit) = ap gives_row effect

pub rule_steps : (rule : Rule) → IsRule rule → (text : List ℕ) → ChoosesSteps (rule text)
rule_steps rule is text tokens c e = due_is_step text tokens c (is text tokens c e)

-- From a state on, each command is the choice behind what is live, and behind the last one there is none.
abbrev pub ChosenFrom : Choice → State → List Command → List Row → Type 0
ChosenFrom choice s [] rows = choice s.now.tokens ≡ None
ChosenFrom choice s (c ∷ cs) [] = ⊥
ChosenFrom choice s (c ∷ cs) (row ∷ rows) =
    (choice s.now.tokens ≡ Some c) × ChosenFrom choice (after_row (effect_of c) row s) cs rows

-- the state behind a command that is chosen, and those after it
chosen_state : (choice : Choice) → ChoosesSteps choice → (s : State) (c : Command) (cs : List Command) (row : Row)
    (rows : List Row)
    → choice s.now.tokens ≡ Some c
    → choice (state_after s (c ∷ cs) (row ∷ rows)).now.tokens
    ≡ choice (state_after (after_row (effect_of c) row s) cs rows).now.tokens
chosen_state choice steps s c cs row rows e =
    ap (λ x. choice x.now.tokens) (state_step s c cs row rows (steps s.now.tokens c e))

each_chosen : (choice : Choice) → ChoosesSteps choice → (s : State) (commands : List Command) (rows : List Row)
    → ChosenFrom choice s commands rows
    → (index : ℕ) (command : Command) → slice_get commands index ≡ Some command
    → choice (state_after s (take index commands) rows).now.tokens ≡ Some command
each_chosen choice steps s [] rows h index command e = absurd cc
each_chosen choice steps s (c ∷ cs) [] h index command e = absurd h
each_chosen choice steps s (c ∷ cs) (row ∷ rows) h zero command e = h.0 ∙ e
each_chosen choice steps s (c ∷ cs) (row ∷ rows) h (suc index) command e =
    chosen_state choice steps s c (take index cs) row rows h.0
    ∙ each_chosen choice steps (after_row (effect_of c) row s) cs rows h.1 index command e

stops_chosen : (choice : Choice) → ChoosesSteps choice → (s : State) (commands : List Command) (rows : List Row)
    → ChosenFrom choice s commands rows
    → choice (state_after s commands rows).now.tokens ≡ None
stops_chosen choice steps s [] rows h = h
stops_chosen choice steps s (c ∷ cs) [] h = absurd h
stops_chosen choice steps s (c ∷ cs) (row ∷ rows) h =
    chosen_state choice steps s c cs row rows h.0 ∙ stops_chosen choice steps (after_row
    (effect_of c) row s) cs rows h.1

pub are_chosen : (choice : Choice) → ChoosesSteps choice → (row : Row) (commands : List Command) (rows : List Row)
    → ChosenFrom choice (state_after_first row) commands rows → AreChosenBy choice commands (row ∷ rows)
are_chosen choice steps row commands rows h = record {
  each = each_chosen choice steps (state_after_first row) commands rows h;
  stops = stops_chosen choice steps (state_after_first row) commands rows h;
}

-- what answers commands, of which the first is a step
run_first : (text : List ℕ) (t : SourceType) (s : State) (c : Command) (cs : List Command) (row : Row)
    (rows : List Row) → is_step c ≡ true → Run text t s (c ∷ cs) (row ∷ rows)
    → IsRow text t s.now (Some c) row × Run text t (after_row (effect_of c) row s) cs rows
run_first text t s c cs row rows e h =
    subst (λ b. MatchBool b (IsRow text t s.now (Some c) row × Run text t (after_row (effect_of c) row s) cs rows)
    (HasMark c s × Run text t (after_mark (effect_of c) s) cs (row ∷ rows))) e h

run_some : (text : List ℕ) (t : SourceType) (s : State) (c : Command) (cs : List Command) → is_step c ≡ true
    → ¬ (Run text t s (c ∷ cs) [])
run_some text t s c cs e h =
    subst (λ b. MatchBool b ⊥ (HasMark c s × Run text t (after_mark (effect_of c) s) cs [])) e h

-- Rows that answer commands which are chosen, as lists know it, are chosen one after the other.
pub chosen_from : (choice : Choice) → ChoosesSteps choice → (text : List ℕ) (t : SourceType) (s : State)
    (commands : List Command) (rows : List Row)
    → Run text t s commands rows
    → ((index : ℕ) (command : Command) → slice_get commands index ≡ Some command
    → choice (state_after s (take index commands) rows).now.tokens ≡ Some command)
    → choice (state_after s commands rows).now.tokens ≡ None → ChosenFrom choice s commands rows
chosen_from choice steps text t s [] rows h each stops = stops
chosen_from choice steps text t s (c ∷ cs) [] h each stops =
    run_some text t s c cs (steps s.now.tokens c (each 0 c refl)) h
chosen_from choice steps text t s (c ∷ cs) (row ∷ rows) h each stops =
    let first : choice s.now.tokens ≡ Some c = each 0 c refl in
    let run = run_first text t s c cs row rows (steps s.now.tokens c first) h in (
      first,
      chosen_from choice steps text t (after_row (effect_of c) row s) cs rows run.1
          (λ index command e.
          sym (chosen_state choice steps s c (take index cs) row rows first) ∙ each (suc index) command e)
          (sym (chosen_state choice steps s c cs row rows first) ∙ stops),
    )

-- two lists of commands that are chosen from one state on
chosen_unique : (choice : Choice) → ChoosesSteps choice → (text : List ℕ) (t : SourceType) (s : State)
    (cs ds : List Command) (xs ys : List Row) → IsUtf8 text
    → Run text t s cs xs → Run text t s ds ys → ChosenFrom choice s cs xs → ChosenFrom choice s ds ys → cs ≡ ds
chosen_unique choice steps text t s [] [] xs ys u h g p q = refl
chosen_unique choice steps text t s [] (d ∷ ds) xs [] u h g p q = absurd q
chosen_unique choice steps text t s [] (d ∷ ds) xs (y ∷ ys) u h g p q = absurd (let no : None ≡ Some d = sym p
    ∙ q.0 in cc)
chosen_unique choice steps text t s (c ∷ cs) ds [] ys u h g p q = absurd p
chosen_unique choice steps text t s (c ∷ cs) [] (x ∷ xs) ys u h g p q = absurd (let no : None ≡ Some c = sym q
    ∙ p.0 in cc)
chosen_unique choice steps text t s (c ∷ cs) (d ∷ ds) (x ∷ xs) [] u h g p q = absurd q
chosen_unique choice steps text t s (c ∷ cs) (d ∷ ds) (x ∷ xs) (y ∷ ys) u h g p q =
    let some : Some d ≡ Some c = sym q.0 ∙ p.0 in
    let same : d ≡ c = cc in
    let is_step_c = steps s.now.tokens c p.0 in
    let first = run_first text t s c cs x xs is_step_c h in
    let other = run_first text t s c ds y ys is_step_c (subst (λ k. Run text t s (k ∷ ds) (y ∷ ys)) same g) in
    let rows : y ≡ x = row_unique text t s.now (Some c) y x u other.0 first.0 in
    let rest = chosen_unique choice steps text t (after_row (effect_of c) x s) cs ds xs ys u first.1
    (subst (λ r. Run text t (after_row (effect_of c) r s) ds ys) rows other.1) p.1
    (subst (λ r. ChosenFrom choice (after_row (effect_of c) r s) ds ys) rows
    (subst (λ k. ChosenFrom choice (after_row (effect_of k) y s) ds ys) same q.1)) in
    ap (λ k. k ∷ cs) (sym same) ∙ ap (λ l. d ∷ l) rest

commands_unique : (choice : Choice) → ChoosesSteps choice → (text : List ℕ) (t : SourceType) (cs ds : List Command)
    (xs ys : List Row) → IsUtf8 text
    → AreRows text t cs xs → AreRows text t ds ys → AreChosenBy choice cs xs → AreChosenBy choice ds ys → cs ≡ ds
commands_unique choice steps text t cs ds [] ys u h g p q = absurd h
commands_unique choice steps text t cs ds (x ∷ xs) [] u h g p q = absurd g
commands_unique choice steps text t cs ds (x ∷ xs) (y ∷ ys) u h g p q =
    let rows : y ≡ x = row_unique text t nothing_live None y x u g.0 h.0 in
    let run = subst (λ r. Run text t (state_after_first r) ds ys) rows g.1 in
    let others = subst (λ r. AreChosenBy choice ds (r ∷ ys)) rows q in
    chosen_unique choice steps text t (state_after_first x) cs ds xs ys u h.1 run
    (chosen_from choice steps text t (state_after_first x) cs xs h.1 p.each p.stops)
    (chosen_from choice steps text t (state_after_first x) ds ys run others.each others.stops)

-- A source has one list of commands that a rule chooses.
pub one_list : (rule : Rule) → IsRule rule → (source : List ℕ) (t : SourceType) (collects : Bool)
    (commands others : List Command) (a b : Report) → ReportBy rule source t collects commands a
    → ReportBy rule source t collects others b → (commands ≡ others) × (a ≡ b)
one_list rule is source t collects commands others a b h g =
    let same = commands_unique (rule source) (rule_steps rule is source) source t commands others a.rows b.rows
    h.report_is.utf8 h.report_is.rows g.report_is.rows h.chosen g.chosen in (
      same,
      report_unique source t collects others a b (subst (λ cs. ReportOf source t collects cs a) same h.report_is)
          g.report_is,
    )
