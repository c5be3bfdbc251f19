-- A source without a diagnostic may be written anew with the commands that are chosen by its tokens.
use Rattle.std.proofs.Common.{◌≡◌, ℕ, zero, suc, ◌+◌, Bool, true, false, not, List, [], ◌∷◌, ◌++◌, length, refl, sym, ◌∙◌, ap}
use Rattle.std.proofs.Common.{true≢false, append-nil, append_assoc, arith, cond, subst, take, Option, Some, None}
use Rattle.std.specs.Prelude.{◌==◌, MatchBool, if◌then◌else◌, nat_lt, slice_get}
use Rattle.std.specs.List.{flat_map, list_all, position, position_or_len}
use Rattle.std.proofs.lemmas.Bool.{and_parts, eqb-true}
use Rattle.std.proofs.lemmas.Bool.Decides.{nat_tests}
use Rattle.js_text.specs.declared.diagnostic.Diagnostic.{Diagnostic}
use Rattle.js_text.specs.declared.source_type.SourceType.{SourceType}
use Rattle.js_text.specs.declared.source_type.SourceType.TheVariants.{Module, Script, Unambiguous}
use Rattle.js_kind.specs.Predicates.{is_eof}
use Rattle.js_kind.specs.TokenParts.{TokenParts}
use Rattle.js_kind.specs.declared.kind.Kind.{Kind}
use Rattle.js_grammar.specs.Outcome.{Findings}
use Rattle.js_grammar.specs.ReLexed.{fits}
use Rattle.js_grammar.proofs.Reported.{append_nil}
use Rattle.js_lexer.specs.Lexer.{token_or_default}
use Rattle.js_session.specs.declared.command.Command.{Command}
use Rattle.js_session.specs.declared.command.Command.TheVariants.{Next, Regex, TemplateTail}
use Rattle.js_session.specs.declared.command.Effect.{Effect}
use Rattle.js_session.specs.declared.command.Effect.TheVariants.{Reads, Peeks, ReLexes, Opens, Rewinds, Commits}
use Rattle.js_session.specs.declared.report.Report.{Report}
use Rattle.js_session.specs.declared.row.Row.{Row}
use Rattle.js_session.specs.Effects.{effect_of, is_lasting, lasts}
use Rattle.js_session.specs.Live.{Live, State, after_mark, after_row, last_live, state_after, state_after_first, with_re_lexed}
use Rattle.js_session.specs.Live.{live, outcome_of}
use Rattle.js_session.specs.Report.{AreRows, HasMark, IsNotTaken, IsOfEffect, IsReLexed, IsRow, ReportOf, Run}
use Rattle.js_session.proofs.LastingRuns.{lasting_steps}
use Rattle.js_session.proofs.RunLemmas.{state_step}
use Rattle.js_choose.proofs.ChosenLemmas.{one_list}
use Rattle.js_choose.specs.LastTokens.{but_last, kind_before, last_kind}
use Rattle.js_auto.specs.Auto.{ReportOfChosen}
use Rattle.js_auto.specs.Braces.{braces}
use Rattle.js_auto.specs.Choice.{begins_expression, choice, choice_behind, choice_in, ends_substitution}
use Rattle.js_auto.specs.DueLemmas.{each_is_due}
use Rattle.js_auto.specs.declared.brace.Brace.{Brace}
use Rattle.js_rewrite.specs.Faults.{first_bad, may_rewrite}
use Rattle.js_rewrite.proofs.Causes.{IsSound}
use Rattle.js_rewrite.proofs.Positions.{all_last}
use Rattle.js_totsenak.specs.Checked.{IsChecked}

-- where a test passes at no place

not_passed : {X : Type 0} (p : X → Bool) (xs : List X)
    → ((i : ℕ) (x : X) → slice_get xs i ≡ Some x → p x ≡ false) → position_or_len p xs ≡ length xs
not_passed p [] none = refl
not_passed p (x ∷ xs) none =
    let first : p x ≡ false = none 0 x refl in
    let later = not_passed p xs (λ i y e. none (suc i) y e) in
    rw first (let more : 1 + position_or_len p xs ≡ suc (length xs) = omega (arith, later) in more)

none_at_end : (n : ℕ) → cond (nat_lt n n) (Some n) None ≡ None
none_at_end n = let no : nat_lt n n ≡ false = grind (arith, nat_tests) in rw no refl

no_position : {X : Type 0} (p : X → Bool) (xs : List X)
    → ((i : ℕ) (x : X) → slice_get xs i ≡ Some x → p x ≡ false) → position p xs ≡ None
no_position p xs none =
    subst (λ k. cond (nat_lt k (length xs)) (Some k) None ≡ None) (sym (not_passed p xs none)) (none_at_end (length xs))

-- the commands that are chosen

next_allowed : (t : SourceType) → not (may_rewrite t Next) ≡ false
next_allowed Module = refl
next_allowed Script = refl
next_allowed Unambiguous = refl

regex_allowed : (t : SourceType) → not (may_rewrite t Regex) ≡ false
regex_allowed Module = refl
regex_allowed Script = refl
regex_allowed Unambiguous = refl

tail_allowed : (t : SourceType) → not (may_rewrite t TemplateTail) ≡ false
tail_allowed Module = refl
tail_allowed Script = refl
tail_allowed Unambiguous = refl

some_is : (c d : Command) → Some c ≡ Some d → c ≡ d
some_is c d e = cc

picked_allowed : (t : SourceType) (eof ends begins : Bool) (c : Command)
    → (if eof then None else if ends then Some TemplateTail else if begins then Some Regex else Some Next) ≡ Some c
    → not (may_rewrite t c) ≡ false
picked_allowed t true ends begins c e = absurd (cc)
picked_allowed t false true begins c e = subst (λ d. not (may_rewrite t d) ≡ false) (some_is _ _ e) (tail_allowed t)
picked_allowed t false false true c e = subst (λ d. not (may_rewrite t d) ≡ false) (some_is _ _ e) (regex_allowed t)
picked_allowed t false false false c e = subst (λ d. not (may_rewrite t d) ≡ false) (some_is _ _ e) (next_allowed t)

behind_allowed : (t : SourceType) (stack : List Brace) (before : Kind) (last : Option Kind) (c : Command)
    → choice_behind stack before last ≡ Some c → not (may_rewrite t c) ≡ false
behind_allowed t stack before None c e = subst (λ d. not (may_rewrite t d) ≡ false) (some_is _ _ e) (next_allowed t)
behind_allowed t stack before (Some last) c e =
    picked_allowed t (is_eof last) (ends_substitution stack last) (begins_expression before last) c e

choice_allowed : (t : SourceType) (tokens : List TokenParts) (c : Command) → choice tokens ≡ Some c
    → not (may_rewrite t c) ≡ false
choice_allowed t tokens c e =
    behind_allowed t (braces (but_last tokens)) (kind_before tokens) (last_kind tokens) c e

-- A source of any type may be written anew with the commands that are chosen for it.
pub chosen_allowed : (source : List ℕ) (t : SourceType) (collects : Bool) (commands : List Command) (report : Report)
    → ReportOfChosen source t collects commands report → first_bad t commands ≡ None
chosen_allowed source t collects commands report is =
    no_position (λ command. not (may_rewrite t command)) commands
    (λ i c here. choice_allowed t (live (take i commands) report.rows).tokens c (is.chosen.each i c here))

-- the diagnostics that are live after rows that stay are those of the rows

re_lexed_diagnostics : (text : List ℕ) (t : SourceType) (row : Row) (s : State) (b : Bool) (P : Type 0)
    → (P → row.taken ≡ true) → MatchBool b P (IsNotTaken s.now row)
    → (if row.taken then record s { now = with_re_lexed s.now (outcome_of row) } else s).now.findings.diagnostics
    ≡ s.now.findings.diagnostics ++ row.diagnostics
re_lexed_diagnostics text t row s true P taken is =
    ap (λ b. (if b then record s { now = with_re_lexed s.now (outcome_of row) } else s).now.findings.diagnostics)
    (taken is)
re_lexed_diagnostics text t row s false P taken is =
    ap (λ b. (if b then record s { now = with_re_lexed s.now (outcome_of row) } else s).now.findings.diagnostics)
    is.taken
    ∙ sym (append-nil s.now.findings.diagnostics)
    ∙ ap (λ ds. s.now.findings.diagnostics ++ ds) (sym (ap (λ found. found.diagnostics) is.findings))

row_diagnostics : (text : List ℕ) (t : SourceType) (effect : Effect) (row : Row) (s : State) → lasts effect ≡ true
    → IsOfEffect text t s.now effect row
    → (after_row effect row s).now.findings.diagnostics ≡ s.now.findings.diagnostics ++ row.diagnostics
row_diagnostics text t (Reads goal) row s lasting is = refl
row_diagnostics text t (Peeks goal) row s lasting is = absurd (cc)
row_diagnostics text t (ReLexes goal) row s lasting is =
    re_lexed_diagnostics text t row s (fits text goal (token_or_default (last_live s.now)))
    (IsReLexed text t s.now goal row) (λ re_lexed. re_lexed.taken) is
row_diagnostics text t Opens row s lasting is = absurd (cc)
row_diagnostics text t Rewinds row s lasting is = absurd (cc)
row_diagnostics text t Commits row s lasting is = absurd (cc)

-- the diagnostics of rows
abbrev all_diagnostics : List Row → List Diagnostic
all_diagnostics rows = flat_map (λ (row : Row). row.diagnostics) rows

run_diagnostics : (text : List ℕ) (t : SourceType) (s : State) (commands : List Command) (rows : List Row)
    → list_all is_lasting commands ≡ true → Run text t s commands rows
    → (state_after s commands rows).now.findings.diagnostics
    ≡ s.now.findings.diagnostics ++ all_diagnostics rows
run_diagnostics text t s [] rows lasting run =
    sym (append-nil s.now.findings.diagnostics)
    ∙ ap (λ rows. s.now.findings.diagnostics ++ all_diagnostics rows) (sym run)
run_diagnostics text t s (c ∷ cs) [] lasting run =
    absurd (let step = lasting_steps c (and_parts (is_lasting c) (list_all is_lasting cs) lasting).0 in rw step at run)
run_diagnostics text t s (c ∷ cs) (row ∷ rows) lasting run =
    let both = and_parts (is_lasting c) (list_all is_lasting cs) lasting in
    let step = lasting_steps c both.0 in
    let parts : IsRow text t s.now (Some c) row × Run text t (after_row (effect_of c) row s) cs rows =
    subst (λ b. MatchBool b (IsRow text t s.now (Some c) row × Run text t (after_row (effect_of c) row s) cs rows)
    (HasMark c s × Run text t (after_mark (effect_of c) s) cs (row ∷ rows))) step run in
    ap (λ (state : State). state.now.findings.diagnostics) (state_step s c cs row rows step)
    ∙ run_diagnostics text t (after_row (effect_of c) row s) cs rows both.1 parts.1
    ∙ ap (λ ds. ds ++ all_diagnostics rows) (row_diagnostics text t (effect_of c) row s both.0 parts.0.gives)
    ∙ append_assoc s.now.findings.diagnostics row.diagnostics (all_diagnostics rows)

each_clean : (rows : List Row) → all_diagnostics rows ≡ [] → (i : ℕ) (row : Row) → slice_get rows i ≡ Some row
    → not (length row.diagnostics == 0) ≡ false
each_clean [] none i row here = absurd (cc)
each_clean (first ∷ rows) none zero row here =
    let parts = append_nil first.diagnostics (all_diagnostics rows) none in
    let same : first ≡ row = cc in
    subst (λ (r : Row). not (length r.diagnostics == 0) ≡ false) same
    (ap (λ (ds : List Diagnostic). not (length ds == 0)) parts.0)
each_clean (first ∷ rows) none (suc i) row here =
    each_clean rows (append_nil first.diagnostics (all_diagnostics rows) none).1 i row here

rows_clean : (source : List ℕ) (t : SourceType) (commands : List Command) (report : Report) (rows : List Row)
    → rows ≡ report.rows → list_all is_lasting commands ≡ true → ReportOf source t false commands report
    → report.diagnostics ≡ [] → all_diagnostics rows ≡ []
rows_clean source t commands report [] same lasting is clean = refl
rows_clean source t commands report (row ∷ rows) same lasting is clean =
    let answers = subst (AreRows source t commands) (sym same) is.rows in
    let lists = is.lists ∙ ap (live commands) (sym same) in
    sym (run_diagnostics source t (state_after_first row) commands rows lasting answers.1)
    ∙ sym (ap (λ (l : Live). l.findings.diagnostics) lists)
    ∙ clean

-- A source without a diagnostic, with the commands that are chosen for it, has no cause of a fault.
pub chosen_sound : (source : List ℕ) (t : SourceType) (commands : List Command) (report : Report)
    → ReportOfChosen source t false commands report → report.diagnostics ≡ [] → IsSound source t commands
chosen_sound source t commands report is clean =
    let allowed = chosen_allowed source t false commands report is in
    record {
      readable = record { short = is.report_is.short; utf8 = is.report_is.utf8 };
      no_bad = allowed;
      report = report;
      report_is = is.report_is;
      clean =
          no_position (λ (row : Row). not (length row.diagnostics == 0)) report.rows
          (each_clean report.rows
          (rows_clean source t commands report report.rows refl (all_last t commands allowed) is.report_is clean));
    }

unless_not : (b : Bool) → false ≡ not b → b ≡ true
unless_not true e = refl
unless_not false e = absurd (true≢false (sym e))

no_length : (diagnostics : List Diagnostic) → (length diagnostics == 0) ≡ true → diagnostics ≡ []
no_length [] e = refl
no_length (d ∷ ds) e = absurd (omega (arith, eqb-true (length (d ∷ ds)) 0 e))

-- a list of which it is false that it is not empty
none_left : (diagnostics : List Diagnostic) → false ≡ not (length diagnostics == 0) → diagnostics ≡ []
none_left diagnostics e = no_length diagnostics (unless_not (length diagnostics == 0) e)

-- Where `check` finds no fault, the report has no diagnostic.
pub unfaulty_clean : (name source : List ℕ) (t : SourceType) (text : List ℕ)
    → IsChecked choice_in name source t text false → (commands : List Command) (report : Report)
    → ReportOfChosen source t false commands report → report.diagnostics ≡ []
unfaulty_clean name source t text checked commands report is =
    let found = checked.is_found in
    let same : report ≡ found.report =
    (one_list choice_in each_is_due source t false commands found.commands report found.report is found.report_is).1 in
    ap (λ (r : Report). r.diagnostics) same
    ∙ sym (ap (λ (f : Findings). f.diagnostics) found.found_is)
    ∙ none_left checked.found.diagnostics checked.tells.faulty
