-- There is at most one report.
use Rattle.std.proofs.Common.{◌≡◌, ℕ, Bool, true, false, List, [], ◌∷◌, refl, sym, ◌∙◌, ap, subst, Option, Some, None}
use Rattle.std.specs.Prelude.{MatchBool}
use Rattle.std.specs.Str.{IsUtf8}
use Rattle.js_text.specs.declared.source_type.SourceType.{SourceType}
use Rattle.js_grammar.specs.Goals.{GoalReads}
use Rattle.js_grammar.specs.declared.goal.Goal.{Goal}
use Rattle.js_grammar.proofs.Unique.{goal_reads_unique}
use Rattle.js_lexer.specs.Lexer.{token_or_default}
use Rattle.js_session.specs.declared.command.Command.{Command}
use Rattle.js_session.specs.declared.command.Command.TheVariants.{Next, Peek}
use Rattle.js_session.specs.declared.report.Report.{Report}
use Rattle.js_session.specs.declared.row.Row.{Row}
use Rattle.js_session.specs.Effects.{effect_of, row_effect, is_step}
use Rattle.js_session.specs.declared.command.Effect.{Effect}
use Rattle.js_session.specs.declared.command.Effect.TheVariants.{Reads, Peeks, ReLexes, Opens, Rewinds, Commits}
use Rattle.js_session.specs.Live.{Live, State, outcome_of, last_live, after_row, after_mark, state_after_first}
use Rattle.js_session.specs.Live.{nothing_live, live, report_live, report_with, row_of}
use Rattle.js_grammar.specs.ReLexed.{fits}
use Rattle.js_session.specs.Report.{IsRead, IsReLexed, IsNotTaken, IsOfEffect, IsRow, HasMark, Run, AreRows}
use Rattle.js_session.specs.Report.{ReportOf, all_collected}

-- what an effect decides of a row
record SameOfEffect (a b : Row) : Type 0 where
  pub taken : a.taken ≡ b.taken
  pub outcome : outcome_of a ≡ outcome_of b

read_unique : (text : List ℕ) (t : SourceType) (now : Live) (goal : Goal) (a b : Row) → IsUtf8 text → a.place ≡ b.place
    → IsRead text t now goal a → IsRead text t now goal b → SameOfEffect a b
read_unique text t now goal a b utf8 place h g =
    let there = subst (λ p. GoalReads text t goal (last_live now) p (outcome_of b)) (sym place) g.reads in
    record {
      taken = h.taken ∙ sym g.taken;
      outcome = goal_reads_unique text t goal (last_live now) a.place (outcome_of a) (outcome_of b) utf8 h.reads there;
    }

re_lex_unique : (text : List ℕ) (t : SourceType) (now : Live) (goal : Goal) (a b : Row) → IsUtf8 text → (taken : Bool)
    → MatchBool taken (IsReLexed text t now goal a) (IsNotTaken now a)
    → MatchBool taken (IsReLexed text t now goal b) (IsNotTaken now b) → SameOfEffect a b
re_lex_unique text t now goal a b utf8 true h g = record {
  taken = h.taken ∙ sym g.taken;
  outcome =
      goal_reads_unique text t goal (last_live now) (token_or_default (last_live now)).start (outcome_of a)
      (outcome_of b) utf8 h.reads g.reads;
}
re_lex_unique text t now goal a b utf8 false h g = record {
  taken = h.taken ∙ sym g.taken;
  outcome = rw (h.token, h.value, h.regex, h.findings, g.token, g.value, g.regex, g.findings) refl;
}

effect_unique : (text : List ℕ) (t : SourceType) (now : Live) (effect : Effect) (a b : Row) → IsUtf8 text
    → a.place ≡ b.place → IsOfEffect text t now effect a → IsOfEffect text t now effect b
    → SameOfEffect a b
effect_unique text t now (Reads goal) a b utf8 place h g = read_unique text t now goal a b utf8 place h g
effect_unique text t now (Peeks goal) a b utf8 place h g = read_unique text t now goal a b utf8 place h g
effect_unique text t now (ReLexes goal) a b utf8 place h g =
    re_lex_unique text t now goal a b utf8 (fits text goal (token_or_default (last_live now))) h g
effect_unique text t now Opens a b utf8 place h g = absurd h
effect_unique text t now Rewinds a b utf8 place h g = absurd h
effect_unique text t now Commits a b utf8 place h g = absurd h

same_row : (a b : Row) → a.command ≡ b.command → a.place ≡ b.place → a.taken ≡ b.taken → outcome_of a ≡ outcome_of b
    → a ≡ b
same_row a b command place taken outcome =
    ap (λ c. row_of c a.place a.taken (outcome_of a)) command
    ∙ ap (λ n. row_of b.command n a.taken (outcome_of a)) place
    ∙ ap (λ t. row_of b.command b.place t (outcome_of a)) taken ∙ ap (row_of b.command b.place b.taken) outcome

pub row_unique : (text : List ℕ) (t : SourceType) (now : Live) (command : Option Command) (a b : Row) → IsUtf8 text
    → IsRow text t now command a → IsRow text t now command b → a ≡ b
row_unique text t now command a b utf8 h g =
    let place : a.place ≡ b.place = h.place ∙ sym g.place in
    let same = effect_unique text t now (row_effect command) a b utf8 place h.gives g.gives in
    same_row a b (h.command_is ∙ sym g.command_is) place same.taken same.outcome

-- a peek and the next step
pub peek_is_next : (text : List ℕ) (t : SourceType) (now : Live) (peek row : Row) → IsUtf8 text
    → IsRow text t now (Some Peek) peek → IsRow text t now (Some Next) row
    → outcome_of peek ≡ outcome_of row
peek_is_next text t now peek row utf8 h g =
    (read_unique text t now _ peek row utf8 (h.place ∙ sym g.place) h.gives g.gives).outcome

run_unique : (text : List ℕ) (t : SourceType) (s : State) (commands : List Command) (xs ys : List Row) → IsUtf8 text
    → Run text t s commands xs → Run text t s commands ys → xs ≡ ys
run_unique text t s [] xs ys utf8 h g = h ∙ sym g
run_unique text t s (c ∷ cs) [] [] utf8 h g = refl
run_unique text t s (c ∷ cs) [] (b ∷ ys) utf8 h g =
    by_step (is_step c) (run_unique text t (after_mark (effect_of c) s) cs [] (b ∷ ys) utf8) h g
  where
    by_step : (step : Bool)
        → (Run text t (after_mark (effect_of c) s) cs [] → Run text t (after_mark (effect_of c) s) cs (b ∷ ys)
        → [] ≡ b ∷ ys)
        → MatchBool step ⊥ (HasMark c s × Run text t (after_mark (effect_of c) s) cs [])
        → MatchBool step (IsRow text t s.now (Some c) b × Run text t (after_row (effect_of c) b s) cs ys)
        (HasMark c s × Run text t (after_mark (effect_of c) s) cs (b ∷ ys)) → [] ≡ b ∷ ys
    by_step true all h g = absurd h
    by_step false all h g = all h.1 g.1
run_unique text t s (c ∷ cs) (a ∷ xs) [] utf8 h g =
    by_step (is_step c) (run_unique text t (after_mark (effect_of c) s) cs (a ∷ xs) [] utf8) h g
  where
    by_step : (step : Bool)
        → (Run text t (after_mark (effect_of c) s) cs (a ∷ xs) → Run text t (after_mark (effect_of c) s) cs []
        → a ∷ xs ≡ [])
        → MatchBool step (IsRow text t s.now (Some c) a × Run text t (after_row (effect_of c) a s) cs xs)
        (HasMark c s × Run text t (after_mark (effect_of c) s) cs (a ∷ xs))
        → MatchBool step ⊥ (HasMark c s × Run text t (after_mark (effect_of c) s) cs []) → a ∷ xs ≡ []
    by_step true all h g = absurd g
    by_step false all h g = all h.1 g.1
run_unique text t s (c ∷ cs) (a ∷ xs) (b ∷ ys) utf8 h g =
    by_step (is_step c) (run_unique text t (after_row (effect_of c) a s) cs xs ys utf8)
    (run_unique text t (after_mark (effect_of c) s) cs (a ∷ xs) (b ∷ ys) utf8) h g
  where
    by_step : (step : Bool)
        → (Run text t (after_row (effect_of c) a s) cs xs → Run text t (after_row (effect_of c) a s) cs ys → xs ≡ ys)
        → (Run text t (after_mark (effect_of c) s) cs (a ∷ xs) → Run text t (after_mark (effect_of c) s) cs (b ∷ ys)
        → a ∷ xs ≡ b ∷ ys)
        → MatchBool step (IsRow text t s.now (Some c) a × Run text t (after_row (effect_of c) a s) cs xs)
        (HasMark c s × Run text t (after_mark (effect_of c) s) cs (a ∷ xs))
        → MatchBool step (IsRow text t s.now (Some c) b × Run text t (after_row (effect_of c) b s) cs ys)
        (HasMark c s × Run text t (after_mark (effect_of c) s) cs (b ∷ ys)) → a ∷ xs ≡ b ∷ ys
    by_step true rest all h g =
        let same = row_unique text t s.now (Some c) a b utf8 h.0 g.0 in
        let there = subst (λ r. Run text t (after_row (effect_of c) r s) cs ys) (sym same) g.1 in
        ap (λ r. r ∷ xs) same ∙ ap (λ rs. b ∷ rs) (rest h.1 there)
    by_step false rest all h g = all h.1 g.1

pub rows_unique : (text : List ℕ) (t : SourceType) (commands : List Command) (xs ys : List Row) → IsUtf8 text
    → AreRows text t commands xs → AreRows text t commands ys → xs ≡ ys
rows_unique text t commands [] ys utf8 h g = absurd h
rows_unique text t commands (a ∷ xs) [] utf8 h g = absurd g
rows_unique text t commands (a ∷ xs) (b ∷ ys) utf8 h g =
    let same = row_unique text t nothing_live None a b utf8 h.0 g.0 in
    let there = subst (λ r. Run text t (state_after_first r) commands ys) (sym same) g.1 in
    ap (λ r. r ∷ xs) same ∙ ap (λ rs. b ∷ rs) (run_unique text t (state_after_first a) commands xs ys utf8 h.1 there)

same_report : (a b : Report) → a.rows ≡ b.rows → a.collected ≡ b.collected → report_live a ≡ report_live b → a ≡ b
same_report a b rows collected lists =
    ap (λ rs. report_with rs a.collected (report_live a)) rows
    ∙ ap (λ ts. report_with b.rows ts (report_live a)) collected ∙ ap (report_with b.rows b.collected) lists

pub report_unique : (source : List ℕ) (t : SourceType) (collects : Bool) (commands : List Command) (a b : Report)
    → ReportOf source t collects commands a → ReportOf source t collects commands b → a ≡ b
report_unique source t collects commands a b h g =
    let rows : a.rows ≡ b.rows = rows_unique source t commands a.rows b.rows h.utf8 h.rows g.rows in
    let lists = h.lists ∙ ap (live commands) rows ∙ sym g.lists in
    let tokens : a.tokens ≡ b.tokens = ap (λ l. l.tokens) lists in
    same_report a b rows (h.collected_are ∙ ap (all_collected collects) tokens ∙ sym g.collected_are) lists
