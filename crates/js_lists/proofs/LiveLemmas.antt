-- The tokens of the live rows are the live tokens.
use Rattle.std.proofs.Common.{◌≡◌, ℕ, Bool, true, false, List, [], ◌∷◌, ◌++◌, map, reverse, refl, sym, ◌∙◌, ap, subst}
use Rattle.std.proofs.Common.{Some}
use Rattle.std.proofs.lemmas.List.{map-append, reverse-append}
use Rattle.std.specs.Prelude.{MatchBool, if◌then◌else◌}
use Rattle.js_text.specs.Lists.{with_last}
use Rattle.js_text.specs.declared.source_type.SourceType.{SourceType}
use Rattle.js_kind.specs.TokenParts.{TokenParts}
use Rattle.js_session.specs.Effects.{effect_of, is_step}
use Rattle.js_session.specs.declared.command.Effect.{Effect}
use Rattle.js_session.specs.declared.command.Effect.TheVariants.{Reads, Peeks, ReLexes, Opens, Rewinds, Commits}
use Rattle.js_session.specs.Live.{Live, State, after_mark, after_row, committed_state, live, rewound_state, state_after}
use Rattle.js_session.specs.Live.{outcome_of, state_after_first, with_re_lexed}
use Rattle.js_session.specs.Report.{AreRows, HasMark, IsRow, ReportOf, Run}
use Rattle.js_session.specs.declared.command.Command.{Command}
use Rattle.js_session.specs.declared.report.Report.{Report}
use Rattle.js_session.specs.declared.row.Row.{Row}
use Rattle.js_session.proofs.LiveLemmas.{with_last-append}
use Rattle.js_session.proofs.RunLemmas.{state_mark, state_step}
use Rattle.js_lists.specs.LiveRows.{RowState, live_rows, rows_behind, rows_committed, rows_rewound, with_first}
use Rattle.js_lists.specs.LiveRows.{with_mark, with_row}

-- the token of a row
abbrev pub token_of : Row → TokenParts
token_of row = row.token

-- the tokens of rows that stand backward
abbrev tokens_of : List Row → List TokenParts
tokens_of rows = map token_of (reverse rows)

tokens_more : (row : Row) (rows : List Row) → tokens_of (row ∷ rows) ≡ tokens_of rows ++ row.token ∷ []
tokens_more row rows =
    ap (map token_of) (reverse-append (row ∷ []) rows) ∙ map-append token_of (reverse rows) (row ∷ [])

-- The live rows, and those at each mark, have the live tokens.
record Matches (rows : RowState) (s : State) : Type 0 where
  pub now : tokens_of rows.now ≡ s.now.tokens
  pub marks : map tokens_of rows.marks ≡ map (λ l. l.tokens) s.marks

with_first_matches : (row : Row) (rows : List Row)
    → tokens_of (with_first row rows) ≡ with_last (tokens_of rows) row.token
with_first_matches row [] = refl
with_first_matches row (first ∷ rows) =
    tokens_more row rows
    ∙ sym (ap (λ ts. with_last ts row.token) (tokens_more first rows)
    ∙ with_last-append (tokens_of rows) first.token [] row.token)

re_lex_matches : (taken : Bool) (row : Row) (rows : RowState) (s : State) → Matches rows s
    → Matches (if taken then record rows { now = with_first row rows.now } else rows)
    (if taken then record s { now = with_re_lexed s.now (outcome_of row) } else s)
re_lex_matches true row rows s m = record {
  now = with_first_matches row rows.now ∙ ap (λ ts. with_last ts row.token) m.now;
  marks = m.marks;
}
re_lex_matches false row rows s m = m

row_matches : (effect : Effect) (row : Row) (rows : RowState) (s : State) → Matches rows s
    → Matches (with_row effect row rows) (after_row effect row s)
row_matches (Reads goal) row rows s m = record {
  now = tokens_more row rows.now ∙ ap (λ ts. ts ++ row.token ∷ []) m.now;
  marks = m.marks;
}
row_matches (Peeks goal) row rows s m = m
row_matches (ReLexes goal) row rows s m = re_lex_matches row.taken row rows s m
row_matches Opens row rows s m = m
row_matches Rewinds row rows s m = m
row_matches Commits row rows s m = m

rewound_matches : (now : List Row) (marks : List (List Row)) (live : Live) (lives : List Live)
    → tokens_of now ≡ live.tokens → map tokens_of marks ≡ map (λ l. l.tokens) lives
    → Matches (rows_rewound now marks) (rewound_state live lives)
rewound_matches now [] live [] h m = record { now = h; marks = refl }
rewound_matches now [] live (l ∷ ls) h m = absurd cc
rewound_matches now (r ∷ rs) live [] h m = absurd cc
rewound_matches now (r ∷ rs) live (l ∷ ls) h m = record { now = cc; marks = cc }

committed_matches : (now : List Row) (marks : List (List Row)) (live : Live) (lives : List Live)
    → tokens_of now ≡ live.tokens → map tokens_of marks ≡ map (λ l. l.tokens) lives
    → Matches (rows_committed now marks) (committed_state live lives)
committed_matches now [] live [] h m = record { now = h; marks = refl }
committed_matches now [] live (l ∷ ls) h m = absurd cc
committed_matches now (r ∷ rs) live [] h m = absurd cc
committed_matches now (r ∷ rs) live (l ∷ ls) h m = record { now = h; marks = cc }

mark_matches : (effect : Effect) (rows : RowState) (s : State) → Matches rows s
    → Matches (with_mark effect rows) (after_mark effect s)
mark_matches (Reads goal) rows s m = m
mark_matches (Peeks goal) rows s m = m
mark_matches (ReLexes goal) rows s m = m
mark_matches Opens rows s m = record {
  now = m.now;
  marks = ap (λ ts. ts ∷ map tokens_of rows.marks) m.now ∙ ap (λ ms. s.now.tokens ∷ ms) m.marks;
}
mark_matches Rewinds rows s m = rewound_matches rows.now rows.marks s.now s.marks m.now m.marks
mark_matches Commits rows s m = committed_matches rows.now rows.marks s.now s.marks m.now m.marks

pub rows_step : (rows : RowState) (c : Command) (cs : List Command) (row : Row) (more : List Row) → is_step c ≡ true
    → rows_behind rows (c ∷ cs) (row ∷ more) ≡ rows_behind (with_row (effect_of c) row rows) cs more
rows_step rows c cs row more e = rw e refl

pub rows_mark : (rows : RowState) (c : Command) (cs : List Command) (more : List Row) → is_step c ≡ false
    → rows_behind rows (c ∷ cs) more ≡ rows_behind (with_mark (effect_of c) rows) cs more
rows_mark rows c cs [] e = refl
rows_mark rows c cs (row ∷ more) e = rw e refl

-- what is left to answer behind a command that gives no row
run_mark : (text : List ℕ) (t : SourceType) (s : State) (c : Command) (cs : List Command) (rows : List Row)
    → is_step c ≡ false → Run text t s (c ∷ cs) rows → Run text t (after_mark (effect_of c) s) cs rows
run_mark text t s c cs [] e h =
    (subst (λ b. MatchBool b ⊥ (HasMark c s × Run text t (after_mark (effect_of c) s) cs [])) e h).1
run_mark text t s c cs (row ∷ rows) e h =
    (subst (λ b. MatchBool b (IsRow text t s.now (Some c) row × Run text t (after_row (effect_of c) row s) cs rows)
    (HasMark c s × Run text t (after_mark (effect_of c) s) cs (row ∷ rows))) e h).1

-- a command that gives a row finds one, and what is left answers the rest
pub run_step : (text : List ℕ) (t : SourceType) (s : State) (c : Command) (cs : List Command) (row : Row)
    (rows : List Row) → is_step c ≡ true → Run text t s (c ∷ cs) (row ∷ rows)
    → IsRow text t s.now (Some c) row × Run text t (after_row (effect_of c) row s) cs rows
run_step text t s c cs row rows e h =
    subst (λ b. MatchBool b (IsRow text t s.now (Some c) row × Run text t (after_row (effect_of c) row s) cs rows)
    (HasMark c s × Run text t (after_mark (effect_of c) s) cs (row ∷ rows))) e h

pub run_some : (text : List ℕ) (t : SourceType) (s : State) (c : Command) (cs : List Command) → is_step c ≡ true
    → ¬ (Run text t s (c ∷ cs) [])
run_some text t s c cs e h =
    subst (λ b. MatchBool b ⊥ (HasMark c s × Run text t (after_mark (effect_of c) s) cs [])) e h

-- behind one more command, where the commands after it match
step_matches : (text : List ℕ) (t : SourceType) (rows : RowState) (s : State) (c : Command) (cs : List Command)
    (row : Row) (more : List Row) (b : Bool) → is_step c ≡ b → Run text t s (c ∷ cs) (row ∷ more) → Matches rows s
    → ((r : RowState) (x : State) → Run text t x cs more → Matches r x
    → Matches (rows_behind r cs more) (state_after x cs more))
    → ((r : RowState) (x : State) → Run text t x cs (row ∷ more) → Matches r x
    → Matches (rows_behind r cs (row ∷ more)) (state_after x cs (row ∷ more)))
    → Matches (rows_behind rows (c ∷ cs) (row ∷ more)) (state_after s (c ∷ cs) (row ∷ more))
step_matches text t rows s c cs row more true e h m next same =
    subst (Matches (rows_behind rows (c ∷ cs) (row ∷ more))) (sym (state_step s c cs row more e))
    (subst (λ x. Matches x (state_after (after_row (effect_of c) row s) cs more)) (sym (rows_step rows c cs row more e))
    (next (with_row (effect_of c) row rows) (after_row (effect_of c) row s) (run_step text t s c cs row more e h).1
    (row_matches (effect_of c) row rows s m)))
step_matches text t rows s c cs row more false e h m next same =
    subst (Matches (rows_behind rows (c ∷ cs) (row ∷ more))) (sym (state_mark s c cs (row ∷ more) e))
    (subst (λ x. Matches x (state_after (after_mark (effect_of c) s) cs (row ∷ more)))
    (sym (rows_mark rows c cs (row ∷ more) e))
    (same (with_mark (effect_of c) rows) (after_mark (effect_of c) s) (run_mark text t s c cs (row ∷ more) e h)
    (mark_matches (effect_of c) rows s m)))

-- the same where no row is left
end_matches : (text : List ℕ) (t : SourceType) (rows : RowState) (s : State) (c : Command) (cs : List Command)
    (b : Bool) → is_step c ≡ b → Run text t s (c ∷ cs) [] → Matches rows s
    → ((r : RowState) (x : State) → Run text t x cs [] → Matches r x
    → Matches (rows_behind r cs []) (state_after x cs []))
    → Matches (rows_behind rows (c ∷ cs) []) (state_after s (c ∷ cs) [])
end_matches text t rows s c cs true e h m next = absurd (run_some text t s c cs e h)
end_matches text t rows s c cs false e h m next =
    subst (Matches (rows_behind rows (c ∷ cs) [])) (sym (state_mark s c cs [] e))
    (next (with_mark (effect_of c) rows) (after_mark (effect_of c) s) (run_mark text t s c cs [] e h)
    (mark_matches (effect_of c) rows s m))

run_matches : (text : List ℕ) (t : SourceType) (rows : RowState) (s : State) (commands : List Command) (more : List Row)
    → Run text t s commands more → Matches rows s
    → Matches (rows_behind rows commands more) (state_after s commands more)
run_matches text t rows s [] more h m = m
run_matches text t rows s (c ∷ cs) [] h m =
    end_matches text t rows s c cs (is_step c) refl h m (λ r x. run_matches text t r x cs [])
run_matches text t rows s (c ∷ cs) (row ∷ more) h m =
    step_matches text t rows s c cs row more (is_step c) refl h m (λ r x. run_matches text t r x cs more)
    (λ r x. run_matches text t r x cs (row ∷ more))

rows_match : (text : List ℕ) (t : SourceType) (commands : List Command) (rows : List Row)
    → AreRows text t commands rows → map token_of (live_rows commands rows) ≡ (live commands rows).tokens
rows_match text t commands [] h = absurd h
rows_match text t commands (row ∷ rows) h =
    (run_matches text t (record { now = row ∷ []; marks = [] }) (state_after_first row) commands rows h.1
    (record { now = refl; marks = refl })).now

-- The live rows of a report are those of its tokens.
pub live_tokens : (source : List ℕ) (t : SourceType) (collects : Bool) (commands : List Command) (report : Report)
    → ReportOf source t collects commands report
    → map token_of (live_rows commands report.rows) ≡ report.tokens
live_tokens source t collects commands report h =
    rows_match source t commands report.rows h.rows ∙ sym (ap (λ l. l.tokens) h.lists)
