-- Live tokens, told of lists of tokens alone.
use Rattle.std.proofs.Common.{◌≡◌, ℕ, ◌+◌, ◌<◌, Bool, true, false, List, [], ◌∷◌, ◌++◌, length, refl, sym, ◌∙◌, ap}
use Rattle.std.proofs.Common.{arith, append_assoc, length-append, Some}
use Rattle.std.specs.List.{list_all}
use Rattle.std.specs.Prelude.{if◌then◌else◌}
use Rattle.std.proofs.lemmas.Bool.{and_parts}
use Rattle.js_text.specs.declared.source_type.SourceType.{SourceType}
use Rattle.js_kind.specs.TokenParts.{TokenParts}
use Rattle.js_session.specs.declared.command.Command.{Command}
use Rattle.js_session.specs.declared.command.Effect.{Effect}
use Rattle.js_session.specs.declared.command.Effect.TheVariants.{Reads, Peeks, ReLexes, Opens, Rewinds, Commits}
use Rattle.js_session.specs.declared.row.Row.{Row}
use Rattle.js_session.specs.Effects.{effect_of, is_lasting, row_effect}
use Rattle.js_session.specs.Live.{Live, State, after_row, outcome_of, with_re_lexed}
use Rattle.js_session.specs.Report.{Run}
use Rattle.js_session.proofs.LastingRuns.{lasting_steps}
use Rattle.js_session.proofs.LiveLemmas.{length-with_last, with_last-append}
use Rattle.js_relex.specs.Documents.{live_behind}
use Rattle.js_relex.proofs.SplitRuns.{some_row}
use Rattle.js_document.specs.Gap.{count_tokens, more_tokens, on_effect}
use Rattle.js_document.specs.Reading.{state_of, with_row, with_rows}
use Rattle.js_document.proofs.EditedRows.{on_rows, tokens_of_row}

-- what a row makes live, by its effect
abbrev pub by_effect : Effect → Row → List TokenParts → List TokenParts
by_effect e row tokens = (after_row e row (state_of tokens)).now.tokens

pub row_tokens : (row : Row) (s : State) → (after_row (row_effect row.command) row s).now.tokens ≡ with_row s.now.tokens row
row_tokens row s = tokens_of_row (row_effect row.command) row s (state_of s.now.tokens) refl

-- the same, by the command that the row answers
pub command_tokens : (c : Command) (row : Row) (s : State) → row.command ≡ Some c
    → (after_row (effect_of c) row s).now.tokens ≡ with_row s.now.tokens row
command_tokens c row s is = ap (λ o. (after_row (row_effect o) row s).now.tokens) (sym is) ∙ row_tokens row s

pub rows_tokens : (text : List ℕ) (t : SourceType) (s : State) (commands : List Command) (rows : List Row)
    → list_all is_lasting commands ≡ true → Run text t s commands rows
    → (on_rows s commands rows).now.tokens ≡ with_rows s.now.tokens rows
rows_tokens text t s [] rows lasting run = ap (with_rows s.now.tokens) (sym run)
rows_tokens text t s (c ∷ cs) [] lasting run = absurd (some_row text t s c cs lasting run)
rows_tokens text t s (c ∷ cs) (row ∷ rows) lasting run =
    let both = and_parts (is_lasting c) (list_all is_lasting cs) lasting in
    let step = lasting_steps c both.0 in
    let run = rw step at run in
    rows_tokens text t (after_row (effect_of c) row s) cs rows both.1 run.1
    ∙ ap (λ ts. with_rows ts rows) (command_tokens c row s run.0.command_is)

-- what is live behind rows
pub live_tokens : (live : Live) (rows : List Row) → (live_behind live rows).tokens ≡ with_rows live.tokens rows
live_tokens live [] = refl
live_tokens live (row ∷ rows) =
    live_tokens (after_row (row_effect row.command) row (record { now = live; marks = [] })).now rows
    ∙ ap (λ ts. with_rows ts rows) (row_tokens row (record { now = live; marks = [] }))

pub rows_both : (tokens : List TokenParts) (xs ys : List Row)
    → with_rows tokens (xs ++ ys) ≡ with_rows (with_rows tokens xs) ys
rows_both tokens [] ys = refl
rows_both tokens (x ∷ xs) ys = rows_both (with_row tokens x) xs ys

-- tokens before others stay, where one is there to be read again
put_front : (front : List TokenParts) (token : TokenParts) (tokens : List TokenParts) (e : Effect) (row : Row)
    → by_effect e row (front ++ token ∷ tokens) ≡ front ++ by_effect e row (token ∷ tokens)
put_front front token tokens (Reads goal) row = append_assoc front (token ∷ tokens) (row.token ∷ [])
put_front front token tokens (Peeks goal) row = refl
put_front front token tokens (ReLexes goal) row = by_flag row.taken
  where
    by_flag : (taken : Bool)
        → (if◌then◌else◌ {A = State} taken (record (state_of (front ++ token ∷ tokens)) {
          now = with_re_lexed
              (state_of (front ++ token ∷ tokens)).now (outcome_of row);
        }) (state_of (front ++ token ∷ tokens))).now.tokens
        ≡ front ++ (if◌then◌else◌ {A = State} taken (record (state_of (token ∷ tokens)) {
          now = with_re_lexed
              (state_of (token ∷ tokens)).now (outcome_of row);
        }) (state_of (token ∷ tokens))).now.tokens
    by_flag true = with_last-append front token tokens row.token
    by_flag false = refl
put_front front token tokens Opens row = refl
put_front front token tokens Rewinds row = refl
put_front front token tokens Commits row = refl

pub effect_front : (front tokens : List TokenParts) (e : Effect) (row : Row) → 0 < length tokens
    → by_effect e row (front ++ tokens) ≡ front ++ by_effect e row tokens
effect_front front [] e row some = absurd (omega (arith, some))
effect_front front (token ∷ tokens) e row some = put_front front token tokens e row

pub row_front : (front tokens : List TokenParts) (row : Row) → 0 < length tokens
    → with_row (front ++ tokens) row ≡ front ++ with_row tokens row
row_front front tokens row some = effect_front front tokens (row_effect row.command) row some

-- how many tokens there are
pub effect_length : (e : Effect) (row : Row) (tokens : List TokenParts)
    → length (by_effect e row tokens) ≡ length tokens + (if◌then◌else◌ {A = ℕ} (on_effect e) 1 0)
effect_length (Reads goal) row tokens = length-append tokens (row.token ∷ [])
effect_length (Peeks goal) row tokens = omega arith
effect_length (ReLexes goal) row tokens = by_flag row.taken
  where
    by_flag : (taken : Bool)
        → length (if◌then◌else◌ {A = State} taken (record (state_of tokens) {
          now = with_re_lexed (state_of tokens).now
              (outcome_of row);
        }) (state_of tokens)).now.tokens ≡ length tokens + 0
    by_flag true = let same = length-with_last tokens row.token in omega (arith, same)
    by_flag false = omega arith
effect_length Opens row tokens = omega arith
effect_length Rewinds row tokens = omega arith
effect_length Commits row tokens = omega arith

pub row_length : (row : Row) (tokens : List TokenParts) → length (with_row tokens row) ≡ length tokens + more_tokens row
row_length row tokens = effect_length (row_effect row.command) row tokens

pub rows_length : (rows : List Row) (tokens : List TokenParts)
    → length (with_rows tokens rows) ≡ length tokens + count_tokens rows
rows_length [] tokens = omega arith
rows_length (row ∷ rows) tokens =
    let more = rows_length rows (with_row tokens row) in
    let one = row_length row tokens in
    omega (arith, more, one)

pub rows_front : (front tokens : List TokenParts) (rows : List Row) → 0 < length tokens
    → with_rows (front ++ tokens) rows ≡ front ++ with_rows tokens rows
rows_front front tokens [] some = refl
rows_front front tokens (row ∷ rows) some =
    let one = row_length row tokens in
    ap (λ ts. with_rows ts rows) (row_front front tokens row some)
    ∙ rows_front front (with_row tokens row) rows (omega (arith, one, some))
