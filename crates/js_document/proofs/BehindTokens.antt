-- The tokens that are live behind a row with an index.
use Rattle.std.proofs.Common.{◌≡◌, ℕ, zero, suc, ◌<◌, ◌≤◌, true, List, [], ◌∷◌, length, take, refl, sym}
use Rattle.std.proofs.Common.{◌∙◌, ap, subst, arith, Some}
use Rattle.std.specs.List.{list_all}
use Rattle.std.specs.Prelude.{slice_get}
use Rattle.std.proofs.lemmas.Bool.{and_parts}
use Rattle.js_text.specs.declared.source_type.SourceType.{SourceType}
use Rattle.js_session.specs.declared.command.Command.{Command}
use Rattle.js_session.specs.declared.row.Row.{Row}
use Rattle.js_session.specs.Effects.{effect_of, is_lasting}
use Rattle.js_session.specs.Live.{State, after_row, last_live, state_after, state_after_first}
use Rattle.js_session.specs.Session.{last_token}
use Rattle.js_session.proofs.LastingRuns.{behind_first, lasting_steps}
use Rattle.js_session.proofs.RunLemmas.{state_step}
use Rattle.js_choose.specs.Rules.{IsRule, Rule}
use Rattle.js_relex.proofs.KeptRows.{take_lasting}
use Rattle.js_document.specs.Documents.{tokens_behind}
use Rattle.js_document.specs.Reading.{with_rows}
use Rattle.js_document.specs.States.{IsLast}
use Rattle.js_document.proofs.EditedRows.{AreChosenRows, Cuts, chosen_lasts, cuts, goes_on_rows, on_rows}
use Rattle.js_document.proofs.ReadParts.{first_tokens}
use Rattle.js_document.proofs.TokenLemmas.{rows_tokens}

-- behind steps the state is that of their rows
after_steps : (s : State) (commands : List Command) (rows : List Row) → list_all is_lasting commands ≡ true
    → state_after s commands rows ≡ on_rows s commands rows
after_steps s [] rows lasting = refl
after_steps s (c ∷ cs) [] lasting =
    (let step = lasting_steps c (and_parts (is_lasting c) (list_all is_lasting cs) lasting).0 in rw step refl)
after_steps s (c ∷ cs) (row ∷ rows) lasting =
    let both = and_parts (is_lasting c) (list_all is_lasting cs) lasting in
    state_step s c cs row rows (lasting_steps c both.0) ∙ after_steps (after_row (effect_of c) row s) cs rows both.1

-- so many commands take so many rows
enough_rows : (s : State) (n : ℕ) (commands : List Command) (rows : List Row)
    → on_rows s (take n commands) rows ≡ on_rows s (take n commands) (take n rows)
enough_rows s zero commands rows = refl
enough_rows s (suc n) [] rows = refl
enough_rows s (suc n) (c ∷ cs) [] = refl
enough_rows s (suc n) (c ∷ cs) (row ∷ rows) = enough_rows (after_row (effect_of c) row s) n cs rows

-- What is live behind the row with an index, and the last token there.
pub record IsBehind (commands : List Command) (rows : List Row) (index : ℕ) : Type 0 where
  pub tokens_are : tokens_behind commands rows index ≡ with_rows [] (take (suc index) rows)
  pub last_is : (row : Row) → slice_get rows index ≡ Some row → IsLast row.token (tokens_behind commands rows index)

-- the token of the row with an index
token_there : (first : Row) (behind : List Row) (index : ℕ) (row : Row) → slice_get (first ∷ behind) index ≡ Some row
    → last_token first.token (take index behind) ≡ row.token
token_there first behind zero row is = (let same : first ≡ row = cc in ap (λ (r : Row). r.token) same)
token_there first [] (suc index) row is = absurd (cc)
token_there first (next ∷ behind) (suc index) row is = token_there next behind index row is

pub is_behind : (rule : Rule) → IsRule rule → (text : List ℕ) (t : SourceType) (rows : List Row)
    → (a : AreChosenRows rule text t rows) → (index : ℕ) → index < length rows → IsBehind a.commands rows index
is_behind rule law text t rows a index less =
    subst (λ rs. IsBehind a.commands rs index) (sym a.rows_are) (record { tokens_are = tokens; last_is = last })
  where
    few : index ≤ length a.behind
    few = (let long = ap (λ l. length l) a.rows_are in omega (arith, less, long))

    s : State
    s = state_after_first a.first

    lasting : list_all is_lasting a.commands ≡ true
    lasting = chosen_lasts rule law text s a.commands a.behind a.chosen

    cut : Cuts rule text t s a.commands a.behind index
    cut = cuts rule text t s a.commands a.behind index few lasting a.run a.chosen

    state_is : state_after s (take index a.commands) a.behind ≡ on_rows s (take index a.commands) (take index a.behind)
    state_is =
        after_steps s (take index a.commands) a.behind (take_lasting index a.commands lasting)
        ∙ enough_rows s index a.commands a.behind

    tokens : tokens_behind a.commands (a.first ∷ a.behind) index ≡ with_rows [] (take (suc index) (a.first ∷ a.behind))
    tokens =
        ap (λ (x : State). x.now.tokens) state_is
        ∙ rows_tokens text t s (take index a.commands) (take index a.behind) (take_lasting index a.commands lasting)
        cut.run ∙ sym (first_tokens rule law text t a.first a.is_first (take index a.behind))

    last : (row : Row) → slice_get (a.first ∷ a.behind) index ≡ Some row
        → IsLast row.token (tokens_behind a.commands (a.first ∷ a.behind) index)
    last row is =
        let goes = goes_on_rows text t s (take index a.commands) (take index a.behind) a.first.token
        (take_lasting index a.commands lasting) (behind_first text t a.first a.is_first) cut.run in
        ap (λ (x : State). last_live x.now) state_is ∙ goes.last_is
        ∙ ap Some (token_there a.first a.behind index row is)
