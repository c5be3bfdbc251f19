-- A session that makes steps up to the first row that joins the old ones.
use Rattle.std.proofs.Common.{◌≡◌, ℕ, ◌+◌, ◌-◌, ◌<◌, ◌≤◌, true, List}
use Rattle.std.proofs.Common.{[], ◌∷◌, ◌++◌, length, take, refl, sym}
use Rattle.std.proofs.Common.{◌∙◌, ap, subst, arith, inl, inr, get_or, Some, None, append_assoc}
use Rattle.std.specs.List.{list_all}
use Rattle.std.proofs.lemmas.List.{length-append}
use Rattle.js_session.specs.declared.command.Command.{Command}
use Rattle.js_session.specs.declared.row.Row.{Row}
use Rattle.js_session.specs.Effects.{is_lasting}
use Rattle.js_session.specs.Session.{AddsRow, RunsFrom, SessionState}
use Rattle.js_relex.specs.Joined.{FirstFrom, JoiningState, Joins}
use Rattle.js_relex.specs.Joining.{Stepped, StepsUntil, index_behind}
use Rattle.js_relex.proofs.FirstLemmas.{behind_none}
use Rattle.js_relex.proofs.Lasting.{lasting_at, runs_more}

-- So many steps were made, and no row joins the old ones.
pub record SteppedTo (j : JoiningState) (commands : List Command) (old new : SessionState) (index : ℕ) : Type 0 where
  pub rows : List Row
  pub count_is : length rows ≡ index
  pub stepped : Stepped commands old new rows
  pub none : FirstFrom (Joins j) (index_behind j commands) rows None

count_more : (rows : List Row) (row : Row) → length (rows ++ row ∷ []) ≡ length rows + 1
count_more rows row = length-append rows (row ∷ [])

stepped_more : (commands : List Command) (old mid new : SessionState) (rows : List Row) (index : ℕ) (d : Command)
    → list_all is_lasting commands ≡ true → length rows ≡ index → index < length commands
    → Stepped commands old mid rows → (a : AddsRow (get_or commands index d) mid new)
    → Stepped commands old new (rows ++ a.row ∷ [])
stepped_more commands old mid new rows index d lasting count some h a =
    let more = count_more rows a.row in
    let one : length (rows ++ a.row ∷ []) ≡ index + 1 = omega (arith, more, count) in
    record {
      rows_are =
          ap (λ (s : SessionState). s.rows) a.after ∙ ap (λ rs. rs ++ a.row ∷ []) h.rows_are
          ∙ append_assoc old.rows rows (a.row ∷ []);
      few = omega (arith, some, one);
      runs =
          λ text t collects start before k.
          subst (λ n. RunsFrom text t collects start before (take n commands) new) (sym one)
          (runs_more text t collects start before commands index d mid new some
          (lasting_at commands index d lasting some)
          (subst (λ n. RunsFrom text t collects start before (take n commands) mid) count
          (h.runs text t collects start before k)) a);
    }

-- One step more: its row is that of an index, which is told.
pub record OneMore (j : JoiningState) (commands : List Command) (old new : SessionState) (index : ℕ) : Type 0 where
  pub before : List Row
  pub row : Row
  pub rows_are : new.rows ≡ before ++ row ∷ []
  pub joins : (now : ℕ) → Joins j (length j.commands - (length commands - (index + 1))) row
      → StepsUntil j commands old new now (now + (index + 1)) true
  pub none : (Joins j (length j.commands - (length commands - (index + 1))) row → ⊥)
      → SteppedTo j commands old new (index + 1)

pub one_more_step : (j : JoiningState) (commands : List Command) (old mid new : SessionState) (index : ℕ) (d : Command)
    → list_all is_lasting commands ≡ true → length commands ≤ length j.commands → index < length commands
    → SteppedTo j commands old mid index → AddsRow (get_or commands index d) mid new
    → OneMore j commands old new index
one_more_step j commands old mid new index d lasting last some h a = record {
  before = mid.rows;
  row = a.row;
  rows_are = ap (λ (s : SessionState). s.rows) a.after;
  joins =
      λ now joins.
      record {
        rows = h.rows ++ a.row ∷ [];
        stepped = stepped;
        first =
            behind_none (Joins j) (index_behind j commands) h.rows (a.row ∷ [])
            (Some (length j.commands - length commands + length (h.rows ++ a.row ∷ []))) h.none
            (inl (
              subst (λ i. Joins j i a.row) place joins,
              ap Some (omega (arith, more, count)),
            ));
        all = λ no. absurd (cc);
        ticks = omega (arith, more, count);
      };
  none =
      λ none.
      record {
        rows = h.rows ++ a.row ∷ [];
        count_is = omega (arith, more, count);
        stepped = stepped;
        none =
            behind_none (Joins j) (index_behind j commands) h.rows (a.row ∷ []) None h.none
            (inr (subst (λ i. Joins j i a.row → ⊥) place none, refl));
      };
}
  where
    count : length h.rows ≡ index
    count = h.count_is

    more : length (h.rows ++ a.row ∷ []) ≡ length h.rows + 1
    more = count_more h.rows a.row

    place : length j.commands - (length commands - (index + 1)) ≡ index_behind j commands + length h.rows
    place = let same = h.count_is in omega (arith, some, last, same)

    stepped : Stepped commands old new (h.rows ++ a.row ∷ [])
    stepped = stepped_more commands old mid new h.rows index d lasting h.count_is some h.stepped a
