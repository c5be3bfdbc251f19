-- Rows that answer some commands and more are those of the commands, and behind them those of the others.
use Rattle.std.proofs.Common.{◌≡◌, ℕ, suc, ◌+◌, ◌≤◌, true, List, [], ◌∷◌, ◌++◌, length, take, drop, refl, sym}
use Rattle.std.proofs.Common.{◌∙◌, ap, subst, Some}
use Rattle.std.specs.List.{list_all}
use Rattle.std.specs.Str.{IsUtf8}
use Rattle.std.proofs.Math.Seq.{take-append-add}
use Rattle.std.proofs.lemmas.Bool.{and_parts}
use Rattle.std.proofs.lemmas.List.{length-take-le, take-append-drop}
use Rattle.js_text.specs.declared.source_type.SourceType.{SourceType}
use Rattle.js_session.specs.declared.command.Command.{Command}
use Rattle.js_session.specs.declared.row.Row.{Row}
use Rattle.js_session.specs.Effects.{effect_of, is_lasting}
use Rattle.js_session.specs.Live.{State, after_row, state_after}
use Rattle.js_session.specs.Report.{Run}
use Rattle.js_session.proofs.LastingRuns.{lasting_steps}
use Rattle.js_session.proofs.RunLemmas.{run_step, state_step}
use Rattle.js_session.proofs.Unique.{row_unique}

-- a command has a row
pub some_row : (text : List ℕ) (t : SourceType) (s : State) (c : Command) (cs : List Command)
    → list_all is_lasting (c ∷ cs) ≡ true → Run text t s (c ∷ cs) [] → ⊥
some_row text t s c cs lasting run =
    absurd
    (let step = lasting_steps c (and_parts (is_lasting c) (list_all is_lasting cs) lasting).0 in rw step at run)

pub record Splits (text : List ℕ) (t : SourceType) (s : State) (commands more : List Command) (all : List Row)
    : Type 0 where
  pub front : List Row
  pub behind : List Row
  pub all_are : all ≡ front ++ behind
  pub count_is : length front ≡ length commands
  pub run : Run text t s commands front
  pub on : Run text t (state_after s commands front) more behind

pub run_splits : (text : List ℕ) (t : SourceType) (s : State) (commands more : List Command) (all : List Row)
    → list_all is_lasting commands ≡ true → Run text t s (commands ++ more) all → Splits text t s commands more all
run_splits text t s [] more all lasting run = record {
  front = [];
  behind = all;
  all_are = refl;
  count_is = refl;
  run = refl;
  on = run;
}
run_splits text t s (c ∷ cs) more [] lasting run =
    absurd
    (let step = lasting_steps c (and_parts (is_lasting c) (list_all is_lasting cs) lasting).0 in rw step at run)
run_splits text t s (c ∷ cs) more (row ∷ rows) lasting run =
    let both = and_parts (is_lasting c) (list_all is_lasting cs) lasting in
    let step = lasting_steps c both.0 in
    let run = rw step at run in
    let rest = run_splits text t (after_row (effect_of c) row s) cs more rows both.1 run.1 in
    record {
      front = row ∷ rest.front;
      behind = rest.behind;
      all_are = ap (λ rs. row ∷ rs) rest.all_are;
      count_is = ap suc rest.count_is;
      run = run_step text t s c cs row rest.front step run.0 rest.run;
      on =
          subst (λ x. Run text t x more rest.behind) (sym (state_step s c cs row rest.front step)) rest.on;
    }

-- Rows that answer more commands begin with those that answer the first of them.
pub record BeginsWith (text : List ℕ) (t : SourceType) (s : State) (more : List Command) (front all : List Row)
    : Type 0 where
  pub behind : List Row
  pub all_are : all ≡ front ++ behind
  pub on : Run text t s more behind

pub run_begins_with : (text : List ℕ) (t : SourceType) (s : State) (commands more : List Command)
    (front all : List Row) → IsUtf8 text → list_all is_lasting commands ≡ true → Run text t s commands front
    → Run text t s (commands ++ more) all → BeginsWith text t (state_after s commands front) more front all
run_begins_with text t s [] more front all u lasting here run =
    rw here (record { behind = all; all_are = refl; on = run })
run_begins_with text t s (c ∷ cs) more [] all u lasting here run = absurd (some_row text t s c cs lasting here)
run_begins_with text t s (c ∷ cs) more (row ∷ rows) [] u lasting here run =
    absurd
    (let step = lasting_steps c (and_parts (is_lasting c) (list_all is_lasting cs) lasting).0 in rw step at run)
run_begins_with text t s (c ∷ cs) more (row ∷ rows) (first ∷ others) u lasting here run =
    let both = and_parts (is_lasting c) (list_all is_lasting cs) lasting in
    let step = lasting_steps c both.0 in
    let run = rw step at run in
    let here = rw step at here in
    let same : first ≡ row = row_unique text t s.now (Some c) first row u run.0 here.0 in
    let rest =
    run_begins_with text t (after_row (effect_of c) row s) cs more rows others u both.1 here.1
    (subst (λ r. Run text t (after_row (effect_of c) r s) (cs ++ more) others) same run.1) in
    record {
      behind = rest.behind;
      all_are = ap (λ r. r ∷ others) same ∙ ap (λ rs. row ∷ rs) rest.all_are;
      on =
          subst (λ x. Run text t x more rest.behind) (sym (state_step s c cs row rows step)) rest.on;
    }

-- so many, and so many more
pub take_both : {A : Type 0} (n m : ℕ) (xs : List A) → n ≤ length xs → take (n + m) xs ≡ take n xs ++ take m (drop n xs)
take_both n m xs few =
    ap (take (n + m)) (sym (take-append-drop n xs))
    ∙ ap (λ k. take (k + m) (take n xs ++ drop n xs)) (sym (length-take-le n xs few))
    ∙ take-append-add (take n xs) (drop n xs) m
