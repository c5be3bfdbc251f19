-- Rows that are kept answer the first commands of the new list, and so they do over the new text.
use Rattle.std.proofs.Common.{◌≡◌, ℕ, zero, suc, ◌+◌, ◌≤◌, true, List, [], ◌∷◌, ◌++◌, length, take, drop, refl, sym}
use Rattle.std.proofs.Common.{◌∙◌, subst, get_or, Some, None, append_assoc}
use Rattle.std.specs.List.{AllByRecursion, list_all}
use Rattle.std.specs.Str.{IsUtf8}
use Rattle.std.proofs.lemmas.Bool.{and_parts}
use Rattle.std.proofs.lemmas.List.{length-take-le, take-append-drop}
use Rattle.js_text.specs.declared.source_type.SourceType.{SourceType}
use Rattle.js_kind.specs.TokenParts.{TokenParts}
use Rattle.js_session.specs.declared.command.Command.{Command}
use Rattle.js_session.specs.declared.row.Row.{Row}
use Rattle.js_session.specs.Effects.{effect_of, is_lasting, is_step}
use Rattle.js_session.specs.Live.{State, after_row, nothing_live, state_after_first}
use Rattle.js_session.specs.Report.{AreRows, IsRow, Run}
use Rattle.js_session.specs.Session.{last_token}
use Rattle.js_session.proofs.LastingRuns.{all_steps}
use Rattle.js_session.proofs.LocalRows.{row_local}
use Rattle.js_session.proofs.LocalRuns.{run_local}
use Rattle.js_session.proofs.RunLemmas.{run_step}
use Rattle.js_relex.specs.Documents.{IsEdit, edited}
use Rattle.js_relex.specs.Kept.{IsKept, IsKeptBehind}

-- Rows that answer commands, and end four bytes or more before the edit.
record RunsBefore (start : ℕ) (text : List ℕ) (t : SourceType) (s : State) (commands : List Command) (rows : List Row)
    : Type 0 where
  run : Run text t s commands rows
  near : AllByRecursion (λ row. row.token.end + 4 ≤ start) rows

some_inj : (a b : Command) → Some a ≡ Some b → a ≡ b
some_inj a b e = cc

kept_run : (start : ℕ) (text : List ℕ) (t : SourceType) (s : State) (old new : List Command) (rows : List Row)
    (kept : ℕ) → list_all is_step old ≡ true → IsKeptBehind start rows new kept → Run text t s old rows
    → RunsBefore start text t s (take kept new) (take kept rows)
kept_run start text t s old new rows zero steps stay run = record { run = refl; near = tt }
kept_run start text t s old new [] (suc kept) steps none run = absurd (let no = none in cc)
kept_run start text t s old [] (row ∷ rows) (suc kept) steps none run = absurd (let no = none in cc)
kept_run start text t s [] (c ∷ cs) (row ∷ rows) (suc kept) steps stay run = absurd (let no = run in cc)
kept_run start text t s (o ∷ os) (c ∷ cs) (row ∷ rows) (suc kept) steps stay run =
    let step = and_parts (is_step o) (list_all is_step os) steps in
    let both = rw step.0 at run in
    let same : o ≡ c = some_inj o c (sym both.0.command_is ∙ stay.0.command_is) in
    let here : IsRow text t s.now (Some c) row = subst (λ x. IsRow text t s.now (Some x) row) same both.0 in
    let more : Run text t (after_row (effect_of c) row s) os rows =
    subst (λ x. Run text t (after_row (effect_of x) row s) os rows) same both.1 in
    let behind = kept_run start text t (after_row (effect_of c) row s) os cs rows kept step.1 stay.1 more in
    record {
      run =
          run_step text t s c (take kept cs) row (take kept rows) (subst (λ x. is_step x ≡ true) same step.0) here
          behind.run;
      near = (stay.0.ends_before, behind.near);
    }

-- the token of the last kept row
kept_last : (start : ℕ) (first : Row) (rows : List Row) (commands : List Command) (kept : ℕ) (d : Row)
    → IsKeptBehind start rows commands kept
    → (get_or (first ∷ rows) kept d).token ≡ last_token first.token (take kept rows)
kept_last start first rows commands zero d stay = refl
kept_last start first [] commands (suc kept) d none = absurd (let no = none in cc)
kept_last start first (row ∷ rows) [] (suc kept) d none = absurd (let no = none in cc)
kept_last start first (row ∷ rows) (c ∷ cs) (suc kept) d stay = kept_last start row rows cs kept d stay.1

pub take_lasting : (n : ℕ) (cs : List Command) → list_all is_lasting cs ≡ true → list_all is_lasting (take n cs) ≡ true
take_lasting zero cs e = refl
take_lasting (suc n) [] e = refl
take_lasting (suc n) (c ∷ cs) e =
    let both = and_parts (is_lasting c) (list_all is_lasting cs) e in rw (both.0, take_lasting n cs both.1) refl

pub drop_lasting : (n : ℕ) (cs : List Command) → list_all is_lasting cs ≡ true → list_all is_lasting (drop n cs) ≡ true
drop_lasting zero cs e = e
drop_lasting (suc n) [] e = refl
drop_lasting (suc n) (c ∷ cs) e = drop_lasting n cs (and_parts (is_lasting c) (list_all is_lasting cs) e).1

-- The first row and so many behind it answer the commands over the text, with this token at their end.
pub record KeptAll (text : List ℕ) (t : SourceType) (new : List Command) (all : List Row) (kept : ℕ) (last : TokenParts)
    : Type 0 where
  pub first : Row
  pub rows : List Row
  pub all_are : all ≡ first ∷ rows
  pub is_first : IsRow text t nothing_live None first
  pub run : Run text t (state_after_first first) (take kept new) (take kept rows)
  pub last_is : last ≡ last_token first.token (take kept rows)

kept_all : (front rest other : List ℕ) (t : SourceType) (old new : List Command) (all : List Row) (kept : ℕ) (d : Row)
    → IsUtf8 (front ++ rest) → IsUtf8 (front ++ other) → list_all is_lasting old ≡ true
    → list_all is_lasting new ≡ true → AreRows (front ++ rest) t old all → IsKept (length front) all new (suc kept)
    → KeptAll (front ++ other) t new all kept (get_or all kept d).token
kept_all front rest other t old new [] kept d u v was lasting are stay = absurd are
kept_all front rest other t old new (first ∷ rows) kept d u v was lasting are stay =
    let before =
    kept_run (length front) (front ++ rest) t (state_after_first first) old new rows kept (all_steps old was) stay.1
    are.1 in
    record {
      first = first;
      rows = rows;
      all_are = refl;
      is_first = row_local front rest other t nothing_live None first u v tt stay.0.ends_before are.0;
      run =
          run_local front rest other t (state_after_first first) (take kept new) (take kept rows) u v
          are.0.places.token (all_steps (take kept new) (take_lasting kept new lasting)) before.near before.run;
      last_is = kept_last (length front) first rows new kept d stay.1;
    }

-- Rows of an old text that an edit leaves as they are.
pub kept_by_edit : (text new_text : List ℕ) (start end : ℕ) (t : SourceType) (old new : List Command) (all : List Row)
    (kept : ℕ) (d : Row) → IsEdit text start end → IsUtf8 text → IsUtf8 (edited text start end new_text)
    → list_all is_lasting old ≡ true → list_all is_lasting new ≡ true → AreRows text t old all
    → IsKept start all new (suc kept)
    → KeptAll (edited text start end new_text) t new all kept (get_or all kept d).token
kept_by_edit text new_text start end t old new all kept d edit u v was lasting are stay =
    let front = take start text in
    let whole : front ++ drop start text ≡ text = take-append-drop start text in
    let long : length front ≡ start = length-take-le start text edit.starts.0 in
    let there : edited text start end new_text ≡ front ++ (new_text ++ drop end text) =
    append_assoc front new_text (drop end text) in
    subst (λ x. KeptAll x t new all kept (get_or all kept d).token) (sym there)
    (kept_all front (drop start text) (new_text ++ drop end text) t old new all kept d
    (subst IsUtf8 (sym whole) u) (subst IsUtf8 there v) was lasting (subst (λ x. AreRows x t old all) (sym whole) are)
    (subst (λ n. IsKept n all new (suc kept)) (sym long) stay))
