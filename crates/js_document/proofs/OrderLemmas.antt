-- Rows whose commands are chosen stand in the order of their places.
use Rattle.std.proofs.Common.{◌≡◌, ℕ, ◌<◌, true, List, [], ◌∷◌, refl, sym, ◌∙◌, ap, subst, arith}
use Rattle.std.proofs.Common.{Some, None}
use Rattle.std.specs.List.{AllByRecursion}
use Rattle.std.specs.Prelude.{MatchBool}
use Rattle.std.specs.Str.{IsCharBoundary, IsUtf8}
use Rattle.js_text.specs.declared.source_type.SourceType.{SourceType}
use Rattle.js_kind.specs.TokenParts.{TokenParts}
use Rattle.js_grammar.specs.Goals.{GoalReads}
use Rattle.js_grammar.specs.Outcome.{Outcome}
use Rattle.js_grammar.specs.ReLexed.{HasSpelling, fits}
use Rattle.js_grammar.specs.declared.goal.Goal.{Goal}
use Rattle.js_grammar.proofs.GoalWays.{goal_reads_span}
use Rattle.js_kind.specs.declared.kind.Kind.TheVariants.{Eof}
use Rattle.std.proofs.lemmas.Str.{IsCharBoundary-start}
use Rattle.js_grammar.specs.declared.goal.Goal.TheVariants.{First, Next as NextGoal, RegularExpression, JsxIdentifier}
use Rattle.js_grammar.specs.declared.goal.Goal.TheVariants.{TemplateTail as TailGoal, RightAngle}
use Rattle.js_grammar.specs.declared.goal.Goal.TheVariants.{TypeScriptLeftAngle, TypeScriptRightAngle, JsxChild}
use Rattle.js_grammar.specs.declared.goal.Goal.TheVariants.{JsxAttributeValue}
use Rattle.js_lexer.specs.Lexer.{IsOnPlaces, token_or_default}
use Rattle.js_session.specs.declared.command.Command.{Command}
use Rattle.js_session.specs.declared.row.Row.{Row}
use Rattle.js_session.specs.Effects.{effect_of}
use Rattle.js_session.specs.Live.{State, after_row, last_live, nothing_live, outcome_of, state_after_first}
use Rattle.js_session.specs.Report.{IsNotTaken, IsOfEffect, IsRead, IsReLexed, IsRow, Run}
use Rattle.js_session.proofs.LastingRuns.{GoesOnBehind, behind_first, lasting_steps}
use Rattle.js_session.proofs.WholeLemmas.{row_onward}
use Rattle.js_choose.specs.Rules.{IsDue, IsRule, Rule, is_final}
use Rattle.js_choose.specs.Rules.IsDue.{reads_on, reads_again}
use Rattle.js_choose.proofs.ChosenLemmas.{ChosenFrom}
use Rattle.js_document.specs.Gap.{AreInOrder, ComesLater}
use Rattle.js_document.proofs.AgainEnds.{ReadsOver, expression_over, name_over, part_over}
use Rattle.js_document.proofs.EditedRows.{AreChosenRows, due_lasts}
use Rattle.js_document.proofs.RuleLemmas.{goes_behind}

-- what a final goal reads again
pub over : (text : List ℕ) (t : SourceType) (goal : Goal) (last : TokenParts) (place : ℕ) (o : Outcome) → IsUtf8 text
    → IsOnPlaces text last → HasSpelling text last → is_final goal ≡ true → fits text goal last ≡ true
    → GoalReads text t goal (Some last) place o → ReadsOver last o.token
over text t TailGoal last place o u lies spelled final fit read = part_over text last o u lies.end spelled fit read
over text t RegularExpression last place o u lies spelled final fit read =
    expression_over text last o u lies.end spelled fit read
over text t JsxIdentifier last place o u lies spelled final fit read = name_over text last o u read
over text t First last place o u lies spelled final fit read = absurd (cc)
over text t NextGoal last place o u lies spelled final fit read = absurd (cc)
over text t RightAngle last place o u lies spelled final fit read = absurd (cc)
over text t TypeScriptLeftAngle last place o u lies spelled final fit read = absurd (cc)
over text t TypeScriptRightAngle last place o u lies spelled final fit read = absurd (cc)
over text t JsxChild last place o u lies spelled final fit read = absurd (cc)
over text t JsxAttributeValue last place o u lies spelled final fit read = absurd (cc)

-- The token has a byte but for `Eof`.
abbrev pub HasText : TokenParts → Type 0
HasText token = ¬ (token.kind ≡ Eof) → token.start < token.end

-- A row that is due comes later than the last token, and has a byte.
pub record IsLater (last : TokenParts) (row : Row) : Type 0 where
  pub later : ComesLater last row.token
  pub has_text : HasText row.token

pub later_row : (text : List ℕ) (t : SourceType) (s : State) (c : Command) (row : Row) (last : TokenParts)
    → IsUtf8 text → GoesOnBehind text s last → IsDue text s.now.tokens c → IsRow text t s.now (Some c) row
    → IsLater last row
later_row text t s c row last u on due is = by_due due
  where
    by_due : IsDue text s.now.tokens c → IsLater last row
    by_due (reads_on goal effect onward later may) =
        let read : IsRead text t s.now goal row = subst (λ e. IsOfEffect text t s.now e row) effect is.gives in
        let place : row.place ≡ last.end = is.place ∙ ap (λ o. (token_or_default o).end) on.last_is in
        let start : IsCharBoundary text row.place = subst (IsCharBoundary text) (sym place) on.may.lies.end in
        let further = row_onward text t s.now goal row onward u start read is.places in
        let ordered = on.may.lies.ordered in
        let behind = further.onward in
        let wide = is.places.token.ordered in
        record {
          later = record { starts = omega (arith, place, behind, ordered); ends = omega (arith, place, behind, wide) };
          has_text = further.some_text;
        }
    by_due (reads_again goal effect final it is_last fit) =
        let same : it ≡ last = (let e : Some it ≡ Some last = sym is_last ∙ on.last_is in cc) in
        let fits_it : fits text goal last ≡ true =
        subst (λ x. fits text goal x ≡ true) same (fit u (subst (IsOnPlaces text) (sym same) on.may.lies)) in
        let gives : IsReLexed text t s.now goal row =
        subst (λ b. MatchBool b (IsReLexed text t s.now goal row) (IsNotTaken s.now row))
        (ap (λ o. fits text goal (token_or_default o)) on.last_is ∙ fits_it)
        (subst (λ e. IsOfEffect text t s.now e row) effect is.gives) in
        let read : GoalReads text t goal (Some last) (token_or_default (last_live s.now)).start (outcome_of row) =
        subst (λ o. GoalReads text t goal o (token_or_default (last_live s.now)).start (outcome_of row)) on.last_is
        gives.reads in
        let reads = over text t goal last (token_or_default (last_live s.now)).start (outcome_of row) u on.may.lies
        on.may.spelled final fits_it read in
        let start = reads.start in
        let span = goal_reads_span text t goal (Some last) (token_or_default (last_live s.now)).start (outcome_of row) u
        read in
        record {
          later = record { starts = omega (arith, start); ends = reads.end };
          has_text = span.some_text;
        }

-- what comes later than a later token comes later
all_later : (token later : TokenParts) (rows : List Row) → ComesLater token later
    → AllByRecursion (λ (row : Row). ComesLater later row.token) rows
    → AllByRecursion (λ (row : Row). ComesLater token row.token) rows
all_later token later [] first all = tt
all_later token later (row ∷ rows) first all = (
  record {
    starts = (let a = first.starts in let b = all.0.starts in omega (arith, a, b));
    ends = (let a = first.ends in let b = all.0.ends in omega (arith, a, b));
  },
  all_later token later rows first all.1,
)

-- The row's token lies on places of the text, and has a byte but for `Eof`.
pub record IsSound (text : List ℕ) (row : Row) : Type 0 where
  pub lies : IsOnPlaces text row.token
  pub has_text : HasText row.token

-- Rows that come later than a token, in order.
pub record AreOrdered (text : List ℕ) (last : TokenParts) (rows : List Row) : Type 0 where
  pub later : AllByRecursion (λ (row : Row). ComesLater last row.token) rows
  pub order : AreInOrder rows
  pub sound : AllByRecursion (IsSound text) rows

pub run_ordered : (rule : Rule) → IsRule rule → (text : List ℕ) (t : SourceType) (s : State) (commands : List Command)
    (rows : List Row) (last : TokenParts) → IsUtf8 text → GoesOnBehind text s last → Run text t s commands rows
    → ChosenFrom (rule text) s commands rows → AreOrdered text last rows
run_ordered rule law text t s [] rows last u on run chosen =
    subst (AreOrdered text last) (sym run) (record { later = tt; order = tt; sound = tt })
run_ordered rule law text t s (c ∷ cs) [] last u on run chosen = absurd chosen
run_ordered rule law text t s (c ∷ cs) (row ∷ rows) last u on run chosen =
    let due = law text s.now.tokens c chosen.0 in
    let lasts = due_lasts text s.now.tokens c due in
    let step = lasting_steps c lasts in
    let run = rw step at run in
    let next = run_ordered rule law text t (after_row (effect_of c) row s) cs rows row.token u
    (goes_behind text t s c row last lasts on run.0) run.1 chosen.1 in
    let first = later_row text t s c row last u on due run.0 in
    record {
      later = (first.later, all_later last row.token rows first.later next.later);
      order = (next.later, next.order);
      sound = (record { lies = run.0.places.token; has_text = first.has_text }, next.sound);
    }

-- So do all rows of a text.
pub record RowsOrdered (text : List ℕ) (rows : List Row) : Type 0 where
  pub order : AreInOrder rows
  pub sound : AllByRecursion (IsSound text) rows

-- the first row has a byte
first_has_text : (text : List ℕ) (t : SourceType) (row : Row) → IsUtf8 text → IsRow text t nothing_live None row
    → HasText row.token
first_has_text text t row u is =
    let start : IsCharBoundary text row.place = subst (IsCharBoundary text) (sym is.place) (IsCharBoundary-start text u) in
    (row_onward text t nothing_live First row refl u start is.gives is.places).some_text

pub rows_ordered : (rule : Rule) → IsRule rule → (text : List ℕ) (t : SourceType) (rows : List Row) → IsUtf8 text
    → AreChosenRows rule text t rows → RowsOrdered text rows
rows_ordered rule law text t rows u a =
    let all = run_ordered rule law text t (state_after_first a.first) a.commands a.behind a.first.token u
    (behind_first text t a.first a.is_first) a.run a.chosen in
    subst (RowsOrdered text) (sym a.rows_are)
    (record {
      order = (all.later, all.order);
      sound = (record { lies = a.is_first.places.token; has_text = first_has_text text t a.first u a.is_first }, all.sound);
    })
