-- The comments of a report stand in its source, one behind the other.
use Rattle.std.proofs.Common.{◌≡◌, ℕ, Bool, true, false, List, [], ◌∷◌, refl, sym, ◌∙◌, ap, subst, arith}
use Rattle.std.proofs.Common.{None, Some}
use Rattle.std.specs.Prelude.{MatchBool}
use Rattle.std.specs.List.{list_all}
use Rattle.std.specs.Str.{IsCharBoundary, IsUtf8}
use Rattle.std.proofs.lemmas.Bool.{and_parts}
use Rattle.std.proofs.lemmas.Str.{IsCharBoundary-start}
use Rattle.js_text.specs.declared.source_type.SourceType.{SourceType}
use Rattle.js_kind.specs.TokenParts.{TokenParts}
use Rattle.js_grammar.specs.Gap.{whole_gap_piece}
use Rattle.js_grammar.specs.Goals.{GoalReads}
use Rattle.js_grammar.specs.ReLexed.{fits}
use Rattle.js_grammar.specs.Reads.{is_onward}
use Rattle.js_grammar.specs.declared.goal.Goal.TheVariants.{First}
use Rattle.js_lexer.specs.Lexer.{IsOnPlaces, token_or_default}
use Rattle.js_grammar.proofs.GapsAhead.{whole_takes}
use Rattle.js_session.specs.declared.command.Command.{Command}
use Rattle.js_session.specs.declared.command.Command.TheVariants.{Next, JsxChild, JsxAttr, Regex, TemplateTail}
use Rattle.js_session.specs.declared.command.Command.TheVariants.{JsxName, RAngle, TsLAngle, TsRAngle, Peek}
use Rattle.js_session.specs.declared.command.Command.TheVariants.{Mark, Rewind, Commit}
use Rattle.js_session.specs.declared.report.Report.{Report}
use Rattle.js_session.specs.declared.row.Row.{Row}
use Rattle.js_session.specs.Effects.{effect_of, is_lasting}
use Rattle.js_session.specs.declared.command.Effect.{Effect}
use Rattle.js_session.specs.declared.command.Effect.TheVariants.{Reads, Peeks, ReLexes, Opens, Rewinds, Commits}
use Rattle.js_session.specs.Live.{Live, State, after_row, last_live, live, nothing_live, outcome_of, place_behind_last}
use Rattle.js_session.specs.Live.{state_after, state_after_first}
use Rattle.js_session.specs.Report.{AreRows, IsNotTaken, IsOfEffect, IsReLexed, IsRow, ReportOf, Run}
use Rattle.js_session.proofs.LastingRuns.{lasting_steps}
use Rattle.js_session.proofs.LiveLemmas.{last_or-push}
use Rattle.js_session.proofs.LocalRuns.{replaced_last}
use Rattle.js_session.proofs.RunLemmas.{state_step}
use Rattle.js_strip.specs.StripText.{StandInOrder}
use Rattle.js_strip.proofs.Standing.{StandBetween, between_append, between_to, in_order, onward_stands}
use Rattle.js_rewrite.proofs.LastTokens.{again_starts}

-- The effects of commands that give a row which stays: a reading from a place on, or of the last token again.
abbrev pub Stays : Effect → Type 0
Stays (Reads goal) = is_onward goal ≡ true
Stays (Peeks goal) = ⊥
Stays (ReLexes goal) = is_onward goal ≡ false
Stays Opens = ⊥
Stays Rewinds = ⊥
Stays Commits = ⊥

pub stays : (c : Command) → is_lasting c ≡ true → Stays (effect_of c)
stays Next e = refl
stays JsxChild e = refl
stays JsxAttr e = refl
stays Regex e = refl
stays TemplateTail e = refl
stays JsxName e = refl
stays RAngle e = refl
stays TsLAngle e = refl
stays TsRAngle e = refl
stays Peek e = absurd (cc)
stays Mark e = absurd (cc)
stays Rewind e = absurd (cc)
stays Commit e = absurd (cc)

-- The token is the last live one, and all comments so far stand before it.
pub record StandBefore (text : List ℕ) (t : SourceType) (s : State) (token : TokenParts) : Type 0 where
  pub last_is : last_live s.now ≡ Some token
  pub lies : IsOnPlaces text token
  pub comments : StandBetween text (whole_gap_piece t) 0 s.now.findings.comments token.start

behind_read : (text : List ℕ) (t : SourceType) (effect : Effect) (row : Row) (s : State) (token : TokenParts)
    → IsUtf8 text → Stays effect → IsOnPlaces text row.token → row.place ≡ place_behind_last s.now
    → StandBefore text t s token → IsOfEffect text t s.now effect row
    → StandBefore text t (after_row effect row s) row.token
behind_read text t (Reads goal) row s token u on lies at h is =
    let place : row.place ≡ token.end = at ∙ ap (λ l. (token_or_default l).end) h.last_is in
    let here : StandBetween text (whole_gap_piece t) token.end row.comments row.token.start =
    subst (λ p. StandBetween text (whole_gap_piece t) p row.comments row.token.start) place
    (onward_stands text t goal (last_live s.now) row.place (outcome_of row) u
    (subst (IsCharBoundary text) (sym place) h.lies.end) on is.reads) in
    record {
      last_is = last_or-push None s.now.tokens row.token;
      lies = lies;
      comments =
          between_append text (whole_gap_piece t) 0 token.end row.token.start s.now.findings.comments
          row.comments
          (between_to text (whole_gap_piece t) 0 token.start token.end s.now.findings.comments h.lies.ordered
          h.comments) here;
    }
behind_read text t (Peeks goal) row s token u on lies at h is = absurd on
behind_read text t Opens row s token u on lies at h is = absurd on
behind_read text t Rewinds row s token u on lies at h is = absurd on
behind_read text t Commits row s token u on lies at h is = absurd on
behind_read text t (ReLexes goal) row s token u off lies at h is =
    by_flag (fits text goal (token_or_default (last_live s.now))) is
  where
    by_flag : (b : Bool) → MatchBool b (IsReLexed text t s.now goal row) (IsNotTaken s.now row)
        → StandBefore text t (after_row (ReLexes goal) row s) row.token
    by_flag true is =
        let read : GoalReads text t goal (Some token) token.start (outcome_of row) =
        subst (λ l. GoalReads text t goal l (token_or_default l).start (outcome_of row)) h.last_is is.reads in
        let there = again_starts text t goal token token.start (outcome_of row) off read in
        rw is.taken (record {
          last_is = replaced_last s.now.tokens token row.token h.last_is;
          lies = lies;
          comments =
              between_append text (whole_gap_piece t) 0 token.start row.token.start s.now.findings.comments
              row.comments h.comments
              (subst (λ cs. StandBetween text (whole_gap_piece t) token.start cs row.token.start) (sym there.no_comment)
              (omega (arith, there.start_is)));
        })
    by_flag false is =
        let same : row.token ≡ token = is.token ∙ ap token_or_default h.last_is in
        rw is.taken (record {
          last_is = h.last_is ∙ ap Some (sym same);
          lies = lies;
          comments =
              subst (λ (x : TokenParts). StandBetween text (whole_gap_piece t) 0 s.now.findings.comments x.start) (sym same) h.comments;
        })

first_stands : (text : List ℕ) (t : SourceType) (row : Row) → IsUtf8 text → IsRow text t nothing_live None row
    → StandBefore text t (state_after_first row) row.token
first_stands text t row u is = record {
  last_is = refl;
  lies = is.places.token;
  comments =
      subst (λ p. StandBetween text (whole_gap_piece t) p row.comments row.token.start) is.place
      (onward_stands text t First None row.place (outcome_of row) u
      (subst (IsCharBoundary text) (sym is.place) (IsCharBoundary-start text u)) refl is.gives.reads);
}

-- Some token is the last live one behind rows that stay, and all comments stand before it.
pub rows_stand : (text : List ℕ) (t : SourceType) (s : State) (commands : List Command) (rows : List Row)
    (token : TokenParts) → IsUtf8 text → list_all is_lasting commands ≡ true → StandBefore text t s token
    → Run text t s commands rows → (last : TokenParts) × StandBefore text t (state_after s commands rows) last
rows_stand text t s [] rows token u lasting h run = (token, h)
rows_stand text t s (c ∷ cs) [] token u lasting h run =
    absurd
    (let step = lasting_steps c (and_parts (is_lasting c) (list_all is_lasting cs) lasting).0 in rw step at run)
rows_stand text t s (c ∷ cs) (row ∷ rows) token u lasting h run =
    let both = and_parts (is_lasting c) (list_all is_lasting cs) lasting in
    let step = lasting_steps c both.0 in
    let here = rw step at run in
    let next =
    behind_read text t (effect_of c) row s token u (stays c both.0) here.0.places.token here.0.place h here.0.gives in
    let found = rows_stand text t (after_row (effect_of c) row s) cs rows row.token u both.1 next here.1 in (
      found.0,
      subst (λ x. StandBefore text t x found.0) (sym (state_step s c cs row rows step)) found.1,
    )

all_rows_stand : (text : List ℕ) (t : SourceType) (commands : List Command) (rows : List Row) → IsUtf8 text
    → list_all is_lasting commands ≡ true → AreRows text t commands rows
    → StandInOrder text 0 (live commands rows).findings.comments
all_rows_stand text t commands [] u lasting are = absurd are
all_rows_stand text t commands (row ∷ rows) u lasting are =
    let found =
    rows_stand text t (state_after_first row) commands rows row.token u lasting (first_stands text t row u are.0)
    are.1 in
    in_order text (whole_gap_piece t) 0 found.0.start (live commands (row ∷ rows)).findings.comments (whole_takes t)
    found.1.comments

-- The comments of a report stand in order in its source, where each command gives a row which stays.
pub report_stands : (source : List ℕ) (t : SourceType) (collects : Bool) (commands : List Command) (report : Report)
    → list_all is_lasting commands ≡ true → ReportOf source t collects commands report
    → StandInOrder source 0 report.comments
report_stands source t collects commands report lasting is =
    subst (StandInOrder source 0) (sym (ap (λ (l : Live). l.findings.comments) is.lists))
    (all_rows_stand source t commands report.rows is.utf8 lasting is.rows)
