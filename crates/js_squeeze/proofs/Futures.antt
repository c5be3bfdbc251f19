-- What follows the tokens of rows in which nothing is reported, in their text and in the squeezed one.
use Rattle.std.proofs.Common.{◌≡◌, ℕ, Bool, true, false, List, [], ◌∷◌, ◌++◌}
use Rattle.std.proofs.Common.{refl, sym, ◌∙◌, ap, subst, Some, inl, inr, ◌⊎◌}
use Rattle.std.specs.Prelude.{MatchBool}
use Rattle.std.specs.List.{AllByRecursion, list_all}
use Rattle.std.specs.Str.{IsUtf8}
use Rattle.std.proofs.lemmas.Bool.{and_parts}
use Rattle.js_text.specs.Characters.{from_place}
use Rattle.js_text.specs.declared.source_type.SourceType.{SourceType}
use Rattle.js_kind.specs.TokenParts.{TokenParts}
use Rattle.js_grammar.specs.Goals.{GoalReads}
use Rattle.js_grammar.specs.ReLexed.{fits}
use Rattle.js_lexer.specs.Lexer.{IsOnPlaces, token_or_default}
use Rattle.js_session.specs.declared.command.Command.{Command}
use Rattle.js_session.specs.declared.row.Row.{Row}
use Rattle.js_session.specs.Effects.{effect_of, row_effect}
use Rattle.js_session.specs.declared.command.Effect.{Effect}
use Rattle.js_session.specs.declared.command.Effect.TheVariants.{Reads, Peeks, ReLexes, Opens, Rewinds, Commits}
use Rattle.js_session.specs.Live.{State, after_row, last_live, outcome_of, place_behind_last}
use Rattle.js_session.specs.Report.{IsNotTaken, IsOfEffect, IsReLexed, Run}
use Rattle.js_session.proofs.LastingRuns.{lasting_steps}
use Rattle.js_rewrite.specs.Faults.{may_rewrite}
use Rattle.js_rewrite.proofs.Following.{FollowsToken}
use Rattle.js_rewrite.proofs.GapsBefore.{Gapped, at_or_gapped, onward_parts}
use Rattle.js_rewrite.proofs.LastTokens.{IsLast, IsQuiet, Rewrites, again_starts, last_behind, lasting_of, rewrites}
use Rattle.js_squeeze.specs.SqueezeText.{first_reads, reads_on}
use Rattle.js_squeeze.proofs.AgainFuture.{again_future, again_some_characters}
use Rattle.js_squeeze.proofs.Ends.{onward_ends}
use Rattle.js_squeeze.proofs.Future.{EndsText, Future, no_row, read_future}
use Rattle.js_squeeze.proofs.Written.{TokensLie, characters, final}

-- What follows a token, and where it and the tokens behind it lie.
pub record Onward (text : List ℕ) (t : SourceType) (token : TokenParts) (rows : List Row) : Type 0 where
  pub future : Future text t token rows
  pub final_lies : IsOnPlaces text (final token rows)
  pub later_lie : TokensLie text rows

-- where a row holds the token itself
not_taken : (text : List ℕ) (t : SourceType) (token : TokenParts) (row : Row) (rows : List Row)
    → first_reads row ≡ false → row.token ≡ token → Future text t row.token rows → Future text t token (row ∷ rows)
not_taken text t token row rows again same f = record {
  zs = f.zs;
  whole = rw again (f.whole ∙ ap (λ x. characters text x ++ f.zs) same);
  follows =
      subst (λ (x : TokenParts). FollowsToken t x.kind (characters text x) (from_place text x.end) f.zs) same f.follows;
  final_some = rw again (λ none. ap (characters text) (sym same) ∙ f.final_some none);
}

step_onward : (text : List ℕ) (t : SourceType) (effect : Effect) (s : State) (token : TokenParts) (row : Row)
    (rows : List Row) → IsUtf8 text → Rewrites t effect → IsLast text s token → EndsText text token
    → first_reads row ≡ reads_on effect → IsOnPlaces text row.token → row.place ≡ place_behind_last s.now
    → IsOfEffect text t s.now effect row → IsQuiet row → (EndsText text row.token → Onward text t row.token rows)
    → Onward text t token (row ∷ rows)
step_onward text t (Reads goal) s token row rows u on l ends first lies at is quiet later =
    let place : row.place ≡ token.end = at ∙ ap (λ l. (token_or_default l).end) l.last_is in
    let read : GoalReads text t goal (Some token) token.end (outcome_of row) =
    subst (λ p. GoalReads text t goal (Some token) p (outcome_of row)) place
    (subst (λ l. GoalReads text t goal l row.place (outcome_of row)) l.last_is is.reads) in
    let row_ends : EndsText text row.token =
    onward_ends text t goal (Some token) token.end (outcome_of row) u lies on.0 read quiet in
    let behind = later row_ends in
    let gap : (row.token.start ≡ token.end) ⊎ Gapped text t token.end (outcome_of row) =
    elim (onward_parts text t goal token token.end (outcome_of row) on.0 on.1 read quiet) [
      | inl here ↦ inl here
      | inr parts ↦ at_or_gapped text t (Some token) token.end (outcome_of row) u l.lies.end parts
    ] in
    record {
      future =
          read_future text t token row rows u first lies behind.final_lies ends row_ends place gap behind.future;
      final_lies = rw first l.lies;
      later_lie = (lies, behind.later_lie);
    }
step_onward text t (Peeks goal) s token row rows u on l ends first lies at is quiet later = absurd on
step_onward text t Opens s token row rows u on l ends first lies at is quiet later = absurd on
step_onward text t Rewinds s token row rows u on l ends first lies at is quiet later = absurd on
step_onward text t Commits s token row rows u on l ends first lies at is quiet later = absurd on
step_onward text t (ReLexes goal) s token row rows u on l ends first lies at is quiet later =
    by_flag (fits text goal (token_or_default (last_live s.now))) refl is
  where
    by_flag : (b : Bool) → fits text goal (token_or_default (last_live s.now)) ≡ b
        → MatchBool b (IsReLexed text t s.now goal row) (IsNotTaken s.now row) → Onward text t token (row ∷ rows)
    by_flag true e is =
        let read : GoalReads text t goal (Some token) token.start (outcome_of row) =
        subst (λ l. GoalReads text t goal l (token_or_default l).start (outcome_of row)) l.last_is is.reads in
        let fit : fits text goal token ≡ true =
        ap (λ x. fits text goal (token_or_default x)) (sym l.last_is) ∙ e in
        let start = (again_starts text t goal token token.start (outcome_of row) on.0 read).start_is in
        let behind =
        later (λ none. absurd (again_some_characters text t goal token row u on.0 quiet l.lies lies start read none)) in
        record {
          future =
              again_future text t goal token row rows u on.0 on.1 first quiet l.lies lies l.spelled fit start read
              behind.future;
          final_lies = rw first behind.final_lies;
          later_lie = (lies, behind.later_lie);
        }
    by_flag false e is =
        let same : row.token ≡ token = is.token ∙ ap token_or_default l.last_is in
        let behind = later (subst (EndsText text) (sym same) ends) in
        record {
          future = not_taken text t token row rows first same behind.future;
          final_lies = rw first behind.final_lies;
          later_lie = (lies, behind.later_lie);
        }

-- an empty token of a row stands at the end, where the one before it does so
pub row_ends_text : (text : List ℕ) (t : SourceType) (effect : Effect) (s : State) (token : TokenParts) (row : Row)
    → IsUtf8 text → Rewrites t effect → IsLast text s token → EndsText text token → IsOnPlaces text row.token
    → row.place ≡ place_behind_last s.now → IsOfEffect text t s.now effect row → IsQuiet row → EndsText text row.token
row_ends_text text t (Reads goal) s token row u on l ends lies at is quiet =
    onward_ends text t goal (last_live s.now) row.place (outcome_of row) u lies on.0 is.reads quiet
row_ends_text text t (Peeks goal) s token row u on l ends lies at is quiet = absurd on
row_ends_text text t Opens s token row u on l ends lies at is quiet = absurd on
row_ends_text text t Rewinds s token row u on l ends lies at is quiet = absurd on
row_ends_text text t Commits s token row u on l ends lies at is quiet = absurd on
row_ends_text text t (ReLexes goal) s token row u on l ends lies at is quiet =
    by_flag (fits text goal (token_or_default (last_live s.now))) is
  where
    by_flag : (b : Bool) → MatchBool b (IsReLexed text t s.now goal row) (IsNotTaken s.now row)
        → EndsText text row.token
    by_flag true is =
        let read : GoalReads text t goal (Some token) token.start (outcome_of row) =
        subst (λ l. GoalReads text t goal l (token_or_default l).start (outcome_of row)) l.last_is is.reads in
        let start = (again_starts text t goal token token.start (outcome_of row) on.0 read).start_is in
        λ none. absurd (again_some_characters text t goal token row u on.0 quiet l.lies lies start read none)
    by_flag false is =
        subst (EndsText text) (sym (is.token ∙ ap token_or_default l.last_is)) ends

-- What follows the last token before rows that answer commands.
pub onward : (text : List ℕ) (t : SourceType) (s : State) (commands : List Command) (rows : List Row)
    (token : TokenParts) → IsUtf8 text → list_all (may_rewrite t) commands ≡ true → AllByRecursion IsQuiet rows
    → IsLast text s token → EndsText text token → Run text t s commands rows → Onward text t token rows
onward text t s [] rows token u may quiet l ends run =
    subst (Onward text t token) (sym run)
    (record { future = no_row text t token u l.lies; final_lies = l.lies; later_lie = tt })
onward text t s (c ∷ cs) [] token u may quiet l ends run =
    absurd
    (let step = lasting_steps c (lasting_of t c (and_parts (may_rewrite t c) (list_all (may_rewrite t) cs) may).0) in
    rw step at run)
onward text t s (c ∷ cs) (row ∷ rows) token u may quiet l ends run =
    let both = and_parts (may_rewrite t c) (list_all (may_rewrite t) cs) may in
    let step = lasting_steps c (lasting_of t c both.0) in
    let here = rw step at run in
    let on = rewrites t c both.0 in
    let next = last_behind text t (effect_of c) row s token on l here.0.places.token here.0.gives in
    step_onward text t (effect_of c) s token row rows u on l ends
    (ap (λ o. reads_on (row_effect o)) here.0.command_is) here.0.places.token here.0.place here.0.gives quiet.0
    (λ row_ends. onward text t (after_row (effect_of c) row s) cs rows row.token u both.1 quiet.1 next row_ends here.1)
