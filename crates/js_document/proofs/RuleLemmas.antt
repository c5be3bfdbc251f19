-- Commands that are chosen for an edited text: those before the edit are chosen still, and so are those behind tokens
-- that are alike.
use Rattle.std.proofs.Common.{◌≡◌, ℕ, ◌+◌, ◌-◌, ◌<◌, ◌≤◌, Bool, true, false, List, [], ◌∷◌, ◌++◌, length, map}
use Rattle.std.proofs.Common.{refl, sym, ◌∙◌, ap, subst, arith, get_or, Some, None, inl, inr}
use Rattle.std.specs.List.{AllByRecursion, last_or, list_all}
use Rattle.std.specs.Prelude.{slice_get, MatchBool, ◌==◌, if◌then◌else◌}
use Rattle.std.specs.Str.{IsUtf8}
use Rattle.std.proofs.lemmas.Bool.{and_parts}
use Rattle.std.proofs.lemmas.Option.{slice_get-get_or}
use Rattle.js_text.specs.Lists.{with_last}
use Rattle.js_text.specs.declared.source_type.SourceType.{SourceType}
use Rattle.js_kind.specs.TokenParts.{TokenParts}
use Rattle.js_kind.specs.declared.kind.Kind.TheVariants.{Ident, RegExp, TemplateMiddle, Undetermined}
use Rattle.js_kind.specs.declared.kind.Kind.TheVariants.{TemplateTail as TailKind}
use Rattle.js_text.specs.Ascii.{hyphen_minus}
use Rattle.js_text.specs.Characters.{begins, from_first, from_place}
use Rattle.js_grammar.specs.Goals.{GoalReads, next_part}
use Rattle.js_grammar.specs.Jsx.{ends_jsx_name, jsx_name_reading, jsx_name_up_to}
use Rattle.js_grammar.specs.Outcome.{Outcome}
use Rattle.js_grammar.specs.Reading.{Reading}
use Rattle.js_grammar.specs.ReLexed.{fits, is_re_lexed}
use Rattle.js_grammar.specs.UnicodeEscape.{right_curly_bracket}
use Rattle.js_grammar.specs.declared.goal.Goal.{Goal}
use Rattle.js_grammar.specs.declared.goal.Goal.TheVariants.{First, Next as NextGoal, RegularExpression, JsxIdentifier}
use Rattle.js_grammar.specs.declared.goal.Goal.TheVariants.{TemplateTail as TailGoal, RightAngle}
use Rattle.js_grammar.specs.declared.goal.Goal.TheVariants.{TypeScriptLeftAngle, TypeScriptRightAngle, JsxChild}
use Rattle.js_grammar.specs.declared.goal.Goal.TheVariants.{JsxAttributeValue}
use Rattle.js_grammar.proofs.NumberItems.{true_or_false}
use Rattle.js_grammar.proofs.QuotedValues.{part_kind_is}
use Rattle.js_lexer.specs.Lexer.{IsOnPlaces, token_or_default}
use Rattle.js_lexer.proofs.ReadAgain.{expression_again}
use Rattle.js_session.specs.declared.command.Command.{Command}
use Rattle.js_session.specs.declared.command.Effect.{Effect}
use Rattle.js_session.specs.declared.command.Effect.TheVariants.{Reads, Peeks, ReLexes, Opens, Rewinds, Commits}
use Rattle.js_session.specs.declared.row.Row.{Row}
use Rattle.js_session.specs.Effects.{effect_of, is_lasting, lasts}
use Rattle.js_session.specs.Live.{State, after_row, last_live, outcome_of}
use Rattle.js_session.specs.Report.{IsNotTaken, IsOfEffect, IsReLexed, IsRow, Run}
use Rattle.js_session.specs.Shifted.{OfEachPlace, shifted_row, shifted_token}
use Rattle.js_session.proofs.LiveLemmas.{last_or-push}
use Rattle.js_session.proofs.LastingRuns.{GoesOnBehind, behind_rows, lasting_steps}
use Rattle.js_session.proofs.RunLemmas.{run_step, state_step}
use Rattle.js_choose.specs.LastTokens.{byte_behind}
use Rattle.js_choose.specs.Rules.{IsDue, IsRule, Rule, is_final}
use Rattle.js_choose.specs.Rules.IsDue.{reads_on, reads_again}
use Rattle.js_choose.proofs.ChosenLemmas.{ChosenFrom}
use Rattle.js_choose.proofs.SessionLemmas.{last_put}
use Rattle.js_relex.specs.Joined.{at_start}
use Rattle.js_document.specs.AutoLaws.{still_there}
use Rattle.js_document.specs.Reading.{ChosenOn}
use Rattle.js_document.proofs.ListLemmas.{get_right}
use Rattle.js_document.specs.States.{AlikeAgain, AlikeBehind, AlikeItself, Alikeness, ChoosesAlike}

-- Behind each row that stays a session may go on.
pub goes_behind : (text : List ℕ) (t : SourceType) (s : State) (c : Command) (row : Row) (last : TokenParts)
    → is_lasting c ≡ true → GoesOnBehind text s last → IsRow text t s.now (Some c) row
    → GoesOnBehind text (after_row (effect_of c) row s) row.token
goes_behind text t s c row last lasting on is =
    let step = lasting_steps c lasting in
    let one : list_all is_lasting (c ∷ []) ≡ true = rw lasting refl in
    subst (λ x. GoesOnBehind text x row.token) (state_step s c [] row [] step)
    (behind_rows text t s (c ∷ []) (row ∷ []) last one on (run_step text t s c [] row [] step is refl))

-- the last token behind a row that stays
pub last_behind : (text : List ℕ) (t : SourceType) (s : State) (c : Command) (row : Row) (last : TokenParts)
    → is_lasting c ≡ true → last_live s.now ≡ Some last → IsRow text t s.now (Some c) row
    → last_live (after_row (effect_of c) row s).now ≡ Some row.token
last_behind text t s c row last lasting there is = by_effect (effect_of c) lasting is.gives
  where
    by_fit : (goal : Goal) (b : Bool) → MatchBool b (IsReLexed text t s.now goal row) (IsNotTaken s.now row)
        → last_live (after_row (ReLexes goal) row s).now ≡ Some row.token
    by_fit goal true is = rw is.taken (last_put s.now.tokens last row.token there)
    by_fit goal false is =
        let same : row.token ≡ last = is.token ∙ ap token_or_default there in
        rw is.taken (there ∙ ap Some (sym same))

    by_effect : (e : Effect) → lasts e ≡ true → IsOfEffect text t s.now e row
        → last_live (after_row e row s).now ≡ Some row.token
    by_effect (Reads goal) lasting is = last_or-push None s.now.tokens row.token
    by_effect (ReLexes goal) lasting is = by_fit goal (fits text goal (token_or_default (last_live s.now))) is
    by_effect (Peeks goal) lasting is = absurd (cc)
    by_effect Opens lasting is = absurd (cc)
    by_effect Rewinds lasting is = absurd (cc)
    by_effect Commits lasting is = absurd (cc)

-- the byte behind a last token
byte_of : (text : List ℕ) (tokens : List TokenParts) (last : TokenParts) → last_or None tokens ≡ Some last
    → byte_behind text tokens ≡ slice_get text last.end
byte_of text tokens last is = ap (λ o. slice_get text (token_or_default o).end) is

-- a byte of the front is there whatever follows
front_byte : (front rest other : List ℕ) (place : ℕ) → place < length front
    → slice_get (front ++ rest) place ≡ slice_get (front ++ other) place
front_byte front rest other place less =
    let is = slice_get-get_or front place 0 less in
    still_there front rest place (get_or front place 0) is ∙ sym (still_there front other place (get_or front place 0) is)

-- a byte of the rest is there whatever stands before
rest_byte : (front rest : List ℕ) (place : ℕ) → slice_get (front ++ rest) (length front + place) ≡ slice_get rest place
rest_byte front rest place = get_right front rest place

-- the tokens behind a row that reads on
pub tokens_on : (s : State) (c : Command) (goal : Goal) (row : Row) → effect_of c ≡ Reads goal
    → (after_row (effect_of c) row s).now.tokens ≡ s.now.tokens ++ row.token ∷ []
tokens_on s c goal row effect = ap (λ e. (after_row e row s).now.tokens) effect

-- and behind one that reads the last token again
pub tokens_again : (s : State) (c : Command) (goal : Goal) (row : Row) → effect_of c ≡ ReLexes goal
    → row.taken ≡ true → (after_row (effect_of c) row s).now.tokens ≡ with_last s.now.tokens row.token
tokens_again s c goal row effect taken =
    ap (λ e. (after_row e row s).now.tokens) effect ∙ taken_tokens goal row s taken
  where
    taken_tokens : (goal : Goal) (row : Row) (s : State) → row.taken ≡ true
        → (after_row (ReLexes goal) row s).now.tokens ≡ with_last s.now.tokens row.token
    taken_tokens goal row s taken = rw taken refl

-- The kinds of tokens that are read for the last time.
record AreFinal : Type 0 where
  pub expression : is_re_lexed RegExp ≡ false
  pub middle : is_re_lexed TemplateMiddle ≡ false
  pub tail : is_re_lexed TailKind ≡ false
  pub none : is_re_lexed Undetermined ≡ false
  pub name : is_re_lexed Ident ≡ false

are_final : AreFinal
unfolding is_re_lexed
are_final = record { expression = refl; middle = refl; tail = refl; none = refl; name = refl }

-- a token that a final goal reads is read no more
finally_read : (text : List ℕ) (t : SourceType) (goal : Goal) (last : TokenParts) (place : ℕ) (o : Outcome)
    → is_final goal ≡ true → GoalReads text t goal (Some last) place o → is_re_lexed o.token.kind ≡ false
finally_read text t TailGoal last place o final read =
    ap (λ (x : Outcome). is_re_lexed x.token.kind) read.outcome_is
    ∙ subst (λ h. is_re_lexed (next_part h).kind ≡ false) (sym read.here)
    (part_kind_is (λ kind. is_re_lexed kind ≡ false) TemplateMiddle TailKind are_final.middle are_final.tail
    are_final.none right_curly_bracket read.behind)
finally_read text t RegularExpression last place o final read =
    ap is_re_lexed (expression_again text t (Some last) place o read) ∙ are_final.expression
finally_read text t JsxIdentifier last place o final read =
    ap (λ (x : Outcome). is_re_lexed x.token.kind) read.reads.outcome_is
    ∙ ap is_re_lexed (named read.part (from_place text last.end) read.reads.found read.reads.read_is) ∙ are_final.name
  where
    named : (part behind : List ℕ) (found : Reading) → jsx_name_reading part behind ≡ Some found → found.kind ≡ Ident
    named part behind found is =
        elim (true_or_false (begins (λ c. c == hyphen_minus) behind)) [
          | inl dash ↦ (
              let same : Some (jsx_name_up_to part behind (from_first ends_jsx_name behind)) ≡ Some found =
              sym (ap (λ b. if b then Some (jsx_name_up_to part behind
              (from_first ends_jsx_name behind)) else None) dash) ∙ is in
              let it : jsx_name_up_to part behind (from_first ends_jsx_name behind) ≡ found = cc in
              ap (λ (r : Reading). r.kind) (sym it))
          | inr none ↦ absurd (let no : None ≡ Some found =
              sym (ap (λ b. if b then Some (jsx_name_up_to part behind
              (from_first ends_jsx_name behind)) else None) none) ∙ is in cc)
        ]
finally_read text t First last place o final read = absurd (cc)
finally_read text t NextGoal last place o final read = absurd (cc)
finally_read text t RightAngle last place o final read = absurd (cc)
finally_read text t TypeScriptLeftAngle last place o final read = absurd (cc)
finally_read text t TypeScriptRightAngle last place o final read = absurd (cc)
finally_read text t JsxChild last place o final read = absurd (cc)
finally_read text t JsxAttributeValue last place o final read = absurd (cc)

-- A row that reads the last token again, for the last time.
pub record IsAgain (row : Row) : Type 0 where
  pub taken : row.taken ≡ true
  pub settled : is_re_lexed row.token.kind ≡ false

pub row_again : (text : List ℕ) (t : SourceType) (s : State) (c : Command) (goal : Goal) (row : Row) (last : TokenParts)
    → effect_of c ≡ ReLexes goal → is_final goal ≡ true → last_or None s.now.tokens ≡ Some last
    → fits text goal last ≡ true → IsRow text t s.now (Some c) row → IsAgain row
row_again text t s c goal row last effect final is_last fit is =
    let gives : IsReLexed text t s.now goal row =
    subst (λ b. MatchBool b (IsReLexed text t s.now goal row) (IsNotTaken s.now row))
    (ap (λ o. fits text goal (token_or_default o)) is_last ∙ fit)
    (subst (λ e. IsOfEffect text t s.now e row) effect is.gives) in
    let read : GoalReads text t goal (Some last) (token_or_default (last_live s.now)).start (outcome_of row) =
    subst (λ o. GoalReads text t goal o (token_or_default (last_live s.now)).start (outcome_of row)) is_last
    gives.reads in
    record {
      taken = gives.taken;
      settled =
          finally_read text t goal last (token_or_default (last_live s.now)).start (outcome_of row) final read;
    }

-- The choice behind tokens that are alike, where the rest of the text is the same, and the last one is shifted.
shifted_choice : (rule : Rule) (Alike : Alikeness) → ChoosesAlike rule Alike → (before after rest : List ℕ)
    (tokens others : List TokenParts) (last : TokenParts) → last_or None tokens ≡ Some last
    → last_or None others ≡ Some (shifted_token (length before) (length after) last) → length before ≤ last.end
    → Alike others tokens → rule (after ++ rest) others ≡ rule (before ++ rest) tokens
shifted_choice rule Alike choose before after rest tokens others last is_last there less alike =
    let further : last.end - length before + length after ≡ length after + (last.end - length before) = omega arith in
    let back : length before + (last.end - length before) ≡ last.end = omega (arith, less) in
    choose (after ++ rest) (before ++ rest) others tokens alike
    (byte_of (after ++ rest) others (shifted_token (length before) (length after) last) there
    ∙ ap (slice_get (after ++ rest)) further ∙ rest_byte after rest (last.end - length before)
    ∙ sym (rest_byte before rest (last.end - length before)) ∙ ap (slice_get (before ++ rest)) back
    ∙ sym (byte_of (before ++ rest) tokens last is_last))

-- The commands that were chosen behind rows that end before the rest of the text are chosen whatever that is.
pub kept_chosen : (rule : Rule) (Alike : Alikeness) → ChoosesAlike rule Alike → AlikeItself Alike
    → (front rest other : List ℕ) (t : SourceType) (s : State) (last : TokenParts) (commands : List Command)
    (rows : List Row) → list_all is_lasting commands ≡ true → GoesOnBehind (front ++ rest) s last
    → last.end + 4 ≤ length front → AllByRecursion (λ (row : Row). row.token.end + 4 ≤ length front) rows
    → Run (front ++ rest) t s commands rows → ChosenOn rule (front ++ rest) s commands rows
    → ChosenOn rule (front ++ other) s commands rows
kept_chosen rule Alike choose itself front rest other t s last [] rows lasting on near all run chosen = chosen
kept_chosen rule Alike choose itself front rest other t s last (c ∷ cs) [] lasting on near all run chosen = chosen
kept_chosen rule Alike choose itself front rest other t s last (c ∷ cs) (row ∷ rows) lasting on near all run chosen =
    let both = and_parts (is_lasting c) (list_all is_lasting cs) lasting in
    let step = lasting_steps c both.0 in
    let run = rw step at run in
    let same : rule (front ++ other) s.now.tokens ≡ rule (front ++ rest) s.now.tokens =
    choose (front ++ other) (front ++ rest) s.now.tokens s.now.tokens (itself s.now.tokens)
    (byte_of (front ++ other) s.now.tokens last on.last_is
    ∙ front_byte front other rest last.end (omega (arith, near))
    ∙ sym (byte_of (front ++ rest) s.now.tokens last on.last_is)) in (
      same ∙ chosen.0,
      kept_chosen rule Alike choose itself front rest other t (after_row (effect_of c) row s) row.token cs rows both.1
          (goes_behind (front ++ rest) t s c row last both.0 on run.0) all.0 all.1 run.1 chosen.1,
    )

module _ (rule : Rule) (Alike : Alikeness) (law : IsRule rule) (choose : ChoosesAlike rule Alike)
    (behind : AlikeBehind Alike) (again : AlikeAgain Alike) where
  -- Behind a row that is chosen tokens are alike, where they were before it.
  pub alike_after : (text : List ℕ) (t : SourceType) (a b : State) (c : Command) (row other : Row) (last : TokenParts)
      → IsUtf8 text → GoesOnBehind text a last → IsRow text t a.now (Some c) row → rule text a.now.tokens ≡ Some c
      → at_start other.token ≡ at_start row.token → other.taken ≡ row.taken → Alike b.now.tokens a.now.tokens
      → Alike (after_row (effect_of c) other b).now.tokens (after_row (effect_of c) row a).now.tokens
  alike_after text t a b c row other last u on is chosen same taken alike =
      by_due (law text a.now.tokens c chosen)
    where
      by_due : IsDue text a.now.tokens c
          → Alike (after_row (effect_of c) other b).now.tokens (after_row (effect_of c) row a).now.tokens
      by_due (reads_on goal effect onward later may) =
          subst (Alike (after_row (effect_of c) other b).now.tokens) (sym (tokens_on a c goal row effect))
          (subst (λ ts. Alike ts (a.now.tokens ++ row.token ∷ [])) (sym (tokens_on b c goal other effect))
          (behind b.now.tokens a.now.tokens other.token row.token alike same))
      by_due (reads_again goal effect final it is_last fit) =
          let one : it ≡ last = (let e : Some it ≡ Some last = sym is_last ∙ on.last_is in cc) in
          let fits_it = fit u (subst (IsOnPlaces text) (sym one) on.may.lies) in
          let r = row_again text t a c goal row it effect final is_last fits_it is in
          let settled : is_re_lexed other.token.kind ≡ false =
          ap (λ (x : TokenParts). is_re_lexed x.kind) same ∙ r.settled in
          subst (Alike (after_row (effect_of c) other b).now.tokens) (sym (tokens_again a c goal row effect r.taken))
          (subst (λ ts. Alike ts (with_last a.now.tokens row.token))
          (sym (tokens_again b c goal other effect (taken ∙ r.taken)))
          (again b.now.tokens a.now.tokens other.token row.token alike same settled))

  -- The commands that were chosen behind tokens are chosen behind ones that are alike, where the rest of the text is the
  -- same, and its rows are shifted.
  pub shifted_chosen : (before after rest : List ℕ) (t : SourceType) (a b : State) (last : TokenParts)
      (commands : List Command) (rows : List Row) → IsUtf8 (before ++ rest)
      → list_all is_lasting commands ≡ true → GoesOnBehind (before ++ rest) a last
      → last_live b.now ≡ Some (shifted_token (length before) (length after) last) → length before ≤ last.end
      → AllByRecursion (OfEachPlace (λ place. length before ≤ place)) rows
      → Run (before ++ rest) t a commands rows
      → Run (after ++ rest) t b commands (map (shifted_row (length before) (length after)) rows)
      → Alike b.now.tokens a.now.tokens → ChosenFrom (rule (before ++ rest)) a commands rows
      → ChosenFrom (rule (after ++ rest)) b commands (map (shifted_row (length before) (length after)) rows)
  shifted_chosen before after rest t a b last [] rows u lasting on there less all run moved alike chosen =
      shifted_choice rule Alike choose before after rest a.now.tokens b.now.tokens last on.last_is there less alike
      ∙ chosen
  shifted_chosen before after rest t a b last (c ∷ cs) [] u lasting on there less all run moved alike chosen =
      absurd chosen
  shifted_chosen before after rest t a b last (c ∷ cs) (row ∷ rows) u lasting on there less all run moved alike chosen =
      let both = and_parts (is_lasting c) (list_all is_lasting cs) lasting in
      let step = lasting_steps c both.0 in
      let run = rw step at run in
      let moved = rw step at moved in
      let new = shifted_row (length before) (length after) row in (
        shifted_choice rule Alike choose before after rest a.now.tokens b.now.tokens last on.last_is there less alike
            ∙ chosen.0,
        shifted_chosen before after rest t (after_row (effect_of c) row a) (after_row (effect_of c) new b) row.token cs
            rows u both.1 (goes_behind (before ++ rest) t a c row last both.0 on run.0)
            (last_behind (after ++ rest) t b c new (shifted_token (length before) (length after) last) both.0 there moved.0)
            all.0.end all.1 run.1 moved.1
            (alike_after (before ++ rest) t a b c row new last u on run.0 chosen.0 refl refl alike) chosen.1,
      )
