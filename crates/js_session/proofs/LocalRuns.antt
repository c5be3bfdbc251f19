-- Rows that end well before a place are rows of any text with this front; and a run of steps depends on no more of what
-- is live than the last token.
use Rattle.std.proofs.Common.{◌≡◌, ℕ, ◌+◌, ◌≤◌, Bool, true, false, List, [], ◌∷◌, ◌++◌, length, refl, sym, ◌∙◌, ap}
use Rattle.std.proofs.Common.{subst}
use Rattle.std.proofs.Common.{Option, None, Some}
use Rattle.std.specs.Prelude.{IfSome, MatchBool, if◌then◌else◌}
use Rattle.std.specs.List.{AllByRecursion, last_or, list_all}
use Rattle.std.specs.Str.{IsUtf8}
use Rattle.std.proofs.lemmas.Bool.{and_parts}
use Rattle.js_text.specs.Lists.{with_last}
use Rattle.js_text.specs.declared.source_type.SourceType.{SourceType}
use Rattle.js_kind.specs.TokenParts.{TokenParts}
use Rattle.js_grammar.specs.Goals.{AgreesWithGrammar, GoalReads}
use Rattle.js_grammar.specs.ReLexed.{fits}
use Rattle.js_grammar.specs.declared.goal.Goal.{Goal}
use Rattle.js_lexer.specs.Lexer.{IsOnPlaces, token_or_default}
use Rattle.js_session.specs.declared.command.Command.{Command}
use Rattle.js_session.specs.declared.row.Row.{Row}
use Rattle.js_session.specs.Effects.{effect_of, is_step, row_effect}
use Rattle.js_session.specs.declared.command.Effect.{Effect}
use Rattle.js_session.specs.declared.command.Effect.TheVariants.{Reads, Peeks, ReLexes, Opens, Rewinds, Commits}
use Rattle.js_session.specs.Live.{Live, State, after_row, last_live, outcome_of}
use Rattle.js_session.specs.Live.{with_re_lexed}
use Rattle.js_session.specs.Report.{IsNotTaken, IsOfEffect, IsRead, IsReLexed, IsRow, Run}
use Rattle.js_session.proofs.LiveLemmas.{last_or-push}
use Rattle.js_session.proofs.LocalRows.{row_local}
use Rattle.js_session.proofs.RunLemmas.{run_step}

-- the last of some tokens, of which the last one was replaced
last_replaced : (o : Option TokenParts) (t : TokenParts) (ts : List TokenParts) (token : TokenParts)
    → last_or o (with_last (t ∷ ts) token) ≡ Some token
last_replaced o t [] token = refl
last_replaced o t (u ∷ us) token = last_replaced (Some t) u us token

-- The last live token lies on the text behind a row, if it did before and the row's token does.
pub lies_behind : (text : List ℕ) (effect : Effect) (row : Row) (s : State) → IsOnPlaces text row.token
    → IfSome (last_live s.now) (IsOnPlaces text) → IfSome (last_live (after_row effect row s).now) (IsOnPlaces text)
lies_behind text (Reads goal) row s token last =
    subst (λ o. IfSome o (IsOnPlaces text)) (sym (last_or-push None s.now.tokens row.token)) token
lies_behind text (Peeks goal) row s token last = last
lies_behind text (ReLexes goal) row s token last = by_flag row.taken
  where
    replaced : (tokens : List TokenParts) → IfSome (last_or None (with_last tokens row.token)) (IsOnPlaces text)
    replaced [] = tt
    replaced (t ∷ ts) = subst (λ o. IfSome o (IsOnPlaces text)) (sym (last_replaced None t ts row.token)) token

    by_flag : (b : Bool)
        → IfSome
        (last_live (if b then record s { now = with_re_lexed s.now (outcome_of row) } else s).now) (IsOnPlaces text)
    by_flag true = replaced s.now.tokens
    by_flag false = last
lies_behind text Opens row s token last = last
lies_behind text Rewinds row s token last = last
lies_behind text Commits row s token last = last

pub run_local : (front rest other : List ℕ) (t : SourceType) (s : State) (commands : List Command) (rows : List Row)
    → IsUtf8 (front ++ rest) → IsUtf8 (front ++ other) → IfSome (last_live s.now) (IsOnPlaces (front ++ rest))
    → list_all is_step commands ≡ true → AllByRecursion (λ row. row.token.end + 4 ≤ length front) rows
    → Run (front ++ rest) t s commands rows → Run (front ++ other) t s commands rows
run_local front rest other t s [] rows u v last steps near run = run
run_local front rest other t s (c ∷ cs) [] u v last steps near run =
    absurd (let step = (and_parts (is_step c) (list_all is_step cs) steps).0 in rw step at run)
run_local front rest other t s (c ∷ cs) (row ∷ rows) u v last steps near run =
    let step = and_parts (is_step c) (list_all is_step cs) steps in
    let both = rw step.0 at run in
    run_step (front ++ other) t s c cs row rows step.0
    (row_local front rest other t s.now (Some c) row u v last near.0 both.0)
    (run_local front rest other t (after_row (effect_of c) row s) cs rows u v
    (lies_behind (front ++ rest) (effect_of c) row s both.0.places.token last) step.1 near.1 both.1)

-- A row of where one token is the last live one is a row of where it is the last live one as well.
row_of_last : (text : List ℕ) (t : SourceType) (a b : Live) (command : Option Command) (row : Row)
    → last_live b ≡ last_live a → IsRow text t a command row → IsRow text t b command row
row_of_last text t a b command row same is = record {
  command_is = is.command_is;
  place = is.place ∙ ap (λ l. (token_or_default l).end) (sym same);
  gives = by_effect (row_effect command) is.gives;
  places = is.places;
}
  where
    read : (goal : Goal) → IsRead text t a goal row → IsRead text t b goal row
    read goal is = record {
      taken = is.taken;
      reads = subst (λ l. GoalReads text t goal l row.place (outcome_of row)) (sym same) is.reads;
      agrees =
          λ plain. subst (λ l. AgreesWithGrammar text t goal l row.place (outcome_of row)) (sym same) (is.agrees plain);
      some_text = is.some_text;
    }

    re_lexed : (goal : Goal) → IsReLexed text t a goal row → IsReLexed text t b goal row
    re_lexed goal is = record {
      taken = is.taken;
      reads =
          subst (λ l. GoalReads text t goal l (token_or_default l).start (outcome_of row)) (sym same) is.reads;
    }

    not_taken : IsNotTaken a row → IsNotTaken b row
    not_taken is = record {
      taken = is.taken;
      token = is.token ∙ ap token_or_default (sym same);
      value = is.value;
      regex = is.regex;
      findings = is.findings;
    }

    by_flag : (goal : Goal) (x : Bool) → MatchBool x (IsReLexed text t a goal row) (IsNotTaken a row)
        → MatchBool x (IsReLexed text t b goal row) (IsNotTaken b row)
    by_flag goal true is = re_lexed goal is
    by_flag goal false is = not_taken is

    by_effect : (effect : Effect) → IsOfEffect text t a effect row → IsOfEffect text t b effect row
    by_effect (Reads goal) is = read goal is
    by_effect (Peeks goal) is = read goal is
    by_effect (ReLexes goal) is =
        subst (λ l. MatchBool (fits text goal (token_or_default l)) (IsReLexed text t b goal row) (IsNotTaken b row))
        (sym same) (by_flag goal (fits text goal (token_or_default (last_live a))) is)
    by_effect Opens is = is
    by_effect Rewinds is = is
    by_effect Commits is = is

-- the last live token behind a row of an effect, where there was one before it
abbrev last_of : Effect → Row → TokenParts → TokenParts
last_of (Reads goal) row token = row.token
last_of (Peeks goal) row token = token
last_of (ReLexes goal) row token = if row.taken then row.token else token
last_of Opens row token = token
last_of Rewinds row token = token
last_of Commits row token = token

-- a token that was read again is the last one
pub replaced_last : (tokens : List TokenParts) (last token : TokenParts) → last_or None tokens ≡ Some last
    → last_or None (with_last tokens token) ≡ Some token
replaced_last [] last token e = absurd (let no = e in cc)
replaced_last (t ∷ ts) last token e = last_replaced None t ts token

last_behind : (effect : Effect) (row : Row) (s : State) (token : TokenParts) → last_live s.now ≡ Some token
    → last_live (after_row effect row s).now ≡ Some (last_of effect row token)
last_behind (Reads goal) row s token e = last_or-push None s.now.tokens row.token
last_behind (Peeks goal) row s token e = e
last_behind (ReLexes goal) row s token e = by_flag row.taken
  where
    by_flag : (b : Bool)
        → last_live (if b then record s { now = with_re_lexed s.now (outcome_of row) } else s).now
        ≡ Some (if b then row.token else token)
    by_flag true = replaced_last s.now.tokens token row.token e
    by_flag false = e
last_behind Opens row s token e = e
last_behind Rewinds row s token e = e
last_behind Commits row s token e = e

-- A run of steps is one from wherever the same token is the last live one.
pub run_of_last : (text : List ℕ) (t : SourceType) (a b : State) (token : TokenParts) (commands : List Command)
    (rows : List Row) → list_all is_step commands ≡ true → last_live a.now ≡ Some token → last_live b.now ≡ Some token
    → Run text t a commands rows → Run text t b commands rows
run_of_last text t a b token [] rows steps here there run = run
run_of_last text t a b token (c ∷ cs) [] steps here there run =
    absurd (let step = (and_parts (is_step c) (list_all is_step cs) steps).0 in rw step at run)
run_of_last text t a b token (c ∷ cs) (row ∷ rows) steps here there run =
    let step = and_parts (is_step c) (list_all is_step cs) steps in
    let both = rw step.0 at run in
    run_step text t b c cs row rows step.0 (row_of_last text t a.now b.now (Some c) row (there ∙ sym here) both.0)
    (run_of_last text t (after_row (effect_of c) row a) (after_row (effect_of c) row b)
    (last_of (effect_of c) row token) cs rows step.1 (last_behind (effect_of c) row a token here)
    (last_behind (effect_of c) row b token there) both.1)
