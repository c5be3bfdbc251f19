-- Steps that are chosen behind tokens of which a session has the last one, up to one whose row joins an old one.
use Rattle.std.proofs.Common.{◌≡◌, ℕ, ◌+◌, ◌<◌, Bool, true, false, List, [], ◌∷◌, ◌++◌, length, refl, sym, ◌∙◌}
use Rattle.std.proofs.Common.{ap, subst, arith, append_assoc, append-nil, length-append, Option, Some, None}
use Rattle.std.specs.List.{last_or}
use Rattle.std.specs.Str.{IsUtf8}
use Rattle.js_text.specs.Lists.{with_last}
use Rattle.js_text.specs.declared.source_type.SourceType.{SourceType}
use Rattle.js_kind.specs.TokenParts.{TokenParts}
use Rattle.js_kind.specs.declared.kind.Kind.TheVariants.{Eof}
use Rattle.js_grammar.specs.ReLexed.{fits}
use Rattle.js_lexer.specs.Lexer.{IsOnPlaces}
use Rattle.js_session.specs.declared.command.Command.{Command}
use Rattle.js_session.specs.declared.command.Effect.{Effect}
use Rattle.js_session.specs.declared.command.Effect.TheVariants.{Reads, Peeks, ReLexes, Opens, Rewinds, Commits}
use Rattle.js_session.specs.declared.row.Row.{Row}
use Rattle.js_session.specs.Effects.{effect_of, is_lasting}
use Rattle.js_session.specs.Live.{State, after_row}
use Rattle.js_session.specs.Report.{HasMark}
use Rattle.js_session.specs.Session.{AddsRow, Follows, RunsFrom, SessionState}
use Rattle.js_session.proofs.LastingRuns.{lasting_closes, lasting_steps}
use Rattle.js_session.proofs.LiveLemmas.{last_or-push, last_or-with_last, with_last-append}
use Rattle.js_session.proofs.RunsOn.{run_on}
use Rattle.js_choose.specs.Rules.{IsDue, IsRule, Rule, with_token}
use Rattle.js_choose.specs.Rules.IsDue.{reads_on, reads_again}
use Rattle.js_choose.proofs.SessionLemmas.{LastLies, advance, left_of, tokens_told}
use Rattle.js_document.specs.declared.open.Node.{Node}
use Rattle.js_document.specs.Reading.{AreKnown, ChosenOn, GoesOnFrom, JoiningState, JoinsHeld, JoinsNone, Knowledge}
use Rattle.js_document.specs.Reading.{NoneJoins, StepsChosen, rule_behind, with_row, with_rows}
use Rattle.js_document.specs.States.{Alikeness, IsLast, Settles}
use Rattle.js_document.specs.Trie.{HasMore}
use Rattle.js_document.proofs.EditedRows.{due_lasts, on_glued, on_rows}
use Rattle.js_document.proofs.LastTokens.{last_some}
use Rattle.js_document.proofs.RuleLemmas.{row_again}
use Rattle.js_document.proofs.TokenLemmas.{command_tokens, row_front, rows_both}
use Rattle.js_document.proofs.TrieLemmas.{more_still, none_more}

-- the last of tokens behind others
last_front : (o : Option TokenParts) (front : List TokenParts) (token : TokenParts) (tokens : List TokenParts)
    → last_or o (front ++ token ∷ tokens) ≡ last_or None (token ∷ tokens)
last_front o [] token tokens = refl
last_front o (f ∷ front) token tokens = last_front (Some f) front token tokens

pub last_behind_front : (front tokens : List TokenParts) (last : TokenParts) → IsLast last tokens
    → IsLast last (front ++ tokens)
last_behind_front front [] last is = absurd (cc)
last_behind_front front (token ∷ tokens) last is = last_front None front token tokens ∙ is

pub rule_there : (front : List TokenParts) (rule : Rule) (text : List ℕ) (tokens : List TokenParts) (last : TokenParts)
    → IsLast last tokens → rule_behind front rule text tokens ≡ rule text (front ++ tokens)
rule_there front rule text [] last is = absurd (cc)
rule_there front rule text (token ∷ tokens) last is = refl

pub law_behind : (front : List TokenParts) (rule : Rule) → IsRule rule → IsRule (rule_behind front rule)
law_behind front rule law text [] c e = absurd (cc)
law_behind front rule law text (token ∷ tokens) c e = by_due (law text (front ++ token ∷ tokens) c e)
  where
    by_due : IsDue text (front ++ token ∷ tokens) c → IsDue text (token ∷ tokens) c
    by_due (reads_on goal effect onward later may) =
        reads_on goal effect onward later
        (λ last is. may last (last_front None front token tokens ∙ is))
    by_due (reads_again goal effect final last is fit) =
        reads_again goal effect final last (sym (last_front None front token tokens) ∙ is) fit

-- what is told of a token, behind others
told_front : (front : List TokenParts) (e : Effect) (tokens : List TokenParts) (token : TokenParts) → 0 < length tokens
    → with_token e (front ++ tokens) token ≡ front ++ with_token e tokens token
told_front front e [] token some = absurd (omega (arith, some))
told_front front (Reads goal) (t ∷ ts) token some = append_assoc front (t ∷ ts) (token ∷ [])
told_front front (Peeks goal) (t ∷ ts) token some = refl
told_front front (ReLexes goal) (t ∷ ts) token some = with_last-append front t ts token
told_front front Opens (t ∷ ts) token some = refl
told_front front Rewinds (t ∷ ts) token some = refl
told_front front Commits (t ∷ ts) token some = refl

module _ {K : Type 0} (rule : Rule) (knows : Knowledge K) (Alike : Alikeness) (front : List TokenParts)
    (old_nodes : List Node) (j : JoiningState K) (old : SessionState) (old_states : List K) (before : ℕ) where
  -- The steps so far were chosen, and none of their rows joins an old one; this is known behind the last token.
  pub record SoFar (nodes : List Node) (s : SessionState) (states : List K) (last : TokenParts) (state : K) (now : ℕ)
      : Type 0 where
    pub commands : List Command
    pub rows : List Row
    pub new_states : List K
    pub text_is : s.text ≡ old.text
    pub rows_are : s.rows ≡ old.rows ++ rows
    pub states_are : states ≡ old_states ++ new_states
    pub runs : (text : List ℕ) (t : SourceType) (collects : Bool) (start : State) (first : List Row)
        → RunsFrom text t collects start first [] old → RunsFrom text t collects start first commands s
    pub state_is : s.state ≡ on_rows old.state commands rows
    pub chosen : ChosenOn (rule_behind front rule) old.text old.state commands rows
    pub tokens_are : front ++ s.state.now.tokens ≡ with_rows (front ++ old.state.now.tokens) rows
    pub known : AreKnown {K = K} knows nodes (front ++ old.state.now.tokens) rows new_states
    pub none : NoneJoins {K = K} knows Alike old_nodes j (front ++ old.state.now.tokens) rows
    pub last_is : IsLast last s.state.now.tokens
    pub lies : IsOnPlaces old.text last
    pub some_text : ¬ (last.kind ≡ Eof) → last.start < last.end
    pub known_last : knows nodes state (front ++ s.state.now.tokens)
    pub more : HasMore old_nodes nodes
    pub ticks : now ≡ before + length rows

module _ {K : Type 0} (rule : Rule) (law : IsRule rule) (knows : Knowledge K) (Alike : Alikeness)
    (stays : (old new : List Node) (state : K) (tokens : List TokenParts) → HasMore old new → knows old state tokens
    → knows new state tokens) (front : List TokenParts) (old_nodes : List Node) (j : JoiningState K)
    (old : SessionState) (old_states : List K) (before : ℕ) where
  abbrev IsSoFar : List Node → SessionState → List K → TokenParts → K → ℕ → Type 0
  IsSoFar = SoFar {K = K} rule knows Alike front old_nodes j old old_states before

  pub so_far_start : (text : List ℕ) (last : TokenParts) (state : K)
      → GoesOnFrom {K = K} knows front old_nodes old text last state
      → IsSoFar old_nodes old old_states last state before
  so_far_start text last state goes = record {
    commands = [];
    rows = [];
    new_states = [];
    text_is = refl;
    rows_are = sym (append-nil old.rows);
    states_are = sym (append-nil old_states);
    runs = λ text t collects start first h. h;
    state_is = refl;
    chosen = refl;
    tokens_are = refl;
    known = refl;
    none = tt;
    last_is = goes.is_last;
    lies = subst (λ x. IsOnPlaces x last) (sym goes.text_is) goes.lies;
    some_text = goes.some_text;
    known_last = goes.known;
    more = none_more old_nodes;
    ticks = omega arith;
  }

  module _ (nodes : List Node) (s : SessionState) (states : List K) (last : TokenParts) (state : K) (now : ℕ)
      (u : IsUtf8 old.text) (f : IsSoFar nodes s states last state now) (c : Command)
      (e : rule old.text (front ++ s.state.now.tokens) ≡ Some c) where
    chosen_here : rule_behind front rule s.text s.state.now.tokens ≡ Some c
    chosen_here =
        rule_there front rule s.text s.state.now.tokens last f.last_is
        ∙ ap (λ x. rule x (front ++ s.state.now.tokens)) f.text_is ∙ e

    utf8 : IsUtf8 s.text
    utf8 = subst IsUtf8 (sym f.text_is) u

    abbrev last_lies : LastLies s.text s.state.now.tokens
    last_lies = record {
      last = last;
      is_last = f.last_is;
      lies = subst (λ x. IsOnPlaces x last) (sym f.text_is) f.lies;
      some_text = f.some_text;
    }

    due : IsDue s.text s.state.now.tokens c
    due = law_behind front rule law s.text s.state.now.tokens c chosen_here

    pub step_lasts : is_lasting c ≡ true
    step_lasts = due_lasts s.text s.state.now.tokens c due

    module _ (new : SessionState) (a : AddsRow c s new) where
      pub step_less : left_of old.text new.state.now.tokens < left_of old.text s.state.now.tokens
      step_less =
          subst (λ x. left_of x new.state.now.tokens < left_of x s.state.now.tokens) f.text_is
          (advance (rule_behind front rule) (law_behind front rule law) s new c utf8 last_lies chosen_here a).less

      -- the token of the row is read no more, if it was read again
      pub step_settles : Settles (effect_of c) a.row.token
      step_settles = by_due due
        where
          by_due : IsDue s.text s.state.now.tokens c → Settles (effect_of c) a.row.token
          by_due (reads_on goal effect onward later may) =
              subst (λ k. Settles k a.row.token) (sym effect) tt
          by_due (reads_again goal effect final it is_last fit) =
              let same : it ≡ last = (let both : Some it ≡ Some last = sym is_last ∙ f.last_is in cc) in
              let fits_it : fits s.text goal it ≡ true =
              fit utf8 (subst (IsOnPlaces s.text) (sym same) last_lies.lies) in
              subst (λ k. Settles k a.row.token) (sym effect)
              (row_again s.text s.source_type s.state c goal a.row it effect final is_last fits_it a.is_row).settled

      told : new.state.now.tokens ≡ with_token (effect_of c) s.state.now.tokens a.row.token
      told =
          tokens_told (rule_behind front rule) (law_behind front rule law) s new c utf8
          (λ it is. (let same : it ≡ last = (let both : Some it ≡ Some last = sym is ∙ f.last_is in cc) in
          subst (IsOnPlaces s.text) (sym same) last_lies.lies)) chosen_here a

      -- what is told of it, behind the tokens before
      pub step_told : with_token (effect_of c) (front ++ s.state.now.tokens) a.row.token ≡ front ++ new.state.now.tokens
      step_told =
          told_front front (effect_of c) s.state.now.tokens a.row.token (last_some s.state.now.tokens last f.last_is)
          ∙ ap (λ ts. front ++ ts) (sym told)

      advanced : LastLies s.text new.state.now.tokens
      advanced =
          (advance (rule_behind front rule) (law_behind front rule law) s new c utf8 last_lies chosen_here a).last

      -- the last token is that of the row
      pub step_last : IsLast a.row.token new.state.now.tokens
      step_last = ap (last_or None) told ∙ by_due due
        where
          by_due : IsDue s.text s.state.now.tokens c
              → last_or None (with_token (effect_of c) s.state.now.tokens a.row.token) ≡ Some a.row.token
          by_due (reads_on goal effect onward later may) =
              ap (λ k. last_or None (with_token k s.state.now.tokens a.row.token)) effect
              ∙ last_or-push None s.state.now.tokens a.row.token
          by_due (reads_again goal effect final it is_last fit) =
              ap (λ k. last_or None (with_token k s.state.now.tokens a.row.token)) effect
              ∙ put s.state.now.tokens f.last_is
            where
              put : (tokens : List TokenParts) → IsLast last tokens
                  → last_or None (with_last tokens a.row.token) ≡ Some a.row.token
              put [] is = absurd (cc)
              put (t ∷ ts) is = last_or-with_last None t ts a.row.token

      same_last : advanced.last ≡ a.row.token
      same_last = (let both : Some advanced.last ≡ Some a.row.token = sym advanced.is_last ∙ step_last in cc)

      pub step_lies : IsOnPlaces s.text a.row.token
      step_lies = subst (IsOnPlaces s.text) same_last advanced.lies

      some_text : ¬ (a.row.token.kind ≡ Eof) → a.row.token.start < a.row.token.end
      some_text = subst (λ (x : TokenParts). ¬ (x.kind ≡ Eof) → x.start < x.end) same_last advanced.some_text

      tokens_more : front ++ new.state.now.tokens
          ≡ with_row (with_rows (front ++ old.state.now.tokens) f.rows) a.row
      tokens_more =
          ap (λ (x : SessionState). front ++ x.state.now.tokens) a.after
          ∙ ap (λ ts. front ++ ts) (command_tokens c a.row s.state a.is_row.command_is)
          ∙ sym (row_front front s.state.now.tokens a.row (last_some s.state.now.tokens last f.last_is))
          ∙ ap (λ ts. with_row ts a.row) f.tokens_are

      pub step_tokens : front ++ new.state.now.tokens ≡ with_rows (front ++ old.state.now.tokens) (f.rows ++ a.row ∷ [])
      step_tokens = tokens_more ∙ sym (rows_both (front ++ old.state.now.tokens) f.rows (a.row ∷ []))

      chosen_more : ChosenOn (rule_behind front rule) old.text old.state (f.commands ++ c ∷ []) (f.rows ++ a.row ∷ [])
      chosen_more =
          on_glued (rule_behind front rule) old.text old.state f.commands (c ∷ []) f.rows (a.row ∷ []) f.chosen (
            subst (λ x. rule_behind front rule old.text x.now.tokens ≡ Some c) f.state_is
                (subst (λ x. rule_behind front rule x s.state.now.tokens ≡ Some c) f.text_is chosen_here),
            refl,
          )

      state_more : new.state ≡ on_rows old.state (f.commands ++ c ∷ []) (f.rows ++ a.row ∷ [])
      state_more =
          ap (λ (x : SessionState). x.state) a.after ∙ ap (after_row (effect_of c) a.row) f.state_is
          ∙ sym (on_more (rule_behind front rule) old.text old.state f.commands f.rows f.chosen)
        where
          on_more : (rule : Rule) (text : List ℕ) (s : State) (commands : List Command) (rows : List Row)
              → ChosenOn rule text s commands rows
              → on_rows s (commands ++ c ∷ []) (rows ++ a.row ∷ [])
              ≡ after_row (effect_of c) a.row (on_rows s commands rows)
          on_more rule text s [] rows chosen =
              ap (λ rs. on_rows s (c ∷ []) (rs ++ a.row ∷ [])) chosen
          on_more rule text s (d ∷ ds) [] chosen = absurd chosen
          on_more rule text s (d ∷ ds) (row ∷ rows) chosen =
              on_more rule text (after_row (effect_of d) row s) ds rows chosen.1

      runs_more : (text : List ℕ) (t : SourceType) (collects : Bool) (start : State) (first : List Row)
          → RunsFrom text t collects start first [] old → RunsFrom text t collects start first (f.commands ++ c ∷ []) new
      runs_more text t collects start first h =
          let none : HasMark c s.state =
          λ closes. absurd (let no : true ≡ false = sym closes ∙ lasting_closes c step_lasts in cc) in
          let follows : Follows c s new = rw (lasting_steps c step_lasts) a in
          run_on text t collects start first f.commands c s new (f.runs text t collects start first h) none follows

      rows_more : new.rows ≡ old.rows ++ (f.rows ++ a.row ∷ [])
      rows_more =
          ap (λ (x : SessionState). x.rows) a.after ∙ ap (λ rs. rs ++ a.row ∷ []) f.rows_are
          ∙ append_assoc old.rows f.rows (a.row ∷ [])

      count_more : length (f.rows ++ a.row ∷ []) ≡ length f.rows + 1
      count_more = length-append f.rows (a.row ∷ [])

      module _ (next_nodes : List Node) (grown : HasMore nodes next_nodes) (next : K)
          (known_next : knows next_nodes next (front ++ new.state.now.tokens)) where
        known_more : AreKnown {K = K} knows next_nodes (front ++ old.state.now.tokens) (f.rows ++ a.row ∷ [])
            (f.new_states ++ next ∷ [])
        known_more = go (front ++ old.state.now.tokens) f.rows f.new_states f.known
            (subst (knows next_nodes next) tokens_more known_next)
          where
            go : (tokens : List TokenParts) (rows : List Row) (states : List K)
                → AreKnown {K = K} knows nodes tokens rows states → knows next_nodes next (with_row (with_rows tokens rows) a.row)
                → AreKnown {K = K} knows next_nodes tokens (rows ++ a.row ∷ []) (states ++ next ∷ [])
            go tokens [] states known here =
                subst (λ ss. AreKnown {K = K} knows next_nodes tokens (a.row ∷ []) (ss ++ next ∷ [])) (sym known) (here, refl)
            go tokens (row ∷ rows) [] known here = absurd known
            go tokens (row ∷ rows) (x ∷ xs) known here =
                (stays nodes next_nodes x (with_row tokens row) grown known.0, go (with_row tokens row) rows xs known.1 here)

        all_more : HasMore old_nodes next_nodes
        all_more = more_still old_nodes nodes next_nodes f.more grown

        -- One step more, whose row joins none.
        pub so_far_step : (new_states : List K) (ticks : ℕ) → new_states ≡ states ++ next ∷ [] → ticks ≡ now + 1
            → JoinsNone {K = K} knows Alike old_nodes j a.row.token (front ++ new.state.now.tokens)
            → IsSoFar next_nodes new new_states a.row.token next ticks
        so_far_step new_states ticks pushed counted none = record {
          commands = f.commands ++ c ∷ [];
          rows = f.rows ++ a.row ∷ [];
          new_states = f.new_states ++ next ∷ [];
          text_is = ap (λ (x : SessionState). x.text) a.after ∙ f.text_is;
          rows_are = rows_more;
          states_are =
              pushed ∙ ap (λ ss. ss ++ next ∷ []) f.states_are ∙ append_assoc old_states f.new_states (next ∷ []);
          runs = runs_more;
          state_is = state_more;
          chosen = chosen_more;
          tokens_are = step_tokens;
          known = known_more;
          none =
              none_more (front ++ old.state.now.tokens) f.rows f.none
              (subst (JoinsNone {K = K} knows Alike old_nodes j a.row.token) tokens_more none);
          last_is = step_last;
          lies = subst (λ x. IsOnPlaces x a.row.token) f.text_is step_lies;
          some_text = some_text;
          known_last = known_next;
          more = all_more;
          ticks = (let was = f.ticks in omega (arith, counted, was, count_more));
        }
          where
            none_more : (tokens : List TokenParts) (rows : List Row) → NoneJoins {K = K} knows Alike old_nodes j tokens rows
                → JoinsNone {K = K} knows Alike old_nodes j a.row.token (with_row (with_rows tokens rows) a.row)
                → NoneJoins {K = K} knows Alike old_nodes j tokens (rows ++ a.row ∷ [])
            none_more tokens [] none here = (here, tt)
            none_more tokens (row ∷ rows) none here = (none.0, none_more (with_row tokens row) rows none.1 here)

        -- One step more, whose row joins an old one.
        pub steps_joined : (new_states : List K) (left ticks : ℕ) → new_states ≡ states ++ next ∷ [] → ticks ≡ now + 1
            → JoinsHeld {K = K} knows Alike old_nodes j a.row.token (front ++ new.state.now.tokens) left
            → StepsChosen {K = K} rule knows Alike front old_nodes next_nodes j old new old_states new_states (Some left)
            before ticks
        steps_joined new_states left ticks pushed counted joins = record {
          commands = f.commands ++ c ∷ [];
          rows = f.rows ++ a.row ∷ [];
          states = f.new_states ++ next ∷ [];
          rows_are = rows_more;
          states_are =
              pushed ∙ ap (λ ss. ss ++ next ∷ []) f.states_are ∙ append_assoc old_states f.new_states (next ∷ []);
          runs = runs_more;
          chosen = chosen_more;
          known = known_more;
          joined = record {
            before = f.rows;
            last = a.row;
            rows_are = refl;
            none = f.none;
            joins = subst (λ ts. JoinsHeld {K = K} knows Alike old_nodes j a.row.token ts left) step_tokens joins;
          };
          stops = λ no. absurd (cc);
          ticks = (let was = f.ticks in omega (arith, counted, was, count_more));
        }

  -- No step more is chosen.
  pub steps_end : (nodes : List Node) (s : SessionState) (states : List K) (last : TokenParts) (state : K) (now : ℕ)
      → (f : IsSoFar nodes s states last state now) → rule old.text (front ++ s.state.now.tokens) ≡ None
      → StepsChosen {K = K} rule knows Alike front old_nodes nodes j old s old_states states None before now
  steps_end nodes s states last state now f stops = record {
    commands = f.commands;
    rows = f.rows;
    states = f.new_states;
    rows_are = f.rows_are;
    states_are = f.states_are;
    runs = f.runs;
    chosen = f.chosen;
    known = f.known;
    joined = f.none;
    stops = λ none. ap (rule old.text) (sym f.tokens_are) ∙ stops;
    ticks = f.ticks;
  }
