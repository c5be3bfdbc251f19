-- What a session has read, told of the rows of a text.
use Rattle.std.proofs.Common.{◌≡◌, ℕ, suc, ◌+◌, ◌<◌, Bool, List, [], ◌∷◌, ◌++◌, length, refl, sym, ◌∙◌}
use Rattle.std.proofs.Common.{ap, subst, arith, drop, length-append, Option, Some, None}
use Rattle.std.specs.List.{last_or}
use Rattle.std.specs.Str.{IsUtf8}
use Rattle.std.proofs.lemmas.List.{length-map}
use Rattle.js_text.specs.declared.source_type.SourceType.{SourceType}
use Rattle.js_kind.specs.TokenParts.{TokenParts}
use Rattle.js_kind.specs.declared.kind.Kind.TheVariants.{Eof}
use Rattle.js_lexer.specs.Lexer.{IsOnPlaces}
use Rattle.js_session.specs.declared.command.Command.{Command}
use Rattle.js_session.specs.declared.row.Row.{Row}
use Rattle.js_session.specs.Effects.{effect_of}
use Rattle.js_session.specs.Live.{State, after_row, nothing_live, state_after_first}
use Rattle.js_session.specs.Report.{IsRow, Run}
use Rattle.js_session.specs.Session.{Begins, MayResume, RunsFrom, SessionState, resumed, state_behind}
use Rattle.js_session.proofs.LastingRuns.{all_steps}
use Rattle.js_session.proofs.LiveLemmas.{last_or-push}
use Rattle.js_session.proofs.LocalRuns.{run_of_last}
use Rattle.js_session.proofs.RunsOn.{run_resumed}
use Rattle.js_choose.specs.Rules.{IsRule, Rule}
use Rattle.js_choose.proofs.SessionLemmas.{goes_start}
use Rattle.js_document.specs.declared.gap.Entry.{Entry}
use Rattle.js_document.specs.declared.open.Node.{Node}
use Rattle.js_document.specs.Gap.{rows_of}
use Rattle.js_document.specs.Reading.{AreKnown, ChosenOn, GoesOnFrom, JoiningState, JoinsHeld, JoinsNone, Knowledge, LastJoins}
use Rattle.js_document.specs.Reading.{ReadsBehind, ReadsFromStart, StepsChosen, UntilJoined, rule_behind, state_of, states_of}
use Rattle.js_document.specs.Reading.{with_row, with_rows}
use Rattle.js_document.specs.States.{Alikeness, IsLast}
use Rattle.js_document.proofs.EditedRows.{chosen_of_tokens, on_lasts, tokens_of_row}
use Rattle.js_document.proofs.LastTokens.{last_some, last_split}
use Rattle.js_document.proofs.ReadParts.{first_tokens}
use Rattle.js_document.proofs.TokenLemmas.{by_effect, effect_front, effect_length}

-- how many rows entries have that are those of a session
pub rows_long : {K : Type 0} (entries : List (Entry K)) (rows : List Row) → rows_of {K = K} entries ≡ rows
    → length rows ≡ length entries
rows_long {K} entries rows is = ap (λ l. length l) (sym is) ∙ length-map entries (λ (e : Entry K). e.row)

-- Commands that are chosen behind tokens of which a session has the last ones.
pub chosen_front : (front : List TokenParts) (rule : Rule) (text : List ℕ) (s : State) (commands : List Command)
    (rows : List Row) → 0 < length s.now.tokens → ChosenOn (rule_behind front rule) text s commands rows
    → ChosenOn rule text (state_of (front ++ s.now.tokens)) commands rows
chosen_front front rule text s [] rows some chosen = chosen
chosen_front front rule text s (c ∷ cs) [] some chosen = chosen
chosen_front front rule text s (c ∷ cs) (row ∷ rows) some chosen =
    let e = effect_of c in
    let next = after_row e row s in
    let next_tokens : next.now.tokens ≡ by_effect e row s.now.tokens =
    tokens_of_row e row s (state_of s.now.tokens) refl in
    let count = effect_length e row s.now.tokens in
    let long = ap (λ l. length l) next_tokens in
    let there : front ++ next.now.tokens ≡ by_effect e row (front ++ s.now.tokens) =
    ap (λ ts. front ++ ts) next_tokens ∙ sym (effect_front front s.now.tokens e row some) in (
      sym (rule_some s.now.tokens some) ∙ chosen.0,
      chosen_of_tokens rule text (state_of (front ++ next.now.tokens))
          (after_row e row (state_of (front ++ s.now.tokens))) cs rows there
          (chosen_front front rule text next cs rows (omega (arith, count, long, some)) chosen.1),
    )
  where
    rule_some : (tokens : List TokenParts) → 0 < length tokens
        → rule_behind front rule text tokens ≡ rule text (front ++ tokens)
    rule_some [] some = absurd (omega (arith, some))
    rule_some (token ∷ tokens) some = refl

module _ {K : Type 0} (rule : Rule) (law : IsRule rule) (knows : Knowledge K) (Alike : Alikeness)
    (old_nodes new_nodes : List Node) (j : JoiningState K) (text : List ℕ) (t : SourceType) where
  -- The rows of a session that went on behind a token.
  pub reads_behind : (collects : Bool) (front : List TokenParts) (last : TokenParts) (s : SessionState)
      (states : List K) (left : Option ℕ) (before now : ℕ) (entries : List (Entry K))
      → StepsChosen {K = K} rule knows Alike front old_nodes new_nodes j (resumed text t collects last) s [] states left
      before now → rows_of {K = K} entries ≡ s.rows → states_of {K = K} entries ≡ states
      → ReadsBehind {K = K} rule knows Alike old_nodes new_nodes j text t (front ++ last ∷ []) entries left
  reads_behind collects front last s states left before now entries steps rows_are states_are =
      let rows : rows_of {K = K} entries ≡ steps.rows = rows_are ∙ steps.rows_are in
      let known_states : states_of {K = K} entries ≡ steps.states = states_are ∙ steps.states_are in
      let tokens = front ++ last ∷ [] in
      let chosen : ChosenOn rule text (state_of tokens) steps.commands steps.rows =
      chosen_front front rule text (state_behind last) steps.commands steps.rows (omega arith) steps.chosen in
      let lasting = on_lasts rule law text (state_of tokens) steps.commands steps.rows chosen in
      let runs = steps.runs text t collects (state_behind last) [] (run_resumed text t collects last) in
      let own : runs.rows ≡ steps.rows = sym runs.rows_are ∙ steps.rows_are in
      let run : Run text t (state_of tokens) steps.commands steps.rows =
      run_of_last text t (state_behind last) (state_of tokens) last steps.commands steps.rows
      (all_steps steps.commands lasting) refl (last_or-push None front last)
      (subst (Run text t (state_behind last) steps.commands) own runs.answers) in
      record {
        commands = steps.commands;
        run = subst (Run text t (state_of tokens) steps.commands) (sym rows) run;
        chosen = subst (ChosenOn rule text (state_of tokens) steps.commands) (sym rows) chosen;
        known =
            subst (λ rs. AreKnown {K = K} knows new_nodes tokens rs (states_of {K = K} entries)) (sym rows)
            (subst (AreKnown {K = K} knows new_nodes tokens steps.rows) (sym known_states) steps.known);
        joined = subst (λ rs. UntilJoined {K = K} knows Alike old_nodes j tokens rs left) (sym rows) steps.joined;
        stops = λ none. ap (λ rs. rule text (with_rows tokens rs)) rows ∙ steps.stops none;
      }

  -- The rows of a session that began, and went on.
  pub reads_on_from_start : (collects : Bool) (old s : SessionState) (begun : Begins text t collects old) (first : K)
      (states : List K) (left : Option ℕ) (before now : ℕ) (entries : List (Entry K))
      → knows new_nodes first (begun.row.token ∷ [])
      → JoinsNone {K = K} knows Alike old_nodes j begun.row.token (begun.row.token ∷ [])
      → StepsChosen {K = K} rule knows Alike [] old_nodes new_nodes j old s (first ∷ []) states left before now
      → rows_of {K = K} entries ≡ s.rows → states_of {K = K} entries ≡ states
      → ReadsFromStart {K = K} rule knows Alike old_nodes new_nodes j text t entries left
  reads_on_from_start collects old s begun first states left before now entries known none steps rows_are states_are =
      by_entries entries
      (rows_are ∙ steps.rows_are ∙ ap (λ rs. rs ++ steps.rows) (ap (λ (x : SessionState). x.rows) begun.after))
      (states_are ∙ steps.states_are)
    where
      tokens_are : old.state.now.tokens ≡ begun.row.token ∷ []
      tokens_are = ap (λ (x : SessionState). x.state.now.tokens) begun.after

      state_is : old.state ≡ state_after_first begun.row
      state_is = ap (λ (x : SessionState). x.state) begun.after

      text_is : old.text ≡ text
      text_is = ap (λ (x : SessionState). x.text) begun.after

      first_row : with_row [] begun.row ≡ begun.row.token ∷ []
      first_row = first_tokens rule law text t begun.row begun.is_row []

      chosen : ChosenOn rule text (state_after_first begun.row) steps.commands steps.rows
      chosen =
          chosen_of_tokens rule text (state_of old.state.now.tokens) (state_after_first begun.row) steps.commands
          steps.rows tokens_are
          (subst (λ x. ChosenOn rule x (state_of old.state.now.tokens) steps.commands steps.rows) text_is
          (chosen_front [] rule old.text old.state steps.commands steps.rows
          (let long = ap (λ l. length l) tokens_are in omega (arith, long)) steps.chosen))

      runs : RunsFrom text t collects (state_after_first begun.row) (begun.row ∷ []) steps.commands s
      runs =
          steps.runs text t collects (state_after_first begun.row) (begun.row ∷ [])
          (record {
            text_is = ap (λ (x : SessionState). x.text) begun.after;
            type_is = ap (λ (x : SessionState). x.source_type) begun.after;
            collects_is = ap (λ (x : SessionState). x.collects) begun.after;
            rows = [];
            rows_are = ap (λ (x : SessionState). x.rows) begun.after;
            answers = refl;
            state = ap (λ (x : SessionState). x.state) begun.after;
          })

      run : Run text t (state_after_first begun.row) steps.commands steps.rows
      run =
          let same : begun.row ∷ runs.rows ≡ begun.row ∷ steps.rows =
          sym runs.rows_are ∙ steps.rows_are ∙ ap (λ rs. rs ++ steps.rows) (ap (λ (x : SessionState). x.rows) begun.after)
          in
          subst (Run text t (state_after_first begun.row) steps.commands) (ap (λ l. drop 1 l) same) runs.answers

      known_steps : AreKnown {K = K} knows new_nodes (with_row [] begun.row) steps.rows steps.states
      known_steps =
          subst (λ ts. AreKnown {K = K} knows new_nodes ts steps.rows steps.states) (tokens_are ∙ sym first_row) steps.known

      joined_steps : UntilJoined {K = K} knows Alike old_nodes j (with_row [] begun.row) steps.rows left
      joined_steps =
          subst (λ ts. UntilJoined {K = K} knows Alike old_nodes j ts steps.rows left) (tokens_are ∙ sym first_row)
          steps.joined

      none_first : JoinsNone {K = K} knows Alike old_nodes j begun.row.token (with_row [] begun.row)
      none_first = subst (JoinsNone {K = K} knows Alike old_nodes j begun.row.token) (sym first_row) none

      joined_all : (o : Option ℕ) → UntilJoined {K = K} knows Alike old_nodes j (with_row [] begun.row) steps.rows o
          → UntilJoined {K = K} knows Alike old_nodes j [] (begun.row ∷ steps.rows) o
      joined_all None until = (none_first, until)
      joined_all (Some n) until = record {
        before = begun.row ∷ until.before;
        last = until.last;
        rows_are = ap (λ rs. begun.row ∷ rs) until.rows_are;
        none = (none_first, until.none);
        joins = until.joins;
      }

      by_entries : (entries : List (Entry K)) → rows_of {K = K} entries ≡ begun.row ∷ steps.rows
          → states_of {K = K} entries ≡ first ∷ steps.states
          → ReadsFromStart {K = K} rule knows Alike old_nodes new_nodes j text t entries left
      by_entries [] rows states = absurd (let none = ap (λ l. length l) rows in omega (arith, none))
      by_entries (e ∷ es) rows states =
          let row : e.row ≡ begun.row = head_same rows in
          let rest : rows_of {K = K} es ≡ steps.rows = ap (λ l. drop 1 l) rows in
          let state : e.state ≡ first = head_state states in
          let others : states_of {K = K} es ≡ steps.states = ap (λ l. drop 1 l) states in
          record {
            first = e;
            behind = es;
            entries_are = refl;
            commands = steps.commands;
            is_first = subst (IsRow text t nothing_live None) (sym row) begun.is_row;
            run =
                subst (λ r. Run text t (state_after_first r) steps.commands (rows_of {K = K} es)) (sym row)
                (subst (Run text t (state_after_first begun.row) steps.commands) (sym rest) run);
            chosen =
                subst (λ r. ChosenOn rule text (state_after_first r) steps.commands (rows_of {K = K} es)) (sym row)
                (subst (ChosenOn rule text (state_after_first begun.row) steps.commands) (sym rest) chosen);
            known =
                subst (λ rs. AreKnown {K = K} knows new_nodes [] rs (e.state ∷ states_of {K = K} es)) (sym rows)
                (subst (λ ss. AreKnown {K = K} knows new_nodes [] (begun.row ∷ steps.rows) ss) (sym states)
                (subst (knows new_nodes first) (sym first_row) known, known_steps));
            joined =
                subst (λ rs. UntilJoined {K = K} knows Alike old_nodes j [] rs left) (sym rows)
                (joined_all left joined_steps);
            stops = λ none.
                ap (λ rs. rule text (with_rows [] rs)) rows
                ∙ ap (λ ts. rule text (with_rows ts steps.rows)) (first_row ∙ sym tokens_are)
                ∙ ap (λ x. rule x (with_rows old.state.now.tokens steps.rows)) (sym text_is) ∙ steps.stops none;
          }
        where
          head_same : e.row ∷ rows_of {K = K} es ≡ begun.row ∷ steps.rows → e.row ≡ begun.row
          head_same same = cc

          head_state : e.state ∷ states_of {K = K} es ≡ first ∷ steps.states → e.state ≡ first
          head_state same = cc

  -- The first row of a session, where it joins an old one.
  pub reads_first : (collects : Bool) (old : SessionState) (begun : Begins text t collects old) (first : K) (left : ℕ)
      (entries : List (Entry K)) → knows new_nodes first (begun.row.token ∷ [])
      → JoinsHeld {K = K} knows Alike old_nodes j begun.row.token (begun.row.token ∷ []) left
      → rows_of {K = K} entries ≡ old.rows → states_of {K = K} entries ≡ first ∷ []
      → ReadsFromStart {K = K} rule knows Alike old_nodes new_nodes j text t entries (Some left)
  reads_first collects old begun first left entries known joins rows_are states_are =
      by_entries entries (rows_are ∙ ap (λ (x : SessionState). x.rows) begun.after) states_are
    where
      first_row : with_row [] begun.row ≡ begun.row.token ∷ []
      first_row = first_tokens rule law text t begun.row begun.is_row []

      by_entries : (entries : List (Entry K)) → rows_of {K = K} entries ≡ begun.row ∷ []
          → states_of {K = K} entries ≡ first ∷ []
          → ReadsFromStart {K = K} rule knows Alike old_nodes new_nodes j text t entries (Some left)
      by_entries [] rows states = absurd (let none = ap (λ l. length l) rows in omega (arith, none))
      by_entries (e ∷ f ∷ es) rows states =
          absurd (let none = ap (λ l. length l) rows in omega (arith, none))
      by_entries (e ∷ []) rows states =
          let row : e.row ≡ begun.row = cc in
          let state : e.state ≡ first = cc in
          record {
            first = e;
            behind = [];
            entries_are = refl;
            commands = [];
            is_first = subst (IsRow text t nothing_live None) (sym row) begun.is_row;
            run = refl;
            chosen = refl;
            known =
                subst (λ r. AreKnown {K = K} knows new_nodes [] (r ∷ []) (e.state ∷ [])) (sym row)
                (subst (λ x. AreKnown {K = K} knows new_nodes [] (begun.row ∷ []) (x ∷ [])) (sym state)
                (subst (knows new_nodes first) (sym first_row) known, refl));
            joined =
                subst (λ r. LastJoins {K = K} knows Alike old_nodes j [] (r ∷ []) left) (sym row)
                (record {
                  before = [];
                  last = begun.row;
                  rows_are = refl;
                  none = tt;
                  joins =
                      subst (λ ts. JoinsHeld {K = K} knows Alike old_nodes j begun.row.token ts left) (sym first_row) joins;
                });
            stops = λ no. absurd (cc);
          }

  -- A session may go on behind the last of tokens of which this is known.
  pub goes_resumed : (collects : Bool) (front : List TokenParts) (last : TokenParts) (s : SessionState) (state : K)
      → s ≡ resumed text t collects last → IsUtf8 text → MayResume text last
      → (¬ (last.kind ≡ Eof) → last.start < last.end) → knows old_nodes state (front ++ last ∷ [])
      → GoesOnFrom {K = K} knows front old_nodes s text last state
  goes_resumed collects front last s state is u may some known =
      subst (λ x. GoesOnFrom {K = K} knows front old_nodes x text last state) (sym is)
      (record {
        text_is = refl;
        utf8 = u;
        is_last = refl;
        lies = may.lies;
        some_text = some;
        known = known;
      })

  -- And so may one that began.
  pub goes_begun : (collects : Bool) (s : SessionState) (begun : Begins text t collects s) (first : TokenParts) (state : K)
      → IsUtf8 text → first ≡ begun.row.token → knows old_nodes state (first ∷ [])
      → GoesOnFrom {K = K} knows [] old_nodes s text first state
  goes_begun collects s begun first state u is known =
      let last = (goes_start rule text t collects s u begun).last in
      let tokens : s.state.now.tokens ≡ first ∷ [] =
      ap (λ (x : SessionState). x.state.now.tokens) begun.after ∙ ap (λ x. x ∷ []) (sym is) in
      let same : last.last ≡ first =
      (let both : Some last.last ≡ Some first = sym last.is_last ∙ ap (last_or None) tokens in cc) in
      record {
        text_is = ap (λ (x : SessionState). x.text) begun.after;
        utf8 = u;
        is_last = ap (last_or None) tokens;
        lies = subst (IsOnPlaces text) same last.lies;
        some_text = subst (λ (x : TokenParts). ¬ (x.kind ≡ Eof) → x.start < x.end) same last.some_text;
        known = subst (knows old_nodes state) (sym tokens) known;
      }

  -- The rows of a session that went on behind the last of these tokens.
  pub reads_resumed : (collects : Bool) (tokens : List TokenParts) (last : TokenParts) (old s : SessionState)
      (old_states states : List K) (left : Option ℕ) (before now : ℕ) (entries : List (Entry K))
      → old ≡ resumed text t collects last → old_states ≡ [] → IsLast last tokens
      → ((front : List TokenParts) → tokens ≡ front ++ last ∷ []
      → StepsChosen {K = K} rule knows Alike front old_nodes new_nodes j old s old_states states left before now)
      → rows_of {K = K} entries ≡ s.rows → states_of {K = K} entries ≡ states
      → ReadsBehind {K = K} rule knows Alike old_nodes new_nodes j text t tokens entries left
  reads_resumed collects tokens last old s old_states states left before now entries old_is none is steps rows_are
      states_are =
      let split = last_split None tokens last is (last_some tokens last is) in
      subst (λ ts. ReadsBehind {K = K} rule knows Alike old_nodes new_nodes j text t ts entries left) (sym split.1)
      (reads_behind collects split.0 last s states left before now entries
      (subst
      (λ x. StepsChosen {K = K} rule knows Alike split.0 old_nodes new_nodes j x s [] states left before now) old_is
      (subst
      (λ xs. StepsChosen {K = K} rule knows Alike split.0 old_nodes new_nodes j old s xs states left before now) none
      (steps split.0 split.1)))
      rows_are states_are)

  known_long : (tokens : List TokenParts) (rows : List Row) (states : List K)
      → AreKnown {K = K} knows new_nodes tokens rows states → length states ≡ length rows
  known_long tokens [] states known = ap (λ l. length l) known
  known_long tokens (row ∷ rows) [] known = absurd known
  known_long tokens (row ∷ rows) (state ∷ states) known = ap suc (known_long (with_row tokens row) rows states known.1)

  -- How many steps were made, and that there is a state for each row.
  pub record AreMade (old s : SessionState) (old_states states : List K) (before now : ℕ) : Type 0 where
    pub ticks : now + length old.rows ≡ before + length s.rows
    pub states_long : length old_states ≡ length old.rows → length states ≡ length s.rows

  pub are_made : (front : List TokenParts) (old s : SessionState) (old_states states : List K) (left : Option ℕ)
      (before now : ℕ)
      → StepsChosen {K = K} rule knows Alike front old_nodes new_nodes j old s old_states states left before now
      → AreMade old s old_states states before now
  are_made front old s old_states states left before now steps =
      let rows = ap (λ l. length l) steps.rows_are ∙ length-append old.rows steps.rows in
      let more = ap (λ l. length l) steps.states_are ∙ length-append old_states steps.states in
      let same = known_long (front ++ old.state.now.tokens) steps.rows steps.states steps.known in
      let ticks = steps.ticks in
      record {
        ticks = omega (arith, rows, ticks);
        states_long = λ was. omega (arith, rows, more, same, was);
      }
