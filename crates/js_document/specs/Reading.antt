-- How the rows of an edited text are read up to the one at which the old rows are joined.
use Rattle.std.specs.Prelude.{◌≡◌, ℕ, ◌+◌, ◌≤◌, Bool, List, [], ◌∷◌, ◌++◌, length, map, Option, Some, None}
use Rattle.std.specs.Prelude.{slice_get, ◌<◌}
use Rattle.std.specs.Str.{IsUtf8}
use Rattle.js_text.specs.declared.source_type.SourceType.{SourceType}
use Rattle.js_grammar.specs.Outcome.{no_findings}
use Rattle.js_kind.specs.TokenParts.{TokenParts}
use Rattle.js_kind.specs.declared.kind.Kind.TheVariants.{Eof}
use Rattle.js_lexer.specs.Lexer.{IsOnPlaces}
use Rattle.js_session.specs.declared.command.Command.{Command}
use Rattle.js_session.specs.declared.row.Row.{Row}
use Rattle.js_session.specs.Effects.{effect_of, row_effect}
use Rattle.js_session.specs.Live.{State, after_row, nothing_live, state_after_first}
use Rattle.js_session.specs.Report.{IsRow, Run}
use Rattle.js_session.specs.Session.{RunsFrom, SessionState}
use Rattle.js_session.specs.Shifted.{shifted_token}
use Rattle.js_choose.specs.Rules.{Rule}
use Rattle.js_relex.specs.Joined.{at_start}
use Rattle.js_document.specs.declared.gap.Entry.{Entry}
use Rattle.js_document.specs.declared.open.Node.{Node}
use Rattle.js_document.specs.Gap.{rows_of}
use Rattle.js_document.specs.States.{Alikeness, IsLast}

-- what is known of tokens, by values and the nodes that their links lead to
abbrev pub Knowledge : Type 0 → Type 1
Knowledge K = List Node → K → List TokenParts → Type 0

-- these tokens are live, and nothing was found
abbrev pub state_of : List TokenParts → State
state_of tokens = record { now = record { tokens = tokens; findings = no_findings }; marks = [] }

-- what entries know
abbrev pub states_of : {K : Type 0} → List (Entry K) → List K
states_of {K} entries = map (λ (e : Entry K). e.state) entries

-- the live tokens with what a row makes live
abbrev pub with_row : List TokenParts → Row → List TokenParts
with_row tokens row = (after_row (row_effect row.command) row (state_of tokens)).now.tokens

-- and with what rows make live
abbrev pub with_rows : List TokenParts → List Row → List TokenParts
with_rows tokens [] = tokens
with_rows tokens (row ∷ rows) = with_rows (with_row tokens row) rows

-- What is known of each row is known of the tokens that are live behind it, where these are live before them.
abbrev pub AreKnown : {K : Type 0} → Knowledge K → List Node → List TokenParts → List Row → List K → Type 0
AreKnown {K} knows nodes tokens [] states = states ≡ []
AreKnown {K} knows nodes tokens (row ∷ rows) [] = ⊥
AreKnown {K} knows nodes tokens (row ∷ rows) (state ∷ states) =
    knows nodes state (with_row tokens row) × AreKnown {K = K} knows nodes (with_row tokens row) rows states

-- the rule behind tokens before those that are told, of which there is one
abbrev pub rule_behind : List TokenParts → Rule → Rule
rule_behind front rule text [] = None
rule_behind front rule text (token ∷ tokens) = rule text (front ++ token ∷ tokens)

-- From a state on, each command is the choice behind what is live, and one row answers it.
abbrev pub ChosenOn : Rule → List ℕ → State → List Command → List Row → Type 0
ChosenOn rule text s [] rows = rows ≡ []
ChosenOn rule text s (c ∷ cs) [] = ⊥
ChosenOn rule text s (c ∷ cs) (row ∷ rows) =
    (rule text s.now.tokens ≡ Some c) × ChosenOn rule text (after_row (effect_of c) row s) cs rows

-- What the rows of an edited text may join: old rows whose places are padded, those of the new text are padded so, and
-- where the edit ends among the padded places.
pub record JoiningState (K : Type 0) : Type 0 where
  pub back : List (Entry K)
  pub pad : ℕ
  pub limit : ℕ

-- The token stands behind the edit, and is that of the padded old entry.
pub record IsHeldToken {K : Type 0} (j : JoiningState K) (token : TokenParts) (entry : Entry K) : Type 0 where
  pub behind : j.limit ≤ entry.row.token.start
  pub same : entry.row.token ≡ shifted_token 0 j.pad token

-- The row of the token, behind which these are live, joins the padded old row that has so many behind it: whatever
-- tokens this one knows, they are alike.
pub record JoinsHeld {K : Type 0} (knows : Knowledge K) (Alike : Alikeness) (nodes : List Node) (j : JoiningState K)
    (token : TokenParts) (tokens : List TokenParts) (left : ℕ) : Type 0 where
  pub entry : Entry K
  pub is_there : slice_get j.back left ≡ Some entry
  pub is_held : IsHeldToken {K = K} j token entry
  pub alike : (others : List TokenParts) (other : TokenParts) → knows nodes entry.state others → IsLast other others
      → at_start other ≡ at_start entry.row.token → Alike tokens others

-- It joins none.
abbrev pub JoinsNone : {K : Type 0} → Knowledge K → Alikeness → List Node → JoiningState K → TokenParts
    → List TokenParts → Type 0
JoinsNone {K} knows Alike nodes j token tokens =
    (left : ℕ) (entry : Entry K) → slice_get j.back left ≡ Some entry → IsHeldToken {K = K} j token entry
    → (others : List TokenParts) (other : TokenParts) → knows nodes entry.state others → IsLast other others
    → at_start other ≡ at_start entry.row.token → Alike tokens others → ⊥

-- The entries before the index start behind the place, and those from it on do not.
pub record IsSeam {K : Type 0} (back : List (Entry K)) (start seam : ℕ) : Type 0 where
  pub few : seam ≤ length back
  pub above : (index : ℕ) (entry : Entry K) → index < seam → slice_get back index ≡ Some entry
      → start < entry.row.token.start
  pub below : (index : ℕ) (entry : Entry K) → seam ≤ index → slice_get back index ≡ Some entry
      → entry.row.token.start ≤ start

-- None of the rows joins an old one, where these tokens are live before them.
abbrev pub NoneJoins : {K : Type 0} → Knowledge K → Alikeness → List Node → JoiningState K → List TokenParts → List Row
    → Type 0
NoneJoins {K} knows Alike nodes j tokens [] = Unit {0}
NoneJoins {K} knows Alike nodes j tokens (row ∷ rows) =
    JoinsNone {K = K} knows Alike nodes j row.token (with_row tokens row)
    × NoneJoins {K = K} knows Alike nodes j (with_row tokens row) rows

-- The last of the rows joins the old row that has so many behind it, and none before it joins one.
pub record LastJoins {K : Type 0} (knows : Knowledge K) (Alike : Alikeness) (nodes : List Node) (j : JoiningState K)
    (tokens : List TokenParts) (rows : List Row) (left : ℕ) : Type 0 where
  pub before : List Row
  pub last : Row
  pub rows_are : rows ≡ before ++ last ∷ []
  pub none : NoneJoins {K = K} knows Alike nodes j tokens before
  pub joins : JoinsHeld {K = K} knows Alike nodes j last.token (with_rows tokens rows) left

-- The first of the rows that joins an old one is the last, and joins the one that has so many behind it. None: none does.
abbrev pub UntilJoined : {K : Type 0} → Knowledge K → Alikeness → List Node → JoiningState K → List TokenParts
    → List Row → Option ℕ → Type 0
UntilJoined {K} knows Alike nodes j tokens rows None = NoneJoins {K = K} knows Alike nodes j tokens rows
UntilJoined {K} knows Alike nodes j tokens rows (Some left) =
    LastJoins {K = K} knows Alike nodes j tokens rows left

-- A session has made the steps that are chosen, where these tokens come before its own, up to the first whose row joins
-- an old one. The old rows were known with the old nodes.
pub record StepsChosen {K : Type 0} (rule : Rule) (knows : Knowledge K) (Alike : Alikeness) (front : List TokenParts)
    (old_nodes new_nodes : List Node) (j : JoiningState K) (old new : SessionState) (old_states new_states : List K)
    (left : Option ℕ) (before now : ℕ) : Type 0 where
  pub commands : List Command
  pub rows : List Row
  pub states : List K
  pub rows_are : new.rows ≡ old.rows ++ rows
  pub states_are : new_states ≡ old_states ++ states
  pub runs : (text : List ℕ) (t : SourceType) (collects : Bool) (start : State) (first : List Row)
      → RunsFrom text t collects start first [] old → RunsFrom text t collects start first commands new
  pub chosen : ChosenOn (rule_behind front rule) old.text old.state commands rows
  pub known : AreKnown {K = K} knows new_nodes (front ++ old.state.now.tokens) rows states
  pub joined : UntilJoined {K = K} knows Alike old_nodes j (front ++ old.state.now.tokens) rows left
  pub stops : left ≡ None → rule old.text (with_rows (front ++ old.state.now.tokens) rows) ≡ None
  pub ticks : now ≡ before + length rows

-- A session over the text goes on behind a last token, of which this is known, where these tokens come before its own.
pub record GoesOnFrom {K : Type 0} (knows : Knowledge K) (front : List TokenParts) (nodes : List Node) (s : SessionState)
    (text : List ℕ) (last : TokenParts) (state : K) : Type 0 where
  pub text_is : s.text ≡ text
  pub utf8 : IsUtf8 text
  pub is_last : IsLast last s.state.now.tokens
  pub lies : IsOnPlaces text last
  pub some_text : ¬ (last.kind ≡ Eof) → last.start < last.end
  pub known : knows nodes state (front ++ s.state.now.tokens)

-- From behind live tokens, of which the last one is a place to go on, rows were read, each the choice behind the tokens
-- before it, up to the first that joins an old one, or to the end.
pub record ReadsBehind {K : Type 0} (rule : Rule) (knows : Knowledge K) (Alike : Alikeness)
    (old_nodes new_nodes : List Node) (j : JoiningState K) (text : List ℕ) (t : SourceType) (tokens : List TokenParts)
    (entries : List (Entry K)) (left : Option ℕ) : Type 0 where
  pub commands : List Command
  pub run : Run text t (state_of tokens) commands (rows_of {K = K} entries)
  pub chosen : ChosenOn rule text (state_of tokens) commands (rows_of {K = K} entries)
  pub known : AreKnown {K = K} knows new_nodes tokens (rows_of {K = K} entries) (states_of {K = K} entries)
  pub joined : UntilJoined {K = K} knows Alike old_nodes j tokens (rows_of {K = K} entries) left
  pub stops : left ≡ None → rule text (with_rows tokens (rows_of {K = K} entries)) ≡ None

-- The same from the start of the text, with a first row.
pub record ReadsFromStart {K : Type 0} (rule : Rule) (knows : Knowledge K) (Alike : Alikeness)
    (old_nodes new_nodes : List Node) (j : JoiningState K) (text : List ℕ) (t : SourceType) (entries : List (Entry K))
    (left : Option ℕ) : Type 0 where
  pub first : Entry K
  pub behind : List (Entry K)
  pub entries_are : entries ≡ first ∷ behind
  pub commands : List Command
  pub is_first : IsRow text t nothing_live None first.row
  pub run : Run text t (state_after_first first.row) commands (rows_of {K = K} behind)
  pub chosen : ChosenOn rule text (state_after_first first.row) commands (rows_of {K = K} behind)
  pub known : AreKnown {K = K} knows new_nodes [] (rows_of {K = K} entries) (states_of {K = K} entries)
  pub joined : UntilJoined {K = K} knows Alike old_nodes j [] (rows_of {K = K} entries) left
  pub stops : left ≡ None → rule text (with_rows [] (rows_of {K = K} entries)) ≡ None
