-- What is known of rows, where they are put together, shifted, or more is opened.
use Rattle.std.proofs.Common.{◌≡◌, ℕ, true, List, [], ◌∷◌, ◌++◌, map, refl, sym, subst}
use Rattle.std.specs.List.{list_all}
use Rattle.std.specs.Str.{IsUtf8}
use Rattle.std.proofs.lemmas.Bool.{and_parts}
use Rattle.js_text.specs.declared.source_type.SourceType.{SourceType}
use Rattle.js_kind.specs.TokenParts.{TokenParts}
use Rattle.js_session.specs.declared.command.Command.{Command}
use Rattle.js_session.specs.declared.row.Row.{Row}
use Rattle.js_session.specs.Effects.{effect_of, is_lasting}
use Rattle.js_session.specs.Live.{State, after_row}
use Rattle.js_session.specs.Report.{Run}
use Rattle.js_session.specs.Shifted.{shifted_row}
use Rattle.js_session.proofs.LastingRuns.{GoesOnBehind, lasting_steps}
use Rattle.js_choose.specs.Rules.{IsRule, Rule}
use Rattle.js_choose.proofs.ChosenLemmas.{ChosenFrom}
use Rattle.js_document.specs.declared.gap.Entry.{Entry}
use Rattle.js_document.specs.declared.open.Node.{Node}
use Rattle.js_document.specs.Gap.{rows_of, shifted_entry}
use Rattle.js_document.specs.Reading.{AreKnown, Knowledge, states_of, with_row, with_rows}
use Rattle.js_document.specs.States.{AlikeAgain, AlikeBehind, Alikeness, ChoosesAlike, KnowsAlike}
use Rattle.js_document.proofs.RuleLemmas.{alike_after, goes_behind}
use Rattle.js_document.proofs.TokenLemmas.{command_tokens}

module _ {K : Type 0} (knows : Knowledge K) where
  pub known_both : (nodes : List Node) (es fs : List (Entry K)) (tokens : List TokenParts)
      → AreKnown {K = K} knows nodes tokens (rows_of {K = K} es) (states_of {K = K} es)
      → AreKnown {K = K} knows nodes (with_rows tokens (rows_of {K = K} es)) (rows_of {K = K} fs) (states_of {K = K} fs)
      → AreKnown {K = K} knows nodes tokens (rows_of {K = K} (es ++ fs)) (states_of {K = K} (es ++ fs))
  known_both nodes [] fs tokens known more = more
  known_both nodes (e ∷ es) fs tokens known more =
      (known.0, known_both nodes es fs (with_row tokens e.row) known.1 more)

  pub known_front : (nodes : List Node) (es fs : List (Entry K)) (tokens : List TokenParts)
      → AreKnown {K = K} knows nodes tokens (rows_of {K = K} (es ++ fs)) (states_of {K = K} (es ++ fs))
      → AreKnown {K = K} knows nodes tokens (rows_of {K = K} es) (states_of {K = K} es)
  known_front nodes [] fs tokens known = refl
  known_front nodes (e ∷ es) fs tokens known = (known.0, known_front nodes es fs (with_row tokens e.row) known.1)

  pub known_rest : (nodes : List Node) (es fs : List (Entry K)) (tokens : List TokenParts)
      → AreKnown {K = K} knows nodes tokens (rows_of {K = K} (es ++ fs)) (states_of {K = K} (es ++ fs))
      → AreKnown {K = K} knows nodes (with_rows tokens (rows_of {K = K} es)) (rows_of {K = K} fs) (states_of {K = K} fs)
  known_rest nodes [] fs tokens known = known
  known_rest nodes (e ∷ es) fs tokens known = known_rest nodes es fs (with_row tokens e.row) known.1

  -- what is known of the last of them
  pub known_last : (nodes : List Node) (es : List (Entry K)) (e : Entry K) (tokens : List TokenParts)
      → AreKnown {K = K} knows nodes tokens (rows_of {K = K} (es ++ e ∷ [])) (states_of {K = K} (es ++ e ∷ []))
      → knows nodes e.state (with_rows tokens (rows_of {K = K} (es ++ e ∷ [])))
  known_last nodes [] e tokens known = known.0
  known_last nodes (x ∷ es) e tokens known = known_last nodes es e (with_row tokens x.row) known.1

  pub known_stays : (old new : List Node) → ((state : K) (tokens : List TokenParts) → knows old state tokens
      → knows new state tokens) → (rows : List Row) (states : List K) (tokens : List TokenParts)
      → AreKnown {K = K} knows old tokens rows states → AreKnown {K = K} knows new tokens rows states
  known_stays old new stays [] states tokens known = known
  known_stays old new stays (row ∷ rows) [] tokens known = known
  known_stays old new stays (row ∷ rows) (state ∷ states) tokens known = (
    stays state (with_row tokens row) known.0,
    known_stays old new stays rows states (with_row tokens row) known.1,
  )

  -- What is known of rows behind tokens is known of them, shifted, behind ones that are alike.
  pub known_shifted : (rule : Rule) (Alike : Alikeness) → IsRule rule → ChoosesAlike rule Alike → AlikeBehind Alike
      → AlikeAgain Alike → KnowsAlike {K = K} knows Alike → (nodes : List Node) (from to : ℕ) (text : List ℕ)
      (t : SourceType) (a b : State) (commands : List Command) (es : List (Entry K)) (last : TokenParts) → IsUtf8 text
      → list_all is_lasting commands ≡ true → GoesOnBehind text a last → Run text t a commands (rows_of {K = K} es)
      → ChosenFrom (rule text) a commands (rows_of {K = K} es) → Alike b.now.tokens a.now.tokens
      → AreKnown {K = K} knows nodes a.now.tokens (rows_of {K = K} es) (states_of {K = K} es)
      → AreKnown {K = K} knows nodes b.now.tokens (rows_of {K = K} (map (shifted_entry {K = K} from to) es))
      (states_of {K = K} (map (shifted_entry {K = K} from to) es))
  known_shifted rule Alike law choose behind again known_alike nodes from to text t a b commands [] last u lasting on run
      chosen alike known = refl
  known_shifted rule Alike law choose behind again known_alike nodes from to text t a b [] (e ∷ es) last u lasting on run
      chosen alike known = absurd (cc)
  known_shifted rule Alike law choose behind again known_alike nodes from to text t a b (c ∷ cs) (e ∷ es) last u lasting
      on run chosen alike known =
      let both = and_parts (is_lasting c) (list_all is_lasting cs) lasting in
      let step = lasting_steps c both.0 in
      let run = rw step at run in
      let other = shifted_row from to e.row in
      let next = alike_after rule Alike law choose behind again text t a b c e.row other last u on run.0 chosen.0 refl
      refl alike in
      let old_tokens = command_tokens c e.row a run.0.command_is in
      let new_tokens = command_tokens c other b run.0.command_is in
      let here : knows nodes e.state (after_row (effect_of c) other b).now.tokens =
      known_alike nodes e.state (after_row (effect_of c) other b).now.tokens (after_row (effect_of c) e.row a).now.tokens
      (subst (knows nodes e.state) (sym old_tokens) known.0) next in (
        subst (knows nodes e.state) new_tokens here,
        subst
            (λ ts. AreKnown {K = K} knows nodes ts (rows_of {K = K} (map (shifted_entry {K = K} from to) es))
            (states_of {K = K} (map (shifted_entry {K = K} from to) es))) new_tokens
            (known_shifted rule Alike law choose behind again known_alike nodes from to text t
            (after_row (effect_of c) e.row a) (after_row (effect_of c) other b) cs es e.row.token u both.1
            (goes_behind text t a c e.row last both.0 on run.0) run.1 chosen.1 next
            (subst (λ ts. AreKnown {K = K} knows nodes ts (rows_of {K = K} es) (states_of {K = K} es)) (sym old_tokens)
            known.1)),
      )
