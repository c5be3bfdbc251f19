-- One more round of the loop that reads rows up to one that joins an old one, by what its calls tell.
use Rattle.std.proofs.Common.{◌≡◌, ℕ, ◌+◌, ◌<◌, true, List, [], ◌∷◌, ◌++◌, sym, ◌∙◌, ap, subst, Some, None}
use Rattle.std.specs.Str.{IsUtf8}
use Rattle.js_kind.specs.TokenParts.{TokenParts}
use Rattle.js_lexer.specs.Lexer.{IsOnPlaces}
use Rattle.js_session.specs.declared.command.Command.{Command}
use Rattle.js_session.specs.declared.row.Row.{Row}
use Rattle.js_session.specs.Effects.{effect_of, is_lasting}
use Rattle.js_session.specs.Session.{AddsRow, SessionState}
use Rattle.js_choose.specs.Rules.{IsRule, Rule, with_token}
use Rattle.js_choose.proofs.SessionLemmas.{left_of}
use Rattle.js_document.specs.declared.open.Node.{Node}
use Rattle.js_document.specs.Reading.{GoesOnFrom, JoiningState, JoinsHeld, JoinsNone, Knowledge, StepsChosen}
use Rattle.js_document.specs.States.{Alikeness, IsLast, Settles}
use Rattle.js_document.specs.Trie.{HasMore}
use Rattle.js_document.proofs.ReadLemmas.{SoFar, last_behind_front, so_far_step, step_last, step_lasts, step_less, step_lies}
use Rattle.js_document.proofs.ReadLemmas.{step_settles, step_told, steps_end, steps_joined}
use Rattle.js_document.proofs.TrieLemmas.{more_still}

module _ {K : Type 0} (rule : Rule) (law : IsRule rule) (knows : Knowledge K) (Alike : Alikeness)
    (stays : (old new : List Node) (state : K) (tokens : List TokenParts) → HasMore old new → knows old state tokens
    → knows new state tokens) (j : JoiningState K) where
  -- what is told of more nodes is told of those from before
  joins_before : (old new : List Node) (token : TokenParts) (tokens : List TokenParts) (left : ℕ) → HasMore old new
      → JoinsHeld {K = K} knows Alike new j token tokens left → JoinsHeld {K = K} knows Alike old j token tokens left
  joins_before old new token tokens left more h = record {
    entry = h.entry;
    is_there = h.is_there;
    is_held = h.is_held;
    alike = λ others other known last kind.
        h.alike others other (stays old new h.entry.state others more known) last kind;
  }

  none_before : (old new : List Node) (token : TokenParts) (tokens : List TokenParts) → HasMore old new
      → JoinsNone {K = K} knows Alike new j token tokens → JoinsNone {K = K} knows Alike old j token tokens
  none_before old new token tokens more none = λ left entry there held others other known last kind alike.
      none left entry there held others other (stays old new entry.state others more known) last kind alike

  module _ (front : List TokenParts) (text : List ℕ) (old_nodes : List Node) (old : SessionState) (old_states : List K)
      (before : ℕ) (first : TokenParts) (first_state : K)
      (goes : GoesOnFrom {K = K} knows front old_nodes old text first first_state) (nodes : List Node) (s : SessionState)
      (states : List K) (last : TokenParts) (state : K) (now : ℕ)
      (f : SoFar {K = K} rule knows Alike front old_nodes j old old_states before nodes s states last state now) where
    utf8 : IsUtf8 old.text
    utf8 = subst IsUtf8 (sym goes.text_is) goes.utf8

    pub last_here : IsLast last (front ++ s.state.now.tokens)
    last_here = last_behind_front front s.state.now.tokens last f.last_is

    -- no command is chosen
    pub told_end : ((tokens : List TokenParts) → knows nodes state tokens → IsLast last tokens → None ≡ rule text tokens)
        → StepsChosen {K = K} rule knows Alike front old_nodes nodes j old s old_states states None before now
    told_end tells =
        steps_end {K = K} rule law knows Alike stays front old_nodes j old old_states before nodes s states last state now f
        (ap (λ x. rule x (front ++ s.state.now.tokens)) goes.text_is
        ∙ sym (tells (front ++ s.state.now.tokens) f.known_last last_here))

    module _ (c : Command) (tells : (tokens : List TokenParts) → knows nodes state tokens → IsLast last tokens
        → Some c ≡ rule text tokens) where
      chosen : rule old.text (front ++ s.state.now.tokens) ≡ Some c
      chosen =
          ap (λ x. rule x (front ++ s.state.now.tokens)) goes.text_is
          ∙ sym (tells (front ++ s.state.now.tokens) f.known_last last_here)

      pub told_lasts : is_lasting c ≡ true
      told_lasts =
          step_lasts {K = K} rule law knows Alike stays front old_nodes j old old_states before nodes s states last state now
          utf8 f c chosen

      module _ (new : SessionState) (a : AddsRow c s new) (token : TokenParts)
          (token_is : (rows : List Row) (row : Row) → new.rows ≡ rows ++ row ∷ [] → token ≡ row.token) where
        same : a.row.token ≡ token
        same = sym (token_is s.rows a.row (ap (λ (x : SessionState). x.rows) a.after))

        pub told_less : left_of text new.state.now.tokens < left_of text s.state.now.tokens
        told_less =
            subst (λ x. left_of x new.state.now.tokens < left_of x s.state.now.tokens) goes.text_is
            (step_less {K = K} rule law knows Alike stays front old_nodes j old old_states before nodes s states last state
            now utf8 f c chosen new a)

        pub told_lies : IsOnPlaces text token
        told_lies =
            subst (IsOnPlaces text) same
            (subst (λ x. IsOnPlaces x a.row.token) (f.text_is ∙ goes.text_is)
            (step_lies {K = K} rule law knows Alike stays front old_nodes j old old_states before nodes s states last state
            now utf8 f c chosen new a))

        told_last : IsLast token (front ++ new.state.now.tokens)
        told_last =
            subst (λ x. IsLast x (front ++ new.state.now.tokens)) same
            (last_behind_front front new.state.now.tokens a.row.token
            (step_last {K = K} rule law knows Alike stays front old_nodes j old old_states before nodes s states last state
            now utf8 f c chosen new a))

        module _ (next_nodes : List Node) (grown : HasMore nodes next_nodes) (next : K)
            (knows_next : (tokens : List TokenParts) (it : TokenParts) → knows nodes state tokens → IsLast last tokens
            → Settles (effect_of c) it → knows next_nodes next (with_token (effect_of c) tokens it)) where
          known : knows next_nodes next (front ++ new.state.now.tokens)
          known =
              subst (knows next_nodes next)
              (step_told {K = K} rule law knows Alike stays front old_nodes j old old_states before nodes s states last state
              now utf8 f c chosen new a)
              (knows_next (front ++ s.state.now.tokens) a.row.token f.known_last last_here
              (step_settles {K = K} rule law knows Alike stays front old_nodes j old old_states before nodes s states last
              state now utf8 f c chosen new a))

          all_more : HasMore old_nodes next_nodes
          all_more = more_still old_nodes nodes next_nodes f.more grown

          -- its row joins none
          pub told_on : (new_states : List K) (ticks : ℕ) → new_states ≡ states ++ next ∷ [] → ticks ≡ now + 1
              → ((tokens : List TokenParts) → knows next_nodes next tokens → IsLast token tokens
              → JoinsNone {K = K} knows Alike next_nodes j token tokens)
              → SoFar {K = K} rule knows Alike front old_nodes j old old_states before next_nodes new new_states token next
              ticks
          told_on new_states ticks pushed counted none =
              subst
              (λ x. SoFar {K = K} rule knows Alike front old_nodes j old old_states before next_nodes new new_states x next
              ticks) same
              (so_far_step {K = K} rule law knows Alike stays front old_nodes j old old_states before nodes s states last
              state now utf8 f c chosen new a next_nodes grown next known new_states ticks pushed counted
              (subst (λ x. JoinsNone {K = K} knows Alike old_nodes j x (front ++ new.state.now.tokens)) (sym same)
              (none_before old_nodes next_nodes token (front ++ new.state.now.tokens) all_more
              (none (front ++ new.state.now.tokens) known told_last))))

          -- its row joins an old one
          pub told_joined : (new_states : List K) (left ticks : ℕ) → new_states ≡ states ++ next ∷ [] → ticks ≡ now + 1
              → ((tokens : List TokenParts) → knows next_nodes next tokens → IsLast token tokens
              → JoinsHeld {K = K} knows Alike next_nodes j token tokens left)
              → StepsChosen {K = K} rule knows Alike front old_nodes next_nodes j old new old_states new_states (Some left)
              before ticks
          told_joined new_states left ticks pushed counted joins =
              steps_joined {K = K} rule law knows Alike stays front old_nodes j old old_states before nodes s states last
              state now utf8 f c chosen new a next_nodes grown next known new_states left ticks pushed counted
              (subst (λ x. JoinsHeld {K = K} knows Alike old_nodes j x (front ++ new.state.now.tokens) left) (sym same)
              (joins_before old_nodes next_nodes token (front ++ new.state.now.tokens) left all_more
              (joins (front ++ new.state.now.tokens) known told_last)))
