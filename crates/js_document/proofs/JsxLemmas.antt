-- What the rule of js_jsx knows, as links tell it.
use Rattle.std.proofs.Common.{◌≡◌, ℕ, ◌+◌, ◌<◌, ◌^◌, Bool, true, false, not, List, [], ◌∷◌, ◌++◌, drop, length}
use Rattle.std.proofs.Common.{map, refl, sym, ◌∙◌, ap, subst, arith, Option, Some, None}
use Rattle.std.specs.Prelude.{◌==◌, IfOk, IfSome, Result, Ok, Err, option_map, slice_get, if◌then◌else◌}
use Rattle.std.proofs.lemmas.List.{drop-map}
use Rattle.std.proofs.lemmas.Option.{slice_get_within}
use Rattle.js_text.specs.Lists.{with_last}
use Rattle.js_kind.specs.TokenParts.{TokenParts}
use Rattle.js_kind.specs.declared.kind.Kind.{Kind}
use Rattle.js_lexer.specs.Lexer.{token_or_default}
use Rattle.js_choose.specs.LastTokens.{but_last}
use Rattle.js_choose.proofs.LastTokenLemmas.{but_last-push, but_last-with_last}
use Rattle.js_jsx.specs.Choice.{choice, choice_behind}
use Rattle.js_jsx.specs.Scopes.{from_brace, skip_while, top}
use Rattle.js_jsx.specs.Scopes as jsx
use Rattle.js_jsx.specs.States.{State, behind, behind_last, state_of}
use Rattle.js_jsx.specs.Steps.{after_step, scopes_after}
use Rattle.js_jsx.specs.declared.change.TagPlace.{TagPlace}
use Rattle.js_jsx.specs.declared.scope.Scope.{Scope}
use Rattle.js_jsx.specs.declared.scope.Scope.TheVariants.{Block, Template, Container, OpeningTag, ClosingTag}
use Rattle.js_jsx.specs.declared.scope.Scope.TheVariants.{TypeArguments, Children}
use Rattle.js_jsx.specs.declared.step.ScopesChange.{ScopesChange}
use Rattle.js_jsx.specs.declared.step.ScopesChange.TheVariants.{Opens, Becomes, Ends}
use Rattle.js_jsx.specs.declared.step.StateStep.{StateStep}
use Rattle.js_relex.specs.Joined.{at_start}
use Rattle.js_document.specs.declared.jsx_state.JsxState.{JsxState}
use Rattle.js_document.specs.declared.linked_scopes.Passed.TheVariants.{AllButBraces}
use Rattle.js_document.specs.declared.open.Node.{Node}
use Rattle.js_document.specs.JsxLaws.{kept_behind}
use Rattle.js_document.specs.JsxStates.{KnowsJsx, SameBeside, SameJsx, with_scopes}
use Rattle.js_document.specs.LinkedScopes.{is_passed, scope_number, scope_numbered}
use Rattle.js_document.specs.States.{IsLast}
use Rattle.js_document.specs.Trie.{IsOpen, is_brace, last_brace}

-- the scope with the number of a scope
numbered_back : (scope : Scope) → scope_numbered (scope_number scope) ≡ scope
numbered_back Block = refl
numbered_back Template = refl
numbered_back Container = refl
numbered_back OpeningTag = refl
numbered_back ClosingTag = refl
numbered_back TypeArguments = refl
numbered_back Children = refl

pub all_numbered_back : (xs : List Scope) → map scope_numbered (map scope_number xs) ≡ xs
all_numbered_back [] = refl
all_numbered_back (x ∷ xs) =
    ap (λ s. s ∷ map scope_numbered (map scope_number xs)) (numbered_back x) ∙ ap (λ l. x ∷ l) (all_numbered_back xs)

-- scopes with the same numbers are the same
pub same_numbers : (xs ys : List Scope) → map scope_number xs ≡ map scope_number ys → xs ≡ ys
same_numbers xs ys same = sym (all_numbered_back xs) ∙ ap (map scope_numbered) same ∙ all_numbered_back ys

-- The first three are those that a brace opens.
by_tests : (a b c d e f : Bool)
    → jsx.is_brace
    (if a then Block
    else if b then Template
    else if c then Container
    else if d then OpeningTag
    else if e then ClosingTag
    else if f then TypeArguments
    else Children)
    ≡ (if a then true else if b then true else if c then true else false)
by_tests true b c d e f = refl
by_tests false true c d e f = refl
by_tests false false true d e f = refl
by_tests false false false true e f = refl
by_tests false false false false true f = refl
by_tests false false false false false true = refl
by_tests false false false false false false = refl

brace_numbered : (n : ℕ) → jsx.is_brace (scope_numbered n) ≡ is_brace n
brace_numbered n = by_tests (n == 0) (n == 1) (n == 2) (n == 3) (n == 4) (n == 5)

pub last_brace_numbered : (xs : List ℕ)
    → option_map scope_numbered (last_brace xs) ≡ jsx.last_brace (map scope_numbered xs)
last_brace_numbered [] = refl
last_brace_numbered (x ∷ xs) = by_test (is_brace x) refl (last_brace_numbered xs)
  where
    by_test : (b : Bool) → is_brace x ≡ b
        → option_map scope_numbered (last_brace xs) ≡ jsx.last_brace (map scope_numbered xs)
        → option_map scope_numbered (if b then Some x else last_brace xs)
        ≡ jsx.last_brace (map scope_numbered (x ∷ xs))
    by_test true is rest =
        sym
        (ap (λ b. top (if b then scope_numbered x ∷ map scope_numbered xs else from_brace (map scope_numbered xs)))
        (brace_numbered x ∙ is))
    by_test false is rest =
        rest
        ∙ sym
        (ap (λ b. top (if b then scope_numbered x ∷ map scope_numbered xs else from_brace (map scope_numbered xs)))
        (brace_numbered x ∙ is))

-- what is left where all but braces are passed
pub braces_left : (xs : List Scope) → skip_while (is_passed AllButBraces) xs ≡ from_brace xs
braces_left [] = refl
braces_left (x ∷ xs) = by_test (jsx.is_brace x) (braces_left xs)
  where
    by_test : (b : Bool) → skip_while (is_passed AllButBraces) xs ≡ from_brace xs
        → (if not b then skip_while (is_passed AllButBraces) xs else x ∷ xs)
        ≡ (if b then x ∷ xs else from_brace xs)
    by_test true rest = refl
    by_test false rest = rest

-- where there is an item, its place is less than how many there are
pub few_within : {X : Type 0} (xs : List X) (n : ℕ) (o : Option X) → o ≡ slice_get xs n → length xs < 2 ^ 32
    → IfSome o (λ x. n + 1 < 2 ^ 64)
few_within xs n None is few = tt
few_within xs n (Some x) is few = let within = slice_get_within xs n x (sym is) in omega (arith, within, few)

-- A scope that opens, with its number.
pub carried_open : {E : Type 0} (old nodes : List Node) (link number : ℕ) (scope : Scope) (change : ScopesChange)
    (scopes : List Scope) (r : Result ℕ E) → change ≡ Opens scope → number ≡ scope_number scope
    → IsOpen old link (map scope_number scopes)
    → IfOk r (λ new. (others : List ℕ) → IsOpen old link others → IsOpen nodes new (number ∷ others))
    → IfOk r (λ new. IsOpen nodes new (map scope_number (scopes_after change scopes)))
carried_open old nodes link number scope change scopes (Ok new) is same here opens =
    subst (λ ch. IsOpen nodes new (map scope_number (scopes_after ch scopes))) (sym is)
    (subst (λ n. IsOpen nodes new (n ∷ map scope_number scopes)) same (opens (map scope_number scopes) here))
carried_open old nodes link number scope change scopes (Err e) is same here opens = opens

-- and in the place of the one that was opened last
pub carried_in_place : {E : Type 0} (old nodes : List Node) (below number : ℕ) (scope : Scope) (change : ScopesChange)
    (scopes : List Scope) (r : Result ℕ E) → change ≡ Becomes scope → number ≡ scope_number scope
    → IsOpen old below (drop 1 (map scope_number scopes))
    → IfOk r (λ new. (others : List ℕ) → IsOpen old below others → IsOpen nodes new (number ∷ others))
    → IfOk r (λ new. IsOpen nodes new (map scope_number (scopes_after change scopes)))
carried_in_place old nodes below number scope change scopes (Ok new) is same here opens =
    subst (λ ch. IsOpen nodes new (map scope_number (scopes_after ch scopes))) (sym is)
    (subst (λ l. IsOpen nodes new (scope_number scope ∷ l)) (drop-map scope_number 1 scopes)
    (subst (λ n. IsOpen nodes new (n ∷ drop 1 (map scope_number scopes))) same
    (opens (drop 1 (map scope_number scopes)) here)))
carried_in_place old nodes below number scope change scopes (Err e) is same here opens = opens

-- Scopes that end.
pub carried_end : (nodes : List Node) (new count : ℕ) (change : ScopesChange) (scopes : List Scope)
    → change ≡ Ends count → IsOpen nodes new (drop count (map scope_number scopes))
    → IsOpen nodes new (map scope_number (scopes_after change scopes))
carried_end nodes new count change scopes is here =
    subst (λ ch. IsOpen nodes new (map scope_number (scopes_after ch scopes))) (sym is)
    (subst (IsOpen nodes new) (drop-map scope_number count scopes) here)

-- What is known behind a token more.
pub jsx_known_behind : (nodes : List Node) (kept new : JsxState) (step : StateStep) (scopes : List Scope)
    (last token : TokenParts) (tokens : List TokenParts) → IsLast last tokens
    → with_scopes kept scopes ≡ state_of (but_last tokens)
    → after_step (with_scopes kept scopes) step last.kind ≡ behind (with_scopes kept scopes) last
    → with_scopes new (scopes_after step.scopes scopes) ≡ after_step (with_scopes kept scopes) step last.kind
    → IsOpen nodes new.link (map scope_number (scopes_after step.scopes scopes))
    → KnowsJsx nodes new (tokens ++ token ∷ [])
jsx_known_behind nodes kept new step scopes last token tokens is state_is stepped new_is opened = record {
  scopes = scopes_after step.scopes scopes;
  opened = opened;
  state_is =
      new_is ∙ stepped ∙ ap (λ s. behind s last) state_is
      ∙ ap (behind_last (state_of (but_last tokens))) (sym is)
      ∙ kept_behind tokens
      ∙ sym (ap state_of (but_last-push tokens token));
}

-- What is known behind another token in the place of the last one.
pub jsx_known_again : (nodes : List Node) (kept : JsxState) (tokens : List TokenParts) (token : TokenParts)
    → KnowsJsx nodes kept tokens → KnowsJsx nodes kept (with_last tokens token)
jsx_known_again nodes kept tokens token k = record {
  scopes = k.scopes;
  opened = k.opened;
  state_is = k.state_is ∙ sym (ap state_of (but_last-with_last tokens token));
}

-- the command, by what is known
pub jsx_known_choice : (text : List ℕ) (kept : State) (tokens : List TokenParts) (last : TokenParts)
    → IsLast last tokens → kept ≡ state_of (but_last tokens)
    → choice_behind (slice_get text last.end) kept (Some last) ≡ choice text tokens
jsx_known_choice text kept tokens last is state_is =
    ap (λ s. choice_behind (slice_get text last.end) s (Some last)) state_is
    ∙ ap (λ o. choice_behind (slice_get text (token_or_default o).end) (state_of (but_last tokens)) o) (sym is)

-- what is kept, part by part
abbrev kept_with : List Scope → TagPlace → Bool → Kind → State
kept_with scopes place has_ended before =
    record { scopes = scopes; place = place; has_ended = has_ended; before = before }

-- Tokens of which this is known are alike if the same is kept.
pub jsx_same_known : (nodes : List Node) (kept other : JsxState) (tokens others : List TokenParts)
    (last token : TokenParts) → IsLast last tokens → IsLast token others → at_start token ≡ at_start last
    → (k : KnowsJsx nodes kept tokens) (l : KnowsJsx nodes other others)
    → map scope_number k.scopes ≡ map scope_number l.scopes → SameBeside kept other → SameJsx tokens others
jsx_same_known nodes kept other tokens others last token is is_other start k l numbers beside = record {
  state_is =
      sym k.state_is ∙ ap (with_scopes kept) (same_numbers k.scopes l.scopes numbers)
      ∙ ap (λ place. kept_with l.scopes place kept.has_ended kept.before) beside.place
      ∙ ap (λ ended. kept_with l.scopes other.place ended kept.before) beside.has_ended
      ∙ ap (kept_with l.scopes other.place other.has_ended) beside.before
      ∙ l.state_is;
  last_is =
      ap (option_map at_start) is ∙ ap Some (sym start) ∙ sym (ap (option_map at_start) is_other);
}

-- and where they are, the same is kept
pub jsx_same_numbers : (nodes : List Node) (kept other : JsxState) (tokens others : List TokenParts)
    (k : KnowsJsx nodes kept tokens) (l : KnowsJsx nodes other others) → SameJsx tokens others
    → map scope_number k.scopes ≡ map scope_number l.scopes
jsx_same_numbers nodes kept other tokens others k l alike =
    ap (λ (s : State). map scope_number s.scopes) (k.state_is ∙ alike.state_is ∙ sym l.state_is)

pub jsx_same_beside : (nodes : List Node) (kept other : JsxState) (tokens others : List TokenParts)
    (k : KnowsJsx nodes kept tokens) (l : KnowsJsx nodes other others) → SameJsx tokens others → SameBeside kept other
jsx_same_beside nodes kept other tokens others k l alike =
    let same = k.state_is ∙ alike.state_is ∙ sym l.state_is in
    record {
      place = ap (λ (s : State). s.place) same;
      has_ended = ap (λ (s : State). s.has_ended) same;
      before = ap (λ (s : State). s.before) same;
    }
