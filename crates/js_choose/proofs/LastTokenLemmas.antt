-- The last of some tokens, and those before it, where one is added, or put in the place of the last one.
use Rattle.std.proofs.Common.{◌≡◌, List, [], ◌∷◌, ◌++◌, refl, ap, Some, None}
use Rattle.std.specs.Prelude.{option_map}
use Rattle.std.specs.List.{last_or}
use Rattle.js_text.specs.Lists.{with_last}
use Rattle.js_kind.specs.TokenParts.{TokenParts}
use Rattle.js_session.proofs.LiveLemmas.{last_or-push}
use Rattle.js_choose.specs.LastTokens.{but_last, last_kind}

pub but_last-push : (tokens : List TokenParts) (t : TokenParts) → but_last (tokens ++ t ∷ []) ≡ tokens
but_last-push [] t = refl
but_last-push (u ∷ []) t = refl
but_last-push (u ∷ v ∷ vs) t = ap (λ l. u ∷ l) (but_last-push (v ∷ vs) t)

pub last_kind-push : (tokens : List TokenParts) (t : TokenParts) → last_kind (tokens ++ t ∷ []) ≡ Some t.kind
last_kind-push tokens t = ap (option_map (λ x. x.kind)) (last_or-push None tokens t)

-- the last of some tokens, and those before it
pub record Ends (tokens : List TokenParts) : Type 0 where
  pub last : TokenParts
  pub is_last : last_or None tokens ≡ Some last
  pub tokens_are : tokens ≡ but_last tokens ++ last ∷ []

pub ends : (t : TokenParts) (ts : List TokenParts) → Ends (t ∷ ts)
ends t [] = record { last = t; is_last = refl; tokens_are = refl }
ends t (u ∷ us) =
    let e = ends u us in
    record { last = e.last; is_last = e.is_last; tokens_are = ap (λ l. t ∷ l) e.tokens_are }

pub but_last-with_last : (tokens : List TokenParts) (x : TokenParts) → but_last (with_last tokens x) ≡ but_last tokens
but_last-with_last [] x = refl
but_last-with_last (t ∷ []) x = refl
but_last-with_last (t ∷ u ∷ []) x = refl
but_last-with_last (t ∷ u ∷ v ∷ vs) x = ap (λ l. t ∷ l) (but_last-with_last (u ∷ v ∷ vs) x)
