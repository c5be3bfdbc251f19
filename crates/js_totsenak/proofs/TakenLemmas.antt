-- Tokens that were taken, by their indices.
use Rattle.std.proofs.Common.{◌≡◌, ℕ, zero, suc, ◌+◌, ◌≤◌, List, [], ◌∷◌, ◌++◌, take, length, map}
use Rattle.std.proofs.Common.{get_or, ◌⊎◌, inl, inr, refl, sym, ◌∙◌, ap, ◌<◌, arith, Some, None, add-one, append_assoc, append-nil}
use Rattle.std.specs.List.{flat_map}
use Rattle.std.specs.Prelude.{slice_get}
use Rattle.std.proofs.lemmas.Grind.{flat_map-append}
use Rattle.std.proofs.lemmas.List.{length-map}
use Rattle.std.proofs.lemmas.Option.{slice_get_cases}
use Rattle.js_kind.specs.TokenParts.{TokenParts}
use Rattle.js_lists.specs.Lists.{HasTaken}
use Rattle.js_lists.specs.Taken.{Taken}
use Rattle.js_lists.specs.declared.lists.LiveLists.{LiveLists}

-- A token was taken with this index.
pub record TakenAt (taken : List Taken) (index : ℕ) (token : TokenParts) : Type 0 where
  pub item : Taken
  pub at : slice_get taken index ≡ Some item
  pub token_is : item.token ≡ token

token_at : (taken : List Taken) (index : ℕ) (token : TokenParts)
    → slice_get (map (λ (x : Taken). x.token) taken) index ≡ Some token → TakenAt taken index token
token_at [] zero token e = absurd cc
token_at [] (suc index) token e = absurd cc
token_at (x ∷ xs) zero token e = record { item = x; at = refl; token_is = cc }
token_at (x ∷ xs) (suc index) token e =
    let more = token_at xs index token e in record { item = more.item; at = more.at; token_is = more.token_is }

-- the token that was taken, where the lists have one
pub listed_at : (lists : LiveLists) (taken : List Taken) (index : ℕ) (token : TokenParts) → HasTaken lists taken
    → slice_get lists.tokens index ≡ Some token → TakenAt taken index token
listed_at lists taken index token h e = token_at taken index token (ap (λ ts. slice_get ts index) (sym h.tokens) ∙ e)

take_more : {A : Type 0} (xs : List A) (index : ℕ) (x : A) → slice_get xs index ≡ Some x
    → take (suc index) xs ≡ take index xs ++ x ∷ []
take_more [] zero x e = absurd cc
take_more [] (suc index) x e = absurd cc
take_more (y ∷ ys) zero x e = let same : y ≡ x = cc in ap (λ z. z ∷ []) same
take_more (y ∷ ys) (suc index) x e = ap (λ zs. y ∷ zs) (take_more ys index x e)

-- the lines with one more
pub lines_more : {A : Type 0} (line : A → List ℕ) (xs : List A) (index : ℕ) (x : A) (before old new : List ℕ)
    → slice_get xs index ≡ Some x → old ≡ before ++ flat_map line (take index xs) → new ≡ old ++ line x
    → new ≡ before ++ flat_map line (take (index + 1) xs)
lines_more line xs index x before old new at so_far one =
    let next : take (index + 1) xs ≡ take index xs ++ x ∷ [] = rw add-one (take_more xs index x at) in
    let lines : flat_map line (take (index + 1) xs) ≡ flat_map line (take index xs) ++ line x =
    ap (flat_map line) next ∙ flat_map-append line (take index xs) (x ∷ [])
    ∙ ap (λ ys. flat_map line (take index xs) ++ ys) (append-nil (line x)) in
    one ∙ ap (λ ys. ys ++ line x) so_far ∙ append_assoc before (flat_map line (take index xs)) (line x)
    ∙ ap (λ ys. before ++ ys) (sym lines)

-- the token that was taken, where one is listed
pub same_token : (lists : LiveLists) (taken : List Taken) (index : ℕ) (token : TokenParts) (x : Taken)
    → HasTaken lists taken → slice_get lists.tokens index ≡ Some token → slice_get taken index ≡ Some x
    → x.token ≡ token
same_token lists taken index token x h e at =
    let t = listed_at lists taken index token h e in
    let same : x ≡ t.item = some_same x t.item (sym at ∙ t.at) in ap (λ (y : Taken). y.token) same ∙ t.token_is
  where
    some_same : (x y : Taken) → Some x ≡ Some y → x ≡ y
    some_same x y e = cc

-- the lists have a token for each that was taken
pub many_taken : (lists : LiveLists) (taken : List Taken) → HasTaken lists taken
    → length lists.tokens ≡ length taken
many_taken lists taken h = ap length h.tokens ∙ length-map taken (λ (x : Taken). x.token)

-- a token was taken with each index that a token has
pub taken_within : (lists : LiveLists) (taken : List Taken) (index : ℕ) → HasTaken lists taken
    → index < length lists.tokens → (x : Taken) × (slice_get taken index ≡ Some x)
taken_within lists taken index h within = by (slice_get_cases taken index).1
  where
    by : ((x : Taken) × (index < length taken) × (slice_get taken index ≡ Some x) × (get_or taken index x ≡ x))
        ⊎ ((length taken ≤ index) × (slice_get taken index ≡ None)) → (x : Taken) × (slice_get taken index ≡ Some x)
    by (inl there) = (there.0, there.2)
    by (inr past) = absurd (omega (arith, past.0, within, many_taken lists taken h))
