-- Lists of a caller that are filled with what an iterator gives, item by item.
use Rattle.std.proofs.Common.{◌≡◌, ℕ, zero, suc, ◌+◌, ◌≤◌, List, [], ◌∷◌, ◌++◌, length, take, drop, map, refl, sym, ◌∙◌, ap}
use Rattle.std.proofs.Common.{arith, append-nil}
use Rattle.std.proofs.lemmas.List.{length-map, map-append, take-append-drop}
use Rattle.js_lex_c.specs.Filled.{PutsOn, filled}
use Rattle.js_lex_c.proofs.FillLemmas.{filled_past, length-filled}

take_next : {T : Type 0} (n : ℕ) (ts : List T) (x : T) (rest : List T) → drop n ts ≡ x ∷ rest
    → take (suc n) ts ≡ take n ts ++ x ∷ []
take_next zero [] x rest e = absurd (cc)
take_next zero (t ∷ ts) x rest e = let same : t ≡ x = cc in ap (λ y. y ∷ []) same
take_next (suc n) [] x rest e = absurd (cc)
take_next (suc n) (t ∷ ts) x rest e = ap (λ l. t ∷ l) (take_next n ts x rest e)

drop_suc : {T : Type 0} (n : ℕ) (ts : List T) (x : T) (rest : List T) → drop n ts ≡ x ∷ rest
    → rest ≡ drop (suc n) ts
drop_suc zero [] x rest e = absurd (cc)
drop_suc zero (t ∷ ts) x rest e = let same : ts ≡ rest = cc in sym same
drop_suc (suc n) [] x rest e = absurd (cc)
drop_suc (suc n) (t ∷ ts) x rest e = drop_suc n ts x rest e

next_is : (n : ℕ) → suc n ≡ n + 1
next_is n = omega arith

-- one item fewer is left
pub drop_next : {T : Type 0} (n : ℕ) (ts : List T) (x : T) (rest : List T) → drop n ts ≡ x ∷ rest
    → rest ≡ drop (n + 1) ts
drop_next n ts x rest e = drop_suc n ts x rest e ∙ ap (λ m. drop m ts) (next_is n)

pub within_next : {T : Type 0} (n : ℕ) (ts : List T) (x : T) (rest : List T) → drop n ts ≡ x ∷ rest
    → n + 1 ≤ length ts
within_next zero [] x rest e = absurd (cc)
within_next zero (t ∷ ts) x rest e = omega arith
within_next (suc n) [] x rest e = absurd (cc)
within_next (suc n) (t ∷ ts) x rest e = omega (arith, within_next n ts x rest e)

length_taken : {T : Type 0} (n : ℕ) (ts : List T) → n ≤ length ts → length (take n ts) ≡ n
length_taken zero ts within = refl
length_taken (suc n) [] within = absurd (omega (arith, within))
length_taken (suc n) (t ∷ ts) within = ap (λ m. suc m) (length_taken n ts (omega (arith, within)))

-- one item more was put
pub filled_next : {T R : Type 0} (f : T → R) (start old new : List R) (ts : List T) (n : ℕ) (x : T) (rest : List T)
    → n ≤ length ts → drop n ts ≡ x ∷ rest → old ≡ filled start (map f (take n ts)) → PutsOn n (f x ∷ []) old new
    → new ≡ filled start (map f (take (n + 1) ts))
filled_next f start old new ts n x rest within e is put =
    let taken = take n ts in
    let count : n ≡ length (map f taken) = sym (length-map taken f ∙ length_taken n ts within) in
    put start (map f taken) count is
    ∙ ap (filled start) (sym (ap (map f) (take_next n ts x rest e) ∙ map-append f taken (x ∷ [])))
    ∙ ap (λ m. filled start (map f (take m ts))) (next_is n)

-- no item is left
pub filled_out : {T R : Type 0} (f : T → R) (start now : List R) (ts : List T) (n : ℕ) → drop n ts ≡ []
    → now ≡ filled start (map f (take n ts)) → now ≡ filled start (map f ts)
filled_out f start now ts n none is =
    let all : take n ts ≡ ts =
    sym (append-nil (take n ts)) ∙ ap (λ l. take n ts ++ l) (sym none) ∙ take-append-drop n ts in
    is ∙ ap (λ l. filled start (map f l)) all

-- there is no room left
pub filled_full : {T R : Type 0} (f : T → R) (start now : List R) (ts : List T) (n : ℕ) → n ≤ length ts
    → length now ≤ n → now ≡ filled start (map f (take n ts)) → now ≡ filled start (map f ts)
filled_full f start now ts n within past is =
    let taken = map f (take n ts) in
    let count : length taken ≡ n = length-map (take n ts) f ∙ length_taken n ts within in
    let size : length now ≡ length start = ap length is ∙ length-filled start taken in
    let all : map f ts ≡ taken ++ map f (drop n ts) =
    ap (map f) (sym (take-append-drop n ts)) ∙ map-append f (take n ts) (drop n ts) in
    is ∙ sym (ap (filled start) all ∙ filled_past start taken (map f (drop n ts)) (omega (arith, count, size, past)))
