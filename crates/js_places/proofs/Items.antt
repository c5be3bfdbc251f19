-- A `&` to a row lends the items in its first places. Assumes `Logic`.
use Rattle.js_places.proofs.Names.{◌≡◌, [], ◌∷◌, List, ℕ, zero, suc, ◌+◌, ◌≤◌, arith, length, take, Bool, refl, ent}
use Rattle.js_places.proofs.Names.{Lft, Ura, Logic, sem, ‵, ◌$◌, ◌∵◌, !, qed, by, keep, drop, fsplit, rewrite, frame}
use Rattle.js_places.proofs.Names.{done, block_ptr, elements_shared, El, R, el_x, sz}
use Rattle.core.specs.Mem.Slots.Ownership.{slot_lent, slots_lent, Filled}

module _ (E : El) {M : Type 1} {𝓤 : Ura M} (𝓛 : Logic 𝓤) (κ : Lft) (b : ℕ) where
  pub items_lent : (o n : ℕ) (xs : List (el_x E)) (fs : List Bool) → n ≤ length xs → length fs ≡ length xs
      → Filled fs 0 n
      → ent 𝓤 (sem 𝓛 (slots_lent (R E) (block_ptr b o) xs fs κ)) (sem 𝓛 (elements_shared (R E) (take n xs) b o κ))
  items_lent o zero xs fs le long full = qed 𝓛 (‵ (slots_lent (R E) (block_ptr b o) xs fs κ) ∷ []) ∵ keep ! [] $ done !
  items_lent o (suc n) [] fs le long full = absurd (omega arith)
  items_lent o (suc n) (x ∷ xs) [] le long full = absurd (omega arith)
  items_lent o (suc n) (x ∷ xs) (f ∷ fs) le long full =
      qed 𝓛 (‵ (slot_lent (R E) f (block_ptr b o) x κ) ∷ ‵ (slots_lent (R E) (block_ptr b (o + sz E)) xs fs κ) ∷ []) ∵
      rewrite ! 0 (λ (g : Bool). ‵ (slot_lent (R E) g (block_ptr b o) x κ)) (full 0 (omega arith) (omega arith)) refl $
      fsplit ! $ drop ! $ frame ! $
      by ! (items_lent (o + sz E) n xs fs (omega arith) (omega arith) (λ k low high. full (suc k) (omega arith)
      (omega arith)))
