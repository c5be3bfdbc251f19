-- A `Slots` is made of its places, and gives them up: the two raw calls. Assumes `Logic`.
use Rattle.js_places.proofs.Names.{◌≡◌, [], ◌∷◌, List, ℕ, ◌*◌, ◌^◌, ◌<◌, sym, refl, ap, ◌∙◌, subst, length, ◌++◌, w64}
use Rattle.js_places.proofs.Names.{Bool, Val, vptr, vint, vstruct, SProp, emp, ent, sep, id⊢, Fml, Lft, Share, ftrue}
use Rattle.js_places.proofs.Names.{fsep, flft, Ura, Logic, sem, ‵, raw, ◌⊛◌, some, later, ◌$◌, ◌∵◌, !, qed, keep, move}
use Rattle.js_places.proofs.Names.{drop, split, join, fsplit, fsplit3, fjoin, fjoin3, rewrite, use0, use1, feq_i, feq_l}
use Rattle.js_places.proofs.Names.{flt_i, pick, await, fact, fact_i, ◌⊑◌, nothing, heard, usize, layout, Ptr, block_ptr}
use Rattle.js_places.proofs.Names.{R, el_x, El, Sr, sz}
use mir.Val.{WT, has_ty, of_list}
use lib.Dec.{T}
use base.Logic.{ex, guard}
use prog.Memory.{Memory}
use prog.Routine.{Routine}
use types.Kit.{fpick, check, show, updating, now, done}
use contract.Monad.{Fun}
use denote.RawPtr.{RawPtr, in_block}
use denote.Steps.{only}
use denote.Struct.Tuple.{Tuple}
use denote.Triple.Spec.{triple_of}
use denote.Triple.Statement.{Contract}
use Rattle.core.specs.Mem.Slots.Ownership.{slots, owned}
use Rattle.core.specs.contracts.slots.Slots.from_raw_parts as from
use Rattle.core.specs.contracts.slots.Slots.into_raw_parts as into
use Rattle.core.proofs.slots.Opens.{words_val, row_val, row_had, row_made}

-- the row's two words are of their type, as the row or as a pair
pub words_fit : (v : Val) (b o n : ℕ) → v ≡ row_val b o n → n < 2 ^ 64
    → T (has_ty (layout (Tuple (RawPtr ∷ usize ∷ []))) v) × WT v
words_fit v b o n e fn = subst (λ (u : Val). T (has_ty (layout (Tuple (RawPtr ∷ usize ∷ []))) u) × WT u) (sym e)
    (tt, (tt, (record { fits = fn }, tt)))

module _ (E : El) where
  abbrev pub places : ℕ → ℕ → List (el_x E) → List Bool → Fml
  places b o xs fs = slots (R E) (block_ptr b o) xs fs

  pub row_fits : (v : Val) (b o n : ℕ) → v ≡ row_val b o n → n < 2 ^ 64 → T (has_ty (layout (Sr E)) v) × WT v
  row_fits v b o n e fn = subst (λ (u : Val). T (has_ty (layout (Sr E)) u) × WT u) (sym e)
      (tt, (tt, (record { fits = fn }, tt)))

module _ (E : El) {M : Type 1} {𝓤 : Ura M} (𝓛 : Logic 𝓤) (at_mem : Memory → SProp 𝓤) (run : Routine → Fun 𝓤) (κ : Lft)
    (q : Share) (b o : ℕ) where
  open 𝓛 use {H, A}

  abbrev pub Makes : Contract 𝓤
  Makes = triple_of 𝓛 (from.signature E.row) (from.spec E.row 𝓛 at_mem run)

  abbrev pub Takes : Contract 𝓤
  Takes = triple_of 𝓛 (into.signature E.row) (into.spec E.row 𝓛 at_mem run)

  module _ (n : ℕ) (xs : List (el_x E)) (fs : List Bool) where
    abbrev pub at_makes : Makes.Ghost
    at_makes = (((κ, tt), (q, tt), tt, (block_ptr b o, (n, tt)), (vptr b o ∷ [], (vint w64 n ∷ [], tt))), (xs, fs))

    abbrev pub Is : (Sr E).Denot → Type 0
    Is r = (r.ptr ≡ block_ptr b o) × (r.len ≡ n) × (r.items ≡ xs) × (r.filled ≡ fs)

    pub makes_goes : κ ⊑ E.row.lives → (n ≡ length xs) × (n ≡ length fs) → n < 2 ^ 64 → n * sz E < 2 ^ 63
        → ent 𝓤 (sep 𝓤 (sem 𝓛 (places E b o xs fs)) (A.lft κ q)) (Makes.pre at_makes)
    makes_goes lives long fn fit =
        qed 𝓛 (‵ (places E b o xs fs) ∷ ‵ (flft κ q) ∷ []) ∵ flt_i ! (n * sz E) (2 ^ 63) fit $ fjoin ! $
        use0 𝓛 (raw (fact 𝓤 ((n ≡ length xs) × (n ≡ length fs)))) (fact_i 𝓤 ((n ≡ length xs) × (n ≡ length fs))
        (emp 𝓤) long) $ join ! $
        use0 𝓛 (raw (fact 𝓤 (κ ⊑ E.row.lives))) (fact_i 𝓤 (κ ⊑ E.row.lives) (emp 𝓤) lives) $ join ! $
        nothing ! $ flt_i ! n (2 ^ 64) fn $ feq_i ! (List Val) (vint w64 n ∷ []) (vint w64 n ∷ []) refl $ fjoin ! $
        feq_i ! (List Val) (vptr b o ∷ []) (vptr b o ∷ []) refl $ fjoin3 ! $ nothing ! $ move ! (3 ∷ 0 ∷ []) $ join ! $
        join ! $ done !

    pub makes_gives : (v : Val) → ent 𝓤 (Makes.post at_makes v)
        (H.⇛ (ex 𝓤 (λ (r : (Sr E).Denot). guard 𝓤 ((v ≡ row_val b o n) × Is r)
        (sep 𝓤 (sem 𝓛 ((Sr E).own_val r (row_val b o n ∷ []))) (A.lft κ q)))))
    makes_gives v =
        qed 𝓛 (raw (Makes.post at_makes v) ∷ []) ∵ updating ! $
        use1 𝓛 (later (some (λ (r : (Sr E).Denot). ((‵ (flft κ q) ⊛ ‵ ftrue) ⊛ ‵ ((Sr E).own_val r (v ∷ []))) ⊛
        some (λ (ws : Unit {0} × (Unit {0} × Unit {0})). ‵ (fsep ftrue (fsep ftrue ftrue)) ⊛ raw (fact 𝓤 (Is r))))))
        (id⊢ 𝓤 _) $ await ! tt $ pick ! (λ r.
        split ! $ move ! (1 ∷ []) $ pick ! (λ ws. split ! $ drop ! $ heard ! (Is r)
        (λ is. split ! $ split ! $ move ! (2 ∷ []) $
        row_had E ! r (v ∷ []) (λ b' o' at e fn fit. row_made E ! r b' o' at fn fit $
        let same : row_val b' o' r.len ≡ row_val b o n = λ i. words_val ((sym at ∙ is.0) i) (is.1 i) in
        rewrite ! 0 (λ (u : Val). ‵ ((Sr E).own_val r (u ∷ []))) same refl $ now ! $
        show ! (λ (d : (Sr E).Denot). guard 𝓤 ((v ≡ row_val b o n) × Is d)
        (sep 𝓤 (sem 𝓛 ((Sr E).own_val d (row_val b o n ∷ []))) (A.lft κ q))) r $
        check ! (ap only e ∙ same, is) $ keep ! (0 ∷ 1 ∷ []) $ done !))))

  module _ (r : (Sr E).Denot) where
    abbrev pub at_takes : Takes.Ghost
    at_takes = (((κ, tt), (q, tt), tt, (r, tt), (row_val b o r.len ∷ [], tt)), tt)

    pub takes_goes : κ ⊑ E.row.lives → ent 𝓤 (sep 𝓤 (sem 𝓛 ((Sr E).own_val r (row_val b o r.len ∷ []))) (A.lft κ q))
        (Takes.pre at_takes)
    takes_goes lives =
        qed 𝓛 (‵ ((Sr E).own_val r (row_val b o r.len ∷ [])) ∷ ‵ (flft κ q) ∷ []) ∵ nothing ! $
        use0 𝓛 (raw (fact 𝓤 (κ ⊑ E.row.lives))) (fact_i 𝓤 (κ ⊑ E.row.lives) (emp 𝓤) lives) $ join ! $
        nothing ! $ move ! (2 ∷ 0 ∷ []) $ fjoin ! $ nothing ! $ move ! (3 ∷ 0 ∷ []) $ join ! $ join ! $ done !

    pub takes_gives : (v : Val) → r.ptr ≡ block_ptr b o
        → ent 𝓤 (Takes.post at_takes v) (H.⇛ (guard 𝓤 (v ≡ row_val b o r.len)
        (sep 𝓤 (sem 𝓛 (places E b o r.items r.filled)) (A.lft κ q))))
    takes_gives v at =
        let Pair = Tuple (RawPtr ∷ usize ∷ []) in let Is : Pair.Denot → Type 0 = λ p. (p.0 ≡ r.ptr) × (p.1 ≡ r.len) in
        qed 𝓛 (raw (Takes.post at_takes v) ∷ []) ∵ updating ! $
        use1 𝓛 (later (some (λ (p : Pair.Denot). ((‵ (flft κ q) ⊛ ‵ ftrue) ⊛ ‵ (Pair.own_val p (v ∷ []))) ⊛
        some (λ (ws : Unit {0} × Unit {0}). ‵ (fsep ftrue ftrue) ⊛ raw (fact 𝓤 (Is p)) ⊛
        ‵ (owned (R E) r.ptr r.len r.items r.filled))))) (id⊢ 𝓤 _) $ await ! tt $ pick ! (λ p.
        split ! $ move ! (1 ∷ []) $ pick ! (λ ws. split ! $ drop ! $ split ! $ heard ! (Is p) (λ is. fsplit ! $ drop ! $
        rewrite ! 0 (λ (z : Ptr). ‵ (in_block z (slots (R E) z r.items r.filled))) at refl $ move ! (1 ∷ []) $ split ! $
        split ! $ move ! (2 ∷ []) $
        fpick ! (λ vss. fsplit ! $ feq_l ! (λ whole. fsplit3 ! $ feq_l ! (λ e₀. fsplit ! $ feq_l ! (λ e₁. now ! $
        check ! (ap only whole ∙ (λ i. vstruct (of_list (e₀ i ++ (e₁ i ++ []))))
        ∙ (λ i. words_val ((is.0 ∙ at) i) (is.1 i))) $ keep ! (4 ∷ 2 ∷ []) $ done !)))))))
