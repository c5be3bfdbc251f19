-- The machine value of a box that may be missing. Assumes `Logic`.
--     Z, Ob                the allocator's row; the struct's row
--     word_val             a pointer with its handle
--     word_good            it is of the struct's type
--     ob_had, ob_made      a value by value is [what it owns; the handle]
--     either               what it owns is nothing, at null, or a box's memory, at a pointer that may be compared with null
use Rattle.std.proofs.Common.{◌≡◌, ℕ, List, [], ◌∷◌, ◌++◌, refl, subst, lit<}
use seplogic.Ra.Ura.{Ura}
use mir.Syntax.{impl, tnil, dnil}
use mir.Val.{Val, vstruct, vcons, vnil, of_list, has_ty}
use base.Logic.{never, fst∗}
use mir.Raw.{raw as bare}
use types.Logic.{Logic, sem}
use types.Kit.{Item, Goal, Seq, Step, step, ‵, ◌$◌, move, drop, fsplit, fjoin, fpick, fpack, feq_i, feq_l, flt_l}
use denote.RattleType.{RattleType, Valss}
use denote.Builtin.{RawPtr}
use denote.Param.{layout}
use denote.Memory.{lone}
use denote.RawPtr.{Ptr, Testable, block_ptr, null_ptr, ptr_val, in_a_block}
use denote.Steps.{nothing}
use denote.Struct.Struct.{within}
use denote.Struct.Owning.{shape, to}
use Rattle.core.proofs.alloc.Calls.{Al, handle_tells}
use Rattle.core.proofs.cell.Inside.{Good}
use Rattle.std.specs.contracts.alloc.Global as heap
use Rattle.std.proofs.alloc.Global.TheLaws as heap_laws
use Rattle.std.specs.contracts.impls.GlobalAllocator.TheImpl.{ghosts}
use Rattle.std.specs.declared.alloc.Global.{Global}
use Rattle.std.specs.declared.option.Option.{Option}
use Rattle.std.specs.declared.option.Option.TheVariants.{None, Some}
use Rattle.std_alloc.specs.Box.Ownership.{box_owns}
use Rattle.std_alloc.proofs.ResultValues.{and_tt}
use Rattle.js_boxed.specs.Memory.{maybe_owned}
use Rattle.js_boxed.specs.contracts.optional_box.OptionalBox as optional

abbrev pub Z : RattleType
Z = heap.the_row

abbrev pub al : Al
al = record { row = Z; laws = heap_laws.the_row_laws; g = ghosts; d = impl [] tnil dnil; drops = impl [] tnil dnil }

abbrev pub word_val : Ptr → Val → Val
word_val p h = vstruct (vcons (ptr_val p) (vcons h vnil))

module _ (R : RattleType) where
  abbrev pub Ob : RattleType
  Ob = optional.the_row R

  pub word_good : (p : Ptr) (h : Val) → Good (layout Z) h → Good (layout Ob) (word_val p h)
  word_good (block_ptr b o) h fits = (and_tt (has_ty (layout Z) h) fits.0, (tt, (fits.1, tt)))
  word_good null_ptr h fits = (and_tt (has_ty (layout Z) h) fits.0, (record { fits = lit< tt }, (fits.1, tt)))

  module _ {M : Type 1} {𝓤 : Ura M} {𝓛 : Logic 𝓤} {K : Type 0} {Γ : List (Item 𝓤)} {G : Goal 𝓤 𝓛.H} where
    pub ob_had : K → (d : Ob.Denot) (vs : List Val)
        → ((h : Val) → vs ≡ word_val d.at h ∷ [] → Good (layout Z) h
        → Seq K 𝓛 (‵ (maybe_owned d.alloc R d.at d.value) ∷ ‵ (Z.own_val d.alloc (h ∷ [])) ∷ Γ) G)
        → Seq K 𝓛 (‵ (Ob.own_val d vs) ∷ Γ) G
    ob_had t d vs k =
        fsplit t $ fpick t (λ vss. fsplit t $ feq_l t (λ ev. fsplit t $ feq_l t (λ ep. fsplit t $
        handle_tells al t d.alloc vss.1.0 (λ h ea fits. move t (1 ∷ []) $ drop t $ move t (1 ∷ []) $
        k h (subst (λ (ws : List Val). vs ≡ vstruct (of_list (ptr_val d.at ∷ (ws ++ []))) ∷ []) ea
        (subst (λ (ps : List Val). vs ≡ vstruct (of_list (ps ++ (vss.1.0 ++ []))) ∷ []) ep ev)) fits))))

    pub ob_made : K → (d : Ob.Denot) (h : Val)
        → Step K 𝓛 (‵ (Ob.own_val d (word_val d.at h ∷ [])) ∷ Γ) G
        (‵ (maybe_owned d.alloc R d.at d.value) ∷ ‵ (Z.own_val d.alloc (h ∷ [])) ∷ Γ) G
    ob_made t d h = step (λ s. let v : Val = word_val d.at h in
        nothing t $ move t (2 ∷ 0 ∷ []) $ fjoin t $ feq_i t (List Val) (ptr_val d.at ∷ []) (ptr_val d.at ∷ []) refl $
        fjoin t $ feq_i t (List Val) (v ∷ []) (v ∷ []) refl $ fjoin t $
        fpack t (Valss (RawPtr ∷ Z ∷ [])) (within (shape (optional.the_type R)) (to (optional.the_type R) d) (v ∷ []))
        (ptr_val d.at ∷ [], (h ∷ [], tt)) $ fjoin t $ s)

    pub either : K → (a : Global) (p : Ptr) (v : Option R.Denot) → (v ≡ None → p ≡ null_ptr → Seq K 𝓛 Γ G)
        → ((x : R.Denot) (b o : ℕ) → v ≡ Some x → p ≡ block_ptr b o → Testable (block_ptr b o)
        → Seq K 𝓛 (‵ (box_owns (ghosts.dealloc_token a) R (block_ptr b o) x) ∷ Γ) G)
        → Seq K 𝓛 (‵ (maybe_owned a R p v) ∷ Γ) G
    either t a p None none some = feq_l t (λ e. none refl e)
    either t a p (Some x) none some =
        fsplit t $ flt_l t (λ below. in_a_block t p (λ r. box_owns (ghosts.dealloc_token a) R r x)
        (fst∗ 𝓤 (never 𝓤) (sem 𝓛 (ghosts.dealloc_token a (bare (lone R.mir)) null_ptr)))
        (λ b o e. some x b o refl e (subst Testable e below)))
