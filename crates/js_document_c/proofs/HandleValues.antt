-- The machine value of the handle of a document. Assumes `Logic`.
--     R, Ob                   the rows of a document with its lines, and of the handle
--     word_good               a pointer with the allocator's handle is of the handle's type
--     handle_had, handle_made a value by value is [what it owns; the allocator's handle]
use Rattle.std.proofs.Common.{◌≡◌, List, [], ◌∷◌, ◌++◌, refl, subst, lit<}
use seplogic.Ra.Ura.{Ura}
use mir.Val.{Val, vstruct, of_list, has_ty}
use types.Logic.{Logic}
use types.Kit.{Item, Goal, Seq, Step, step, ‵, ◌$◌, move, drop, fsplit, fjoin, fpick, fpack, feq_i, feq_l}
use denote.RattleType.{RattleType, Valss}
use denote.Builtin.{RawPtr}
use denote.Param.{layout}
use denote.RawPtr.{Ptr, block_ptr, null_ptr, ptr_val}
use denote.Steps.{nothing}
use denote.Struct.Struct.{within}
use denote.Struct.Owning.{shape, to}
use Rattle.core.proofs.alloc.Calls.{handle_tells}
use Rattle.core.proofs.cell.Inside.{Good}
use Rattle.std_alloc.proofs.ResultValues.{and_tt}
use Rattle.js_boxed.specs.Memory.{maybe_owned}
use Rattle.js_boxed.proofs.Values.{Z, al, word_val}
use Rattle.js_document_c.specs.contracts.held.HeldDocument as held
use Rattle.js_document_c.specs.contracts.handle.JsDocument as handle

abbrev pub R : RattleType
R = held.the_row

abbrev pub Ob : RattleType
Ob = handle.the_row

pub word_good : (p : Ptr) (h : Val) → Good (layout Z) h → Good (layout Ob) (word_val p h)
word_good (block_ptr b o) h fits = (and_tt (has_ty (layout Z) h) fits.0, (tt, (fits.1, tt)))
word_good null_ptr h fits = (and_tt (has_ty (layout Z) h) fits.0, (record { fits = lit< tt }, (fits.1, tt)))

module _ {M : Type 1} {𝓤 : Ura M} {𝓛 : Logic 𝓤} {K : Type 0} {Γ : List (Item 𝓤)} {G : Goal 𝓤 𝓛.H} where
  pub handle_had : K → (d : Ob.Denot) (vs : List Val)
      → ((h : Val) → vs ≡ word_val d.at h ∷ [] → Good (layout Z) h
      → Seq K 𝓛 (‵ (maybe_owned d.alloc R d.at d.value) ∷ ‵ (Z.own_val d.alloc (h ∷ [])) ∷ Γ) G)
      → Seq K 𝓛 (‵ (Ob.own_val d vs) ∷ Γ) G
  handle_had t d vs k =
      fsplit t $ fpick t (λ vss. fsplit t $ feq_l t (λ ev. fsplit t $ feq_l t (λ ep. fsplit t $
      handle_tells al t d.alloc vss.1.0 (λ h ea fits. move t (1 ∷ []) $ drop t $ move t (1 ∷ []) $
      k h (subst (λ (ws : List Val). vs ≡ vstruct (of_list (ptr_val d.at ∷ (ws ++ []))) ∷ []) ea
      (subst (λ (ps : List Val). vs ≡ vstruct (of_list (ps ++ (vss.1.0 ++ []))) ∷ []) ep ev)) fits))))

  pub handle_made : K → (d : Ob.Denot) (h : Val)
      → Step K 𝓛 (‵ (Ob.own_val d (word_val d.at h ∷ [])) ∷ Γ) G
      (‵ (maybe_owned d.alloc R d.at d.value) ∷ ‵ (Z.own_val d.alloc (h ∷ [])) ∷ Γ) G
  handle_made t d h = step (λ s. let v : Val = word_val d.at h in
      nothing t $ move t (2 ∷ 0 ∷ []) $ fjoin t $ feq_i t (List Val) (ptr_val d.at ∷ []) (ptr_val d.at ∷ []) refl $
      fjoin t $ feq_i t (List Val) (v ∷ []) (v ∷ []) refl $ fjoin t $
      fpack t (Valss (RawPtr ∷ Z ∷ [])) (within (shape handle.the_type) (to handle.the_type d) (v ∷ []))
      (ptr_val d.at ∷ [], (h ∷ [], tt)) $ fjoin t $ s)
