-- The pointer of a box that may be missing, read through a `&`. Assumes `Logic`.
--     opened               a `&` to the struct is a `&` to its fields and what `also_shares` says
--     word_in, word_out    the pointer is opened and shut, where it is known to be r
--     lent_either          what is shared is nothing, at null, or the value, at a pointer that may be compared with null
use Rattle.std.proofs.Common.{◌≡◌, ℕ, ◌+◌, List, [], ◌∷◌, refl, sym, ap, ◌∙◌}
use seplogic.Ra.Ura.{Ura}
use mir.Syntax.{ty_ptr}
use mir.Val.{Val}
use base.Logic.{ent, sep}
use base.Fml.{Lft, Share, Fml, ftrue, fat, fhide, flft}
use contract.Monad.{fact}
use types.Logic.{Logic, sem}
use types.Kit.{Goal, Soaks, Step, step, Seq, Item, ‵, raw, ◌⊛◌, ◌$◌, ◌∵◌, !, qed, move, keep, drop, use1, split}
use types.Kit.{rewrite, fsplit, feq_l, feq_i, flt_l, done}
use denote.RattleType.{RattleType, RowLaws}
use denote.Memory.{cell_at, part_at, hidden_shr}
use denote.Copied.{plain_Copied}
use denote.RawPtr.{Ptr, RawPtr, Testable, coded_ptr, ptr_own, rawptr_pure, ptr_val, block_of, count_of, block_ptr}
use denote.RawPtr.{null_ptr, InBlock, at_block, ptr_row_laws}
use denote.Struct.Laws.{RawPtr-laws}
use denote.Struct.Struct.{Struct, Struct-row_laws}
use denote.Struct.Owning.{shape, to}
use denote.Struct.Lending.{in_block_says, lent_out}
use denote.Opens.{Shut, shr_dup, unhide, hide}
use denote.Steps.{heard, looks, shuts, nothing}
use Rattle.std.proofs.alloc.Global.TheLaws as heap_laws
use Rattle.std.specs.declared.option.Option.{Option}
use Rattle.std.specs.declared.option.Option.TheVariants.{None, Some}
use Rattle.js_boxed.proofs.Values.{Z, Ob}
use Rattle.js_boxed.specs.Memory.{maybe_lent}
use Rattle.js_boxed.specs.contracts.optional_box.OptionalBox as optional

module _ (R : RattleType) where
  abbrev pub Words : RattleType
  Words = Struct (shape (optional.the_type R))

  words_laws : RowLaws Words
  words_laws =
      Struct-row_laws (shape (optional.the_type R)) (ptr_row_laws, (heap_laws.the_field_shared.shr_laws, tt))

  abbrev pub fields : (Ob R).Denot → Words.Denot
  fields = to (optional.the_type R)

  module _ {M : Type 1} {𝓤 : Ura M} (𝓛 : Logic 𝓤) (κ : Lft) (d : (Ob R).Denot) (b o : ℕ) where
    abbrev pub S : Fml
    S = hidden_shr Words κ (fields d) b o

    pub shows_pointer : ent 𝓤 (sem 𝓛 S) (sep 𝓤 (sem 𝓛 (hidden_shr RawPtr κ d.at b (o + 0))) (sem 𝓛 S))
    shows_pointer =
        qed 𝓛 (‵ S ∷ []) ∵ shr_dup ! Words words_laws (fields d) b o κ $ unhide ! $ fsplit ! $ fsplit ! $ hide ! $
        keep ! (0 ∷ 3 ∷ []) $ done !

    pub opened : ent 𝓤 (sem 𝓛 (hidden_shr (Ob R) κ d b o))
        (sep 𝓤 (sem 𝓛 S) (sem 𝓛 (fhide (maybe_lent R d.at d.value κ))))
    opened = lent_out 𝓛 (optional.struct R) (optional.the_codes R.Denot R.coded Z.coded) (optional.the_heap R)
        (optional.the_lent R) κ d b o

module _ {M : Type 1} {𝓤 : Ura M} {𝓛 : Logic 𝓤} {K : Type 0} {Γ : List (Item 𝓤)} {G : Goal 𝓤 𝓛.H} where
  pub word_in : K → Soaks G → {κ : Lft} {q : Share} {S' : Fml} (p r : Ptr) → p ≡ r → (b at : ℕ)
      → ent 𝓤 (sem 𝓛 S') (sep 𝓤 (sem 𝓛 (hidden_shr RawPtr κ p b at)) (sem 𝓛 S'))
      → ((q' : Share) → Seq K 𝓛 (‵ ftrue ∷ ‵ (fat q' ty_ptr b at (ptr_val r)) ∷ Shut 𝓛 κ q (part_at RawPtr q' p b at) ∷
      ‵ S' ∷ Γ) G) → Seq K 𝓛 (‵ S' ∷ ‵ (flft κ q) ∷ Γ) G
  word_in t z {κ} {q} {S'} p r same b at shown k =
      use1 𝓛 (‵ (hidden_shr RawPtr κ p b at) ⊛ ‵ S') shown $ split t $ move t (0 ∷ 2 ∷ []) $
      looks t z RawPtr (plain_Copied 𝓛 Ptr coded_ptr (ty_ptr ∷ []) ptr_own rawptr_pure ptr_val RawPtr-laws.tells).opens
      p b at (λ q' vs. move t (1 ∷ []) $ feq_l t (λ e.
      rewrite t 0 (λ (us : List Val). ‵ (cell_at q' RawPtr.mir us b at)) (e ∙ ap (λ (s : Ptr). ptr_val s ∷ []) same) refl $
      move t (2 ∷ []) $ drop t $ nothing t $ k q'))

  pub word_out : K → Soaks G → {κ : Lft} {q q' : Share} (p r : Ptr) → p ≡ r → (b at : ℕ)
      → Step K 𝓛 (‵ (flft κ q) ∷ Γ) G
      (‵ ftrue ∷ ‵ (fat q' ty_ptr b at (ptr_val r)) ∷ Shut 𝓛 κ q (part_at RawPtr q' p b at) ∷ Γ) G
  word_out t z {q' = q'} p r same b at = step (λ s.
      drop t $ feq_i t (List Val) (ptr_val r ∷ []) (ptr_val p ∷ []) (ap (λ (s' : Ptr). ptr_val s' ∷ []) (sym same)) $
      move t (1 ∷ 0 ∷ []) $ shuts t z RawPtr q' p (ptr_val r ∷ []) b at $ s)

  pub lent_either : (R : RattleType) → K → (κ : Lft) (p : Ptr) (v : Option R.Denot)
      → (v ≡ None → p ≡ null_ptr → Seq K 𝓛 Γ G)
      → ((x : R.Denot) (b o : ℕ) → v ≡ Some x → p ≡ block_ptr b o → Testable (block_ptr b o)
      → Seq K 𝓛 (‵ (hidden_shr R κ x b o) ∷ Γ) G)
      → Seq K 𝓛 (‵ (maybe_lent R p v κ) ∷ Γ) G
  lent_either R t κ p None none some = feq_l t (λ e. none refl e)
  lent_either R t κ p (Some x) none some =
      fsplit t $ flt_l t (λ low. fsplit t $ use1 𝓛 (raw (fact 𝓤 (InBlock p))) (in_block_says 𝓛 p) $
      heard t (InBlock p) (λ inside. hide t $ some x (block_of p) (count_of p) refl (at_block p inside) low))
