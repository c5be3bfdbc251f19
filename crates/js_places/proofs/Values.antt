-- A row, its base and its deed are made. Assumes `Logic`.
use Rattle.js_places.proofs.Names.{◌≡◌, [], ◌∷◌, List, ℕ, zero, suc, ◌<◌, arith, refl, ap, ◌∙◌, ◌++◌, Fml, Ptr}
use Rattle.js_places.proofs.Names.{ty_array, ent, emp, sep, Val, vstruct, vcons, vnil, Ura, Logic, sem, ‵, ◌$◌, ◌∵◌, ! }
use Rattle.js_places.proofs.Names.{qed, move, use0, fjoin, feq_i, nothing, RattleType, block_ptr, ptr_val, El, R, Sr}
use Rattle.js_places.proofs.Names.{word}
use types.Kit.{Item, Goal, Seq, drop, fsplit, fpick, feq_l, fpack, done}
use mir.Val.{of_list}
use mir.Syntax.{Ty}
use mathlib.Core.Bool.{not}
use lib.Dec.{T, eqb}
use mir.Raw.{raw as bare}
use denote.Memory.{lone}
use denote.RattleType.{Valss}
use denote.Shadow.{makes_shadow}
use denote.Struct.Struct.{Struct, within}
use denote.Struct.Owning.{shape}
use denote.Struct.Declared as Declared
use denote.Struct.Tuple.{Tuple, tuple_type}
use Rattle.core.proofs.alloc.Calls.{Al, token}
use Rattle.core.proofs.slots.Leases.{P}
use Rattle.core.proofs.slots.Opens.{row_val}
use Rattle.js_places.specs.Memory.{deed_owns}
use Rattle.js_places.specs.contracts.raw.Base as base
use Rattle.js_places.specs.contracts.raw.Deed as deed

-- a block of places has its token
pub deed_is : (t : Ty → Ptr → Fml) (R : RattleType) (p : Ptr) (n : ℕ) → 0 < n
    → deed_owns t R p n ≡ t (bare (ty_array (lone R.mir) n)) p
deed_is t R p zero some = absurd (omega arith)
deed_is t R p (suc n) some = refl

pub some_of : (n : ℕ) → T (not (eqb n 0)) → 0 < n
some_of zero none = absurd none
some_of (suc n) some = omega arith

abbrev pub mark : Val
mark = vstruct (vcons (vstruct vnil) vnil)

abbrev pub whole_val : ℕ → ℕ → ℕ → Val
whole_val b o n = vstruct (vcons (row_val b o n) (vcons (word (block_ptr b o)) (vcons mark vnil)))

module _ (E : El) (Z : Al) where
  abbrev pub Bs : RattleType
  Bs = base.the_row (R E)

  abbrev pub Dd : RattleType
  Dd = deed.the_row (R E) (P E Z) Z.g

  -- the one field of a deed, which takes no bytes
  abbrev pub Mark : RattleType
  Mark = Struct (shape (deed.the_type (R E) (P E Z) Z.g))

  abbrev pub Whole : RattleType
  Whole = Tuple (Sr E ∷ Bs ∷ Dd ∷ [])

  abbrev pub whole : (Sr E).Denot → ℕ → ℕ → ℕ → Z.row.Denot → Whole.Denot
  whole r b o n a = (
    r,
    record { ptr = block_ptr b o; here = refl },
    record {
      mark = record {};
      at =
          block_ptr b o;
      len = n;
      alloc = a;
    },
  )

  module _ {M : Type 1} {𝓤 : Ura M} (𝓛 : Logic 𝓤) (b o n : ℕ) (a : Z.row.Denot) where
    base_made : ent 𝓤 (emp 𝓤) (sem 𝓛 (Bs.own_val (record { ptr = block_ptr b o; here = refl })
        (word (block_ptr b o) ∷ [])))
    base_made = makes_shadow 𝓛 (Bs.own_val (record { ptr = block_ptr b o; here = refl }) (word (block_ptr b o) ∷ []))
        (λ vss. (tt, (tt, tt))) ((ptr_val (block_ptr b o) ∷ [], tt), (refl, (refl, tt)))

    mark_made : ent 𝓤 (emp 𝓤) (sem 𝓛 (Mark.own_val (tt, tt) (mark ∷ [])))
    mark_made = makes_shadow 𝓛 (Mark.own_val (tt, tt) (mark ∷ [])) (λ vss. (tt, ((λ uss. (tt, tt)), tt)))
        ((vstruct vnil ∷ [], tt), (refl, ((tt, (refl, tt)), tt)))

    pub whole_made : (r : (Sr E).Denot) → ent 𝓤 (sep 𝓤 (sem 𝓛 ((Sr E).own_val r (row_val b o n ∷ [])))
        (sem 𝓛 (deed_owns (token Z a) (R E) (block_ptr b o) n)))
        (sem 𝓛 (Whole.own_val (whole r b o n a) (whole_val b o n ∷ [])))
    whole_made r =
        qed 𝓛 (‵ ((Sr E).own_val r (row_val b o n ∷ [])) ∷ ‵ (deed_owns (token Z a) (R E) (block_ptr b o) n) ∷ []) ∵
        move ! (1 ∷ []) $ use0 𝓛 (‵ (Mark.own_val (tt, tt) (mark ∷ []))) mark_made $ fjoin ! $ nothing ! $
        move ! (1 ∷ 0 ∷ []) $ fjoin ! $
        use0 𝓛 (‵ (Bs.own_val (record { ptr = block_ptr b o; here = refl }) (word (block_ptr b o) ∷ []))) base_made $
        fjoin ! $ move ! (1 ∷ 0 ∷ []) $ fjoin ! $
        feq_i ! (List Val) (whole_val b o n ∷ []) (whole_val b o n ∷ []) refl $ fjoin ! $
        fpack ! (Valss (Sr E ∷ Bs ∷ Dd ∷ [])) (within (Declared.shape (tuple_type (Sr E ∷ Bs ∷ Dd ∷ [])))
        (r, ((whole r b o n a).1, ((whole r b o n a).2, tt))) (whole_val b o n ∷ []))
        (row_val b o n ∷ [], (word (block_ptr b o) ∷ [], (mark ∷ [], tt))) $ done !

module _ (E : El) (Z : Al) {M : Type 1} {𝓤 : Ura M} {𝓛 : Logic 𝓤} {K : Type 0} {Γ : List
    (Item 𝓤)} {G : Goal 𝓤 𝓛.H} where
  pub deed_had : K → (d : (Dd E Z).Denot) (vs : List Val) → (vs ≡ mark ∷ []
      → Seq K 𝓛 (‵ (deed_owns (token Z d.alloc) (R E) d.at d.len) ∷ Γ) G) → Seq K 𝓛 (‵ ((Dd E Z).own_val d vs) ∷ Γ) G
  deed_had t d vs k = fsplit t $ fpick t (λ vss. fsplit t $ feq_l t (λ ev. fsplit t $
      fpick t (λ uss. fsplit t $ feq_l t (λ e. drop t $ drop t $
      k (ev ∙ ap (λ (ws : List Val). vstruct (of_list (ws ++ [])) ∷ []) e)))))
