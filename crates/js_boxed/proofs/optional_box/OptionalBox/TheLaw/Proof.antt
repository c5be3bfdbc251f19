-- A `&` to a box that may be missing is made where one to its value is. Assumes `Logic`.
use Rattle.std.proofs.Common.{[], ◌++◌}
use base.Fraction.{full_share}
use base.Fml.{Incl, Incl-trans, Lft}
use contract.BorrowLft.{meet_⊑_left}
use denote.RattleType.{RattleType}
use denote.Memory.{lone}
use denote.Sharing.{ShrLaws, said}
use denote.SharingLaws.{said_shr_laws, beside_shr_laws}
use denote.RawPtr.{Ptr, lies_at}
use denote.Shares.{Shares-less}
use denote.Param.Laws.{Laws}
use denote.Param.Shared.{copy_shared}
use denote.Struct.Field.{RawPtr-field}
use denote.Struct.Laws.{RawPtr-copy}
use denote.Struct.Lending.{lent_at, lent_at_shr_laws, Lends, Lends-lies, Lends-first, Lends-both, Lends-said, of_Lends}
use mir.Raw.{raw as bare}
use seplogic.Ra.Ura.{Ura}
use types.Logic.{Logic}
use Rattle.std.specs.declared.option.Option.{Option}
use Rattle.std.specs.declared.option.Option.TheVariants.{None, Some}
use Rattle.std.specs.declared.alloc.Global.{Global}
use Rattle.std.specs.contracts.alloc.Global as heap
use Rattle.std.proofs.alloc.Global.TheLaws as heap_laws
use Rattle.std.specs.contracts.impls.GlobalAllocator.TheImpl.{ghosts}
use Rattle.std_alloc.specs.Box.Ownership.{box_owns}
use Rattle.js_boxed.specs.Memory.{is_null, is_testable, maybe_owned, maybe_lent}
use Rattle.js_boxed.specs.contracts.optional_box.OptionalBox as C
use Rattle.js_boxed.proofs.optional_box.OptionalBox.TheLaw.Statement.{statement}

maybe_lent_laws : (T : RattleType) → Laws T → (p : Ptr) (v : Option T.Denot) → ShrLaws (maybe_lent T p v)
maybe_lent_laws T L p None = said_shr_laws (is_null p) tt
maybe_lent_laws T L p (Some x) =
    beside_shr_laws (said (is_testable p)) (lent_at T p x) (said_shr_laws (is_testable p) tt) (lent_at_shr_laws T L.shr_laws p x)

module _ {M : Type 1} {𝓤 : Ura M} (𝓛 : Logic 𝓤) (T : RattleType) (L : Laws T) (l : Lft) (a : Global) (p : Ptr) where
  lends : Incl l T.lives → (v : Option T.Denot) → Lends 𝓛 (maybe_owned a T p v) (maybe_lent T p v) l
  lends le None = Lends-said 𝓛 (is_null p) tt l
  lends le (Some x) =
      Lends-both 𝓛 (is_testable p) (box_owns (ghosts.dealloc_token a) T p x) (said (is_testable p)) (lent_at T p x) l
      (Lends-said 𝓛 (is_testable p) tt l)
      (Lends-first 𝓛 (lies_at T full_share p x) (ghosts.dealloc_token a (bare (lone T.mir)) p) (lent_at T p x) l
      (Lends-lies 𝓛 T l p x (Shares-less 𝓛 T T.lives l le (L.shares 𝓛) x)))

pub shares : (T : RattleType) (L : Laws T) → statement T L
shares T L =
    of_Lends (C.struct T) (C.the_codes T.Denot T.coded heap.the_row.coded) (C.the_heap T) (C.the_lent T)
    (λ d p. maybe_lent_laws T L d.at d.value)
    (copy_shared RawPtr-field RawPtr-copy, (heap_laws.the_field_shared, tt))
    (λ M 𝓤 𝓛 d p. lends 𝓛 T L (C.the_row T).lives d.alloc d.at
    (Incl-trans (meet_⊑_left (T.lives ++ []) _) (meet_⊑_left T.lives [])) d.value)
