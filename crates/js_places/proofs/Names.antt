-- The names of the logic that the walks cite.
pub use Rattle.std.proofs.Common.{◌≡◌, [], ◌∷◌, refl, List, ℕ, zero, suc, ◌+◌, ◌*◌, ◌^◌, ◌<◌, ◌≤◌, sym, ap, ◌∙◌, subst}
pub use Rattle.std.proofs.Common.{arith, w64, lit<, ◌++◌, length}
pub use Rattle.std.specs.Prelude.{take}
pub use mathlib.Core.Bool.{Bool, true, false}
pub use lib.ListN.{replicate, length-replicate}
pub use mir.Syntax.{a_type, named, ty_array}
pub use mir.Val.{Val, vptr, vint, vstruct, vcons, vnil}
pub use mir.MapTy.{inst_fn}
pub use base.Logic.{SProp, emp, ent, sep, id⊢}
pub use base.Fml.{Fml, Lft, Share, ftrue, fsep, flft, fat, flt}
pub use base.Fraction.{full_share}
pub use seplogic.Ra.Ura.{Ura}
pub use types.Logic.{Logic, sem}
pub use types.Kit.{⋆, ‵, raw, ◌⊛◌, some, given, later, at_ret, ◌$◌, ◌∵◌, !, qed, by, keep, move, drop, split, split3}
pub use types.Kit.{join, fsplit, fsplit3, fjoin, fjoin3, learn, rewrite, use0, use1, use2, use3, feq_i, feq_l, flt_i}
pub use types.Kit.{flt_l, pick, await, frame, done}
pub use types.Run.{stop, fld, lit, unit_lit, of_opd, and_then, no_more, first, blocks, exec, returns, enter}
pub use types.ByLocal.{alloc_all, pass_all, free_all, look_at, take_at, give_at, get, get_in, sets, sets_last, is, env}
pub use types.ByLocal.{lands_last}
pub use types.Part.{agg, sub, whole}
pub use contract.Running.{tables}
pub use contract.Monad.{fact, fact_i}
pub use contract.BorrowLft.{◌⊑◌}
pub use denote.RattleType.{RattleType, owns}
pub use denote.Builtin.{usize, RefOf}
pub use denote.Exit.{no, yes}
pub use denote.Memory.{hidden_shr}
pub use denote.Opens.{hide}
pub use denote.Param.{layout, layouts}
pub use denote.Plain.{uint_vals, uint_Tells}
pub use denote.RawPtr.{Ptr, block_ptr, ptr_val}
pub use denote.Ref.{shr_vals, shr_Tells}
pub use denote.Signature.{plain, types_at}
pub use denote.Slice.{elements_shared, slice_val}
pub use denote.Steps.{nothing, heard}
pub use denote.Triple.Walked.{Stays, walk_of, stay_dropped, Goes-dropped}
pub use Rattle.core.proofs.mem.Param.{El, R, el_x}
pub use Rattle.core.proofs.slots.Opens.{Sr, el_d}
pub use Rattle.core.proofs.slots.Places.{sz}
pub use Rattle.std.proofs.raw_atomic.Walks.{proved, proved_at}
pub use Rattle.std_alloc.proofs.RcSteps.{word, word-Good}
pub use Rattle.std_alloc.proofs.VecSteps.Shapes.{after}
