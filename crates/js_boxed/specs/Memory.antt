-- What a box that may be missing owns, and what a `&` to it lends.
--     maybe_owned      a null pointer, or the value at the pointer and the right to free its block, at a pointer that may be
--                      compared with null
--     maybe_lent       the same with the value lent
use Rattle.std.specs.Prelude.{◌^◌}
use base.Fml.{Lft, Fml, fsep, feq, flt}
use denote.RattleType.{RattleType}
use denote.RawPtr.{Ptr, null_ptr, count_of}
use denote.Sharing.{said, beside}
use denote.Struct.Lending.{lent_at}
use Rattle.std.specs.declared.option.Option.{Option}
use Rattle.std.specs.declared.option.Option.TheVariants.{None, Some}
use Rattle.std.specs.declared.alloc.Global.{Global}
use Rattle.std.specs.contracts.impls.GlobalAllocator.TheImpl.{ghosts}
use Rattle.std_alloc.specs.Box.Ownership.{box_owns}

-- the pointer is null
abbrev pub is_null : Ptr → Fml
is_null p = feq Ptr p null_ptr

-- the pointer may be compared with null
abbrev pub is_testable : Ptr → Fml
is_testable p = flt (count_of p) (2 ^ 63)

abbrev pub maybe_owned : Global → (R : RattleType) → Ptr → Option R.Denot → Fml
maybe_owned a R p None = is_null p
maybe_owned a R p (Some x) = fsep (is_testable p) (box_owns (ghosts.dealloc_token a) R p x)

abbrev pub maybe_lent : (R : RattleType) → Ptr → Option R.Denot → Lft → Fml
maybe_lent R p None = said (is_null p)
maybe_lent R p (Some x) = beside (said (is_testable p)) (lent_at R p x)
