-- What the right to give a block back owns.
use Rattle.std.specs.Prelude.{ℕ, zero, suc}
use base.Fml.{Fml, ftrue}
use mir.Syntax.{Ty, ty_array}
use mir.Raw.{raw}
use denote.RattleType.{RattleType}
use denote.Memory.{lone}
use denote.RawPtr.{Ptr}

-- the allocator's token for a block of n places; for no places there is no block
abbrev pub deed_owns : (Ty → Ptr → Fml) → RattleType → Ptr → ℕ → Fml
deed_owns token R p zero = ftrue
deed_owns token R p (suc n) = token (raw (ty_array (lone R.mir) (suc n))) p
