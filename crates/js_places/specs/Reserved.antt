-- Lists with places reserved beforehand.
use Rattle.std.specs.Prelude.{ℕ, List}

-- a list, and how many places behind it are reserved and free
pub record Reserved (T : Type 0) : Type 0 where
  pub items : List T
  pub free : ℕ
