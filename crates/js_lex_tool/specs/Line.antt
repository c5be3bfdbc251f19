-- Short lines of a report.
use Rattle.std.specs.Prelude.{ℕ, List}

-- what is in a line, and how many bytes more may be put before it
pub record LineState : Type 0 where
  pub text : List ℕ
  pub room : ℕ
