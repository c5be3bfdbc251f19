-- Names that a buffer of a caller is filled with.
use Rattle.std.specs.Prelude.{◌≡◌, ℕ, List, length}
use Rattle.js_kind.specs.declared.kind.TheConstants.Kind.{VARIANTS}
use Rattle.js_lex_c.specs.Filled.{filled}

-- how many kinds there are
abbrev pub kind_count : ℕ
kind_count = length VARIANTS

-- The buffer has the name as far as there is room, and this is its length.
pub record IsNamed (name : List ℕ) (count : ℕ) (old new : List ℕ) : Type 0 where
  pub count_is : count ≡ length name
  pub filled_is : new ≡ filled old name
