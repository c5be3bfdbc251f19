-- Tables of kinds.
use Rattle.std.specs.Prelude.{◌≡◌, Bool, false, List, slice_index_or}
use Rattle.js_kind.specs.Kinds.{number}
use Rattle.js_kind.specs.declared.kind.Kind.{Kind}

-- The table tells of each kind, at the place of its number, what the test tells of it.
pub record TellsKinds (test : Kind → Bool) (table : List Bool) : Type 0 where
  pub tells : (kind : Kind) → slice_index_or table (number kind) false ≡ test kind
