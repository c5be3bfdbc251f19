-- Texts that grow.
use Rattle.std.proofs.Common.{◌≡◌, ℕ, ◌+◌, ◌++◌, add-one, refl}
use Rattle.std.specs.Prelude.{codes}
use Rattle.js_parse_tool.specs.Shown.{indent}

-- two more spaces
pub indented : (depth : ℕ) → indent (depth + 1) ≡ indent depth ++ codes "  "
indented depth = rw add-one refl
