-- Texts as UTF-16 units (ECMA-262 6.1.4 and 11.1.1).
use Rattle.std.specs.Prelude.{◌≡◌, ℕ, List, ◌++◌}
use Rattle.std.specs.Char.Escape.{encode_utf16}
use Rattle.std.specs.List.{flat_map}

-- the units that spell the characters: one below 0x10000 is its own unit, any other has a pair of surrogates
abbrev pub units_of : List ℕ → List ℕ
units_of cs = flat_map encode_utf16 cs

-- Some of these units were added, from the first one on: none, all, or any number between.
pub record AddsPrefix (units old new : List ℕ) : Type 0 where
  pub added : List ℕ
  pub left : List ℕ
  pub prefix : units ≡ added ++ left
  pub new_is : new ≡ old ++ added
