-- Values by offsets of a source.
use Rattle.std.specs.Prelude.{◌≡◌, ℕ, ◌<◌, ◌≢◌, List, length, nat_eq, Option, Some, slice_index_or, if◌then◌else◌}
use Rattle.std.specs.List.{All, HoldsAt}
use Rattle.std.specs.Map.{lookup}

-- values, with their offsets
abbrev pub Placed : Type 0 → Type 0
Placed A = List (ℕ × A)

-- the value at the offset, if there is one
abbrev pub value_of : {A : Type 0} → Placed A → ℕ → Option A
value_of values start = lookup (nat_eq start) values

-- the value is kept at the offset, and all others as before
abbrev pub Holds : {A : Type 0} → ℕ → A → Placed A → Placed A → Type 0
Holds start value old new = (at : ℕ) → value_of new at ≡ (if nat_eq at start then Some value else value_of old at)

-- each offset is above those before it
abbrev pub AreRising : {A : Type 0} → Placed A → Type 0
AreRising {A} values = (i j : ℕ) (d : ℕ × A) → i < j → j < length values
    → (slice_index_or values i d).0 < (slice_index_or values j d).0

-- the offset stands at the place
pub record IsAt {A : Type 0} (values : Placed A) (offset place : ℕ) : Type 0 where
  pub in_range : place < length values
  pub has_offset : HoldsAt (λ entry. entry.0 ≡ offset) values place

-- all offsets are below this one
abbrev pub AreBelow : {A : Type 0} → Placed A → ℕ → Type 0
AreBelow values offset = All (λ entry. entry.0 < offset) values

-- the offset is none of those
abbrev pub AreOthers : {A : Type 0} → Placed A → ℕ → Type 0
AreOthers values offset = All (λ entry. entry.0 ≢ offset) values
