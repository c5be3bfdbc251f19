-- Numbers in decimal, by their last three digits and those before them.
use Rattle.std.specs.Prelude.{◌≡◌, ℕ, ◌+◌, ◌-◌, ◌/◌, ◌%◌, ◌<◌, ◌≤◌, List, [], ◌∷◌, length, drop, slice_index_or}
use Rattle.std.specs.Fmt.{decimal}

-- a number below 1000, filled up with zeros to three digits
abbrev pub three_digits : ℕ → List ℕ
three_digits n = (48 + n / 100) ∷ (48 + n / 10 % 10) ∷ (48 + n % 10) ∷ []

-- There are those of each number below 1000, at its place, behind a byte of no meaning.
pub record HasDigits (digits : List (List ℕ)) : Type 0 where
  pub of_each : (n : ℕ) → n < 1000 → drop 1 (slice_index_or digits n []) ≡ three_digits n

-- The last bytes of the room are the digits of a number of thousands, as it is the first one with these.
pub record HasFirstDigits (first : ℕ) (room : List ℕ) (len : ℕ) : Type 0 where
  pub more : 1000 ≤ first
  pub few : first < 100000000000
  pub whole : first % 1000 ≡ 0
  pub width : length room ≡ 16
  pub short : len ≤ 16
  pub text : drop (16 - len) room ≡ decimal (first / 1000)
