-- Two bytes side by side, and what a search for them passes over.
use Rattle.std.specs.Prelude.{◌≡◌, ℕ, ◌+◌, ◌<◌, ◌≤◌, Bool, true, false, List, [], ◌∷◌, ◌&&◌, ◌==◌, drop, length}
use Rattle.std.specs.Prelude.{if◌then◌else◌, slice_index}
use Rattle.js_text.specs.Characters.{begins}
use Rattle.js_source.specs.declared.four.FourBytes.{FourBytes}
use Rattle.js_source.specs.declared.pair.BytePair.{BytePair}
use Rattle.js_source.specs.Search.{is_one_of}

-- whether the characters begin with the pair
abbrev pub begins_pair : BytePair → List ℕ → Bool
begins_pair pair cs = begins (λ c. c == pair.first) cs && begins (λ c. c == pair.second) (drop 1 cs)

-- what is left from the first pair on
abbrev pub from_pair : BytePair → List ℕ → List ℕ
from_pair pair [] = []
from_pair pair (c ∷ cs) = if begins_pair pair (c ∷ cs) then c ∷ cs else from_pair pair cs

-- what stands before that
abbrev pub before_pair : BytePair → List ℕ → List ℕ
before_pair pair [] = []
before_pair pair (c ∷ cs) = if begins_pair pair (c ∷ cs) then [] else c ∷ before_pair pair cs

-- The bytes at the place and behind it are the pair.
pub record IsPairAt (pair : BytePair) (text : List ℕ) (at : ℕ) : Type 0 where
  pub within : at + 2 ≤ length text
  pub first : slice_index text at ≡ pair.first
  pub second : slice_index text (at + 1) ≡ pair.second

-- Between the two places no pair begins, and where that is said to be clean, there is none of the four bytes either.
pub record PassesPairs (pair : BytePair) (four : FourBytes) (text : List ℕ) (from to : ℕ) (is_clean : Bool)
    : Type 0 where
  pub onward : from ≤ to
  pub within : to ≤ length text
  pub before : (k : ℕ) → from ≤ k → k < to → IsPairAt pair text k → ⊥
  pub clean : is_clean ≡ true → (k : ℕ) → from ≤ k → k < to → is_one_of four (slice_index text k) ≡ false

-- From the place on there is no pair.
abbrev pub HasNoPair : BytePair → List ℕ → ℕ → Type 0
HasNoPair pair text from = (k : ℕ) → from ≤ k → IsPairAt pair text k → ⊥
