-- How contracts see a source and a place of it.
use Rattle.std.specs.Prelude.{◌≡◌, ℕ, ◌<◌, ◌^◌, List, [], ◌∷◌, ◌++◌, length}
use Rattle.std.specs.Str.{IsCharBoundary, IsUtf8, encode_utf8_all}
use Rattle.js_text.specs.Characters.{from_place}

-- the text is UTF-8 of less than 2 ^ 32 bytes, and the place is on a boundary of its characters
pub record IsPlaced (text : List ℕ) (place : ℕ) : Type 0 where
  pub utf8 : IsUtf8 text
  pub short : length text < 2 ^ 32
  pub boundary : IsCharBoundary text place

-- a text, and a place of it between characters
pub record At : Type 0 where
  pub text : List ℕ
  pub place : ℕ
  pub placed : IsPlaced text place

-- the characters from the place on
abbrev pub rest : At → List ℕ
rest s = from_place s.text s.place

-- the place in the same text
pub record GoesTo (place : ℕ) (old new : At) : Type 0 where
  pub text : new.text ≡ old.text
  pub there : new.place ≡ place

-- the character c was read
pub record Reads (old new : At) (c : ℕ) : Type 0 where
  pub text : new.text ≡ old.text
  pub here : rest old ≡ c ∷ rest new

-- the characters c and d were read
pub record ReadsTwo (old new : At) (c d : ℕ) : Type 0 where
  pub text : new.text ≡ old.text
  pub here : rest old ≡ c ∷ d ∷ rest new

-- the characters begin with c
abbrev pub BeginsWith : ℕ → List ℕ → Type 0
BeginsWith b [] = ⊥
BeginsWith b (c ∷ cs) = c ≡ b

-- the first byte of a text that is not empty: an ASCII character is its byte
abbrev pub HasFirstByte : ℕ → List ℕ → Type 0
HasFirstByte b [] = ⊥
HasFirstByte b (c ∷ cs) = (b < 128 → c ≡ b) × (c < 128 → c ≡ b)

-- the first two bytes of a text: an ASCII character is its byte, and behind one stands the second byte
abbrev pub HasFirstTwoBytes : ℕ → ℕ → List ℕ → Type 0
HasFirstTwoBytes a b [] = ⊥
HasFirstTwoBytes a b (c ∷ cs) = HasFirstByte a (c ∷ cs) × (a < 128 → HasFirstByte b cs)

-- there are fewer than two bytes: no character, or one of ASCII alone
abbrev pub HasAtMostOneByte : List ℕ → Type 0
HasAtMostOneByte [] = Unit {0}
HasAtMostOneByte (c ∷ cs) = (c < 128) × (cs ≡ [])

-- where a character stands at the place of the text, what is left is what follows it
abbrev pub StepsFrom : List ℕ → ℕ → At → Type 0
StepsFrom text place new =
    (c : ℕ) (cs : List ℕ) → from_place text place ≡ c ∷ cs → (new.text ≡ text) × (rest new ≡ cs)

-- the same of the next character
abbrev pub StepsPast : At → At → Type 0
StepsPast old new = StepsFrom old.text old.place new

-- the bytes spell the characters that stand between two places of the text
abbrev pub SpellsBetween : List ℕ → ℕ → ℕ → List ℕ → Type 0
SpellsBetween text from to bytes = (xs : List ℕ) → from_place text from ≡ xs ++ from_place text to
    → bytes ≡ encode_utf8_all xs
