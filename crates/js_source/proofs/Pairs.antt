-- What a search for a pair passes over, and what it finds in characters.
use Rattle.std.specs.Int.{bit_at}
use Rattle.std.specs.Char.{encode_utf8, len_utf8}
use Rattle.std.specs.List.{list_any}
use Rattle.std.proofs.Common.{◌≡◌, ℕ, zero, suc, ◌+◌, ◌-◌, ◌<◌, ◌≤◌, Bool, true, false, ◌&&◌, ◌==◌, ltb, List}
use Rattle.std.proofs.Common.{[], ◌∷◌, length, drop, get_or, refl, sym, ◌∙◌, ap, subst, arith, MatchBool}
use Rattle.std.proofs.lemmas.Bool.{and_parts, eq-eqb, eqb-true, ltb-true, ltb-false}
use Rattle.std.proofs.lemmas.Str.{length-encode}
use Rattle.js_text.specs.Characters.{begins, from_place}
use Rattle.js_source.specs.Pairs.{begins_pair, from_pair, before_pair, IsPairAt, PassesPairs, HasNoPair}
use Rattle.js_source.specs.Search.{is_one_of, four_bytes, matches_at, matches_char, PassesOthers}
use Rattle.js_source.specs.Source.{At, rest, IsPlaced, HasFirstByte}
use Rattle.js_source.specs.declared.four.FourBytes.{FourBytes}
use Rattle.js_source.specs.declared.pair.BytePair.{BytePair}
use Rattle.js_source.proofs.Fours.{block_passed, not_true, HasFour}
use Rattle.js_source.proofs.Places.{at_place, next_place, step, step_rest, first_byte_at, placed_ascii, here_ascii}
use Rattle.js_source.proofs.Stops.{byte_at, first_at, later_of, scalar_spelled}

-- nothing is passed yet
pub none_passed : (pair : BytePair) (four : FourBytes) (text : List ℕ) (from : ℕ) → from ≤ length text
    → PassesPairs pair four text from from true
none_passed pair four text from within = record {
  onward = omega arith;
  within = within;
  before = λ k low high is. omega arith;
  clean = λ is k low high. absurd (omega arith);
}

-- a block, up to a mark before which there is none
pub no_pair_in_block : (pair : BytePair) (text : List ℕ) (at to marks : ℕ)
    → ((k : ℕ) → k < 32 → IsPairAt pair text (at + k) → bit_at marks k ≡ 1)
    → ((k : ℕ) → k < to → bit_at marks k ≡ 0) → to ≤ 32
    → (k : ℕ) → at ≤ k → k < at + to → IsPairAt pair text k → ⊥
no_pair_in_block pair text at to marks marked none short k low high is =
    let n = k - at in
    let same : k ≡ at + n = omega arith in
    let set : bit_at marks n ≡ 1 = marked n (omega arith) (subst (IsPairAt pair text) same is) in
    let unset : bit_at marks n ≡ 0 = none n (omega arith) in
    omega (arith, set, unset)

-- it is clean up to there, if no mark of the others stands before
pub clean_block : (four : FourBytes) (text : List ℕ) (at to marks : ℕ) (unset : Bool)
    → ((k : ℕ) → k < 32 → is_one_of four (get_or text (at + k) 0) ≡ true → bit_at marks k ≡ 1)
    → MatchBool unset ((k : ℕ) → k < to → bit_at marks k ≡ 0) (Unit {0}) → to ≤ 32
    → unset ≡ true → (k : ℕ) → at ≤ k → k < at + to → is_one_of four (get_or text k 0) ≡ false
clean_block four text at to marks true marked none short e = block_passed four text at to marks marked none short
clean_block four text at to marks false marked none short e = absurd (cc)

-- where it is clean, none of the others stands before the place, two bytes before where the search ends
pub others_before : (pair : BytePair) (four : FourBytes) (text : List ℕ) (from at : ℕ) (is_clean : Bool)
    → PassesPairs pair four text from at is_clean → is_clean ≡ true → PassesOthers four text from (at + 2 - 2)
others_before pair four text from at is_clean p is = record {
  onward = omega (arith, p.onward);
  within = omega (arith, p.within);
  before = λ k low high. p.clean is k low (omega (arith, high));
}

pub passed_on : (pair : BytePair) (four : FourBytes) (text : List ℕ) (from at to : ℕ) (was is : Bool)
    → PassesPairs pair four text from at was → at ≤ to → to ≤ length text
    → ((k : ℕ) → at ≤ k → k < to → IsPairAt pair text k → ⊥)
    → (is ≡ true → (k : ℕ) → at ≤ k → k < to → is_one_of four (get_or text k 0) ≡ false)
    → PassesPairs pair four text from to (was && is)
passed_on pair four text from at to was is p onward within none others = record {
  onward = omega (arith, p.onward);
  within = within;
  before = λ k low high. pair_by_test k low high (ltb k at) refl;
  clean = λ e k low high. let both = and_parts was is e in clean_by_test both.0 both.1 k low high (ltb k at) refl;
}
  where
    pair_by_test : (k : ℕ) → from ≤ k → k < to → (x : Bool) → ltb k at ≡ x → IsPairAt pair text k → ⊥
    pair_by_test k low high true e = p.before k low (ltb-true k at e)
    pair_by_test k low high false e = none k (ltb-false k at e) high

    clean_by_test : was ≡ true → is ≡ true → (k : ℕ) → from ≤ k → k < to → (x : Bool) → ltb k at ≡ x
        → is_one_of four (get_or text k 0) ≡ false
    clean_by_test f g k low high true e = p.clean f k low (ltb-true k at e)
    clean_by_test f g k low high false e = others g k (ltb-false k at e) high

-- one byte more
pub passed_byte : (pair : BytePair) (four : FourBytes) (text : List ℕ) (from at : ℕ) (was is : Bool)
    → PassesPairs pair four text from at was → at < length text → (IsPairAt pair text at → ⊥)
    → (is ≡ true → is_one_of four (get_or text at 0) ≡ false)
    → PassesPairs pair four text from (at + 1) (was && is)
passed_byte pair four text from at was is p within none other =
    passed_on pair four text from at (at + 1) was is p (omega arith) (omega arith)
    (λ k low high here. none (subst (IsPairAt pair text) (same k low high) here))
    (λ e k low high. ap (λ i. is_one_of four (get_or text i 0)) (same k low high) ∙ other e)
  where
    same : (k : ℕ) → at ≤ k → k < at + 1 → k ≡ at
    same k low high = omega arith

-- there is none behind where fewer than two bytes are left
pub none_left : (pair : BytePair) (four : FourBytes) (text : List ℕ) (from at : ℕ) (is_clean : Bool)
    → PassesPairs pair four text from at is_clean → length text < at + 2 → HasNoPair pair text from
none_left pair four text from at is_clean p short k low is = by_test (ltb k at) refl
  where
    by_test : (x : Bool) → ltb k at ≡ x → ⊥
    by_test true e = p.before k low (ltb-true k at e) is
    by_test false e = omega (arith, ltb-false k at e, is.within)

-- an ASCII byte is a character
there : (b : ℕ) (s : At) → b < 128 → s.place < length s.text → get_or s.text s.place 0 ≡ b
    → IsPlaced s.text (s.place + 1) × (rest s ≡ b ∷ from_place s.text (s.place + 1))
there b s small within same =
    let first = subst (λ x. HasFirstByte x (rest s)) same (first_byte_at s within) in
    (placed_ascii s b small first, here_ascii s b small first)

-- an ASCII character is its byte
byte_of : (b : ℕ) (s : At) → b < 128 → begins (λ c. c == b) (rest s) ≡ true
    → IsPlaced s.text (s.place + 1) × (rest s ≡ b ∷ from_place s.text (s.place + 1)) × (s.place < length s.text)
    × (get_or s.text s.place 0 ≡ b)
byte_of b s small t = by_rest (rest s) refl t
  where
    by_rest : (cs : List ℕ) → rest s ≡ cs → begins (λ c. c == b) cs ≡ true
        → IsPlaced s.text (s.place + 1) × (rest s ≡ b ∷ from_place s.text (s.place + 1)) × (s.place < length s.text)
        × (get_or s.text s.place 0 ≡ b)
    by_rest [] e t = absurd (cc)
    by_rest (c ∷ cs) e t =
        let is : c ≡ b = eqb-true c b t in
        let within = (first_at s c cs e).0 in
        let byte = subst (HasFirstByte (get_or s.text s.place 0)) e (first_byte_at s within) in
        let same : get_or s.text s.place 0 ≡ b = sym (byte.1 (omega (arith, is, small))) ∙ is in
        let next = there b s small within same in
        (next.0, next.1, within, same)

drop_1 : (b : ℕ) (xs ys : List ℕ) → xs ≡ b ∷ ys → drop 1 xs ≡ ys
drop_1 b xs ys e = ap (drop 1) e

-- where the characters are a pair, so are the bytes
pair_here : (pair : BytePair) (s : At) → pair.first < 128 → pair.second < 128
    → begins_pair pair (rest s) ≡ true → IsPairAt pair s.text s.place
pair_here pair s f g t =
    let both = and_parts _ _ t in
    let first = byte_of pair.first s f both.0 in
    let second = byte_of pair.second (at_place _ _ first.0) g
    (ap (begins (λ c. c == pair.second)) (sym (drop_1 pair.first (rest s) _ first.1)) ∙ both.1) in
    record { within = omega (arith, second.2); first = first.3; second = second.3 }

-- and where the bytes are, so are the characters
pair_there : (pair : BytePair) (s : At) → pair.first < 128 → pair.second < 128
    → IsPairAt pair s.text s.place
    → IsPlaced s.text (s.place + 2) × (rest s ≡ pair.first ∷ pair.second ∷ from_place s.text (s.place + 2))
    × (begins_pair pair (rest s) ≡ true)
pair_there pair s f g at =
    let first = there pair.first s f (omega (arith, at.within)) at.first in
    let second = there pair.second (at_place _ _ first.0) g (omega (arith, at.within)) at.second in
    let two : s.place + 1 + 1 ≡ s.place + 2 = omega arith in
    let whole : rest s ≡ pair.first ∷ pair.second ∷ from_place s.text (s.place + 2) =
    first.1 ∙ ap (λ xs. pair.first ∷ xs) second.1 ∙ ap (λ p. pair.first ∷ pair.second ∷ from_place s.text p) two in (
      subst (IsPlaced s.text) two second.0,
      whole,
      ap (begins_pair pair) whole
          ∙ rw (eq-eqb pair.first pair.first refl, eq-eqb pair.second pair.second refl) refl,
    )

-- an ASCII byte stands in no other character
past_other : (s : At) (c : ℕ) (cs : List ℕ) (to b : ℕ) → rest s ≡ c ∷ cs → s.place < to → b < 128
    → get_or s.text to 0 ≡ b → s.place + len_utf8 c ≤ to
past_other s c cs to b e more small same = by_test (ltb (to - s.place) (length (encode_utf8 c))) refl
  where
    inside : (k : ℕ) → 0 < k → k < length (encode_utf8 c) → s.place + k ≡ to → ⊥
    inside zero some lt at = omega arith
    inside (suc k) some lt at =
        let byte = byte_at s c cs e (suc k) lt in
        let later = later_of (encode_utf8 c) k (scalar_spelled c (step s c cs e).1).later lt in
        let at_to : get_or s.text to 0 ≡ get_or (encode_utf8 c) (suc k) 0 =
        sym (ap (λ i. get_or s.text i 0) at) ∙ byte.1 in
        omega (arith, later.0, at_to, same, small)

    by_test : (x : Bool) → ltb (to - s.place) (length (encode_utf8 c)) ≡ x → s.place + len_utf8 c ≤ to
    by_test true t =
        absurd (inside (to - s.place) (omega arith) (ltb-true (to - s.place) (length (encode_utf8 c)) t) (omega arith))
    by_test false t = omega (arith, ltb-false (to - s.place) (length (encode_utf8 c)) t, length-encode c)

-- The first pair, in characters: what stands from it on, and what is said of what stands before it.
pub record IsFirstPair (pair : BytePair) (four : FourBytes) (text : List ℕ) (to : ℕ) (is_clean : Bool) (cs : List ℕ)
    : Type 0 where
  pub placed : IsPlaced text (to + 2)
  pub from : from_pair pair cs ≡ pair.first ∷ pair.second ∷ from_place text (to + 2)
  pub clean : is_clean ≡ true → list_any (matches_char (four_bytes four)) (before_pair pair cs) ≡ false

pub first_pair : (pair : BytePair) (four : FourBytes) (s : At) (to : ℕ) (is_clean : Bool) (cs : List ℕ)
    → pair.first < 128 → pair.second < 128 → HasFour four (four_bytes four) → rest s ≡ cs
    → PassesPairs pair four s.text s.place to is_clean → IsPairAt pair s.text to
    → IsFirstPair pair four s.text to is_clean cs
first_pair pair four s to is_clean [] f g has e p at =
    absurd (subst (HasFirstByte (get_or s.text s.place 0)) e (first_byte_at s (omega (arith, p.onward, at.within))))
first_pair pair four s to is_clean (c ∷ cs) f g has e p at =
    by_test (ltb s.place to) refl
    (first_pair pair four (next_place s c cs e) to is_clean cs f g has (step_rest s c cs e))
  where
    by_test : (x : Bool) → ltb s.place to ≡ x
        → (PassesPairs pair four s.text (s.place + len_utf8 c) to is_clean → IsPairAt pair s.text to
        → IsFirstPair pair four s.text to is_clean cs)
        → IsFirstPair pair four s.text to is_clean (c ∷ cs)
    by_test false t more =
        let same : s.place ≡ to = omega (arith, p.onward, ltb-false s.place to t) in
        let found = pair_there pair s f g (subst (IsPairAt pair s.text) (sym same) at) in
        let here : begins_pair pair (c ∷ cs) ≡ true = sym (ap (begins_pair pair) e) ∙ found.2 in
        record {
          placed = subst (λ q. IsPlaced s.text (q + 2)) same found.0;
          from =
              rw here
              (sym e ∙ found.1 ∙ ap (λ q. pair.first ∷ pair.second ∷ from_place s.text (q + 2)) same);
          clean = λ is. rw here refl;
        }
    by_test true t more =
        let less = ltb-true s.place to t in
        let other : begins_pair pair (c ∷ cs) ≡ false =
        not_true _ (λ is. p.before s.place (omega arith) less (pair_here pair s f g (ap (begins_pair pair) e ∙ is))) in
        let past = past_other s c cs to pair.first e less f at.first in
        let inner = more (record {
          onward = past;
          within = p.within;
          before = λ k low high. p.before k (omega (arith, low)) high;
          clean = λ is k low high. p.clean is k (omega (arith, low)) high;
        }) at in
        let first = (first_at s c cs e).1 in
        record {
          placed = inner.placed;
          from = rw other inner.from;
          clean = λ is.
              let none : matches_char (four_bytes four) c ≡ false =
              ap (matches_at (four_bytes four)) (sym first) ∙ has _ ∙ p.clean is s.place (omega arith) less in
              rw (other, none) (inner.clean is);
        }

-- where there is none, there is none in characters
pub no_pair : (pair : BytePair) (s : At) (cs : List ℕ) → pair.first < 128 → pair.second < 128
    → rest s ≡ cs → HasNoPair pair s.text s.place → from_pair pair cs ≡ []
no_pair pair s [] f g e none = refl
no_pair pair s (c ∷ cs) f g e none =
    let other : begins_pair pair (c ∷ cs) ≡ false =
    not_true _ (λ is. none s.place (omega arith) (pair_here pair s f g (ap (begins_pair pair) e ∙ is))) in
    let later : HasNoPair pair s.text (s.place + len_utf8 c) = λ k low. none k (omega (arith, low)) in
    rw other (no_pair pair (next_place s c cs e) cs f g (step_rest s c cs e) later)
