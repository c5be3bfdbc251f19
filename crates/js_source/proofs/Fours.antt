-- Tables of four bytes, and the search for these in blocks.
use Rattle.std.proofs.Common.{◌≡◌, ℕ, ◌+◌, ◌-◌, ◌<◌, ◌≤◌, Bool, true, false, ◌||◌, ◌==◌, List, length}
use Rattle.std.proofs.Common.{get_or, refl, sym, ◌∙◌, ap, arith, ltb, subst}
use Rattle.std.specs.Int.{bit_at}
use Rattle.std.specs.List.{slice_set}
use Rattle.std.specs.Prelude.{replicate}
use Rattle.std.proofs.lemmas.Bool.{eqb-true, eqb-false, ltb-true, ltb-false}
use Rattle.std.proofs.lemmas.List.{get_or-set_same, get_or-set_other, get_or-replicate, length-set}
use Rattle.std.proofs.Math.ListN.{get_or-eq_default}
use Rattle.js_source.specs.declared.four.FourBytes.{FourBytes}
use Rattle.js_source.specs.Search.{matches_at, four_bytes, is_one_of, is_safe, FindsFirst, IsSafeTable, PassesOthers}

set_at : (l : List Bool) (i b : ℕ) → i < length l → get_or (slice_set l i true) b false ≡ ((b == i) || get_or l b false)
set_at l i b lt = by_test (b == i) refl
  where
    by_test : (x : Bool) → (b == i) ≡ x → get_or (slice_set l i true) b false ≡ (x || get_or l b false)
    by_test true t = ap (λ n. get_or (slice_set l i true) n false) (eqb-true b i t) ∙ get_or-set_same l i true false lt
    by_test false t = get_or-set_other l i b true false (eqb-false b i t)

none_set : (b : ℕ) → get_or (replicate 256 false) b false ≡ false
none_set b = by_test (ltb b 256) refl
  where
    by_test : (x : Bool) → ltb b 256 ≡ x → get_or (replicate 256 false) b false ≡ false
    by_test true t = get_or-replicate 256 b false false (ltb-true b 256 t)
    by_test false t = get_or-eq_default (replicate 256 false) false (ltb-false b 256 t)

-- four tests from the last one on are the four in their order
turned : (x y z w : Bool) → (w || (z || (y || (x || false)))) ≡ (((x || y) || z) || w)
turned true true true true = refl
turned true true true false = refl
turned true true false true = refl
turned true true false false = refl
turned true false true true = refl
turned true false true false = refl
turned true false false true = refl
turned true false false false = refl
turned false true true true = refl
turned false true true false = refl
turned false true false true = refl
turned false true false false = refl
turned false false true true = refl
turned false false true false = refl
turned false false false true = refl
turned false false false false = refl

-- just these four bytes match
abbrev pub HasFour : FourBytes → List Bool → Type 0
HasFour four table = (b : ℕ) → matches_at table b ≡ is_one_of four b

pub has_four : (four : FourBytes) → four.first < 256 → four.second < 256 → four.third < 256 → four.fourth < 256
    → HasFour four (four_bytes four)
has_four four f s t h b =
    let none : List Bool = replicate 256 false in
    let one = slice_set none four.first true in
    let two = slice_set one four.second true in
    set_at (slice_set two four.third true) four.fourth b (rw (length-set, length-set, length-set) h)
    ∙ ap (λ x. (b == four.fourth) || x) (set_at two four.third b (rw (length-set, length-set) t)
    ∙ ap (λ x. (b == four.third) || x) (set_at one four.second b (rw length-set s)
    ∙ ap (λ x. (b == four.second) || x) (set_at none four.first b f
    ∙ ap (λ x. (b == four.first) || x) (none_set b))))
    ∙ turned (b == four.first) (b == four.second) (b == four.third) (b == four.fourth)

pub four_length : (four : FourBytes) → length (four_bytes four) ≡ 256
four_length four = rw (length-set, length-set, length-set, length-set) refl

pub is_safe_table : (four : FourBytes) → is_safe (four_bytes four) ≡ true → IsSafeTable (four_bytes four)
is_safe_table four safe = record { entries = four_length four; safe = safe }

-- the bytes that a search in that table passes are none of them
pub others_passed : (four : FourBytes) (text : List ℕ) (from to : ℕ) → HasFour four (four_bytes four)
    → FindsFirst (four_bytes four) text from to → PassesOthers four text from to
others_passed four text from to has found = record {
  onward = found.onward;
  within = found.within;
  before = λ k low high. sym (has _) ∙ found.before k low high;
}

-- no byte is passed yet
pub none_passed : (four : FourBytes) (text : List ℕ) (from : ℕ) → from ≤ length text → PassesOthers four text from from
none_passed four text from within =
    record { onward = omega arith; within = within; before = λ k low high. absurd (omega arith) }

pub not_true : (x : Bool) → (x ≡ true → ⊥) → x ≡ false
not_true true h = absurd (h refl)
not_true false h = refl

-- a block, up to a mark before which there is none
pub block_passed : (four : FourBytes) (text : List ℕ) (at to marks : ℕ)
    → ((k : ℕ) → k < 32 → is_one_of four (get_or text (at + k) 0) ≡ true → bit_at marks k ≡ 1)
    → ((k : ℕ) → k < to → bit_at marks k ≡ 0) → to ≤ 32
    → (k : ℕ) → at ≤ k → k < at + to → is_one_of four (get_or text k 0) ≡ false
block_passed four text at to marks marked none short k low high =
    let n = k - at in
    let same : at + n ≡ k = omega arith in
    not_true _
    (λ is.
    let set : bit_at marks n ≡ 1 = marked n (omega arith) (ap (λ i. is_one_of four (get_or text i 0)) same ∙ is) in
    let unset : bit_at marks n ≡ 0 = none n (omega arith) in
    omega (arith, set, unset))

pub passed_on : (four : FourBytes) (text : List ℕ) (from at to : ℕ) → PassesOthers four text from at → at ≤ to
    → to ≤ length text → ((k : ℕ) → at ≤ k → k < to → is_one_of four (get_or text k 0) ≡ false)
    → PassesOthers four text from to
passed_on four text from at to p onward within none = record {
  onward = omega (arith, p.onward);
  within = within;
  before = λ k low high. by_test k low high (ltb k at) refl;
}
  where
    by_test : (k : ℕ) → from ≤ k → k < to → (x : Bool) → ltb k at ≡ x → is_one_of four (get_or text k 0) ≡ false
    by_test k low high true e = p.before k low (ltb-true k at e)
    by_test k low high false e = none k (ltb-false k at e) high

-- one byte more
pub passed_byte : (four : FourBytes) (text : List ℕ) (from at : ℕ) → PassesOthers four text from at → at < length text
    → is_one_of four (get_or text at 0) ≡ false → PassesOthers four text from (at + 1)
passed_byte four text from at p within other =
    passed_on four text from at (at + 1) p (omega arith) (omega arith)
    (λ k low high.
    let same : at ≡ k = omega (arith, low, high) in
    subst (λ i. is_one_of four (get_or text i 0) ≡ false) same other)

-- the first of them, in the table of them
pub first_found : (four : FourBytes) (text : List ℕ) (from to : ℕ) → HasFour four (four_bytes four)
    → PassesOthers four text from to → (to < length text → is_one_of four (get_or text to 0) ≡ true)
    → FindsFirst (four_bytes four) text from to
first_found four text from to has p here = record {
  onward = p.onward;
  within = p.within;
  before = λ k low high. has _ ∙ p.before k low high;
  here = λ lt. has _ ∙ here lt;
}
