-- The characters that one byte tells.
use Rattle.std.proofs.Common.{◌≡◌, ℕ, ◌<◌, true, false, refl, arith, nat_le}
use Rattle.std.proofs.lemmas.Bool.{ne_eqb}
use Rattle.js_text.specs.Characters.{is_white_space, is_irregular_whitespace, is_line_terminator}
use Rattle.js_reader.specs.Gaps.{BeginsNoPiece}

pub space_is_white : is_white_space 32 ≡ true
unfolding is_white_space is_irregular_whitespace
space_is_white = refl

dark : (c : ℕ) → 32 < c → c < 128 → is_white_space c ≡ false
unfolding is_white_space is_irregular_whitespace
dark c low high =
    rw (
      ne_eqb c 9 (λ e. omega arith),
      ne_eqb c 32 (λ e. omega arith),
      ne_eqb c 11 (λ e. omega arith),
      ne_eqb c 12 (λ e. omega arith),
      ne_eqb c 0xA0 (λ e. omega arith),
      ne_eqb c 0x1680 (λ e. omega arith),
      not_above c high,
      ne_eqb c 0x202F (λ e. omega arith),
      ne_eqb c 0x205F (λ e. omega arith),
      ne_eqb c 0x3000 (λ e. omega arith),
      ne_eqb c 0xFEFF (λ e. omega arith),
    ) refl
  where
    not_above : (c : ℕ) → c < 128 → nat_le 0x2000 c ≡ false
    not_above c high = grind arith

in_line : (c : ℕ) → 32 < c → c < 128 → is_line_terminator c ≡ false
unfolding is_line_terminator
in_line c low high =
    rw (
      ne_eqb c 10 (λ e. omega arith),
      ne_eqb c 13 (λ e. omega arith),
      ne_eqb c 0x2028 (λ e. omega arith),
      ne_eqb c 0x2029 (λ e. omega arith),
    ) refl

pub begins_none : (b : ℕ) → 32 < b → b < 128 → (b ≡ 47 → ⊥) → (b ≡ 60 → ⊥) → (b ≡ 45 → ⊥) → BeginsNoPiece b
begins_none b low high slash angle minus =
    record {
      ascii = high;
      no_white_space = dark b low high;
      no_line_terminator = in_line b low high;
      no_slash = slash;
      no_angle = angle;
      no_minus = minus;
    }
