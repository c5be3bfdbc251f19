-- Generated lines: the one that comes next, and how long they are.
use Rattle.std.proofs.Common.{◌≡◌, ℕ, ◌+◌, ◌-◌, ◌*◌, ◌<◌, ◌≤◌, List, ◌++◌, zero, suc, length, codes, arith, sym}
use Rattle.std.proofs.Common.{length-append}
use Rattle.std.specs.Fmt.{decimal}
use Rattle.std.specs.List.{flat_map, range_with_len}
use Rattle.std.proofs.lemmas.Fmt.{length-decimal-le}
use Rattle.std.proofs.lemmas.Grind.{common_steps}
use Rattle.std.proofs.lemmas.List.{append_assoc}
use Rattle.js_lex_tool.specs.Generated.{generated_line, generated, most_lines}

-- What is left of the lines from a number on begins with the line of that number.
pub line_next : (text : List ℕ) (number end : ℕ) → number < end
    → text ++ flat_map generated_line (range_with_len number (end - number))
    ≡ (text ++ generated_line number) ++ flat_map generated_line (range_with_len (number + 1) (end - (number + 1)))
line_next text number end less =
    let count : end - number ≡ suc (end - (number + 1)) = omega arith in
    let rest = flat_map generated_line (range_with_len (number + 1) (end - (number + 1))) in
    rw count (sym (append_assoc text (generated_line number) rest))

-- a line has 19 characters beside its numbers
around : (number : List ℕ) → length number ≤ 5
    → length (codes "let a" ++ number ++ codes " = " ++ number ++ codes " * 2; // " ++ number ++ codes "\n") ≤ 34
around number few = grind (arith, common_steps)

line_length : (i : ℕ) → i < 100000 → length (generated_line i) ≤ 34
unfolding generated_line
line_length i low = around (decimal i) (length-decimal-le 5 i (omega arith) (omega arith) (omega arith))

lines_length : (number count : ℕ) → number + count < 100000
    → length (flat_map generated_line (range_with_len number count)) ≤ 34 * count
lines_length number zero low = omega arith
lines_length number (suc count) low =
    let rest = flat_map generated_line (range_with_len (number + 1) count) in
    omega (
      arith,
      length-append (generated_line number) rest,
      line_length number (omega arith),
      lines_length (number + 1) count (omega arith),
    )

-- Generated lines are few bytes.
pub generated_length : (lines : ℕ) → lines ≤ most_lines → length (generated lines) < 700000
generated_length lines few = omega (arith, lines_length 1 lines (omega arith))
