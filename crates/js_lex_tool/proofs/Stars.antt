-- A command word without `*`.
use Rattle.std.proofs.Common.{◌≡◌, ℕ, ◌+◌, ◌||◌, Bool, true, false, cond, not, suc, List, [], ◌∷◌, length, arith, refl}
use Rattle.std.proofs.Common.{None, Some}
use Rattle.std.specs.declared.option.Option.{Option}
use Rattle.std.specs.Option.{option_map, option_and_then}
use Rattle.std.specs.List.{list_any, position_or_len, before_first}
use Rattle.std.proofs.lemmas.List.{take_all}
use Rattle.js_session.specs.declared.command.Command.{Command}
use Rattle.js_lex_tool.specs.Words.{is_star, command_of, repeated_command}

-- No character passes where the first that does would stand at the end.
none_passes : (p : ℕ → Bool) (xs : List ℕ) → position_or_len p xs ≡ length xs → list_any p xs ≡ false
none_passes p [] e = refl
none_passes p (x ∷ xs) e =
    let At : Bool → Type 0 =
    λ b. cond (not b) (1 + position_or_len p xs) 0 ≡ suc (length xs) → (b || list_any p xs) ≡ false in
    let step : (b : Bool) → At b =
    λ b. elim b as At [ true ↦ λ h. absurd (omega arith) | false ↦ λ h. none_passes p xs (omega arith) ] in
    step (p x) e

same_once : (r : Option Command)
    → option_and_then {U = Command × ℕ} (λ c. option_map (λ n. (c, n)) (Some 1)) r
    ≡ option_map {U = Command × ℕ} (λ c. (c, 1)) r
same_once None = refl
same_once (Some c) = refl

-- A word without `*` means its command once.
pub repeated_once : (word : List ℕ) → position_or_len is_star word ≡ length word
    → repeated_command word ≡ option_map (λ c. (c, 1)) (command_of word)
repeated_once word e =
    let whole : before_first is_star word ≡ word = take_all (position_or_len is_star word) word (omega arith) in
    let none : list_any is_star word ≡ false = none_passes is_star word e in
    rw (whole, none) (same_once (command_of word))
