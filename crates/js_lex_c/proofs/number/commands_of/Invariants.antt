use Rattle.std.proofs.Common.{◌≡◌, ℕ, ◌<◌, map, take, get_or}
use Rattle.js_lex_c.specs.Numbers.{command_number, command_count}
use Rattle.js_lex_c.proofs.number.commands_of.Given as goal

-- So many are commands.
abbrev pub invariant-loop-index : goal.invariant-loop-index
invariant-loop-index l =
    (map command_number l.commands ≡ take l.index l.numbers)
    × ((i : ℕ) → i < l.index → get_or l.numbers i 0 < command_count)
