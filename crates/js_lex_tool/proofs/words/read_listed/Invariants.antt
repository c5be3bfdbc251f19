use Rattle.std.proofs.Common.{◌≡◌, ◌≤◌, ◌++◌, length, drop, map, string_bytes}
use Rattle.std.specs.Option.{option_map}
use Rattle.js_lex_tool.specs.Words.{commands_in, most_commands}
use Rattle.js_lex_tool.proofs.words.read_listed.Given as goal

-- All words say the commands so far, and then those of the words that are left.
abbrev pub invariant-loop-word : goal.invariant-loop-word
invariant-loop-word l =
    (commands_in (map string_bytes l.words)
    ≡ option_map (λ more. l.commands ++ more) (commands_in (map string_bytes (drop l.word-index l.words))))
    × (length l.commands ≤ most_commands)
