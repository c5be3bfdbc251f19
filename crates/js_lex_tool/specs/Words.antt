-- The words of the program, and what they mean.
use Rattle.std.specs.Prelude.{ℕ, String, map, string_bytes, Bool, true, false, List, [], ◌∷◌, ◌++◌, ◌&&◌, ◌==◌, length}
use Rattle.std.specs.Prelude.{replicate, ◌≡◌, ◌≤◌, ⊤, nat_lt, nat_le, if◌then◌else◌, codes, Option, Some, None}
use Rattle.std.specs.Prelude.{option_map, option_and_then, find}
use Rattle.std.specs.declared.alloc.Global.{Global}
use Rattle.std.specs.Fmt.{decimal}
use Rattle.std.specs.List.{list_any, before_first, after_first}
use Rattle.std.specs.Option.{option_or}
use Rattle.std.specs.Str.{bytes_eq}
use Rattle.std.specs.Str.Parse.{digits_value}
use Rattle.js_text.specs.declared.source_type.SourceType.{SourceType}
use Rattle.js_text.specs.declared.source_type.SourceType.TheVariants.{Module, Script, Unambiguous}
use Rattle.js_lex_tool.specs.Command.{command_word, all_commands}
use Rattle.js_lex_tool.specs.Generated.{most_lines}
use Rattle.js_session.specs.declared.command.Command.{Command}
use Rattle.js_rewrite.specs.Faults.{first_bad}
use Rattle.js_lex_tool.specs.declared.words.CommandLine.{CommandLine}
use Rattle.js_lex_tool.specs.declared.words.Commands.{Commands}
use Rattle.js_lex_tool.specs.declared.words.Commands.TheVariants.{Listed, All, Auto}
use Rattle.js_lex_tool.specs.declared.words.Rewrite.{Rewrite}
use Rattle.js_lex_tool.specs.declared.words.Rewrite.TheVariants.{Strip, Squeeze}
use Rattle.js_lex_tool.specs.declared.words.Rewriting.{Rewriting}
use Rattle.js_lex_tool.specs.declared.words.Task.{Task}
use Rattle.js_lex_tool.specs.declared.words.Task.TheVariants.{Lex, Generate, WriteAnew}

-- at most so many commands, and so many repetitions of one
abbrev pub most_commands : ℕ
most_commands = 1000000

-- what a table gives for a word
abbrev pub entry_for : {A : Type 0} → List (List ℕ × A) → List ℕ → Option A
entry_for [] word = None
entry_for (e ∷ es) word = if bytes_eq word e.0 then Some e.1 else entry_for es word

-- the words for the source types
abbrev pub source_type_words : List (List ℕ × SourceType)
source_type_words = (codes "module", Module) ∷ (codes "script", Script) ∷ (codes "unambiguous", Unambiguous) ∷ []

-- the words for tokens that are collected, or not
abbrev pub tokens_words : List (List ℕ × Bool)
tokens_words = (codes "tokens", true) ∷ (codes "no-tokens", false) ∷ []

-- the command with this word
unfoldable pub command_of : List ℕ → Option Command
command_of word = find (λ c. bytes_eq (command_word c) word) all_commands

-- the number from 1 to the most that the text is in decimal, with no sign and no leading zero
abbrev pub count_in : ℕ → List ℕ → Option ℕ
count_in most text =
    let n = digits_value 10 text in
    if bytes_eq text (decimal n) && (nat_lt 0 n && nat_le n most) then Some n else None

-- the number from 0 to the most that the text is in decimal, with no sign and no leading zero
abbrev pub number_in : ℕ → List ℕ → Option ℕ
number_in most text =
    let n = digits_value 10 text in if bytes_eq text (decimal n) && nat_le n most then Some n else None

abbrev pub is_star : ℕ → Bool
is_star c = c == 42

-- how often a command word means its command: once, or as often as the number behind `*` says
abbrev pub times_in : List ℕ → Option ℕ
times_in word = if list_any is_star word then count_in most_commands (after_first is_star word) else Some 1

-- the command of a command word, and how often it is meant
abbrev pub repeated_command : List ℕ → Option (Command × ℕ)
repeated_command word =
    option_and_then (λ command. option_map (λ n. (command, n)) (times_in word)) (command_of (before_first is_star word))

-- the commands that command words mean
abbrev pub commands_in : List (List ℕ) → Option (List Command)
commands_in [] = Some []
commands_in (word ∷ words) =
    option_and_then (λ c. option_map (λ more. replicate c.1 c.0 ++ more) (commands_in words)) (repeated_command word)

-- the commands, where there are not too many
abbrev pub allowed_commands : List Command → Option (List Command)
allowed_commands commands = if nat_le (length commands) most_commands then Some commands else None

-- the commands that command words mean, where there are not too many
abbrev pub allowed_commands_in : List (List ℕ) → Option (List Command)
allowed_commands_in words = option_and_then allowed_commands (commands_in words)

-- the words are this one alone
abbrev pub is_alone : List ℕ → List (List ℕ) → Bool
is_alone text [] = false
is_alone text (word ∷ []) = bytes_eq word text
is_alone text (word ∷ other ∷ words) = false

-- what words mean in the place of commands: `all` or `auto`, alone, or commands that are listed
abbrev pub commands_meant : List (List ℕ) → Option Commands
commands_meant words =
    if is_alone (codes "all") words then Some All
    else if is_alone (codes "auto") words then Some Auto
    else option_map Listed (allowed_commands_in words)

-- the command line of these parts, where each is there
abbrev pub command_line : Option SourceType → Option Bool → Option Commands → Option CommandLine
command_line None tokens commands = None
command_line (Some source_type) None commands = None
command_line (Some source_type) (Some tokens) None = None
command_line (Some source_type) (Some tokens) (Some commands) =
    Some (record { source_type = source_type; tokens = tokens; commands = commands })

-- the command line that words are: a source type, tokens or none, and commands, `all` or `auto`
abbrev pub command_line_in : List (List ℕ) → Option CommandLine
command_line_in [] = None
command_line_in (first ∷ []) = None
command_line_in (first ∷ second ∷ words) =
    command_line (entry_for source_type_words first) (entry_for tokens_words second) (commands_meant words)

-- how many lines words ask for: `gen` and a number, alone
abbrev pub lines_in : List (List ℕ) → Option ℕ
lines_in [] = None
lines_in (first ∷ []) = None
lines_in (first ∷ number ∷ []) = if bytes_eq first (codes "gen") then count_in most_lines number else None
lines_in (first ∷ number ∷ other ∷ words) = None

-- the words for the ways to write a source anew
abbrev pub rewrite_words : List (List ℕ × Rewrite)
rewrite_words = (codes "strip", Strip) ∷ (codes "squeeze", Squeeze) ∷ []

-- something, unless something else was found
abbrev pub unless_found : {A B : Type 0} → Option A → B → Option B
unless_found None b = Some b
unless_found (Some a) b = None

-- the commands, where a source of the type is written anew with each of them
abbrev pub commands_for : SourceType → List Command → Option (List Command)
commands_for t commands = unless_found (first_bad t commands) commands

-- what words mean in the place of commands where a source is written anew: `all`, alone, or commands that are listed
abbrev pub rewriting_commands : SourceType → List (List ℕ) → Option Commands
rewriting_commands t words =
    if is_alone (codes "all") words then Some All
    else option_map Listed (option_and_then (commands_for t) (allowed_commands_in words))

-- how a source is written anew: in this way, of this type, with these commands
abbrev pub rewriting_with : Rewrite → SourceType → Commands → Rewriting
rewriting_with rewrite t commands = record { rewrite = rewrite; source_type = t; commands = commands }

-- the same of parts, where each is there
abbrev pub rewriting_of : Option Rewrite → Option SourceType → List (List ℕ) → Option Rewriting
rewriting_of None t words = None
rewriting_of (Some rewrite) None words = None
rewriting_of (Some rewrite) (Some t) words =
    option_map (rewriting_with rewrite t) (rewriting_commands t words)

-- how words say that a source is written anew: a way, a source type, and commands or `all`
abbrev pub rewriting_in : List (List ℕ) → Option Rewriting
rewriting_in [] = None
rewriting_in (first ∷ []) = None
rewriting_in (first ∷ second ∷ words) =
    rewriting_of (entry_for rewrite_words first) (entry_for source_type_words second) words

-- A source of the type may be written anew with these commands.
abbrev pub MayRewrite : SourceType → Commands → Type 0
MayRewrite t (Listed commands) = first_bad t commands ≡ None
MayRewrite t All = ⊤
MayRewrite t Auto = ⊥

-- what words may ask for: so many lines, and commands with which a source may be written anew
abbrev pub IsAllowed : Task → Type 0
IsAllowed (Lex line) = ⊤
IsAllowed (Generate lines) = (1 ≤ lines) × (lines ≤ most_lines)
IsAllowed (WriteAnew r) = MayRewrite r.source_type r.commands

-- What words ask for: so many lines, what a command line says, or a source that is written anew. No words are two of
-- these, since none of `gen`, `strip` and `squeeze` is a source type.
abbrev pub task_in : List (List ℕ) → Option Task
task_in words =
    option_or (option_map Generate (lines_in words))
    (option_or (option_map Lex (command_line_in words)) (option_map WriteAnew (rewriting_in words)))

-- what the words of a run ask for
abbrev pub task_of : List (String Global) → Option Task
task_of words = task_in (map string_bytes words)
