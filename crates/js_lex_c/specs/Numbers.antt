-- The numbers of source types and commands, as C passes them: the place of each among its variants, from 0 on.
use Rattle.std.specs.Prelude.{ℕ}
use denote.Enum.Declared.{tag_of}
use Rattle.js_text.specs.contracts.source_type.SourceType.{the_type as source_types}
use Rattle.js_text.specs.declared.source_type.SourceType.{SourceType}
use Rattle.js_session.specs.contracts.command.Command.{the_type as commands}
use Rattle.js_session.specs.declared.command.Command.{Command}

abbrev pub source_type_number : SourceType → ℕ
source_type_number = tag_of source_types

-- how many source types there are: no number from this on is one
abbrev pub source_type_count : ℕ
source_type_count = 3

abbrev pub command_number : Command → ℕ
command_number = tag_of commands

-- how many commands there are: no number from this on is one
abbrev pub command_count : ℕ
command_count = 13
