-- Numbers of source types and commands.
use Rattle.std.proofs.Common.{◌<◌, lit<}
use Rattle.js_text.specs.declared.source_type.SourceType.{SourceType}
use Rattle.js_text.specs.declared.source_type.SourceType.TheVariants.{Module}
use Rattle.js_session.specs.declared.command.Command.{Command}
use Rattle.js_session.specs.declared.command.Command.TheVariants.{Next}
use Rattle.js_lex_c.specs.Numbers.{command_number, source_type_number}

-- each source type has a number below 3
pub source_type_below : (t : SourceType) → source_type_number t < 3
source_type_below Module = lit< tt
source_type_below _ = lit< tt

-- each command has one below 13
pub command_below : (command : Command) → command_number command < 13
command_below Next = lit< tt
command_below _ = lit< tt
