use Rattle.std.proofs.Common.{refl}
use Rattle.js_source.proofs.Classes.{tells_class}
use Rattle.js_lex_tool.specs.Units.{is_printed_as_itself}
use Rattle.js_lex_tool.proofs.units.themselves.Goals as goal

pub returns : goal.returns
returns c = tells_class is_printed_as_itself _ refl refl
