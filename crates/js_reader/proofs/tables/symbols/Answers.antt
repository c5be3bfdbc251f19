use Rattle.std.proofs.Common.{refl}
use Rattle.js_source.proofs.Classes.{tells_class}
use Rattle.js_reader.specs.Tables.{is_symbol}
use Rattle.js_reader.proofs.tables.symbols.Goals as goal

pub returns : goal.returns
returns c = tells_class is_symbol _ refl refl
