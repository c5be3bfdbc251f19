use Rattle.std.proofs.Common.{refl}
use Rattle.std.specs.Char.{encode_utf8}
use Rattle.js_source.proofs.Classes.{tells_class}
use Rattle.js_page.specs.Characters.{is_hidden}
use Rattle.js_page.specs.Lines.{is_plain}
use Rattle.js_page.proofs.plain.plain_characters.Goals as goal

pub returns : goal.returns
unfolding is_plain is_hidden encode_utf8
returns c = tells_class is_plain _ refl refl
