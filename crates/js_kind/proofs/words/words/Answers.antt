use Rattle.std.proofs.Common.{refl}
use Rattle.js_kind.specs.Kinds.{is_name_kind}
use Rattle.js_kind.proofs.WordTable.{holds_words}
use Rattle.js_kind.proofs.words.words.Goals as goal

pub returns : goal.returns
unfolding is_name_kind
returns c = holds_words _ refl refl refl
