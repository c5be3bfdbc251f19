use Rattle.js_kind.proofs.WordTable.{only_word}
use Rattle.js_kind.proofs.words.word_of.Goals as goal

pub returns : goal.returns
returns c = only_word _ _ _ _ c.words.ensures c.place_of.ensures.place c.place_of.ensures.bound
