use Rattle.js_totsenak.proofs.ToldLemmas.{one_text}
use Rattle.js_totsenak.proofs.laws.one_text_is_told.Goals as goal

pub returns : goal.returns
returns c = one_text
