use Rattle.js_licences.proofs.Once.{once}
use Rattle.js_licences.proofs.laws.each_text_comes_once.Goals as goal

pub returns : goal.returns
returns c = once
