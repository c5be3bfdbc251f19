use Rattle.js_source.proofs.Places.{at_start}
use Rattle.js_source.proofs.source.Source.new.Goals as goal

pub invariant_of-result : goal.invariant_of-result
invariant_of-result c = (at_start c.args.text.now c.utf8.text c.requires, tt)
