use Rattle.std.proofs.Common.{refl}
use Rattle.js_lists.proofs.HandedLemmas.{closes_mark}
use Rattle.js_lists.proofs.pending.Pending.commit.Goals as goal

pub returns : goal.returns
returns c =
    closes_mark c.args.self.now _ c.pop.new.self c.pop.result c.pop.ensures.items c.pop.ensures.found c.requires refl
