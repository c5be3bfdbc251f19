use Rattle.js_source.proofs.Offsets.{past_last}
use Rattle.js_source.proofs.offset_map.is_past.Goals as goal

-- the last entry has the highest offset
pub returns-in-Some : goal.returns-in-Some
returns-in-Some g c = past_last c.args.ordered.now c.requires c.args.offset c.in-Some.last.now c.in-Some.ensures.item.1
