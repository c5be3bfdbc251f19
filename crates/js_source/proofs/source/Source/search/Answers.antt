use Rattle.js_source.specs.Source.{IsPlaced}
use Rattle.js_source.proofs.Stops.{stops_from}
use Rattle.js_source.proofs.source.Source.search.Goals as goal

pub returns-clause-boundary : goal.returns-clause-boundary
returns-clause-boundary c =
    let from : IsPlaced c.self.inside.text.now c.from.inside.offset = record {
      utf8 = c.self.inside.placed.utf8;
      short = c.self.inside.placed.short;
      boundary = rw (← c.self.view_is, ← c.from.view_is) at c.requires;
    } in
    let found = rw c.as_bytes.ensures.value at c.find-at.ensures in
    rw (← c.self.view_is) (stops_from _ _ _ _ c.use_table.ensures from found).0

pub returns-clause-characters : goal.returns-clause-characters
returns-clause-characters c =
    let from : IsPlaced c.self.inside.text.now c.from.inside.offset = record {
      utf8 = c.self.inside.placed.utf8;
      short = c.self.inside.placed.short;
      boundary = rw (← c.self.view_is, ← c.from.view_is) at c.requires;
    } in
    let found = rw c.as_bytes.ensures.value at c.find-at.ensures in
    rw (← c.self.view_is, ← c.from.view_is) (stops_from _ _ _ _ c.use_table.ensures from found).1
