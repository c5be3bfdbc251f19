-- What is live behind rows.
use Rattle.std.proofs.Common.{◌≡◌, List, [], ◌∷◌, ◌++◌, refl}
use Rattle.js_session.specs.declared.row.Row.{Row}
use Rattle.js_session.specs.Live.{Live}
use Rattle.js_relex.specs.Documents.{live_behind}

pub live-append : (live : Live) (rows more : List Row)
    → live_behind live (rows ++ more) ≡ live_behind (live_behind live rows) more
live-append live [] more = refl
live-append live (row ∷ rows) more = live-append (live_behind live (row ∷ [])) rows more
