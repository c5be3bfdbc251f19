use Rattle.std.proofs.Common.{◌≡◌, ◌++◌, take}
use Rattle.js_document.specs.Found.{found_in}
use Rattle.js_document.specs.Gap.{rows_of}
use Rattle.js_document.proofs.change.found.add_found.Given as goal

-- What the rows so far have was added.
abbrev pub invariant-loop-entry : goal.invariant-loop-entry
invariant-loop-entry g l =
    l.items ≡ l.initial.items ++ found_in g.L.FoundList.items (rows_of (take l.entry-index l.entries))
