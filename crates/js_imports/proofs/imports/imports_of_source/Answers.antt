use Rattle.std.proofs.Common.{◌≡◌, ◌∙◌, ap}
use Rattle.js_imports.proofs.ScanLemmas.{found_of}
use Rattle.js_imports.specs.Scans.{told}
use Rattle.js_imports.proofs.imports.imports_of_source.Goals as goal

pub returns-clause-imports : goal.returns-clause-imports
returns-clause-imports g c =
    let found : c.into_told.result.items ≡ told c.read_chosen.new.taker.found =
    c.into_told.ensures ∙ ap told c.into_found.ensures in
    found_of g.G.ChooseGoals.choice c.args.source.now c.args.source_type c.args.counts_require c.new-scanner.result
    c.read_chosen.new.taker c.into_told.result.items c.new-scanner.ensures found c.in_ok-read_chosen.ensures.taken
