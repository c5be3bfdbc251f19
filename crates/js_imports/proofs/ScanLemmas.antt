-- Tokens that are taken one by one.
use Rattle.std.proofs.Common.{◌≡◌, ◌∙◌, ℕ, Bool, List, [], ◌∷◌, ap}
use Rattle.js_text.specs.declared.source_type.SourceType.{SourceType}
use Rattle.js_choose.specs.Rules.{Rule}
use Rattle.js_lists.specs.LiveLists.{TakesChosen, live_taken}
use Rattle.js_lists.specs.Taken.{Taken, TakesEach}
use Rattle.js_imports.specs.Imports.{AreImportsOf, PassesOver, Steps}
use Rattle.js_imports.specs.Scans.{Scan, at_start, scanned, told}
use Rattle.js_imports.specs.declared.found.Found.{Found}

-- Tokens that were taken one behind the other leave what the rule says of all.
taken_each : (old new : Scan) (xs : List Taken) → TakesEach Steps old xs new → new ≡ scanned old xs
taken_each old new [] h = h
taken_each old new (x ∷ xs) h = taken_each h.0 new xs h.2 ∙ ap (λ (s : Scan). scanned s xs) h.1

-- Once what is live of a source was taken, what was found is what the source imports and exports.
pub found_of : (rule : Rule) (source : List ℕ) (t : SourceType) (counts : Bool) (old new : Scan) (found : List Found)
    → old ≡ at_start counts → found ≡ told new.found → TakesChosen Steps PassesOver rule source t old new
    → AreImportsOf rule source t counts found
found_of rule source t counts old new found start is h =
    let taken = live_taken h.commands h.report.rows in
    let all : new ≡ scanned (at_start counts) taken =
    h.taken.after ∙ taken_each old h.taken.behind taken h.taken.takes_each ∙ ap (λ (s : Scan). scanned s taken) start in
    record {
      commands = h.commands;
      report = h.report;
      report_is = h.report_is;
      found_are = is ∙ ap (λ (s : Scan). told s.found) all;
    }
