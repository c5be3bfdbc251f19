use Rattle.std.proofs.Common.{ap}
use Rattle.js_document.proofs.change.change_of.Goals as goal

pub returns-clause-found : goal.returns-clause-found
returns-clause-found g c =
    let pad = c.args.pad in
    let may = c.requires in
    let kept = c.in_ok-kept.ensures in
    record {
      comments = c.in_ok-changed_found.ensures pad may (ap (λ counts. counts.comments) kept);
      diagnostics = c.in_ok-changed_found-2.ensures pad may (ap (λ counts. counts.diagnostics) kept);
      deferred = c.in_ok-changed_found-3.ensures pad may (ap (λ counts. counts.deferred) kept);
      irregular = c.in_ok-changed_found-4.ensures pad may (ap (λ counts. counts.irregular) kept);
      warnings = c.in_ok-changed_found-5.ensures pad may (ap (λ counts. counts.warnings) kept);
    }
