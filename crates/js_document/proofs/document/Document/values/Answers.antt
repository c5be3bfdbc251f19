use Rattle.std.proofs.Common.{subst, sym}
use Rattle.std.specs.List.{AllByRecursion}
use Rattle.js_session.specs.Report.{IsSliceOnPlaces}
use Rattle.js_document.proofs.document.Document.values.Goals as goal

pub returns-clause-slices : goal.returns-clause-slices
returns-clause-slices g c =
    subst (AllByRecursion (IsSliceOnPlaces c.args.self.now.text)) (sym c.values_from.ensures.values)
    c.values_from.ensures.slices
