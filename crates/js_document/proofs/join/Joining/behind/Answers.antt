use Rattle.std.proofs.Common.{ap, subst}
use Rattle.js_document.specs.Reading.{IsSeam}
use Rattle.js_document.proofs.join.Joining.behind.Goals as goal

pub rows_behind-requires : goal.rows_behind-requires
rows_behind-requires g c = c.self.invariant.rows

pub returns : goal.returns
returns g c =
    subst (λ back. IsSeam back c.args.start c.rows_behind.result) (ap (λ j. j.back) c.self.view_is) c.rows_behind.ensures
