use Rattle.std.proofs.Common.{ap}
use Rattle.js_session.specs.RowReader.{RowReaderState}
use Rattle.js_session.proofs.RunsOn.{slices_of}
use Rattle.js_session.proofs.session.Session.finish.Goals as goal

pub returns-clause-slices : goal.returns-clause-slices
returns-clause-slices g c =
    rw (c.new.ensures, ← c.self.view_is, ap (λ (r : RowReaderState). r.rows) c.reader.view_is)
    (slices_of c.self.inside.reader.lexer.text c.self.inside.reader.rows c.self.invariant.rows_lie)
