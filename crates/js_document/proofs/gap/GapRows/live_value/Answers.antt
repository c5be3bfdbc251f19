use Rattle.std.proofs.Common.{◌∙◌, sym}
use Rattle.js_document.specs.Gap.{entries_of, rows_of}
use Rattle.js_document.proofs.LiveValues.{value_goes, value_stays}
use Rattle.js_document.proofs.gap.GapRows.live_value.Goals as goal

pub returns-then-is_read_again : goal.returns-then-is_read_again
returns-then-is_read_again g c =
    sym
    (value_goes (rows_of (entries_of c.args.self.now)) c.args.index
    (sym c.is_read_again.ensures ∙ c.if-is_read_again.true))

pub returns : goal.returns
returns g c =
    c.value.ensures
    ∙ sym
    (value_stays (rows_of (entries_of c.args.self.now)) c.args.index
    (sym c.is_read_again.ensures ∙ c.if-is_read_again.false))
