-- Reports in which rows are put in the place of as many.
use Rattle.std.specs.Prelude.{◌≡◌, ℕ, ◌+◌, ◌-◌, List, ◌++◌, length, take, drop}
use Rattle.js_session.specs.declared.report.Report.{Report}
use Rattle.js_session.specs.declared.row.Row.{Row}
use Rattle.js_session.specs.Live.{report_live}
use Rattle.js_relex.specs.LiveLists.{IsPatch}
use Rattle.js_relex.specs.declared.patch.LivePatch.{LivePatch}

-- Nothing moves, so many rows were read as stood between the first and the last, and the patch makes that live which is
-- live behind all.
pub record PatchesReport (old : Report) (kept : ℕ) (read : List Row) (behind from to : ℕ) (patch : LivePatch)
    : Type 0 where
  pub stays : from ≡ to
  pub as_many : kept + length read + behind ≡ length old.rows
  pub patch_is : IsPatch (report_live old) patch.before (report_live patch.middle)
      (take kept old.rows ++ read ++ drop (length old.rows - behind) old.rows)
