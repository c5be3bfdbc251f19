-- The report of a whole source: of as many steps as lead to its end.
use Rattle.std.specs.Prelude.{◌≡◌, ℕ, Bool, List, [], ◌∷◌, ◌++◌, replicate}
use Rattle.std.specs.List.{AllByRecursion}
use Rattle.js_text.specs.declared.source_type.SourceType.{SourceType}
use Rattle.js_kind.specs.declared.kind.Kind.TheVariants.{Eof}
use Rattle.js_session.specs.Report.{ReportOf}
use Rattle.js_session.specs.declared.command.Command.{Command}
use Rattle.js_session.specs.declared.command.Command.TheVariants.{Next}
use Rattle.js_session.specs.declared.report.Report.{Report}
use Rattle.js_session.specs.declared.row.Row.{Row}

-- so many times `next`
abbrev pub nexts : ℕ → List Command
nexts steps = replicate steps Next

-- the token of a row is the end of the source
abbrev pub IsEof : Row → Type 0
IsEof row = row.token.kind ≡ Eof

-- The last row is the end of the source, and no row before it is.
pub record EndsAtEof (rows : List Row) : Type 0 where
  pub before : List Row
  pub last : Row
  pub rows_are : rows ≡ before ++ last ∷ []
  pub is_eof : IsEof last
  pub none_before : AllByRecursion (λ row. ¬ (IsEof row)) before

-- The least number of `next` after which the last row is `Eof`, and the report of a session with so many. With fewer, a
-- session has the first of these rows alone, and so none that is `Eof`; the laws of this crate say so.
pub record ReportOfWhole (source : List ℕ) (t : SourceType) (collects : Bool) (steps : ℕ) (report : Report)
    : Type 0 where
  pub report_is : ReportOf source t collects (nexts steps) report
  pub least : EndsAtEof report.rows
