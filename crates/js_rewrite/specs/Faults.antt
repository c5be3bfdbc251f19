-- Why a source is not written anew.
use Rattle.std.specs.Prelude.{◌≡◌, ℕ, Bool, true, false, not, ◌&&◌, ◌||◌, ◌==◌, List, length, Option, Some, None}
use Rattle.std.specs.List.{position}
use Rattle.js_text.specs.SourceType.{is_module}
use Rattle.js_text.specs.declared.source_type.SourceType.{SourceType}
use Rattle.js_session.specs.declared.command.Command.{Command}
use Rattle.js_session.specs.declared.command.Command.TheVariants.{Next, JsxChild, JsxAttr, Regex, TemplateTail}
use Rattle.js_session.specs.declared.command.Command.TheVariants.{JsxName, RAngle, TsLAngle, TsRAngle, Peek}
use Rattle.js_session.specs.declared.command.Command.TheVariants.{Mark, Rewind, Commit}
use Rattle.js_session.specs.declared.fault.LexFault.TheVariants as lex_fault
use Rattle.js_session.specs.declared.report.Report.{Report}
use Rattle.js_session.specs.declared.row.Row.{Row}
use Rattle.js_session.specs.Effects.{is_lasting}
use Rattle.js_session.specs.Faults.{IsReadable, SourceCause}
use Rattle.js_session.specs.Report.{ReportOf}
use Rattle.js_rewrite.specs.declared.fault.RewriteFault.{RewriteFault}
use Rattle.js_rewrite.specs.declared.fault.RewriteFault.TheVariants.{Overlong, NotUtf8, BadCommand, Diagnosed, Memory}

-- The commands whose token may end right before a `<!--`. Outside modules a comment may begin there, and a space in its
-- place would be read with the token.
abbrev pub ends_before_html : Command → Bool
ends_before_html Next = false
ends_before_html JsxChild = true
ends_before_html JsxAttr = false
ends_before_html Regex = false
ends_before_html TemplateTail = false
ends_before_html JsxName = false
ends_before_html RAngle = false
ends_before_html TsLAngle = true
ends_before_html TsRAngle = false
ends_before_html Peek = false
ends_before_html Mark = false
ends_before_html Rewind = false
ends_before_html Commit = false

-- A source of the type is written anew with the command: it gives a row which stays, and its token is the same where
-- white space stands for a comment.
abbrev pub may_rewrite : SourceType → Command → Bool
may_rewrite t command = is_lasting command && (is_module t || not (ends_before_html command))

-- the first command with which no source of the type is written anew, if there is one
abbrev pub first_bad : SourceType → List Command → Option ℕ
first_bad t commands = position (λ command. not (may_rewrite t command)) commands

-- the first row that has a diagnostic, if there is one
abbrev pub first_diagnosed : List Row → Option ℕ
first_diagnosed rows = position (λ (row : Row). not (length row.diagnostics == 0)) rows

-- The row at the index is the first with a diagnostic, in the report of the source and the commands.
pub record IsFirstDiagnosed (source : List ℕ) (t : SourceType) (commands : List Command) (index : ℕ) : Type 0 where
  pub report : Report
  pub report_is : ReportOf source t false commands report
  pub first : first_diagnosed report.rows ≡ Some index

-- The cause of a fault: that of one is none of those tested before it. A lack of memory has none here.
abbrev pub RewriteCause : List ℕ → SourceType → List Command → RewriteFault → Type 0
RewriteCause source t commands Overlong = SourceCause source lex_fault.Overlong
RewriteCause source t commands (NotUtf8 at) = SourceCause source (lex_fault.NotUtf8 at)
RewriteCause source t commands (BadCommand index) = IsReadable source × (first_bad t commands ≡ Some index)
RewriteCause source t commands (Diagnosed index) =
    IsReadable source × (first_bad t commands ≡ None) × IsFirstDiagnosed source t commands index
RewriteCause source t commands Memory = ⊥
