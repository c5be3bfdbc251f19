-- Sources that are written anew.
use Rattle.std.specs.Prelude.{ℕ, List, false}
use Rattle.js_text.specs.declared.source_type.SourceType.{SourceType}
use Rattle.js_session.specs.Report.{ReportOf}
use Rattle.js_session.specs.SameRows.{SameRows}
use Rattle.js_session.specs.declared.command.Command.{Command}
use Rattle.js_session.specs.declared.report.Report.{Report}
use Rattle.js_squeeze.specs.SqueezeText.{squeeze_text}
use Rattle.js_strip.specs.StripText.{strip_text}
use Rattle.js_lex_tool.specs.declared.words.CommandLine.{CommandLine}
use Rattle.js_lex_tool.specs.declared.words.Rewrite.{Rewrite}
use Rattle.js_lex_tool.specs.declared.words.Rewrite.TheVariants.{Strip, Squeeze}
use Rattle.js_lex_tool.specs.declared.words.Rewriting.{Rewriting}

-- the text that is made of a source, by the report of it
abbrev pub text_anew : Rewrite → List ℕ → Report → List ℕ
text_anew Strip source report = strip_text source report.comments
text_anew Squeeze source report = squeeze_text source report

-- the command line of the session over a source that is written anew: no tokens are collected
abbrev pub lexes_anew : Rewriting → CommandLine
lexes_anew r = record { source_type = r.source_type; tokens = false; commands = r.commands }

-- The same commands have a report over the text too, and its rows are those of the source, wherever these stand; in it
-- are no diagnostic and no comment.
pub record KeepsRows (source : List ℕ) (t : SourceType) (commands : List Command) (before : Report) (text : List ℕ)
    : Type 0 where
  pub after : Report
  pub after_is : ReportOf text t false commands after
  pub same : SameRows source before text after
