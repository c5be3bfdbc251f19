-- What the command `tokens` tells of a source.
use Rattle.std.specs.Prelude.{◌≡◌, ℕ, ◌+◌, false, List, ◌++◌, codes}
use Rattle.std.specs.Fmt.{decimal}
use Rattle.std.specs.List.{flat_map}
use Rattle.js_choose.specs.Rules.{ReportBy, Rule}
use Rattle.js_kind.specs.Kinds.{kind_name}
use Rattle.js_kind.specs.TokenParts.{TokenParts}
use Rattle.js_lines.specs.declared.columns.Position.{Position}
use Rattle.js_session.specs.declared.command.Command.{Command}
use Rattle.js_session.specs.declared.report.Report.{Report}
use Rattle.js_text.specs.declared.source_type.SourceType.{SourceType}
use Rattle.js_totsenak.specs.Check.{place_of}
use Rattle.js_totsenak.specs.Escaped.{escaped}
use Rattle.js_totsenak.specs.Stretches.{characters_between}

-- a line and a column, counted from 1, as `3:14 `
unfoldable pub place_head : Position → List ℕ
place_head p = decimal (p.line + 1) ++ codes ":" ++ decimal (p.column + 1) ++ codes " "

-- the line of a token: its line and column, its kind and its text
unfoldable pub token_line : List ℕ → TokenParts → List ℕ
token_line text token =
    place_head (place_of text token.start) ++ kind_name token.kind ++ codes " "
    ++ flat_map escaped (characters_between text token.start token.end) ++ codes "\n"

-- the lines of tokens
abbrev pub tokens_text : List ℕ → List TokenParts → List ℕ
tokens_text text tokens = flat_map (token_line text) tokens

-- The text is that of the live tokens of the report of the source, whose goals the rule chooses.
pub record HasTokens (rule : Rule) (source : List ℕ) (t : SourceType) (text : List ℕ) : Type 0 where
  pub commands : List Command
  pub report : Report
  pub report_is : ReportBy rule source t false commands report
  pub text_is : text ≡ tokens_text source report.tokens
