-- What the command `values` tells of a source.
use Rattle.std.specs.Prelude.{◌≡◌, ℕ, Bool, false, ◌||◌, ◌==◌, List, [], ◌++◌, codes, if◌then◌else◌}
use Rattle.std.specs.List.{flat_map}
use Rattle.js_choose.specs.Rules.{ReportBy, Rule}
use Rattle.js_kind.specs.Kinds.{number}
use Rattle.js_kind.specs.declared.kind.Kind.{Kind}
use Rattle.js_kind.specs.declared.kind.Kind.TheVariants.{Str, NoSubstitutionTemplate, TemplateHead, TemplateMiddle}
use Rattle.js_kind.specs.declared.kind.Kind.TheVariants.{TemplateTail}
use Rattle.js_lists.specs.LiveLists.{live_taken}
use Rattle.js_lists.specs.Taken.{Taken}
use Rattle.js_session.specs.declared.command.Command.{Command}
use Rattle.js_session.specs.declared.report.Report.{Report}
use Rattle.js_text.specs.declared.source_type.SourceType.{SourceType}
use Rattle.js_text.specs.declared.value.RowValue.{RowValue}
use Rattle.js_totsenak.specs.ValueJson.{is_text, value_json}

-- the kinds of strings and of parts of templates
unfoldable pub holds_text : Kind → Bool
holds_text kind =
    (number kind == number Str) || (number kind == number NoSubstitutionTemplate)
    || (number kind == number TemplateHead) || (number kind == number TemplateMiddle)
    || (number kind == number TemplateTail)

-- the line of a value: a text as JSON; one that is none has no line
abbrev pub text_line : List ℕ → RowValue → List ℕ
text_line source value = if is_text value then value_json source value ++ codes "\n" else []

-- the line of the value of a token, if it is a string or a part of a template
abbrev pub value_line : List ℕ → Taken → List ℕ
value_line source x = if holds_text x.token.kind then text_line source x.value else []

-- the lines of the values of tokens
abbrev pub values_text : List ℕ → List Taken → List ℕ
values_text source taken = flat_map (value_line source) taken

-- The text is that of the live tokens of the report of the source, whose goals the rule chooses: each has the value
-- that the row has which read it.
pub record HasValues (rule : Rule) (source : List ℕ) (t : SourceType) (text : List ℕ) : Type 0 where
  pub commands : List Command
  pub report : Report
  pub report_is : ReportBy rule source t false commands report
  pub text_is : text ≡ values_text source (live_taken commands report.rows)
