-- What the command `tokens` tells of a source as JSON.
use Rattle.std.specs.Prelude.{◌≡◌, ℕ, false, List, map}
use Rattle.std.specs.List.{flat_map}
use Rattle.js_choose.specs.Rules.{ReportBy, Rule}
use Rattle.js_grammar.specs.Outcome.{Findings}
use Rattle.js_lists.specs.LiveLists.{live_found, live_taken}
use Rattle.js_lists.specs.Taken.{Taken}
use Rattle.js_session.specs.declared.command.Command.{Command}
use Rattle.js_session.specs.declared.report.Report.{Report}
use Rattle.js_text.specs.declared.source_type.SourceType.{SourceType}
use Rattle.js_totsenak.specs.ItemJson.{item_json}
use Rattle.js_totsenak.specs.Items.{ArePlaced, items_of}
use Rattle.js_totsenak.specs.declared.items.Item.{Item}

-- The text is that of what was found and of the tokens that were taken, a line for each, in order of place.
pub record IsItemsText (source : List ℕ) (found : Findings) (taken : List Taken) (text : List ℕ) : Type 0 where
  pub placed : List Item
  pub are_placed : ArePlaced (items_of found (map (λ x. x.token) taken)) placed
  pub text_is : text ≡ flat_map (item_json source taken) placed

-- The text is that of what is live of the report of the source, whose goals the rule chooses: of what was found and of
-- the tokens, each with the value and the regular expression of the row that read it.
pub record HasItems (rule : Rule) (source : List ℕ) (t : SourceType) (text : List ℕ) : Type 0 where
  pub commands : List Command
  pub report : Report
  pub report_is : ReportBy rule source t false commands report
  pub text_is : IsItemsText source (live_found report) (live_taken commands report.rows) text
