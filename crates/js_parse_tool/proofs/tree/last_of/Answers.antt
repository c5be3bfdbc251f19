use Rattle.std.proofs.Common.{◌∙◌}
use Rattle.js_parse_tool.proofs.TreeSteps.{last_is}
use Rattle.js_parse_tool.proofs.tree.last_of.Goals as goal

pub returns : goal.returns
returns c = c.copied.ensures ∙ c.last.ensures.value ∙ last_is c.args.spans.now
