use Rattle.std.proofs.Common.{◌∙◌}
use Rattle.js_parse_tool.proofs.tree.first_of.Goals as goal

pub returns : goal.returns
returns c = c.copied.ensures ∙ c.first.ensures.value
