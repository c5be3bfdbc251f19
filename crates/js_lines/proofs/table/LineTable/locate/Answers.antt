use Rattle.std.proofs.Common.{ap, sym, ◌∙◌}
use Rattle.js_lines.specs.Lines.{line_content}
use Rattle.js_lines.proofs.table.LineTable.locate.Goals as goal

pub returns-clause-behind : goal.returns-clause-behind
returns-clause-behind c =
    c.content_from.ensures.characters
    ∙ ap (line_content c.args.self.now.ends) (sym c.front_of_line-line.ensures.behind)
