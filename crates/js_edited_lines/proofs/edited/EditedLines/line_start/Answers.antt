use Rattle.std.proofs.Common.{ap, slice_get, ◌∙◌}
use Rattle.js_lines.proofs.LineLemmas.{some_bounded}
use Rattle.js_edited_lines.specs.Edited.{KeptLines}
use Rattle.js_edited_lines.proofs.edited.EditedLines.line_start.Goals as goal

pub returns-clause-boundary : goal.returns-clause-boundary
returns-clause-boundary c text lines =
    some_bounded c.args.self.now.ends text c.args.self.now.starts c.args.line lines.are c.get.result
    (c.get.ensures ∙ ap (λ (v : KeptLines). slice_get v.starts c.args.line) c.self.view_is
    ∙ ap (λ zs. slice_get zs c.args.line) lines.are.starts_are)
