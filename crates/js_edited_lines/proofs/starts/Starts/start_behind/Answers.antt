use Rattle.std.proofs.Common.{◌-◌, ap, ◌∙◌}
use Rattle.js_edited_lines.proofs.GapLemmas.{behind_at}
use Rattle.js_edited_lines.proofs.starts.Starts.start_behind.Goals as goal

pub returns : goal.returns
returns c =
    let starts = c.args.self.now in
    c.saturating_sub.ensures
    ∙ behind_at starts.bytes c.args.line (c.len.result - 1 - c.args.line) c.index-place.result.now starts.before.items
    starts.behind.items c.requires.before c.requires.there (ap (λ n. n - 1 - c.args.line) c.len.ensures)
    c.index-place.ensures
