use Rattle.std.proofs.Common.{◌≡◌, ◌∙◌, ap, arith}
use Rattle.js_imports.proofs.ChangeLemmas.{change_at, stays_past}
use Rattle.js_imports.specs.Scans.{change, with_argument_start}
use Rattle.js_imports.proofs.found.FoundList.set_argument_start.Goals as goal

pub returns-then-len-index : goal.returns-then-len-index
returns-then-len-index c =
    let same : c.self.inside.items.items ≡ c.args.self.now = c.self.view_is in
    let stays = stays_past (with_argument_start c.args.start) c.self.inside.items.items c.args.self.now c.args.index same (omega arith) in cc

pub returns : goal.returns
returns c =
    let same : c.self.inside.items.items ≡ c.args.self.now = c.self.view_is in
    change_at (with_argument_start c.args.start) c.self.inside.items.items c.args.index c.index_mut-found.result.now (omega arith)
    c.index_mut-found.ensures.value
    ∙ ap (change (with_argument_start c.args.start) c.args.index) same
