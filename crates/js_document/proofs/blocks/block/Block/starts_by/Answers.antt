use Rattle.std.proofs.Common.{◌∙◌, ap, arith, false, leb, sym}
use Rattle.std.proofs.lemmas.Option.{slice_get_past}
use Rattle.std.specs.Option.{option_map_or}
use Rattle.js_document.proofs.blocks.block.Block.starts_by.Goals as goal

pub returns-then-len-eq0 : goal.returns-then-len-eq0
returns-then-len-eq0 g c =
    let none = c.if-len-eq0.true in
    let long = c.len.ensures in
    sym
    (ap (λ o. option_map_or (λ e. leb e.row.token.start c.args.place) o false)
    (slice_get_past c.args.self.now.entries 0 (omega (arith, none, long))))

pub returns : goal.returns
returns g c =
    ap (λ n. leb n c.args.place) (c.start.ensures ∙ ap (λ token. token.start) c.token.ensures)
    ∙ sym (ap (λ o. option_map_or (λ e. leb e.row.token.start c.args.place) o false) c.at-first.ensures)
