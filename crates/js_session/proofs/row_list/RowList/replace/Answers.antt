use Rattle.std.proofs.Common.{◌≡◌, ◌++◌, ℕ, List, take, drop, sym, ap, ◌∙◌, append_assoc, length, arith}
use Rattle.std.proofs.lemmas.Iterator.{items_from_drains}
use Rattle.std.proofs.lemmas.Iterator.Adapters.{YieldsList-from_vec}
use Rattle.std.proofs.lemmas.List.{map-id}
use Rattle.std.specs.List.{splice}
use Rattle.js_session.specs.declared.row.Row.{Row}
use Rattle.js_session.proofs.row_list.RowList.replace.Goals as goal

-- equal rows in the place of others, in an equal list
put_between : (start end : ℕ) {a b new other made : List Row} → a ≡ b → new ≡ other
    → made ≡ splice a start end new → made ≡ take start b ++ other ++ drop end b
put_between start end {a} {b} {new} {other} {made} p q is =
    is ∙ ap (λ l. splice l start end new) p ∙ ap (splice b start end) q
    ∙ sym (append_assoc (take start b) other (drop end b))

pub returns-clause-ok : goal.returns-clause-ok
returns-clause-ok c =
    let put = c.in_ok-splice.ensures.items in
    let same : put.1 ≡ c.args.rows =
    sym (map-id put.1)
    ∙ items_from_drains put.1 (put.3.1.0, put.3.1.1, λ _. (put.3.0, put.3.1.2))
    (YieldsList-from_vec c.args.rows (put.2.0 ∙ c.into_vec.ensures)
    (omega (arith, put.2.1, ap length c.into_vec.ensures))) in
    put_between c.args.start c.args.end c.self.view_is same put.4
