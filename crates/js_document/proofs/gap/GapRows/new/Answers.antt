use Rattle.std.proofs.Common.{◌∙◌, ap, arith, map, subst, sym}
use Rattle.std.proofs.lemmas.List.{drop_all}
use Rattle.std.specs.List.{AllByRecursion}
use Rattle.std.specs.Prelude.{reverse}
use Rattle.js_document.specs.Gap.{MayPad, shifted_entry}
use Rattle.js_document.proofs.BlockLemmas.{pad_moves}
use Rattle.js_document.proofs.GapLemmas.{whole_at}
use Rattle.js_document.proofs.gap.GapRows.new.Goals as goal

pub new-requires : goal.new-requires
new-requires g c = pad_moves c.args.pad c.args.rows.items c.requires

pub invariant_of-result : goal.invariant_of-result
invariant_of-result g c = record {
  few = (let all = c.len-gap.ensures in omega (arith, all));
  may_pad = subst (AllByRecursion (MayPad c.args.pad)) (sym c.in_ok-rows.ensures) c.requires;
}

pub returns-clause-entries : goal.returns-clause-entries
returns-clause-entries g c = whole_at c.in_ok-rows.rows c.len-gap.result c.args.pad ∙ c.in_ok-rows.ensures

pub returns-clause-alone : goal.returns-clause-alone
returns-clause-alone g c =
    let rows = c.in_ok-rows.rows in
    let all = c.len-gap.ensures in
    ap (λ es. reverse (map (shifted_entry 0 c.args.pad) es)) (drop_all c.len-gap.result rows (omega (arith, all)))
