use Rattle.std.proofs.Common.{◌∙◌, ap, arith, length, subst, sym}
use Rattle.std.proofs.lemmas.List.{length-map, length-take-le}
use Rattle.js_document.specs.Documents.{IsKept}
use Rattle.js_document.specs.Gap.{entries_of, rows_of}
use Rattle.js_document.proofs.GapLemmas.{pad_is, whole, whole_at}
use Rattle.js_document.proofs.KeptLemmas.{kept_few}
use Rattle.js_document.proofs.gap.GapRows.seek.Goals as goal

pub invariant_of-self : goal.invariant_of-self
invariant_of-self g c =
    let es = entries_of c.args.self.now in
    let few = kept_few c.args.start (rows_of es) c.kept-kept.result c.kept-kept.ensures in
    let long = length-map es (λ e. e.row) in
    let same = ap (λ xs. length xs) (whole c.self.inside.rows c.self.inside.gap c.self.inside.pad c.args.self.now c.self.view_is) in
    record { few = omega (arith, few, long, same); may_pad = c.self.invariant.may_pad }

pub returns-clause-moves : goal.returns-clause-moves
returns-clause-moves g c = record {
  entries =
      whole_at c.self.inside.rows c.kept-kept.result c.self.inside.pad
      ∙ sym (whole c.self.inside.rows c.self.inside.gap c.self.inside.pad c.args.self.now c.self.view_is);
  pad = sym (pad_is c.self.inside.rows c.self.inside.gap c.self.inside.pad c.args.self.now c.self.view_is);
}

pub returns-clause-kept : goal.returns-clause-kept
returns-clause-kept g c =
    let es = entries_of c.args.self.now in
    let few = kept_few c.args.start (rows_of es) c.kept-kept.result c.kept-kept.ensures in
    let long = length-map es (λ e. e.row) in
    let same = ap (λ xs. length xs) (whole c.self.inside.rows c.self.inside.gap c.self.inside.pad c.args.self.now c.self.view_is) in
    subst (IsKept c.args.start (rows_of es))
    (sym (length-take-le c.kept-kept.result c.self.inside.rows (omega (arith, few, long, same)))) c.kept-kept.ensures
