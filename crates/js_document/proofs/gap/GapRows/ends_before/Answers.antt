use Rattle.std.specs.Prelude.{slice_get}
use Rattle.std.proofs.Common.{ap, arith, length, subst, sym, ◌∙◌, Some}
use Rattle.js_document.specs.Gap.{EndsBefore}
use Rattle.js_document.proofs.GapLemmas.{whole}
use Rattle.js_document.proofs.gap.GapRows.ends_before.Goals as goal

pub at-entry-requires : goal.at-entry-requires
at-entry-requires g c =
    let same = ap (λ es. length es) (whole c.self.inside.rows c.self.inside.gap c.self.inside.pad c.args.self.now c.self.view_is) in
    let less = c.requires in
    omega (arith, same, less)

pub returns : goal.returns
returns g c =
    let there = ap (λ es. slice_get es c.args.index) (whole c.self.inside.rows c.self.inside.gap c.self.inside.pad c.args.self.now c.self.view_is)
    ∙ c.at-entry.ensures in
    let ends = c.end.ensures ∙ ap (λ token. token.end) c.token.ensures in (
      λ yes. subst (EndsBefore c.args.start) (sym there) (let less = c.ends_before.ensures.0 yes in omega (arith, less, ends)),
      λ less.
          let is : EndsBefore c.args.start (Some c.at-entry.result) = subst (EndsBefore c.args.start) there less in
          c.ends_before.ensures.1 (omega (arith, is, ends)),
    )
