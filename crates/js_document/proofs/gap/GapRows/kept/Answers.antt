use Rattle.std.proofs.Common.{◌-◌, ◌∙◌, Some, ap, arith, length, subst, sym}
use Rattle.std.proofs.lemmas.List.{length-map}
use Rattle.std.specs.Prelude.{slice_get}
use Rattle.js_document.specs.Gap.{AreInOrder, EndsBefore, MayPad, entries_of, rows_of}
use Rattle.js_document.proofs.GapLemmas.{whole}
use Rattle.js_document.proofs.KeptLemmas.{kept_of}
use Rattle.js_document.proofs.ListLemmas.{each_there, get_mapped}
use Rattle.js_document.proofs.gap.GapRows.kept.Goals as goal

pub starts_up_to-kept-requires : goal.starts_up_to-kept-requires
starts_up_to-kept-requires g c =
    subst (λ es. AreInOrder (rows_of es)) (whole c.self.inside.rows c.self.inside.gap c.self.inside.pad c.args.self.now c.self.view_is) c.requires

pub loop-kept-init : goal.loop-kept-init
loop-kept-init g c =
    let rows = c.self.inside.rows in
    let all = whole c.self.inside.rows c.self.inside.gap c.self.inside.pad c.args.self.now c.self.view_is in
    let long = length-map (entries_of c.args.self.now) (λ e. e.row) in
    let same = ap (λ es. length es) all in
    let few = c.starts_up_to-kept.ensures.few in
    record {
      few = omega (arith, few, long, same);
      next = λ row at before.
          let it = get_mapped (λ e. e.row) rows c.starts_up_to-kept.result row (ap (λ es. slice_get (rows_of es) c.starts_up_to-kept.result) (sym all) ∙ at) in
          let starts = c.starts_up_to-kept.ensures.rest c.starts_up_to-kept.result it.0 (omega arith) it.1 in
          let ordered = (each_there (MayPad c.self.inside.pad) rows c.starts_up_to-kept.result it.0 c.self.invariant.may_pad it.1).ordered in
          let start = ap (λ r. r.token.start) it.2 in
          let end = ap (λ r. r.token.end) it.2 in
          omega (arith, starts, ordered, start, end, before);
    }

pub ends_before-requires : goal.ends_before-requires
ends_before-requires g c =
    let few = c.loop-kept.invariant.few in
    let some = c.loop-kept-test.true in
    let long = length-map (entries_of c.args.self.now) (λ e. e.row) in
    omega (arith, few, some, long)

pub returns-then-ends_before : goal.returns-then-ends_before
returns-then-ends_before g c =
    let es = entries_of c.args.self.now in
    kept_of c.args.start (rows_of es) c.loop-kept.kept c.requires c.loop-kept.invariant.few
    (λ row some at.
    let it = get_mapped (λ e. e.row) es (c.loop-kept.kept - 1) row at in
    let is : EndsBefore c.args.start (Some it.0) =
    subst (EndsBefore c.args.start) it.1 (c.ends_before.ensures.0 (let yes = c.if-ends_before.true in cc)) in
    let end = ap (λ r. r.token.end) it.2 in
    omega (arith, is, end))
    c.loop-kept.invariant.next

pub loop-kept-preserved : goal.loop-kept-preserved
loop-kept-preserved g c =
    let es = entries_of c.args.self.now in
    let few = c.loop-kept.invariant.few in
    record {
      few = omega (arith, few);
      next = λ row at before.
          let it = get_mapped (λ e. e.row) es (c.loop-kept.kept - 1) row at in
          let end = ap (λ r. r.token.end) it.2 in
          let yes = c.ends_before.ensures.1
          (subst (EndsBefore c.args.start) (sym it.1) (omega (arith, before, end))) in
          let no = c.if-ends_before.false in
          absurd (cc);
    }

pub returns : goal.returns
returns g c =
    let none = c.loop-kept-test.false in
    kept_of c.args.start (rows_of (entries_of c.args.self.now)) c.loop-kept.kept c.requires c.loop-kept.invariant.few
    (λ row some at. absurd (omega (arith, none, some))) c.loop-kept.invariant.next
