use Rattle.std.proofs.Common.{◌∙◌, ap, subst, sym}
use Rattle.std.specs.List.{AllByRecursion}
use Rattle.std.specs.Prelude.{reverse}
use Rattle.js_document.specs.Documents.{IsHeld}
use Rattle.js_document.specs.Gap.{AreInOrder, MayPad, rows_of}
use Rattle.js_document.proofs.HeldEdited.{held_new}
use Rattle.js_document.proofs.HeldLemmas.{held_may_pad, held_rows}
use Rattle.js_document.proofs.edited.read_all.Goals as goal

pub new-requires-2 : goal.new-requires-2
new-requires-2 g c = subst (AllByRecursion (MayPad c.pad_of-pad.result)) (sym c.new.ensures.items) tt

pub new-joining-requires : goal.new-joining-requires
new-joining-requires g c = record {
  rows = subst (λ es. AreInOrder (rows_of es)) (sym (c.in_ok-none.ensures.entries ∙ c.new.ensures.items)) tt;
  back = subst (λ back. AreInOrder (reverse (rows_of back))) (sym c.in_ok-none.ensures.alone) tt;
}

pub new-requires-3 : goal.new-requires-3
new-requires-3 g c =
    let read = c.in_ok-read.read in
    let held = held_new g.K.KeepGoals.choice g.met.K.KeepGoals.is_rule g.K.KeepGoals.knows g.K.KeepGoals.alike
    g.met.K.KeepGoals.stays c.args.text.now c.args.source_type c.args.open.now c.rows_from_start.new.open
    c.new-joining.result read.rows.items read.left c.pad_of-pad.result
    (ap (λ j. j.back) c.new-joining.ensures ∙ c.in_ok-none.ensures.alone)
    c.in_ok-read.ensures.rows c.utf8.text c.pad_of-pad.ensures in
    held_may_pad g.K.KeepGoals.choice g.met.K.KeepGoals.is_rule c.args.text.now c.args.source_type c.pad_of-pad.result
    read.rows.items c.utf8.text c.pad_of-pad.ensures
    (held_rows g.K.KeepGoals.choice g.met.K.KeepGoals.is_rule c.args.text.now c.args.source_type (rows_of read.rows.items)
    held.report_is)

pub returns-clause-held : goal.returns-clause-held
returns-clause-held g c =
    let read = c.in_ok-read.read in
    let held = held_new g.K.KeepGoals.choice g.met.K.KeepGoals.is_rule g.K.KeepGoals.knows g.K.KeepGoals.alike
    g.met.K.KeepGoals.stays c.args.text.now c.args.source_type c.args.open.now c.rows_from_start.new.open
    c.new-joining.result read.rows.items read.left c.pad_of-pad.result
    (ap (λ j. j.back) c.new-joining.ensures ∙ c.in_ok-none.ensures.alone)
    c.in_ok-read.ensures.rows c.utf8.text c.pad_of-pad.ensures in
    subst
    (λ es. IsHeld g.K.KeepGoals.choice g.K.KeepGoals.knows c.args.text.now c.args.source_type c.rows_from_start.new.open
    es c.in_ok-entries.entries.pad) (sym c.in_ok-entries.ensures.entries)
    (subst
    (λ n. IsHeld g.K.KeepGoals.choice g.K.KeepGoals.knows c.args.text.now c.args.source_type c.rows_from_start.new.open
    read.rows.items n) (sym c.in_ok-entries.ensures.pad) held)
