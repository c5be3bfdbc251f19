use Rattle.std.proofs.Common.{◌++◌, ◌∙◌, ap, arith, refl, subst, sym}
use Rattle.js_document.specs.Documents.{IsHeld, report_of}
use Rattle.js_document.specs.Found.{counts_in, found_by}
use Rattle.js_document.specs.Gap.{entries_of, rows_of}
use Rattle.js_document.proofs.FoundLemmas.{report_found}
use Rattle.js_document.proofs.FromSession.{rows_long}
use Rattle.js_document.proofs.GapLemmas.{all_before}
use Rattle.js_document.proofs.HeldLemmas.{held_rows, report_count}
use Rattle.js_document.proofs.document.Document.of_text.Goals as goal

pub invariant_of-result : goal.invariant_of-result
invariant_of-result g c =
    let entries = c.in_ok-entries.entries in
    subst
    (λ x. IsHeld g.K.KeepGoals.choice g.K.KeepGoals.knows x c.args.source_type c.read_all.new.open (entries_of entries)
    entries.pad) (sym (c.in_ok-push_str.ensures.ok ∙ ap (λ x. x ++ c.args.text.now) c.new_in-held.ensures))
    c.in_ok-entries.ensures.held

pub returns-clause-document : goal.returns-clause-document
returns-clause-document g c = record {
  text_is = c.in_ok-push_str.ensures.ok ∙ ap (λ x. x ++ c.args.text.now) c.new_in-held.ensures;
  type_is = refl;
  report_is = c.in_ok-entries.ensures.held.report_is;
}

pub returns-clause-change : goal.returns-clause-change
returns-clause-change g c =
    let entries = c.in_ok-entries.entries in
    let rows = rows_of (entries_of entries) in
    c.change_of_new-change.ensures (report_of rows)
    (c.len.ensures ∙ sym (rows_long (entries_of c.in_ok-entries.entries) rows refl))
    (c.tokens.ensures
    ∙ sym
    (report_count g.K.KeepGoals.choice g.met.K.KeepGoals.is_rule c.args.text.now c.args.source_type rows
    (held_rows g.K.KeepGoals.choice g.met.K.KeepGoals.is_rule c.args.text.now c.args.source_type rows
    c.in_ok-entries.ensures.held.report_is)))
    (c.in_ok-found.ensures
    ∙ ap (λ es. counts_in (found_by (rows_of es))) (sym (all_before entries c.in_ok-entries.ensures.alone))
    ∙ ap counts_in
    (sym
    (report_found g.K.KeepGoals.choice g.met.K.KeepGoals.is_rule c.args.text.now c.args.source_type rows
    c.in_ok-entries.ensures.held.report_is.report_is.utf8
    (held_rows g.K.KeepGoals.choice g.met.K.KeepGoals.is_rule c.args.text.now c.args.source_type rows
    c.in_ok-entries.ensures.held.report_is))))

pub returns-clause-ticks : goal.returns-clause-ticks
returns-clause-ticks g c =
    let rows = rows_long (entries_of c.in_ok-entries.entries) (rows_of (entries_of c.in_ok-entries.entries)) refl in
    let ticks = c.in_ok-entries.ensures.ticks in
    omega (arith, rows, ticks)
