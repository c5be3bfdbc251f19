use Rattle.std.proofs.Common.{◌≤◌, ◌++◌, ◌∙◌, [], ap, length, subst, sym, take}
use Rattle.std.specs.List.{AllByRecursion}
use Rattle.js_relex.proofs.Outcomes.{on_err}
use Rattle.js_document.specs.Changed.{AreChangesOf, IsChangeOf, MayChange}
use Rattle.js_document.specs.Found.{found_by}
use Rattle.js_document.specs.Gap.{IsPadded, MayPad, around, entries_of, rows_of}
use Rattle.js_document.specs.Reading.{with_rows}
use Rattle.js_document.proofs.edited.put_read.Goals as goal

pub change_of-requires : goal.change_of-requires
change_of-requires g c =
    let edit = c.args.edit.now in
    subst (λ n. MayChange edit.start edit.end edit.text.now c.args.entries.now n c.args.pad) (sym c.unwrap_or-left.ensures)
    c.requires.change

pub replace-requires-clause-few : goal.replace-requires-clause-few
replace-requires-clause-few g c =
    subst (λ n. n ≤ length c.args.entries.now.back) (sym c.unwrap_or-left.ensures) c.requires.change.few

pub replace-requires-clause-padded : goal.replace-requires-clause-padded
replace-requires-clause-padded g c =
    subst (λ n. AllByRecursion (IsPadded c.args.pad) (take n c.args.entries.now.back)) (sym c.unwrap_or-left.ensures)
    c.requires.change.padded

pub replace-requires-clause-may_pad : goal.replace-requires-clause-may_pad
replace-requires-clause-may_pad g c =
    let old = c.args.entries.now in
    subst
    (λ n. AllByRecursion (MayPad c.args.pad) (around (old.front ++ c.args.read.rows.items) c.args.pad (take n old.back)))
    (sym c.unwrap_or-left.ensures) c.requires.may_pad

pub returns-clause-ok : goal.returns-clause-ok
returns-clause-ok g c =
    let edit = c.args.edit.now in
    let old = c.args.entries.now in
    let change = c.in_ok-change.change in
    let tokens = c.in_ok-change.ensures.tokens in
    record {
      entries_are =
          c.in_ok-replace.ensures.ok
          ∙ ap (λ n. around (old.front ++ c.args.read.rows.items) c.args.pad (take n old.back)) c.unwrap_or-left.ensures;
      pad_is = c.in_ok-replace.ensures.pad;
      kept = c.in_ok-change.ensures.kept;
      read = c.in_ok-change.ensures.read ∙ ap (λ l. length l) c.as_slice.ensures.value;
      tokens =
          subst
          (λ n. IsChangeOf edit.start edit.end edit.text.now (with_rows [] (rows_of (entries_of old)))
          (with_rows [] (rows_of (around (old.front ++ c.args.read.rows.items) c.args.pad (take n old.back)))) change.tokens)
          c.unwrap_or-left.ensures
          (subst
          (λ es. IsChangeOf edit.start edit.end edit.text.now (with_rows [] (rows_of (entries_of old)))
          (with_rows [] (rows_of (around (old.front ++ es) c.args.pad (take c.unwrap_or-left.result old.back))))
          change.tokens) c.as_slice.ensures.value tokens);
      found =
          subst
          (λ n. AreChangesOf edit.start edit.end edit.text.now (found_by (rows_of (entries_of old)))
          (found_by (rows_of (around (old.front ++ c.args.read.rows.items) c.args.pad (take n old.back)))) change)
          c.unwrap_or-left.ensures
          (subst
          (λ es. AreChangesOf edit.start edit.end edit.text.now (found_by (rows_of (entries_of old)))
          (found_by (rows_of (around (old.front ++ es) c.args.pad (take c.unwrap_or-left.result old.back)))) change)
          c.as_slice.ensures.value c.in_ok-change.ensures.found);
      moved = c.in_ok-change.ensures.moved;
    }

pub returns-in_err-replace-clause-err : goal.returns-in_err-replace-clause-err
returns-in_err-replace-clause-err g c =
    on_err c.from_residual-in_err-replace.result
    (record { entries = c.in_err-replace.ensures.err; pad = c.in_err-replace.ensures.err_pad })
