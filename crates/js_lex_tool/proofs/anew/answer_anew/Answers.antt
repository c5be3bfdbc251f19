use Rattle.std.proofs.Common.{false, refl}
use Rattle.js_lex_tool.proofs.AnsweringAnew.{at_lex_fault, at_rewrite_fault, at_text, not_diagnosed}
use Rattle.js_lex_tool.specs.declared.tool.Ran.{Ran}
use Rattle.js_lex_tool.proofs.anew.answer_anew.Goals as goal

pub returns-in-Err : goal.returns-in-Err
returns-in-Err g c =
    let cause = rw c.as_slice-bytes.ensures at c.in-Err.ensures.cause in
    rw (c.outcome_without_run.ensures, c.status_of.ensures)
    (at_lex_fault c.args.rewriting c.args.source _ c.in-Err.fault c.requires.few cause)

pub returns-in-Err-make_anew : goal.returns-in-Err-make_anew
returns-in-Err-make_anew g c =
    let meant = rw c.as_slice-bytes.ensures at c.in-Ok.ensures.meant in
    let cause = rw (c.as_slice-bytes.ensures, c.as_slice.ensures) at c.in-Err-make_anew.ensures.cause in
    rw (c.outcome_without_run-in-Err-make_anew.ensures, c.status_anew.ensures)
    (at_rewrite_fault c.args.rewriting c.args.source c.in-Ok.commands _ c.in-Err-make_anew.fault c.requires.few
    c.in-Ok.ensures.allowed meant cause)

pub returns : goal.returns
returns g c =
    let r = c.args.rewriting in
    let list = c.in-Ok.commands in
    let made = c.in-Ok-make_anew.made in
    let found = rw c.as_slice-bytes.ensures at c.in-Ok.ensures.meant in
    let report = rw (c.as_slice-bytes.ensures, c.as_slice.ensures) at c.in-Ok-make_anew.ensures.report in
    let none = rw (c.as_slice-bytes.ensures, c.as_slice.ensures) at c.in-Ok-make_anew.ensures.ok in
    let text = rw c.as_slice-bytes.ensures at c.in-Ok-make_anew.ensures.text in
    let keeps = rw (c.as_slice-bytes.ensures, c.as_slice.ensures, text) at c.in-Ok-make_anew.ensures.keeps in
    let writes = rw (c.as_str.ensures, text) at c.write_made.ensures.text in
    let meant = found made.1 report in
    let ran : Ran = record {
      source = c.args.source;
      source_type = r.source_type;
      tokens = false;
      commands = list;
      report = made.1;
    } in
    at_text r c.args.source ran _ _ c.write_made.result
    (record { source = refl; source_type = refl; tokens = refl; commands = meant; report = report }) report.utf8
    (not_diagnosed r c.args.source list made.1 meant report c.in-Ok.ensures.allowed none) keeps
    c.write_made.ensures.outcome writes c.write_made.ensures.faults c.write_made.ensures.in_time
