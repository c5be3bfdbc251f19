use Rattle.std.proofs.Common.{sym, ◌∙◌}
use Rattle.std.proofs.Common.{[], arith, rules}
use Rattle.js_spell.proofs.BreakSteps.{on_err, unreported}
use Rattle.js_spell.proofs.ItemSteps.{good_escape_read, bad_escape_read, reported_in_string, silent_in_template}
use Rattle.js_spell.proofs.items.read_escape_item.Goals as goal

pub returns-then-is_good-clause-ok : goal.returns-then-is_good-clause-ok
returns-then-is_good-clause-ok c =
    good_escape_read c.args.literal c.args.token.now.start c.args.source.now c.next_char.new.self
    c.read_escape.new.source c.args.text.now c.read_escape.new.text c.args.errors.now c.read_escape.new.errors
    c.is_template.result c.in_ok-is_good.is_good c.requires.escape
    c.next_char.ensures.past c.is_template.ensures c.if-is_good.true c.in_ok-is_good.ensures.ok

pub returns-in_ok-report_bad_escape-clause-ok : goal.returns-in_ok-report_bad_escape-clause-ok
returns-in_ok-report_bad_escape-clause-ok c =
    let reported = reported_in_string c.args.literal c.args.token.now.start c.offset-from.result c.args.source.now.place
    c.read_escape.new.source.place c.read_escape.new.errors c.report_bad_escape.new.errors
    (sym c.is_template-2.ensures ∙ c.if-not-is_template.true) c.offset-from.ensures.place
    c.in_ok-report_bad_escape.ensures.ok in
    bad_escape_read c.args.literal c.args.token.now.start c.args.source.now c.next_char.new.self
    c.read_escape.new.source c.args.text.now c.read_escape.new.text c.args.errors.now c.read_escape.new.errors
    c.report_bad_escape.new.errors c.is_template.result c.in_ok-is_good.is_good c.requires.escape
    c.next_char.ensures.past c.is_template.ensures c.if-is_good.false c.in_ok-is_good.ensures.ok reported

pub returns-else-not-is_template-clause-ok : goal.returns-else-not-is_template-clause-ok
returns-else-not-is_template-clause-ok c =
    let reported = silent_in_template c.args.literal c.args.token.now.start c.args.source.now.place
    c.read_escape.new.source.place c.read_escape.new.errors
    (sym c.is_template-2.ensures ∙ c.if-not-is_template.false) in
    bad_escape_read c.args.literal c.args.token.now.start c.args.source.now c.next_char.new.self
    c.read_escape.new.source c.args.text.now c.read_escape.new.text c.args.errors.now c.read_escape.new.errors
    c.read_escape.new.errors c.is_template.result c.in_ok-is_good.is_good c.requires.escape
    c.next_char.ensures.past c.is_template.ensures c.if-is_good.false c.in_ok-is_good.ensures.ok reported

pub returns-in_err-is_good-clause-err : goal.returns-in_err-is_good-clause-err
returns-in_err-is_good-clause-err c =
    on_err c.from_residual.result _
    (unreported [] c.args.source.now c.read_escape.new.source c.args.errors.now c.read_escape.new.errors (search rules)
    (omega arith) (search rules))

pub returns-in_err-report_bad_escape-clause-err : goal.returns-in_err-report_bad_escape-clause-err
returns-in_err-report_bad_escape-clause-err c = search rules
