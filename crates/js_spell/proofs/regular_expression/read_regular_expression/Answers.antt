use Rattle.std.proofs.lemmas.Result.{IfOk-weaker, on_err_weaker}
use Rattle.js_spell.proofs.FlagSteps.{body_broken, expression_broken, expression_closed, flags_broken, slash_passed}
use Rattle.js_spell.proofs.regular_expression.read_regular_expression.Goals as goal

pub returns-then-not-pass_body-clause-ok : goal.returns-then-not-pass_body-clause-ok
returns-then-not-pass_body-clause-ok c =
    IfOk-weaker c.report_unterminated.result _ _
    (λ info breaks. expression_broken c.args.start c.args.source.now c.pass_body.new.source
    c.report_unterminated.new.source c.args.errors.now c.report_unterminated.new.errors info
    c.requires c.if-not-pass_body.ensures breaks) c.report_unterminated.ensures.ok

pub read_flags-requires : goal.read_flags-requires
read_flags-requires c =
    slash_passed c.args.source.now c.pass_body.new.source c.next_char.new.self c.offset-pattern_end.result
    c.offset-pattern_end.ensures.place c.if-not-pass_body.ensures c.next_char.ensures.past

pub returns-clause-ok : goal.returns-clause-ok
returns-clause-ok c =
    IfOk-weaker c.read_flags.result _ _
    (λ info flags. expression_closed c.args.start c.args.source.now c.pass_body.new.source c.next_char.new.self
    c.read_flags.new.source c.args.errors.now c.read_flags.new.errors info c.offset-pattern_end.result
    c.requires c.offset-pattern_end.ensures.place
    c.if-not-pass_body.ensures c.next_char.ensures.past flags) c.read_flags.ensures.ok

pub returns-then-not-pass_body-clause-err : goal.returns-then-not-pass_body-clause-err
returns-then-not-pass_body-clause-err c =
    let mid = c.pass_body.new.source in
    let new = c.report_unterminated.new.source in
    let passed = c.if-not-pass_body.ensures in
    on_err_weaker c.report_unterminated.result
    (λ broken. body_broken c.args.start c.args.source.now mid new c.args.errors.now c.report_unterminated.new.errors
    passed broken) c.report_unterminated.ensures.err

pub returns-clause-err : goal.returns-clause-err
returns-clause-err c =
    on_err_weaker c.read_flags.result
    (λ broken. flags_broken c.args.start c.args.source.now c.pass_body.new.source c.next_char.new.self
    c.read_flags.new.source c.args.errors.now c.read_flags.new.errors c.offset-pattern_end.result
    c.requires c.offset-pattern_end.ensures.place
    c.if-not-pass_body.ensures c.next_char.ensures.past c.next_char.ensures.onward broken) c.read_flags.ensures.err
