use Rattle.std.proofs.Common.{sym, ap, ◌∙◌}
use Rattle.js_text.specs.declared.span.Span.{Span}
use Rattle.std.proofs.Common.{[], arith, rules}
use Rattle.js_spell.proofs.BreakSteps.{on_err, unreported}
use Rattle.js_spell.proofs.EndSteps.{bad_end_read}
use Rattle.js_spell.proofs.numeric.read_bad_end.Goals as goal

pub returns-clause-ok : goal.returns-clause-ok
returns-clause-ok c =
    bad_end_read c.args.source.now c.next_char.new.self c.skip_starts.new.source c.advance_to_end.new.self
    c.args.errors.now c.push.new.self c.in-Some.c c.new-span.result.start c.new-span.result.end c.in-Some.ensures.some
    c.next_char.ensures.past (sym c.if-may_not_follow.ensures) c.skip_starts.ensures.text c.skip_starts.ensures.passed
    c.advance_to_end.ensures.place.text c.advance_to_end.ensures.nothing
    (ap (λ (s : Span). s.start) c.new-span.ensures ∙ c.offset-start.ensures.place)
    (ap (λ (s : Span). s.end) c.new-span.ensures ∙ c.offset.ensures.place)
    c.in_ok-push.ensures.ok

pub returns-in_err-push-clause-err : goal.returns-in_err-push-clause-err
returns-in_err-push-clause-err c =
    on_err c.from_residual.result _
    (unreported [] c.args.source.now c.skip_starts.new.source c.args.errors.now c.push.new.self (search rules)
    (omega arith) (search rules))
