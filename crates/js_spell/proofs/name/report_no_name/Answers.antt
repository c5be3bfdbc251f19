use Rattle.std.proofs.Common.{◌∙◌}
use Rattle.js_spell.proofs.NameReadings.{character_reported, end_reported, span_is}
use Rattle.js_spell.proofs.name.report_no_name.Goals as goal

pub returns-in_ok-push-in-Some-clause-ok : goal.returns-in_ok-push-in-Some-clause-ok
returns-in_ok-push-in-Some-clause-ok c =
    character_reported c.args.source.now c.next_char.new.self c.args.errors.now c.push.new.self c.in-Some.c
    c.new-span.result c.in-Some.ensures.some
    (c.new-span.ensures ∙ span_is c.offset-start.ensures.place c.offset.ensures.place)
    c.in_ok-push-in-Some.ensures.ok

pub returns-in_ok-push-in-None-clause-ok : goal.returns-in_ok-push-in-None-clause-ok
returns-in_ok-push-in-None-clause-ok c =
    end_reported c.args.source.now c.args.errors.now c.push-in-None.new.self c.empty-span.result
    c.in-None.ensures.none.0 (c.empty-span.ensures ∙ span_is c.offset-start.ensures.place c.offset-start.ensures.place)
    c.in_ok-push-in-None.ensures.ok
