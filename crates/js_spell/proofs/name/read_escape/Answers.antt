use Rattle.std.proofs.Common.{◌∙◌, arith}
use Rattle.js_spell.proofs.BreakSteps.{on_err}
use Rattle.js_spell.proofs.NameReadings.{bad_read, not_allowed_read, escape_onward, escape_unreported, span_is}
use Rattle.js_spell.proofs.NameReadings.{character_read}
use Rattle.js_spell.proofs.name.read_escape.Goals as goal

pub returns-in-Character-clause-ok : goal.returns-in-Character-clause-ok
returns-in-Character-clause-ok c =
    character_read c.args.position c.args.source.now c.next_char.new.self c.decode_escape-decoding.new.source
    c.decode_escape-decoding.result c.requires c.next_char.ensures.past c.decode_escape-decoding.ensures
    c.args.errors.now c.in-Character.c c.in-Character.is

pub new-span-requires : goal.new-span-requires
new-span-requires c =
    omega (
      arith,
      escape_onward c.args.position c.args.source.now c.next_char.new.self c.decode_escape-decoding.new.source
          c.decode_escape-decoding.result c.requires c.next_char.ensures.past c.decode_escape-decoding.ensures,
      c.offset-start.ensures.place,
      c.offset-end.ensures.place,
    )

pub returns-in_ok-push-in-NotAllowed-clause-ok : goal.returns-in_ok-push-in-NotAllowed-clause-ok
returns-in_ok-push-in-NotAllowed-clause-ok c =
    not_allowed_read c.args.position c.args.source.now c.next_char.new.self c.decode_escape-decoding.new.source
    c.decode_escape-decoding.result c.requires c.next_char.ensures.past c.decode_escape-decoding.ensures
    c.args.errors.now c.push.new.self c.in-NotAllowed.c c.empty-span.result c.in-NotAllowed.is
    (c.empty-span.ensures ∙ span_is c.offset-end.ensures.place c.offset-end.ensures.place)
    c.in_ok-push-in-NotAllowed.ensures.ok

pub returns-in_ok-push-in-Bad-clause-ok : goal.returns-in_ok-push-in-Bad-clause-ok
returns-in_ok-push-in-Bad-clause-ok c =
    bad_read c.args.position c.args.source.now c.next_char.new.self c.decode_escape-decoding.new.source
    c.decode_escape-decoding.result c.requires c.next_char.ensures.past c.decode_escape-decoding.ensures
    c.args.errors.now c.push-in-Bad.new.self c.new-span.result c.in-Bad.is
    (c.new-span.ensures ∙ span_is c.offset-start.ensures.place c.offset-end.ensures.place)
    c.in_ok-push-in-Bad.ensures.ok

pub returns-in_err-push-in-NotAllowed-clause-err : goal.returns-in_err-push-in-NotAllowed-clause-err
returns-in_err-push-in-NotAllowed-clause-err c =
    on_err c.from_residual.result _
    (escape_unreported c.args.position c.args.source.now c.next_char.new.self c.decode_escape-decoding.new.source
    c.decode_escape-decoding.result c.requires c.next_char.ensures.past c.decode_escape-decoding.ensures
    c.args.errors.now c.push.new.self c.in_err-push-in-NotAllowed.ensures.err)

pub returns-in_err-push-in-Bad-clause-err : goal.returns-in_err-push-in-Bad-clause-err
returns-in_err-push-in-Bad-clause-err c =
    on_err c.from_residual-in_err-push-in-Bad.result _
    (escape_unreported c.args.position c.args.source.now c.next_char.new.self c.decode_escape-decoding.new.source
    c.decode_escape-decoding.result c.requires c.next_char.ensures.past c.decode_escape-decoding.ensures
    c.args.errors.now c.push-in-Bad.new.self c.in_err-push-in-Bad.ensures.err)
