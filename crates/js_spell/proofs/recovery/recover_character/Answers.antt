use Rattle.js_spell.proofs.RecoverSteps.{invalid}
use Rattle.js_spell.proofs.recovery.recover_character.Goals as goal

pub returns-in-Some : goal.returns-in-Some
returns-in-Some c =
    let d =
    invalid c.args.line_has_ended c.args.source.now c.next_char.new.self c.in-Some.c c.offset-start.result
    c.offset.result c.requires.comment c.requires.no_named c.requires.no_number c.requires.no_quoted
    c.requires.some c.in-Some.ensures.some
    c.in-Some.c-test.1
    c.next_char.ensures.onward c.offset-start.ensures.place c.offset.ensures.place in
    rw c.new-span.ensures d
