use Rattle.std.specs.Prelude.{string_bytes}
use Rattle.js_page.proofs.PlainLemmas.{fewer_left, lines_kept, run_pushed}
use Rattle.js_page.proofs.plain.push_plain.Goals as goal

pub returns-clause-lines : goal.returns-clause-lines
returns-clause-lines c =
    lines_kept c.plain_characters.result.now c.plain_characters.ensures c.args.lines c.if-lines.false c.args.source.now
    c.pass_ascii.new.self c.pass_ascii.ensures.text c.pass_ascii.ensures.run

pub returns-clause-text : goal.returns-clause-text
returns-clause-text c =
    run_pushed c.plain_characters.result.now c.plain_characters.ensures c.args.lines c.if-lines.false c.args.source.now
    c.pass_ascii.new.self c.pass_ascii.ensures.text c.pass_ascii.ensures.run c.position-start.result
    c.str_from_pos_to_current.result.now (string_bytes c.args.text.now) (string_bytes c.push_str.new.self)
    c.position-start.ensures.place c.str_from_pos_to_current.ensures.characters c.in_ok-push_str.ensures.bytes

pub returns-clause-fewer : goal.returns-clause-fewer
returns-clause-fewer c =
    fewer_left c.plain_characters.result.now c.plain_characters.ensures c.args.lines c.if-lines.false c.args.source.now
    c.pass_ascii.new.self c.pass_ascii.ensures.text c.pass_ascii.ensures.run
