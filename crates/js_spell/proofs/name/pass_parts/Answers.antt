use Rattle.std.proofs.Common.{sym, ◌∙◌}
use Rattle.js_source.proofs.Places.{ascii_next}
use Rattle.js_source.specs.Search.{matches_at}
use Rattle.js_spell.proofs.NameSteps.{parts_passed, run_fewer, part_ends, none_begins}
use Rattle.js_spell.proofs.name.pass_parts.Goals as goal

pub returns-in_err-b-clause-rest : goal.returns-in_err-b-clause-rest
returns-in_err-b-clause-rest c =
    parts_passed c.name_parts.result.now c.args.source.now c.pass_ascii.new.self c.name_parts.ensures
    c.pass_ascii.ensures.text c.pass_ascii.ensures.run

pub returns-in_err-b-clause-fewer : goal.returns-in_err-b-clause-fewer
returns-in_err-b-clause-fewer c =
    run_fewer c.name_parts.result.now c.args.source.now c.pass_ascii.new.self c.pass_ascii.ensures.text
    c.pass_ascii.ensures.run

pub returns-then-b-lt128-clause-rest : goal.returns-then-b-lt128-clause-rest
returns-then-b-lt128-clause-rest c =
    parts_passed c.name_parts.result.now c.args.source.now c.pass_ascii.new.self c.name_parts.ensures
    c.pass_ascii.ensures.text c.pass_ascii.ensures.run

pub returns-then-b-lt128-clause-fewer : goal.returns-then-b-lt128-clause-fewer
returns-then-b-lt128-clause-fewer c =
    run_fewer c.name_parts.result.now c.args.source.now c.pass_ascii.new.self c.pass_ascii.ensures.text
    c.pass_ascii.ensures.run

pub returns-in_err-c-clause-rest : goal.returns-in_err-c-clause-rest
returns-in_err-c-clause-rest c =
    parts_passed c.name_parts.result.now c.args.source.now c.pass_ascii.new.self c.name_parts.ensures
    c.pass_ascii.ensures.text c.pass_ascii.ensures.run

pub returns-in_err-c-clause-fewer : goal.returns-in_err-c-clause-fewer
returns-in_err-c-clause-fewer c =
    run_fewer c.name_parts.result.now c.args.source.now c.pass_ascii.new.self c.pass_ascii.ensures.text
    c.pass_ascii.ensures.run

pub returns-then-not-is_identifier_part-clause-rest : goal.returns-then-not-is_identifier_part-clause-rest
returns-then-not-is_identifier_part-clause-rest c =
    parts_passed c.name_parts.result.now c.args.source.now c.pass_ascii.new.self c.name_parts.ensures
    c.pass_ascii.ensures.text c.pass_ascii.ensures.run

pub returns-then-not-is_identifier_part-clause-fewer : goal.returns-then-not-is_identifier_part-clause-fewer
returns-then-not-is_identifier_part-clause-fewer c =
    run_fewer c.name_parts.result.now c.args.source.now c.pass_ascii.new.self c.pass_ascii.ensures.text
    c.pass_ascii.ensures.run

pub returns-clause-rest : goal.returns-clause-rest
returns-clause-rest c =
    parts_passed c.name_parts.result.now c.args.source.now c.pass_ascii.new.self c.name_parts.ensures
    c.pass_ascii.ensures.text c.pass_ascii.ensures.run

pub returns-clause-fewer : goal.returns-clause-fewer
returns-clause-fewer c =
    run_fewer c.name_parts.result.now c.args.source.now c.pass_ascii.new.self c.pass_ascii.ensures.text
    c.pass_ascii.ensures.run

pub returns-then-b-lt128-clause-none : goal.returns-then-b-lt128-clause-none
returns-then-b-lt128-clause-none c =
    let begins = ascii_next c.in_ok-b.b _ c.if-b-lt128.true c.in_ok-b.ensures.some in
    part_ends c.in_ok-b.b _ begins
    (sym (c.name_parts.ensures.tells c.in_ok-b.b c.if-b-lt128.true)
    ∙ none_begins (matches_at c.name_parts.result.now) c.in_ok-b.b _ c.pass_ascii.ensures.stops begins)
