use Rattle.std.proofs.Common.{◌≡◌, ◌<◌, ℕ, Bool, true, false, List, ap, arith, drop, inr, sym, subst, ◌∙◌, ◌==◌}
use Rattle.js_text.specs.Ascii.{backslash}
use Rattle.js_text.specs.Characters.{begins, from_first, from_place, is_identifier_part}
use Rattle.js_grammar.specs.Name.{is_no_part}
use Rattle.js_source.proofs.Places.{ascii_next, same_rest, steps_past}
use Rattle.js_source.specs.Runs.{PassesRun, TellsClass}
use Rattle.js_source.specs.Search.{matches_at}
use Rattle.js_source.specs.Source.{At, HasFirstByte, rest}
use Rattle.js_spell.proofs.NameSteps.{none_begins, other_first, part_ends, parts_passed, plain_passed}
use Rattle.js_spell.proofs.name.pass_name.Goals as goal

-- the run ends before an ASCII character, which is no part
ends_in_ascii : (b : ℕ) (parts : List Bool) (old new : At) → TellsClass is_identifier_part parts → b < 128
    → HasFirstByte b (rest new) → new.text ≡ old.text → PassesRun parts old.text old.place new.place
    → begins (matches_at parts) (rest new) ≡ false → rest new ≡ from_first is_no_part (rest old)
ends_in_ascii b parts old new tells ascii next text run stops =
    let first = ascii_next b _ ascii next in
    sym (part_ends b _ first (sym (tells.tells b ascii) ∙ none_begins (matches_at parts) b _ stops first))
    ∙ parts_passed parts old new tells text run

pub returns-in-None-clause-passes : goal.returns-in-None-clause-passes
returns-in-None-clause-passes c = λ same.
    let mid = c.next_ascii.new.self in
    let ends = c.in-None.ensures.none in
    plain_passed c.args.source.now mid c.pass_ascii.new.self c.requires.begun
    (other_first c.args.b c.args.source.now mid c.next_ascii.ensures.reads c.requires.unescaped)
    (steps_past _ _ _ c.next_ascii.ensures.reads) c.pass_ascii.ensures.text
    (ends ∙ sym (ap (from_first is_no_part) ends)
    ∙ parts_passed c.args.parts.now mid c.pass_ascii.new.self c.requires.parts c.pass_ascii.ensures.text
    c.pass_ascii.ensures.run)

pub returns-then-next-lt92-clause-passes : goal.returns-then-next-lt92-clause-passes
returns-then-next-lt92-clause-passes c = λ same.
    let mid = c.next_ascii.new.self in
    plain_passed c.args.source.now mid c.pass_ascii.new.self c.requires.begun
    (other_first c.args.b c.args.source.now mid c.next_ascii.ensures.reads c.requires.unescaped)
    (steps_past _ _ _ c.next_ascii.ensures.reads) c.pass_ascii.ensures.text
    (ends_in_ascii c.in-Some.next c.args.parts.now mid c.pass_ascii.new.self c.requires.parts
    (omega (arith, c.if-next-lt92.true)) c.in-Some.ensures.some c.pass_ascii.ensures.text c.pass_ascii.ensures.run
    c.pass_ascii.ensures.stops)

pub returns-in-Some-end_without_escape-clause-passes : goal.returns-in-Some-end_without_escape-clause-passes
returns-in-Some-end_without_escape-clause-passes c = λ same.
    let mid = c.next_ascii.new.self in
    let end = c.in-Some-end_without_escape.end in
    plain_passed c.args.source.now mid c.set_position.new.self c.requires.begun
    (other_first c.args.b c.args.source.now mid c.next_ascii.ensures.reads c.requires.unescaped)
    (steps_past _ _ _ c.next_ascii.ensures.reads) (c.set_position.ensures.text ∙ c.pass_ascii.ensures.text)
    (sym (same_rest c.pass_ascii.new.self c.set_position.new.self end c.set_position.ensures.text
    c.set_position.ensures.there)
    ∙ subst (λ (here : At). from_place here.text end ≡ from_first is_no_part (rest here)) c.here.ensures.same
    c.in-Some-end_without_escape.ensures.rest
    ∙ parts_passed c.args.parts.now mid c.pass_ascii.new.self c.requires.parts c.pass_ascii.ensures.text
    c.pass_ascii.ensures.run)

pub returns-in-None-end_without_escape-clause-none : goal.returns-in-None-end_without_escape-clause-none
returns-in-None-end_without_escape-clause-none c = λ same.
    let escaped = subst (λ (here : At). begins (λ d. d == backslash) (from_first is_no_part (rest here)) ≡ true)
    c.here.ensures.same c.in-None-end_without_escape.ensures.none in
    inr
    (ap (begins (λ d. d == backslash))
    (ap (λ text. from_first is_no_part (drop 1 text)) c.next_ascii.ensures.reads.here
    ∙ sym (parts_passed c.args.parts.now c.next_ascii.new.self c.pass_ascii.new.self c.requires.parts
    c.pass_ascii.ensures.text c.pass_ascii.ensures.run))
    ∙ escaped)
