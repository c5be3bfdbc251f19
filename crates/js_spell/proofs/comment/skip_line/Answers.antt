use Rattle.std.proofs.Common.{◌∙◌, sym, arith}
use Rattle.js_text.specs.Characters.{is_line_terminator}
use Rattle.js_source.specs.Search.{four_bytes}
use Rattle.js_spell.specs.Comments.{line_bytes}
use Rattle.js_spell.proofs.CommentSteps.{line_stops, no_at, search_found, search_ended, search_passes}
use Rattle.js_spell.proofs.CommentSteps.{search_shorter}
use Rattle.js_spell.proofs.SequenceSteps.{behind}
use Rattle.js_spell.proofs.comment.skip_line.Goals as goal

pub returns-then-is_line_terminator-clause-rest : goal.returns-then-is_line_terminator-clause-rest
returns-then-is_line_terminator-clause-rest c =
    search_found is_line_terminator (four_bytes line_bytes) c.args.source.now c.loop-c.source c.advance_to_match.new.source
    c.advance_to_match.new.source c.in-Some.c
    (line_stops, c.loop-c.invariant.1, c.advance_to_match.ensures.rest) c.in-Some.ensures.some
    (sym c.is_line_terminator.ensures ∙ c.if-is_line_terminator.true)

pub returns-then-is_line_terminator-clause-plain : goal.returns-then-is_line_terminator-clause-plain
returns-then-is_line_terminator-clause-plain c is =
    no_at c.args.source.now c.loop-c.source c.advance_to_match.new.source.place (c.loop-c.invariant.3 is)
    (c.advance_to_match.ensures.others)

pub loop-c-smaller : goal.loop-c-smaller
loop-c-smaller c =
    search_shorter _ c.loop-c.source c.advance_to_match.new.source c.next_char.new.self c.in-Some.c
    c.advance_to_match.ensures.rest c.in-Some.ensures.some c.next_char.ensures.past

pub loop-c-preserved : goal.loop-c-preserved
loop-c-preserved c =
    let after =
    behind c.in-Some.c c.advance_to_match.new.source c.next_char.new.self c.in-Some.ensures.some
    c.next_char.ensures.past in (
      after.0 ∙ c.advance_to_match.ensures.text ∙ c.loop-c.invariant.0,
      search_passes is_line_terminator (four_bytes line_bytes) c.args.source.now c.loop-c.source c.advance_to_match.new.source
          c.next_char.new.self c.in-Some.c
          (line_stops, c.loop-c.invariant.1, c.advance_to_match.ensures.rest) c.in-Some.ensures.some
          c.next_char.ensures.past (sym c.is_line_terminator.ensures ∙ c.if-is_line_terminator.false),
      omega (arith, c.advance_to_match.ensures.others.onward),
      λ e. absurd cc,
    )

pub returns-clause-rest : goal.returns-clause-rest
returns-clause-rest c =
    search_ended is_line_terminator (four_bytes line_bytes) c.args.source.now c.loop-c.source c.advance_to_match.new.source
    (line_stops, c.loop-c.invariant.1, c.advance_to_match.ensures.rest) c.in_default.ensures.none

pub returns-clause-plain : goal.returns-clause-plain
returns-clause-plain c is =
    no_at c.args.source.now c.loop-c.source c.advance_to_match.new.source.place (c.loop-c.invariant.3 is)
    (c.advance_to_match.ensures.others)
