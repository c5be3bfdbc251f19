use Rattle.std.proofs.Common.{◌≡◌, ◌+◌, ◌<◌, ◌∷◌, ap, arith, length, sym, ◌∙◌}
use Rattle.js_source.specs.Search.{four_bytes, matches_char}
use Rattle.js_source.specs.Source.{rest}
use Rattle.js_text.proofs.TextLemmas.{length-from_first}
use Rattle.std.specs.Char.{len_utf8}
use Rattle.js_lines.proofs.ContentLemmas.{place_behind, starts_here, starts_on, starts_search, stops_at_ends}
use Rattle.js_lines.specs.Lines.{starts_behind, starts_from}
use Rattle.js_lines.specs.declared.table.TheConstants.{LINE_END_BYTES}
use Rattle.js_lines.proofs.table.pass_line_end.Goals as goal
use Rattle.js_lines.proofs.table.pass_line_end.Goals.{After-advance_to_match, After-pass_char}

searched : (c : After-advance_to_match)
    → starts_from c.args.ends c.args.source.now ≡ starts_from c.args.ends c.advance_to_match.new.source
searched c =
    sym c.loop-c.invariant.1
    ∙ starts_search (matches_char (four_bytes LINE_END_BYTES)) stops_at_ends c.args.ends c.loop-c.source
    c.advance_to_match.new.source c.advance_to_match.ensures.rest c.advance_to_match.ensures.bytes

shorter : (c : After-pass_char) → length (rest c.pass_char.new.self) < length (rest c.loop-c.source)
shorter c =
    omega (
      arith,
      ap length c.pass_char.ensures.reads.here,
      ap length c.advance_to_match.ensures.rest,
      length-from_first (matches_char (four_bytes LINE_END_BYTES)) (rest c.loop-c.source),
    )

behind : (c : After-pass_char)
    → c.pass_char.new.self.place ≡ c.advance_to_match.new.source.place + len_utf8 c.in-Some.c
behind c =
    place_behind c.advance_to_match.new.source c.pass_char.new.self c.in-Some.c c.pass_char.ensures.reads
    c.pass_char.ensures.at

pub returns-then-ends_behind-clause-some : goal.returns-then-ends_behind-clause-some
returns-then-ends_behind-clause-some c =
    searched ((goal.at.returns-then-ends_behind-clause-some c).After-advance_to_match)
    ∙ starts_here c.args.ends c.advance_to_match.new.source c.pass_char.new.self c.in-Some.c
    c.pass_char.ensures.reads.here (behind ((goal.at.returns-then-ends_behind-clause-some c).After-pass_char))
    (sym c.ends_behind.ensures ∙ c.if-ends_behind.true)
    ∙ ap (λ n. n ∷ starts_from c.args.ends c.pass_char.new.self) (sym c.offset.ensures.place)

pub returns-then-ends_behind-clause-shorter : goal.returns-then-ends_behind-clause-shorter
returns-then-ends_behind-clause-shorter c =
    omega (arith, shorter ((goal.at.returns-then-ends_behind-clause-shorter c).After-pass_char), c.loop-c.invariant.2)

pub loop-c-smaller : goal.loop-c-smaller
loop-c-smaller c = shorter ((goal.at.loop-c-smaller c).After-pass_char)

pub loop-c-preserved : goal.loop-c-preserved
loop-c-preserved c = (
  c.pass_char.ensures.reads.text ∙ c.advance_to_match.ensures.text ∙ c.loop-c.invariant.0,
  sym (searched ((goal.at.loop-c-preserved c).After-advance_to_match)
      ∙ starts_on c.args.ends c.advance_to_match.new.source c.pass_char.new.self c.in-Some.c
      c.pass_char.ensures.reads.here (behind ((goal.at.loop-c-preserved c).After-pass_char))
      (sym c.ends_behind.ensures ∙ c.if-ends_behind.false)),
  omega (arith, shorter ((goal.at.loop-c-preserved c).After-pass_char), c.loop-c.invariant.2),
)

pub returns-clause-none : goal.returns-clause-none
returns-clause-none c =
    searched ((goal.at.returns-clause-none c).After-advance_to_match)
    ∙ ap (starts_behind c.args.ends c.advance_to_match.new.source.place) c.in_default.ensures.none
