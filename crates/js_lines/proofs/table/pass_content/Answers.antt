use Rattle.std.proofs.Common.{◌≡◌, ◌∷◌, ap, arith, length, refl, subst, sym, ◌∙◌}
use Rattle.js_source.specs.Search.{four_bytes, matches_char}
use Rattle.js_source.specs.Source.{rest}
use Rattle.js_text.proofs.TextLemmas.{length-from_first}
use Rattle.js_lines.proofs.ContentLemmas.{PassesContent, content_ends_here, content_ends_text, passes_more, passes_none}
use Rattle.js_lines.proofs.ContentLemmas.{passes_past, passes_search, stops_at_ends}
use Rattle.js_lines.specs.declared.table.TheConstants.{LINE_END_BYTES}
use Rattle.js_lines.proofs.table.pass_content.Goals as goal
use Rattle.js_lines.proofs.table.pass_content.Goals.{After-advance_to_match, After-pass_char}

-- the search passes content
searched : (c : After-advance_to_match)
    → PassesContent c.args.ends (rest c.args.source.now) (rest c.advance_to_match.new.source)
searched c =
    passes_more c.args.ends (rest c.args.source.now) (rest c.loop-c.source) (rest c.advance_to_match.new.source)
    c.loop-c.invariant.1
    (subst (PassesContent c.args.ends (rest c.loop-c.source)) (sym c.advance_to_match.ensures.rest)
    (passes_search (matches_char (four_bytes LINE_END_BYTES)) stops_at_ends c.args.ends (rest c.loop-c.source)))

next : (c : After-pass_char) → rest c.advance_to_match.new.source ≡ c.in-Some.c ∷ rest c.pass_char.new.self
next c = ap rest (sym c.here-behind.ensures.same) ∙ c.pass_char.ensures.reads.here

pub loop-c-init : goal.loop-c-init
loop-c-init c = (refl, passes_none c.args.ends (rest c.args.source.now))

pub returns-then-begin_with-clause-content : goal.returns-then-begin_with-clause-content
returns-then-begin_with-clause-content c =
    content_ends_here c.args.ends (rest c.args.source.now) (rest c.advance_to_match.new.source) c.in-Some.c
    (rest c.pass_char.new.self)
    (searched ((goal.at.returns-then-begin_with-clause-content c).After-advance_to_match))
    (next ((goal.at.returns-then-begin_with-clause-content c).After-pass_char))
    (sym c.begin_with.ensures ∙ c.if-begin_with.true)

pub loop-c-smaller : goal.loop-c-smaller
loop-c-smaller c =
    omega (
      arith,
      ap length (next ((goal.at.loop-c-smaller c).After-pass_char)),
      ap length c.advance_to_match.ensures.rest,
      length-from_first (matches_char (four_bytes LINE_END_BYTES)) (rest c.loop-c.source),
    )

pub loop-c-preserved : goal.loop-c-preserved
loop-c-preserved c = (
  c.pass_char.ensures.reads.text ∙ ap (λ s. s.text) c.here-behind.ensures.same ∙ c.advance_to_match.ensures.text
      ∙ c.loop-c.invariant.0,
  passes_past c.args.ends (rest c.args.source.now) (rest c.advance_to_match.new.source) c.in-Some.c
      (rest c.pass_char.new.self) (searched ((goal.at.loop-c-preserved c).After-advance_to_match))
      (next ((goal.at.loop-c-preserved c).After-pass_char)) (sym c.begin_with.ensures ∙ c.if-begin_with.false),
)

pub returns-clause-content : goal.returns-clause-content
returns-clause-content c =
    content_ends_text c.args.ends (rest c.args.source.now) (rest c.advance_to_match.new.source)
    (searched ((goal.at.returns-clause-content c).After-advance_to_match)) c.in_default.ensures.none
