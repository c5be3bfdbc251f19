use Rattle.std.proofs.Common.{◌∙◌, ◌++◌, ap, append-nil, arith, length, string_bytes, sym}
use Rattle.js_source.specs.Source.{rest}
use Rattle.js_page.proofs.LineLemmas.{written_on}
use Rattle.js_page.specs.Lines.{lines_behind, pieces_in}
use Rattle.js_page.specs.Pieces.{bytes_of}
use Rattle.js_page.specs.declared.lines.Lines.{Lines}
use Rattle.js_page.proofs.lines.push_runs.Goals as goal

pub loop-c-init : goal.loop-c-init
loop-c-init c = (
  c.in_ok-push_plain.ensures.text
      ∙ ap (λ cs. string_bytes c.args.text.now ++ bytes_of (pieces_in c.args.lines cs))
      c.new-source.ensures.characters,
  c.in_ok-push_plain.ensures.lines ∙ ap (lines_behind c.args.lines) c.new-source.ensures.characters,
)

pub loop-c-preserved : goal.loop-c-preserved
loop-c-preserved c =
    let old = c.loop-c.reached in
    let here = c.in-Some.ensures.some.here in (
      c.in_ok-push_plain-2.ensures.text
          ∙ written_on old c.in_ok-reached.reached c.in-Some.c (rest c.next_char.new.self) (rest c.loop-c.source)
          (string_bytes c.loop-c.text) (string_bytes c.push_in_line.new.text) here
          c.in_ok-reached.ensures.lines c.in_ok-reached.ensures.text
          ∙ c.loop-c.invariant.0,
      c.in_ok-push_plain-2.ensures.lines
          ∙ ap (λ (l : Lines). lines_behind l (rest c.next_char.new.self)) c.in_ok-reached.ensures.lines
          ∙ ap (lines_behind old) (sym here)
          ∙ c.loop-c.invariant.1,
    )

pub loop-c-smaller : goal.loop-c-smaller
loop-c-smaller c = omega (arith, c.in_ok-push_plain-2.ensures.fewer, ap length c.in-Some.ensures.some.here)

pub returns-clause-lines : goal.returns-clause-lines
returns-clause-lines c =
    sym (ap (lines_behind c.loop-c.reached) c.in_default.ensures.none.0) ∙ c.loop-c.invariant.1

pub returns-clause-text : goal.returns-clause-text
returns-clause-text c =
    let first = string_bytes c.loop-c.text in
    sym (append-nil first)
    ∙ sym (ap (λ cs. first ++ bytes_of (pieces_in c.loop-c.reached cs)) c.in_default.ensures.none.0)
    ∙ c.loop-c.invariant.0
