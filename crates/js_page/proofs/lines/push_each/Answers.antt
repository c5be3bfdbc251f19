use Rattle.std.proofs.Common.{◌∙◌, ◌++◌, ap, sym, map-id, append_assoc, string_bytes}
use Rattle.std.proofs.lemmas.Iterator.{YieldsList-from_chars}
use Rattle.std.proofs.lemmas.Iterator.Consumers.{YieldsList-end}
use Rattle.std.proofs.lemmas.List.Concat.{flat_map-append}
use Rattle.js_page.proofs.LineLemmas.{lines_more, pieces_more}
use Rattle.js_page.specs.Lines.{lines_behind, next_lines, pieces_at, pieces_in}
use Rattle.js_page.specs.Pieces.{bytes_of, piece_bytes}
use Rattle.js_page.specs.declared.lines.Lines.{Lines}
use Rattle.js_page.proofs.lines.push_each.Goals as goal

pub returns-clause-lines : goal.returns-clause-lines
returns-clause-lines c =
    let characters = YieldsList-from_chars c.args.stretch.now c.utf8.stretch cc in
    let done = YieldsList-end characters c.loop-c.yielded _ c.loop-c.yielded_by _ _ c.in-None.is c.next.ensures.steps in
    c.loop-c.invariant.1 ∙ ap (lines_behind c.args.lines) (sym (map-id c.loop-c.yielded) ∙ done.0)

pub returns-clause-text : goal.returns-clause-text
returns-clause-text c =
    let characters = YieldsList-from_chars c.args.stretch.now c.utf8.stretch cc in
    let done = YieldsList-end characters c.loop-c.yielded _ c.loop-c.yielded_by _ _ c.in-None.is c.next.ensures.steps in
    c.loop-c.invariant.0
    ∙ ap (λ cs. string_bytes c.args.text.now ++ bytes_of (pieces_in c.args.lines cs))
    (sym (map-id c.loop-c.yielded) ∙ done.0)

pub loop-c-preserved : goal.loop-c-preserved
loop-c-preserved c =
    let old = string_bytes c.args.text.now in
    let yielded = c.loop-c.yielded in
    let lines = c.args.lines in (
      c.in_ok-lines.ensures.text
          ∙ ap (λ bytes. bytes ++ bytes_of (pieces_at c.loop-c.lines c.in-Some.c)) c.loop-c.invariant.0
          ∙ ap (λ (l : Lines). old ++ bytes_of (pieces_in lines yielded) ++ bytes_of (pieces_at l c.in-Some.c))
          c.loop-c.invariant.1
          ∙ append_assoc old (bytes_of (pieces_in lines yielded))
          (bytes_of (pieces_at (lines_behind lines yielded) c.in-Some.c))
          ∙ ap (λ bytes. old ++ bytes) (
          sym (flat_map-append piece_bytes (pieces_in lines yielded)
          (pieces_at (lines_behind lines yielded) c.in-Some.c))
          ∙ ap bytes_of (sym (pieces_more lines yielded c.in-Some.c))
          ),
      c.in_ok-lines.ensures.lines
          ∙ ap (λ (l : Lines). next_lines l c.in-Some.c) c.loop-c.invariant.1
          ∙ sym (lines_more lines yielded c.in-Some.c),
    )
