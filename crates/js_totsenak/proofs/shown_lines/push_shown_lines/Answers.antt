use Rattle.std.proofs.Common.{◌∙◌, ◌++◌, ap, sym, map-id, append_assoc, string_bytes}
use Rattle.std.proofs.lemmas.Iterator.{YieldsList-from_chars}
use Rattle.std.proofs.lemmas.Iterator.Consumers.{YieldsList-end}
use Rattle.js_text.specs.Ascii.{line_feed}
use Rattle.js_totsenak.specs.ShownLines.{shown_behind, shown_lines}
use Rattle.js_totsenak.proofs.ShownLemmas.{last_behind, last_of_more, shown_more}
use Rattle.js_totsenak.proofs.shown_lines.push_shown_lines.Goals as goal

pub returns : goal.returns
returns c =
    let characters = YieldsList-from_chars c.args.characters.now c.utf8.characters cc in
    let done = YieldsList-end characters c.loop-c.yielded _ c.loop-c.yielded_by _ _ c.in-None.is c.next.ensures.steps in
    c.loop-c.invariant.0
    ∙ ap (λ cs. string_bytes c.args.text.now ++ shown_lines cs) (sym (map-id c.loop-c.yielded) ∙ done.0)

pub loop-c-preserved : goal.loop-c-preserved
loop-c-preserved c =
    let old = string_bytes c.args.text.now in
    let yielded = c.loop-c.yielded in (
      c.in_ok-push_behind.ensures
          ∙ ap (λ bytes. bytes ++ shown_behind c.loop-c.before c.in-Some.c) c.loop-c.invariant.0
          ∙ ap (λ before. old ++ shown_lines yielded ++ shown_behind before c.in-Some.c) c.loop-c.invariant.1
          ∙ append_assoc old (shown_lines yielded) (shown_behind (last_behind line_feed yielded) c.in-Some.c)
          ∙ ap (λ shown. old ++ shown) (shown_more line_feed yielded c.in-Some.c),
      last_of_more line_feed yielded c.in-Some.c,
    )
