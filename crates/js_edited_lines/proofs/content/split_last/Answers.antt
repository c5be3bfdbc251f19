use Rattle.std.proofs.Common.{◌++◌, IfNone, None, Option, Some, ap, length, sym, ◌∙◌}
use Rattle.std.specs.Char.{encode_utf8}
use Rattle.js_edited_lines.proofs.LineContent.{last_char, no_char}
use Rattle.js_edited_lines.proofs.content.split_last.Goals as goal

always : {A : Type 0} (r : Option A) (P : Type 0) → P → IfNone r P
always None P p = p
always (Some x) P p = tt

pub returns-in_err-last-clause-none : goal.returns-in_err-last-clause-none
returns-in_err-last-clause-none c =
    always c.from_residual.result _
    (no_char c.args.text.now (ap length (sym c.chars-rest.ensures.rest) ∙ c.in_err-last.ensures.steps.0))

pub returns-clause-some : goal.returns-clause-some
returns-clause-some c =
    last_char c.args.text.now c.as_str.result.now c.in_ok-last.last c.utf8.text c.as_str.utf8
    (sym c.chars-rest.ensures.rest ∙ c.in_ok-last.ensures.steps
    ∙ ap (λ bs. bs ++ encode_utf8 c.in_ok-last.last) (sym c.as_str.ensures))
