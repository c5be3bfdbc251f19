use Rattle.std.proofs.Common.{◌∙◌, ◌++◌, ap, append_assoc, codes, string_bytes}
use Rattle.js_page.specs.Pieces.{anchor}
use Rattle.js_page.proofs.writing.begun.Goals as goal

pub returns : goal.returns
returns c =
    c.in_ok-push_anchor.ensures
    ∙ ap (λ bytes. bytes ++ anchor 1) c.in_ok-push_str.ensures.bytes
    ∙ append_assoc (string_bytes c.args.text) (codes "<pre class=totsenak>") (anchor 1)
