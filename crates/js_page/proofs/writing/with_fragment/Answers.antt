use Rattle.std.proofs.Common.{◌∙◌, ◌++◌, [], ap, append-nil, codes, refl, string_bytes}
use Rattle.js_page.proofs.ShowsLemmas.{behind, shows_source}
use Rattle.js_page.specs.Elements.{elements_of, pieces_from}
use Rattle.js_page.specs.Fragment.{at_start, fragment_text}
use Rattle.js_page.specs.Pieces.{anchor, bytes_of}
use Rattle.js_page.proofs.writing.with_fragment.Goals as goal

pub returns : goal.returns
returns c =
    let source = c.args.source.now in
    let tokens = c.args.tokens.now in
    let comments = c.args.comments.now in
    let faults = c.args.faults.now in
    let elements = elements_of comments tokens in
    let start = at_start source faults in
    let first = string_bytes c.args.text in
    let head = codes "<pre class=totsenak>" in
    let written = bytes_of (pieces_from start elements) in
    record {
      shown = fragment_text source tokens comments faults;
      text_is =
          c.in_ok-push_str.ensures.bytes
          ∙ ap (λ bytes. bytes ++ codes "</pre>")
          (
          c.in_ok-text-2.ensures
          ∙ c.in_ok-push_all.ensures []
          ∙ ap (λ es. string_bytes c.in_ok-begun.field-0 ++ bytes_of (pieces_from start es)) (append-nil elements)
          ∙ ap (λ bytes. bytes ++ written) (c.in_ok-begun.ensures ∙ ap (λ bytes. bytes ++ (head ++ anchor 1)) c.in_ok-text.ensures)
          )
          ∙ behind first head (anchor 1) written (codes "</pre>");
      shows = shows_source source tokens comments faults (fragment_text source tokens comments faults) refl;
    }
