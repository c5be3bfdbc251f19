use Rattle.std.proofs.Common.{◌≡◌, ◌-◌, ◌++◌, take, ap, arith, sym, ◌∙◌}
use Rattle.std.specs.Str.{chars}
use Rattle.js_source.specs.Source.{rest}
use Rattle.js_lines.proofs.ContentLemmas.{content_is}
use Rattle.js_lines.specs.Lines.{line_content}
use Rattle.js_lines.proofs.table.content_of.Goals as goal

pub returns-clause-characters : goal.returns-clause-characters
returns-clause-characters c =
    let ends = c.args.ends in
    let bytes = c.args.text.now in
    let new = c.pass_content.new.source in
    let start : rest c.new-source.result ≡ chars bytes = c.new-source.ensures.characters in
    let text : new.text ≡ bytes = c.pass_content.ensures.text ∙ c.new-source.ensures.text in
    let content : chars bytes ≡ line_content ends (chars bytes) ++ rest new =
    sym start ∙ c.pass_content.ensures.content ∙ ap (λ cs. line_content ends cs ++ rest new) start in
    let whole : new.place - 0 ≡ new.place = omega arith in
    let cut : c.range.result.now ≡ take new.place bytes =
    c.range.ensures.value ∙ ap (λ n. take (n - 0) bytes) c.offset.ensures.place ∙ ap (λ n. take n bytes) whole in
    ap chars cut ∙ content_is ends bytes new text content
