use Rattle.std.proofs.Common.{◌∙◌, ◌-◌, ap, sym, rules, chars, encode_utf8_all}
use Rattle.std.specs.Str.{IsUtf8}
use Rattle.std.proofs.lemmas.Str.{encodes-chars}
use Rattle.js_lines.specs.Columns.{front_within}
use Rattle.js_lines.specs.declared.columns.ColumnUnit.TheVariants.{Bytes}
use Rattle.js_licences.proofs.sources.text_between.Goals as goal

pub returns : goal.returns
returns c =
    let utf8 : IsUtf8 c.split_at-2.result.0.now = search rules in
    let span = c.args.span in
    sym (encodes-chars c.split_at-2.result.0.now utf8)
    ∙ ap encode_utf8_all (
    c.split_at-2.ensures.front
    ∙ ap (λ n. front_within Bytes n (chars c.split_at.result.1.now)) c.saturating_sub-length.ensures
    ∙ ap (λ cs. front_within Bytes (span.end - span.start) cs) c.split_at.ensures.behind
    )
