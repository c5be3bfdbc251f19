use Rattle.std.proofs.Common.{length, drop, ap, ◌∙◌, ◌-◌}
use Rattle.std.specs.Prelude.{take}
use Rattle.std.specs.Str.{bytes_eq}
use Rattle.js_kind.proofs.NameKeys.{to_end}
use Rattle.js_kind.proofs.keyword.has_end_of.Goals as goal

pub returns : goal.returns
returns c =
    let name = c.args.name.now in
    let bytes = c.as_bytes.result.now in
    let text = c.as_bytes.ensures.value ∙ c.to_str.ensures in
    c.is_same_text.ensures
    ∙ ap (λ xs. bytes_eq xs (take (length bytes - 8) (drop 8 bytes))) (to_end name 8)
    ∙ ap (bytes_eq (drop 8 name)) (to_end bytes 8 ∙ ap (drop 8) text)
