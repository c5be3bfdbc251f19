use Rattle.std.proofs.Common.{arith, ap, ◌∙◌, ◌-◌, drop, bit_and}
use Rattle.js_kind.specs.Keywords.{key_of, mask}
use Rattle.js_kind.proofs.NameKeys.{are_bytes_from, mask_at, masked, to_end}
use Rattle.js_kind.proofs.key.key_between.Goals as goal

pub returns : goal.returns
returns c =
    let text = c.args.text.now in
    let from = c.args.from in
    let length = c.args.to - from in
    ap (bit_and c.key_of.result) (mask_at c.masks.result.now length c.masks.ensures (omega (arith, c.requires.short)))
    ∙ ap (λ key. bit_and key (mask length)) (c.key_of.ensures ∙ ap key_of (to_end text from))
    ∙ masked (drop from text) length (are_bytes_from text from (λ k. (c.type_inv.text k).fits))
