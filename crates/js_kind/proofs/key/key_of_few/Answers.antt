use Rattle.std.proofs.Common.{arith, sym, ap, ◌∙◌, ◌≡◌, ◌<◌, ◌-◌, drop}
use Rattle.std.proofs.lemmas.List.{take_all}
use Rattle.std.specs.Prelude.{slice_index}
use Rattle.js_kind.specs.Keywords.{bytes_number}
use Rattle.js_kind.proofs.NameKeys.{few_small, one_more}
use Rattle.js_kind.proofs.key.key_of_few.Goals as goal

pub overflow_mul-key : goal.overflow_mul-key
overflow_mul-key c =
    let small = few_small c.args.bytes.now c.loop-left.left (λ k. (c.type_inv.bytes k).fits) c.requires in
    omega (arith, small)

pub overflow_add-key : goal.overflow_add-key
overflow_add-key c =
    let small = few_small c.args.bytes.now c.loop-left.left (λ k. (c.type_inv.bytes k).fits) c.requires in
    let at = c.loop-left.left - 1 in
    let byte : slice_index c.args.bytes.now at < 256 = (c.type_inv.bytes at).fits in
    omega (arith, small)

pub loop-left-preserved : goal.loop-left-preserved
loop-left-preserved c = record {
  within = omega arith;
  number = one_more c.args.bytes.now _ c.loop-left.left c.loop-left.key (omega arith) c.loop-left.invariant.within
      c.loop-left.invariant.number;
}

pub returns : goal.returns
returns c =
    let none : c.loop-left.left ≡ 0 = omega arith in
    c.loop-left.invariant.number
    ∙ ap (λ n. bytes_number (drop n c.args.bytes.now)) none
    ∙ ap bytes_number (sym (take_all 8 c.args.bytes.now (omega (arith, c.requires))))
