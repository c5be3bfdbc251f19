use Rattle.std.proofs.Common.{◌≡◌, ◌-◌, ◌++◌, ap, arith, drop, length, take, ◌∙◌}
use Rattle.js_edited_lines.proofs.EditLemmas.{replaced}
use Rattle.js_base_tests.proofs.edited_lines.replaced.Goals as goal

pub edit-requires : goal.edit-requires
edit-requires c =
    let text = c.args.text.now in
    let from = c.args.from in
    let with = c.args.with.now in
    let whole : from - 0 ≡ from = omega arith in
    let front : c.range.result.now ≡ take from text = c.range.ensures.value ∙ ap (λ n. take n text) whole in
    let new : c.as_str.result.now ≡ take from text ++ with ++ drop c.args.to text =
    c.as_str.ensures.value ∙ c.in_ok-push_str-2.ensures.bytes
    ∙ ap (λ bs. bs ++ c.range_from.result.now) (c.in_ok-push_str.ensures.bytes
    ∙ ap (λ bs. bs ++ with) (c.in_ok-new.ensures.ok ∙ front))
    ∙ ap (λ bs. take from text ++ with ++ bs) c.range_from.ensures.value in
    record {
      old = text;
      lines_are = c.requires;
      short = omega (
        arith,
        ap length c.as_str.ensures.value,
        c.len.ensures,
        c.if-len-gt1000.false,
        c.push_str-2.new.self.bytes.ok.0,
      );
      replaces = replaced text c.as_str.result.now with from c.args.to c.utf8.text c.utf8.with c.if-from-to.false
          (c.is_char_boundary.ensures.test.0 c.if-not-is_char_boundary.false)
          (c.is_char_boundary-2.ensures.test.0 c.if-not-is_char_boundary-2.false) new;
    }
