use Rattle.std.proofs.Common.{◌+◌, ◌*◌, get_or, drop, sym, ◌∙◌, ap, arith, inl, inr}
use Rattle.std.specs.Char.{digit_value}
use Rattle.std.specs.Str.Parse.{digits_value_after}
use Rattle.js_spell.specs.Integer.{without_separators}
use Rattle.js_spell.proofs.IntegerSteps.{NoSeparator, digits_value_after_grows, next_digit, next_separator}
use Rattle.js_spell.proofs.IntegerSteps.{digit_added, nothing_left}
use Rattle.js_spell.proofs.number.parse_int.Goals as goal
use Rattle.js_spell.proofs.number.parse_int.Goals.{else-has_sep-via-then-has_sep+else-b-eq-SEPARATOR as no_underscore}
use Rattle.js_spell.proofs.number.parse_int.Goals.{else-has_sep-via-else-has_sep as no_separators}

pub returns-in_err-value : goal.returns-in_err-value
returns-in_err-value c =
    let items = c.behind_prefix-b-items.result.now in
    let radix = c.radix_of-radix.result in
    let i = c.loop-b.b-index in
    let invariant = c.loop-b.invariant in
    let none : NoSeparator c.args.has_sep (get_or items i 0) =
    elim c.else-has_sep.branch
    [ no_underscore w ↦ inr w.if-b-eq-SEPARATOR.false | no_separators w ↦ inl w.if-has_sep.false ] in
    let added =
    digit_added radix c.loop-b.value c.args.has_sep items i c.loop-b-test.true c.radix_of-radix.ensures.to_sixteen
    invariant.digits none in
    let grown =
    digits_value_after_grows radix (c.loop-b.value * radix + digit_value (get_or items i 0))
    (without_separators (drop (i + 1) items)) (omega arith) in
    let whole = sym added ∙ invariant.value in
    rw (c.from_residual.ensures, ← c.behind_prefix-b-items.ensures, ← c.radix_of-radix.ensures.radix)
    (λ small. c.in_err-value.ensures (omega arith))

pub loop-b-preserved : goal.loop-b-preserved
loop-b-preserved c =
    let items = c.behind_prefix-b-items.result.now in
    let radix = c.radix_of-radix.result in
    let i = c.loop-b.b-index in
    let invariant = c.loop-b.invariant in
    let none : NoSeparator c.args.has_sep (get_or items i 0) =
    elim c.else-has_sep.branch
    [ no_underscore w ↦ inr w.if-b-eq-SEPARATOR.false | no_separators w ↦ inl w.if-has_sep.false ] in
    let added =
    digit_added radix c.loop-b.value c.args.has_sep items i c.loop-b-test.true c.radix_of-radix.ensures.to_sixteen
    invariant.digits none in
    record {
      value =
          ap (λ n. digits_value_after radix n (without_separators (drop (i + 1) items))) c.in_ok-value.ensures.1
          ∙ sym added ∙ invariant.value;
      digits =
          (next_digit radix c.args.has_sep items i c.loop-b-test.true c.radix_of-radix.ensures.to_sixteen
          invariant.digits none).1;
      fits = rw c.in_ok-value.ensures.1 c.in_ok-value.ensures.0;
    }

pub returns : goal.returns
returns c =
    let items = c.behind_prefix-b-items.result.now in
    let end = nothing_left items c.loop-b.b-index c.loop-b-test.false in
    let invariant = c.loop-b.invariant in
    let value = ap (digits_value_after c.radix_of-radix.result c.loop-b.value) (sym end) ∙ invariant.value in
    rw (← c.behind_prefix-b-items.ensures, ← c.radix_of-radix.ensures.radix) (omega arith, value)

pub loop-b-preserved-then-b-eq-SEPARATOR : goal.loop-b-preserved-then-b-eq-SEPARATOR
loop-b-preserved-then-b-eq-SEPARATOR c =
    let next = next_separator c.radix_of-radix.result c.args.has_sep c.behind_prefix-b-items.result.now
    c.loop-b.b-index c.loop-b-test.true c.loop-b.invariant.digits c.if-b-eq-SEPARATOR.true in
    record {
      value =
          ap (digits_value_after c.radix_of-radix.result c.loop-b.value) (sym next.0) ∙ c.loop-b.invariant.value;
      digits = next.1;
      fits = c.loop-b.invariant.fits;
    }
