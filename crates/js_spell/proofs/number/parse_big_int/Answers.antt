use Rattle.std.proofs.Common.{◌≡◌, ◌<◌, [], ◌∷◌, ◌++◌, get_or, sym, ◌∙◌, ap, arith, inl, inr, append_assoc}
use Rattle.std.proofs.Common.{append-nil, string_bytes}
use Rattle.js_spell.specs.Integer.{without_separators}
use Rattle.js_spell.proofs.IntegerSteps.{NoSeparator, next_digit, next_is_ascii, next_separator, nothing_left}
use Rattle.js_spell.proofs.number.parse_big_int.Goals as goal
use Rattle.js_spell.proofs.number.parse_big_int.Goals.{else-has_sep-via-then-has_sep+else-digit-eq-SEPARATOR as no_underscore}
use Rattle.js_spell.proofs.number.parse_big_int.Goals.{else-has_sep-via-else-has_sep as no_separators}

pub loop-digit-preserved : goal.loop-digit-preserved
loop-digit-preserved c =
    let items = c.behind_prefix-digit-items.result.now in
    let i = c.loop-digit.digit-index in
    let none : NoSeparator c.args.has_sep (get_or items i 0) =
    elim c.else-has_sep.branch
    [ no_underscore w ↦ inr w.if-digit-eq-SEPARATOR.false | no_separators w ↦ inl w.if-has_sep.false ] in
    let next =
    next_digit c.radix_of-radix.result c.args.has_sep items i c.loop-digit-test.true
    c.radix_of-radix.ensures.to_sixteen c.loop-digit.invariant.digits none in
    let ascii =
    next_is_ascii c.radix_of-radix.result c.args.has_sep items i c.loop-digit-test.true
    c.radix_of-radix.ensures.to_sixteen c.loop-digit.invariant.digits in
    let small : c.from.result < 128 = omega arith in
    let pushed : string_bytes c.push.new.self ≡ string_bytes c.loop-digit.digits ++ (get_or items i 0 ∷ []) =
    c.in_ok-push.ensures.bytes
    ∙ ap (λ bytes. string_bytes c.loop-digit.digits ++ bytes)
    (c.push.ensures.ascii small ∙ ap (λ b. b ∷ []) c.from.ensures) in
    record {
      digits_are =
          rw (pushed, append_assoc)
          (ap (λ left. string_bytes c.loop-digit.digits ++ left) (sym next.0) ∙ c.loop-digit.invariant.digits_are);
      digits = next.1;
    }

pub loop-digit-preserved-then-digit-eq-SEPARATOR : goal.loop-digit-preserved-then-digit-eq-SEPARATOR
loop-digit-preserved-then-digit-eq-SEPARATOR c =
    let next = next_separator c.radix_of-radix.result c.args.has_sep c.behind_prefix-digit-items.result.now
    c.loop-digit.digit-index c.loop-digit-test.true c.loop-digit.invariant.digits c.if-digit-eq-SEPARATOR.true in
    record {
      digits_are =
          ap (λ left. string_bytes c.loop-digit.digits ++ left) (sym next.0) ∙ c.loop-digit.invariant.digits_are;
      digits = next.1;
    }

pub returns-clause-digits : goal.returns-clause-digits
returns-clause-digits c =
    let items = c.behind_prefix-digit-items.result.now in
    let end = nothing_left items c.loop-digit.digit-index c.loop-digit-test.false in
    sym (append-nil (string_bytes c.loop-digit.digits))
    ∙ ap (λ left. string_bytes c.loop-digit.digits ++ left) (sym end)
    ∙ c.loop-digit.invariant.digits_are ∙ ap without_separators c.behind_prefix-digit-items.ensures
