use Rattle.std.proofs.Common.{sym, ap, ◌∙◌}
use Rattle.js_kind.specs.Digits.{is_digit_of}
use Rattle.js_kind.proofs.Digits.{radix_left, digits_of_ten}
use Rattle.js_kind.proofs.kind.Kind.matches_number_byte.Goals as goal

pub returns-in_default : goal.returns-in_default
returns-in_default c =
    let other = c.in_default in
    let radix = radix_left c.args.self c.requires other.not-Binary other.not-Octal other.not-Hex in
    c.is_ascii_digit.ensures.value ∙ digits_of_ten c.args.b ∙ ap (λ n. is_digit_of n c.args.b) (sym radix)
