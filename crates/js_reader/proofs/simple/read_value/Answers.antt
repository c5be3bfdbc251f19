use Rattle.std.proofs.Common.{sym, ◌∙◌}
use Rattle.std.proofs.lemmas.Option.{IfSome_then}
use Rattle.js_kind.proofs.Digits.{digits_of_ten}
use Rattle.js_reader.proofs.SimpleReadings.{simple_string, string_begins, simple_number, number_begins}
use Rattle.js_reader.proofs.simple.read_value.Goals as goal

pub returns-then-is_quote-clause-spells : goal.returns-then-is_quote-clause-spells
returns-then-is_quote-clause-spells c = λ ended.
    IfSome_then c.read_unescaped_string.result c.read_unescaped_string.ensures.some
    (λ kind spells. simple_string ended c.args.source.now c.read_unescaped_string.new.source kind
    (string_begins c.args.b _ c.requires.ascii c.requires.next (sym c.if-is_quote.ensures)) spells)

pub read_unseparated_number-requires-clause-digit : goal.read_unseparated_number-requires-clause-digit
read_unseparated_number-requires-clause-digit c = sym (digits_of_ten c.args.b) ∙ sym c.if-is_ascii_digit.ensures.value

pub returns-then-is_ascii_digit-clause-spells : goal.returns-then-is_ascii_digit-clause-spells
returns-then-is_ascii_digit-clause-spells c = λ ended.
    IfSome_then c.read_unseparated_number.result c.read_unseparated_number.ensures.some
    (λ kind spells. simple_number ended c.args.source.now c.read_unseparated_number.new.source kind
    (number_begins c.args.b _ c.requires.next (sym c.if-is_ascii_digit.ensures.value)) spells)
