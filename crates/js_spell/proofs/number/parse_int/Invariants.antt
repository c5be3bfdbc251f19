use Rattle.std.proofs.Common.{◌≡◌, ◌<◌, ◌^◌, true, drop}
use Rattle.std.specs.List.{list_all}
use Rattle.std.specs.Str.Parse.{digits_value, digits_value_after}
use Rattle.js_spell.specs.Integer.{is_digit_or_separator, without_separators}
use Rattle.js_spell.proofs.number.parse_int.Given as goal

-- The digits that are left go on from the value so far to the value of all.
abbrev pub invariant-loop-b : goal.invariant-loop-b
invariant-loop-b l = record {
  value : digits_value_after l.radix l.value (without_separators (drop l.b-index l.b-items))
      ≡ digits_value l.radix (without_separators l.b-items);
  digits : list_all (is_digit_or_separator l.radix l.has_sep) (drop l.b-index l.b-items) ≡ true;
  fits : l.value < 2 ^ 128;
}
