use Rattle.std.proofs.Common.{◌≡◌, true, ◌++◌, drop, string_bytes}
use Rattle.std.specs.List.{list_all}
use Rattle.js_spell.specs.Integer.{is_digit_or_separator, without_separators}
use Rattle.js_spell.proofs.number.parse_big_int.Given as goal

-- The digits so far and those that are left are all.
abbrev pub invariant-loop-digit : goal.invariant-loop-digit
invariant-loop-digit l = record {
  digits_are : string_bytes l.digits ++ without_separators (drop l.digit-index l.digit-items)
      ≡ without_separators l.digit-items;
  digits : list_all (is_digit_or_separator l.radix l.has_sep) (drop l.digit-index l.digit-items) ≡ true;
}
