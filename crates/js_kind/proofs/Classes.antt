-- Classes of kinds as rows of numbers.
use Rattle.std.proofs.Common.{◌≡◌, ◌||◌, refl}
use Rattle.std.specs.Int.{is_in_range}
use Rattle.js_kind.specs.declared.kind.Kind.{Kind}
use Rattle.js_kind.specs.declared.kind.Kind.TheVariants as variant
use Rattle.js_kind.specs.Kinds.{number, is_kind, is_name_kind, is_identifier_name, is_number_kind, is_reserved_keyword}
use Rattle.js_kind.specs.Kinds.{is_literal}
use Rattle.js_kind.specs.Predicates.{is_contextual_keyword, is_literal_property_name}

-- The numbers of words stand in a row, but for one.
pub words_are_between : (kind : Kind)
    → is_in_range (number variant.Await) (number variant.Null) (number kind)
    || is_kind variant.MatchKw kind
    ≡ is_name_kind kind
unfolding is_name_kind
words_are_between variant.Eof = refl
words_are_between _ = refl

-- So do those of all identifier names.
pub names_are_between : (kind : Kind)
    → is_in_range (number variant.Ident) (number variant.Null) (number kind)
    || is_kind variant.MatchKw kind
    ≡ is_identifier_name kind
unfolding is_identifier_name
names_are_between variant.Eof = refl
names_are_between _ = refl

-- Those of numbers stand in a row.
pub numbers_are_between : (kind : Kind) → is_in_range (number variant.Decimal) (number variant.HexBigInt) (number kind)
    ≡ is_number_kind kind
unfolding is_number_kind
numbers_are_between variant.Eof = refl
numbers_are_between _ = refl

-- The reserved words stand in two rows.
pub reserved_words_are_between : (kind : Kind)
    → is_in_range (number variant.Await) (number variant.With) (number kind)
    || is_in_range (number variant.Yield) (number variant.Null) (number kind)
    ≡ is_reserved_keyword kind
unfolding is_reserved_keyword
reserved_words_are_between variant.Eof = refl
reserved_words_are_between _ = refl

-- So do the literals.
pub literals_are_between : (kind : Kind)
    → is_in_range (number variant.True) (number variant.Null) (number kind)
    || is_in_range (number variant.Decimal) (number variant.RegExp) (number kind)
    ≡ is_literal kind
unfolding is_literal
literals_are_between variant.Eof = refl
literals_are_between _ = refl

-- The words with a meaning of their own stand in a row, but for one.
pub contextual_words_are_between : (kind : Kind)
    → is_in_range (number variant.Async) (number variant.Override) (number kind) || is_kind variant.MatchKw kind
    ≡ is_contextual_keyword kind
unfolding is_contextual_keyword
contextual_words_are_between variant.Eof = refl
contextual_words_are_between _ = refl

-- The names of properties are names, and the numbers and strings, which stand in a row.
pub property_names_by_parts : (kind : Kind)
    → is_identifier_name kind || is_in_range (number variant.Decimal) (number variant.Str) (number kind)
    ≡ is_literal_property_name kind
unfolding is_literal_property_name is_identifier_name
property_names_by_parts variant.Eof = refl
property_names_by_parts _ = refl
