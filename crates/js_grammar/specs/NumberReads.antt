-- What is read of a number, good or at fault (ECMA-262 12.9.3 and B.1.1).
use Rattle.std.specs.Prelude.{ℕ, Bool, List, [], ◌∷◌, ◌++◌, length, take, drop, ◌==◌, not, codes, Option, Some}
use Rattle.std.specs.Prelude.{None, if◌then◌else◌}
use Rattle.std.specs.List.{list_any}
use Rattle.js_text.specs.Characters.{begins, from_first, before_first, is_identifier_start}
use Rattle.js_text.specs.declared.diagnostic.Diagnostic.{Diagnostic}
use Rattle.js_text.specs.declared.diagnostic.Diagnostic.TheVariants.{InvalidCharacter, UnexpectedEnd, InvalidNumberEnd}
use Rattle.js_text.specs.declared.span.Span.{Span}
use Rattle.js_text.specs.Ascii.{full_stop, low_line, plus_sign, hyphen_minus}
use Rattle.js_grammar.specs.Number.{Item, whole, run, integer, are_digits, Base, base_of, Sign, sign_text}
use Rattle.js_kind.specs.Digits.{is_digit_of}
use Rattle.js_grammar.specs.Number.{sign_kind, is_exponent_indicator, digit_zero, latin_small_letter_n}
use Rattle.js_grammar.specs.Number.{may_not_follow_number}
use Rattle.js_grammar.specs.Number.Sign.{no_sign, plus, minus}
use Rattle.js_grammar.specs.Reading.{Reading, read_up_to, place_behind}
use Rattle.js_kind.specs.declared.kind.Kind.{Kind}
use Rattle.js_kind.specs.declared.kind.Kind.TheVariants.{Eof, Decimal, Float, Octal, DecimalBigInt}

-- A number or the end of one, cut into items: these, its kind, and what is left of the text.
pub record Items : Type 0 where
  pub items : List Item
  pub kind : Kind
  pub rest : List ℕ

-- no further item
abbrev pub no_items : Kind → List ℕ → Items
no_items kind text = record { items = []; kind = kind; rest = text }

-- one more item in front
abbrev pub items-cons : Item → Items → Items
items-cons item more = record more { items = item ∷ more.items }

-- one item at the end
abbrev pub last_item : Kind → Item → Items
last_item kind item = record { items = item ∷ []; kind = kind; rest = item.rest }

-- the sign that stands here
abbrev pub sign_of : List ℕ → Sign
sign_of [] = no_sign
sign_of (c ∷ cs) = if c == hyphen_minus then minus else if c == plus_sign then plus else no_sign

-- an exponent whose mark and sign are known, where the text is what follows the mark
unfoldable pub exponent_items : ℕ → Sign → List ℕ → Items
exponent_items mark sign text = let rest = drop (length (sign_text sign)) text in
    items-cons (whole (mark ∷ sign_text sign) rest) (last_item (sign_kind sign) (run 10 rest))

-- an exponent, or none, and then this kind
unfoldable pub exponent_or : Kind → List ℕ → Items
exponent_or kind [] = no_items kind []
exponent_or kind (c ∷ cs) = if is_exponent_indicator c then exponent_items c (sign_of cs) cs else no_items kind (c ∷ cs)

-- a run where a digit stands, and then an exponent or none
unfoldable pub fraction_items : List ℕ → Items
fraction_items text =
    if begins (is_digit_of 10) text then items-cons (run 10 text) (exponent_or Float (run 10 text).rest)
    else exponent_or Float text

-- a point and what follows it
unfoldable pub point_items : List ℕ → Items
point_items text = record (items-cons (whole (codes ".") (drop 1 text)) (fraction_items (drop 1 text))) { kind = Float }

-- what follows the digits that a point or an exponent may follow
unfoldable pub behind_digits : List ℕ → Items
behind_digits text = if begins (λ c. c == full_stop) text then point_items text else exponent_or Decimal text

-- the suffix `n`, with its kind, or else the items that there are without it
unfoldable pub suffix_or : Kind → Items → List ℕ → Items
suffix_or big_kind without text =
    if begins (λ c. c == latin_small_letter_n) text then last_item big_kind
    (whole (codes "n") (drop 1 text)) else without

-- a decimal number
unfoldable pub decimal_items : List ℕ → Items
decimal_items text =
    let digits = integer text in items-cons digits (suffix_or DecimalBigInt (behind_digits digits.rest) digits.rest)

-- all but the decimal digits
abbrev pub is_no_digit : ℕ → Bool
is_no_digit c = not (is_digit_of 10 c)

-- all digits that stand here, with no `_`
unfoldable pub unseparated_digits : List ℕ → Item
unseparated_digits text = whole (before_first is_no_digit text) (from_first is_no_digit text)

-- a number that begins with `0` and a digit (B.1.1)
unfoldable pub legacy_items : List ℕ → Items
legacy_items text =
    let digits = unseparated_digits text in
    if are_digits 8 digits.text then last_item Octal digits else items-cons digits (behind_digits digits.rest)

-- The digits behind a prefix, and what follows them. Where a digit is missing, nothing more is read, and all that is
-- left of the source belongs to the token.
unfoldable pub behind_prefix : Base → Item → Items
behind_prefix base digits =
    if digits.lacks_digit then record { items = digits ∷ []; kind = Eof; rest = [] }
    else items-cons digits (suffix_or base.big_kind (no_items base.kind digits.rest) digits.rest)

-- a number that begins with `0`, which the letter of a base may follow
unfoldable pub zero_items : Option Base → List ℕ → Items
zero_items (Some base) text =
    items-cons (whole (take 2 text) (drop 2 text)) (behind_prefix base (run base.radix (drop 2 text)))
zero_items None text = if begins (is_digit_of 10) (drop 1 text) then legacy_items text else decimal_items text

-- the base whose letter stands here
abbrev pub base_at : List ℕ → Option Base
base_at [] = None
base_at (c ∷ cs) = base_of c

-- the number that the text begins with
unfoldable pub number_items : List ℕ → Items
number_items text =
    if begins (λ c. c == full_stop) text then point_items text
    else if begins (λ c. c == digit_zero) text then zero_items (base_at (drop 1 text)) text
    else decimal_items text

-- the characters of items
abbrev pub items_text : List Item → List ℕ
items_text [] = []
items_text (item ∷ items) = item.text ++ items_text items

-- a `_` is among characters
abbrev pub contains_separator : List ℕ → Bool
contains_separator xs = list_any (λ c. c == low_line) xs

-- the empty span at a place
abbrev pub empty_span : ℕ → Span
empty_span place = record { start = place; end = place }

-- what is reported where a digit is missing: the character that stands there, or the end of the source
abbrev pub missing_digit : ℕ → List ℕ → Diagnostic
missing_digit place [] = UnexpectedEnd (empty_span place)
missing_digit place (c ∷ cs) = InvalidCharacter c (empty_span place)

-- what is reported of items that begin at a place
abbrev pub missing_digits : ℕ → List Item → List Diagnostic
missing_digits place [] = []
missing_digits place (item ∷ items) =
    let end = place_behind place item.text in
    if item.lacks_digit then missing_digit end item.rest ∷ missing_digits end items else missing_digits end items

-- the characters that begin no name
abbrev pub is_no_start : ℕ → Bool
is_no_start c = not (is_identifier_start c)

-- the first character, which may not follow a number, and the following ones that begin names
abbrev pub invalid_end : List ℕ → List ℕ
invalid_end [] = []
invalid_end (c ∷ cs) = c ∷ before_first is_no_start cs

-- what is reported of the text at a place behind a number that it may not follow
abbrev pub invalid_number_end : ℕ → List ℕ → Diagnostic
invalid_number_end place text =
    InvalidNumberEnd (record { start = place; end = place_behind place (invalid_end text) })

-- what is read of items that begin the text and end well
abbrev pub well_ended : List ℕ → Items → Reading
well_ended text number = record (read_up_to number.kind text number.rest) {
  has_separator = contains_separator (items_text number.items);
  diagnostics = missing_digits 0 number.items;
}

-- and of items that a text follows which may not: the token goes on to the end of the source
abbrev pub badly_ended : List ℕ → Items → Reading
badly_ended text number = record (read_up_to Eof text []) {
  has_separator = contains_separator (items_text number.items);
  diagnostics =
      missing_digits 0 number.items
      ++ invalid_number_end (place_behind 0 (items_text number.items)) number.rest ∷ [];
}

-- what is read of items that begin the text
unfoldable pub items_reading : List ℕ → Items → Reading
items_reading text number =
    if begins may_not_follow_number number.rest then badly_ended text number else well_ended text number

-- What is read of the number that the text begins with.
abbrev pub number_reading : List ℕ → Reading
number_reading text = items_reading text (number_items text)
