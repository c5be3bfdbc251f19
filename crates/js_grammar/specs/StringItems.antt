-- The items of strings and templates, characters and escapes (ECMA-262 12.9.4, 12.9.6 and B.1.1), and what is read of
-- a string, good or at fault. An item has a place for its fault, so that both are said of the same items.
use Rattle.std.specs.Prelude.{◌≡◌, ℕ, zero, suc, Bool, true, false, List, [], ◌∷◌, ◌++◌, length, take, drop, ◌==◌}
use Rattle.std.specs.Prelude.{◌&&◌, ◌||◌, not, nat_le, Option, Some, None, if◌then◌else◌}
use Rattle.std.specs.Char.{digit_value}
use Rattle.std.specs.Char.Escape.{encode_utf16}
use Rattle.std.specs.List.{list_any, list_all}
use Rattle.std.specs.Str.Parse.{digits_value}
use Rattle.js_text.specs.Ascii.{line_feed, carriage_return, quotation_mark, apostrophe, backslash}
use Rattle.js_text.specs.Characters.{begins, before_first, is_line_terminator}
use Rattle.js_text.specs.declared.diagnostic.Diagnostic.{Diagnostic}
use Rattle.js_text.specs.declared.diagnostic.Diagnostic.TheVariants.{UnterminatedString, InvalidEscapeSequence}
use Rattle.js_text.specs.declared.span.Span.{Span}
use Rattle.js_text.specs.declared.value.RowValue.{RowValue}
use Rattle.js_text.specs.declared.value.RowValue.TheVariants.{Nothing, Units, Bad}
use Rattle.js_grammar.specs.TokenText.{text_slice}
use Rattle.js_kind.specs.Digits.{is_digit_of}
use Rattle.js_kind.specs.declared.kind.Kind.{Kind}
use Rattle.js_kind.specs.declared.kind.Kind.TheVariants.{Undetermined, Str}
use Rattle.js_grammar.specs.Number.{digit_zero, latin_small_letter_n}
use Rattle.js_grammar.specs.Reading.{Reading, read_up_to, place_behind, size_of}
use Rattle.js_grammar.specs.UnicodeEscape.{UnicodeEscape, hex_digits, unicode_escape}

abbrev pub backspace : ℕ
backspace = 0x08

abbrev pub character_tabulation : ℕ
character_tabulation = 0x09

abbrev pub line_tabulation : ℕ
line_tabulation = 0x0B

abbrev pub form_feed : ℕ
form_feed = 0x0C

abbrev pub latin_small_letter_b : ℕ
latin_small_letter_b = 0x62

abbrev pub latin_small_letter_f : ℕ
latin_small_letter_f = 0x66

abbrev pub latin_small_letter_r : ℕ
latin_small_letter_r = 0x72

abbrev pub latin_small_letter_t : ℕ
latin_small_letter_t = 0x74

abbrev pub latin_small_letter_u : ℕ
latin_small_letter_u = 0x75

abbrev pub latin_small_letter_v : ℕ
latin_small_letter_v = 0x76

abbrev pub latin_small_letter_x : ℕ
latin_small_letter_x = 0x78

-- What may be wrong with an item: it is an escape that stands for nothing, or a `\` behind which the source ends.
pub data Fault : Type 0 where
  no_fault : Fault
  bad_escape : Fault
  unfinished_escape : Fault

-- An item as it stands in a text: its characters, its UTF-16 units, whether it is more than the character that it
-- stands for, its fault, and what is left of the text behind it.
pub record StringItem : Type 0 where
  pub text : List ℕ
  pub units : List ℕ
  pub is_escaped : Bool
  pub fault : Fault
  pub rest : List ℕ

-- a character that stands for itself
abbrev pub ordinary_item : ℕ → List ℕ → StringItem
ordinary_item c cs =
    record { text = c ∷ []; units = encode_utf16 c; is_escaped = false; fault = no_fault; rest = cs }

-- a good escape, with these characters behind its `\`
abbrev pub good_escape : List ℕ → List ℕ → List ℕ → StringItem
good_escape xs units rest =
    record { text = backslash ∷ xs; units = units; is_escaped = true; fault = no_fault; rest = rest }

-- an escape at fault, with these characters behind its `\`
abbrev pub faulty_escape : Fault → List ℕ → List ℕ → StringItem
faulty_escape fault xs rest =
    record { text = backslash ∷ xs; units = []; is_escaped = true; fault = fault; rest = rest }

-- a line terminator behind a `\`; CR LF is one
unfoldable pub line_continuation : ℕ → List ℕ → StringItem
line_continuation c cs =
    if (c == carriage_return) && begins (λ d. d == line_feed) cs
    then good_escape (carriage_return ∷ line_feed ∷ []) [] (drop 1 cs) else good_escape (c ∷ []) [] cs

-- an escape by these characters, if they have a code point; that of a surrogate is one unit, whatever stands beside it
abbrev pub escape_of : List ℕ → Option ℕ → List ℕ → StringItem
escape_of xs (Some c) rest = good_escape xs (encode_utf16 c) rest
escape_of xs None rest = faulty_escape bad_escape xs rest

-- an escape by digits, which stand behind a letter
abbrev pub digits_escape : ℕ → UnicodeEscape → StringItem
digits_escape letter digits = escape_of (letter ∷ digits.text) digits.code_point digits.rest

abbrev pub is_no_octal_digit : ℕ → Bool
is_no_octal_digit c = not (is_digit_of 8 c)

-- how many octal digits may follow one in an escape: the number stays below 256
abbrev pub further_octal_digits : ℕ → ℕ
further_octal_digits c = if nat_le (digit_value c) 3 then 2 else 1

-- the further octal digits that stand here, so many at most
abbrev pub octal_digits : ℕ → List ℕ → List ℕ
octal_digits most text = before_first is_no_octal_digit (take most text)

-- an octal escape, from its first digit on (B.1.1)
unfoldable pub octal_escape : ℕ → List ℕ → StringItem
octal_escape c cs =
    let more = octal_digits (further_octal_digits c) cs in
    good_escape (c ∷ more) (digits_value 8 (c ∷ more) ∷ []) (drop (length more) cs)

-- a digit behind a `\` in a template: `0` alone is an escape, which no digit may follow
unfoldable pub digit_in_template : ℕ → List ℕ → StringItem
digit_in_template c cs =
    if not (c == digit_zero) then faulty_escape bad_escape (c ∷ []) cs
    else if begins (is_digit_of 10) cs then faulty_escape bad_escape (c ∷ take 1 cs) (drop 1 cs)
    else good_escape (c ∷ []) (0 ∷ []) cs

-- what a single character behind a `\` stands for: a control character, or itself
unfoldable pub single_character : ℕ → ℕ
single_character c =
    if c == latin_small_letter_b then backspace
    else if c == latin_small_letter_f then form_feed
    else if c == latin_small_letter_n then line_feed
    else if c == latin_small_letter_r then carriage_return
    else if c == latin_small_letter_t then character_tabulation
    else if c == latin_small_letter_v then line_tabulation
    else c

-- a single character behind a `\`
abbrev pub character_escape : ℕ → List ℕ → StringItem
character_escape c cs = good_escape (c ∷ []) (encode_utf16 (single_character c)) cs

-- a digit behind a `\`
unfoldable pub digit_escape : Bool → ℕ → List ℕ → StringItem
digit_escape in_template c cs =
    if in_template then digit_in_template c cs
    else if is_digit_of 8 c then octal_escape c cs
    else character_escape c cs

-- An escape, from what stands behind its `\` on; the flag tells whether it stands in a template.
unfoldable pub escape : Bool → List ℕ → StringItem
escape in_template [] = faulty_escape unfinished_escape [] []
escape in_template (c ∷ cs) =
    if is_line_terminator c then line_continuation c cs
    else if c == latin_small_letter_x then digits_escape c (hex_digits 2 cs)
    else if c == latin_small_letter_u then digits_escape c (unicode_escape cs)
    else if is_digit_of 10 c then digit_escape in_template c cs
    else character_escape c cs

-- the quotes of strings
abbrev pub is_quote : ℕ → Bool
is_quote c = (c == quotation_mark) || (c == apostrophe)

-- the characters at which a string with this quote ends, good or broken
abbrev pub ends_string : ℕ → ℕ → Bool
ends_string quote c = (c == quote) || ((c == line_feed) || (c == carriage_return))

-- The item of a string with this quote that the text begins with.
abbrev pub string_item : ℕ → List ℕ → Option StringItem
string_item quote [] = None
string_item quote (c ∷ cs) =
    if c == backslash then Some (escape false cs)
    else if ends_string quote c then None
    else Some (ordinary_item c cs)

-- items one after the other, and what is left of the text behind them
pub record StringItems : Type 0 where
  pub items : List StringItem
  pub rest : List ℕ

-- no further item
abbrev pub no_item : List ℕ → StringItems
no_item text = record { items = []; rest = text }

-- items, and those behind them
abbrev pub items_before : List StringItem → StringItems → StringItems
items_before items more = record more { items = items ++ more.items }

-- an item where there is one, and those behind it
abbrev pub with_item : Option StringItem → (List ℕ → StringItems) → List ℕ → StringItems
with_item None more text = no_item text
with_item (Some item) more text = items_before (item ∷ []) (more item.rest)

-- the items that the text begins with, so many at most
abbrev pub items_up_to : (List ℕ → Option StringItem) → ℕ → List ℕ → StringItems
items_up_to step zero text = no_item text
items_up_to step (suc most) text = with_item (step text) (items_up_to step most) text

-- All items that the text begins with, each the one that the step finds where the one before it ends: there are no more
-- of them than characters.
abbrev pub all_items : (List ℕ → Option StringItem) → List ℕ → StringItems
all_items step text = items_up_to step (length text) text

-- the characters of items
abbrev pub string_text : List StringItem → List ℕ
string_text [] = []
string_text (item ∷ items) = item.text ++ string_text items

-- their units
abbrev pub string_units : List StringItem → List ℕ
string_units [] = []
string_units (item ∷ items) = item.units ++ string_units items

-- one of them is more than the character that it stands for
abbrev pub contains_escape : List StringItem → Bool
contains_escape items = list_any (λ item. item.is_escaped) items

abbrev pub is_good : Fault → Bool
is_good no_fault = true
is_good bad_escape = false
is_good unfinished_escape = false

-- none of them has a fault
abbrev pub are_good : List StringItem → Bool
are_good items = list_all (λ item. is_good item.fault) items

abbrev pub is_bad_escape : Fault → Bool
is_bad_escape no_fault = false
is_bad_escape bad_escape = true
is_bad_escape unfinished_escape = false

-- an escape that stands for nothing is among them
abbrev pub contains_bad_escape : List StringItem → Bool
contains_bad_escape items = list_any (λ item. is_bad_escape item.fault) items

-- the stretch from one place to another
abbrev pub stretch : ℕ → ℕ → Span
stretch from to = record { start = from; end = to }

-- what is reported of an item with the fault, which goes from a place to an end, in a token that begins at the start
abbrev pub fault_reports : Bool → ℕ → ℕ → ℕ → Fault → List Diagnostic
fault_reports in_template start place end no_fault = []
fault_reports in_template start place end bad_escape =
    if in_template then [] else InvalidEscapeSequence (stretch place end) ∷ []
fault_reports in_template start place end unfinished_escape = UnterminatedString (stretch start end) ∷ []

-- what is reported of items that begin at a place, in a token that begins at the start
abbrev pub item_reports : Bool → ℕ → ℕ → List StringItem → List Diagnostic
item_reports in_template start place [] = []
item_reports in_template start place (item ∷ items) =
    let end = place_behind place item.text in
    fault_reports in_template start place end item.fault ++ item_reports in_template start end items

-- The value of a string or template: none, UTF-16 units, or that there is a bad escape in a template.
pub data StringValue : Type 0 where
  no_value : StringValue
  units : List ℕ → StringValue
  bad_value : StringValue

-- what the value of items is as that of a token
abbrev pub row_value : StringValue → RowValue
row_value no_value = Nothing
row_value (units us) = Units us
row_value bad_value = Bad

-- The value of a string or a part of a template of so many bytes: what stands between its marks, or where something in
-- it is escaped, what its items stand for.
abbrev pub quoted_value : Bool → StringValue → Kind → ℕ → RowValue
quoted_value escaped value kind size = if escaped then row_value value else text_slice kind 0 size

-- What is read where the mark that ends it is missing: the character that stands there belongs to the token, if there
-- is one. The text begins with a mark of one byte.
abbrev pub unterminated : Bool → List ℕ → StringItems → Reading
unterminated in_template text found = record (read_up_to Undetermined text (drop 1 found.rest)) {
  diagnostics =
      item_reports in_template 0 1 found.items
      ++ UnterminatedString (stretch 0 (place_behind 1 (string_text found.items ++ take 1 found.rest))) ∷ [];
}

-- what is read of a string that its quote ends
abbrev pub terminated_string : List ℕ → StringItems → Reading
terminated_string text found = record (read_up_to Str text (drop 1 found.rest)) {
  escaped = contains_escape found.items;
  value =
      quoted_value (contains_escape found.items) (units (string_units found.items)) Str
      (size_of (read_up_to Str text (drop 1 found.rest)));
  diagnostics = item_reports false 0 1 found.items;
}

-- the items behind the quote of a string
abbrev pub string_items : ℕ → List ℕ → StringItems
string_items quote text = all_items (string_item quote) text

-- what is read of items behind the quote that the text begins with, by what stands behind them
unfoldable pub string_of_items : ℕ → List ℕ → StringItems → Reading
string_of_items quote text found =
    if begins (λ c. c == quote) found.rest then terminated_string text found else unterminated false text found

-- What is read of a string with this quote, where the text is what follows the quote.
abbrev pub string_reading : ℕ → List ℕ → Reading
string_reading quote text = string_of_items quote (quote ∷ text) (string_items quote text)

-- The characters xs are a string where ys follow them: a quote, all items that follow it, without fault, and the same
-- quote.
pub record IsString (xs ys : List ℕ) : Type 0 where
  pub quote : ℕ
  pub is_quote : is_quote quote ≡ true
  pub items : List StringItem
  pub here : xs ≡ quote ∷ (string_text items ++ quote ∷ [])
  pub found : string_items quote (string_text items ++ quote ∷ ys) ≡ record { items = items; rest = quote ∷ ys }
  pub good : are_good items ≡ true
