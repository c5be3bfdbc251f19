-- Names and private names, and what is read where one begins (ECMA-262 12.7).
use Rattle.std.specs.Prelude.{◌≡◌, ◌≢◌, ℕ, ◌+◌, ◌-◌, zero, suc, Bool, true, false, List, [], ◌∷◌, ◌++◌, length, drop}
use Rattle.std.specs.Prelude.{◌==◌, ◌&&◌, ◌||◌, not, Option, Some, None, is_some, if◌then◌else◌}
use Rattle.std.specs.Char.Utf16.{is_high_surrogate, is_low_surrogate}
use Rattle.std.specs.List.{list_any, flat_map}
use Rattle.std.specs.Option.{option_map_or}
use Rattle.std.specs.Str.{encode_utf8_all}
use Rattle.js_text.specs.Ascii.{backslash}
use Rattle.js_text.specs.Characters.{begins, is_identifier_start, is_identifier_part}
use Rattle.js_text.specs.JsStr.{units_of}
use Rattle.js_text.specs.declared.diagnostic.Diagnostic.{Diagnostic}
use Rattle.js_text.specs.declared.diagnostic.Diagnostic.TheVariants.{InvalidCharacter, UnexpectedEnd}
use Rattle.js_text.specs.declared.diagnostic.Diagnostic.TheVariants.{UnicodeEscapeSequence}
use Rattle.js_text.specs.declared.value.RowValue.{RowValue}
use Rattle.js_text.specs.declared.value.RowValue.TheVariants.{Slice, Units}
use Rattle.js_grammar.specs.Gap.{is_prefix}
use Rattle.js_grammar.specs.NumberReads.{empty_span}
use Rattle.js_grammar.specs.Reading.{Reading, read_up_to, place_behind}
use Rattle.js_grammar.specs.UnicodeEscape.{UnicodeEscape, unicode_escape, four_digits, left_curly_bracket}
use Rattle.js_kind.specs.Keywords.{name_kind}
use Rattle.js_kind.specs.declared.kind.Kind.{Kind}
use Rattle.js_kind.specs.declared.kind.Kind.TheVariants.{Eof, PrivateIdentifier, Undetermined}

abbrev pub latin_small_letter_u : ℕ
latin_small_letter_u = 0x75

-- the characters that end a name without escapes
abbrev pub is_no_part : ℕ → Bool
is_no_part c = not (is_identifier_part c)

-- What is wrong with an escape in a name: it is none of a character, or the character that it stands for may not stand
-- there.
pub data NameFault : Type 0 where
  bad_escape : NameFault
  not_allowed : ℕ → NameFault

-- An item of a name, good or at fault: its own characters, the characters that it stands for (one, or none where it is
-- at fault), whether it is an escape, and its fault.
pub record NameItem : Type 0 where
  pub text : List ℕ
  pub value : List ℕ
  pub is_escape : Bool
  pub fault : Option NameFault

-- a character that stands for itself
abbrev pub ordinary_item : ℕ → NameItem
ordinary_item c = record { text = c ∷ []; value = c ∷ []; is_escape = false; fault = None }

-- an escape of a character
abbrev pub good_escape : List ℕ → ℕ → NameItem
good_escape text c = record { text = text; value = c ∷ []; is_escape = true; fault = None }

-- an escape at fault
abbrev pub faulty_escape : List ℕ → NameFault → NameItem
faulty_escape text fault = record { text = text; value = []; is_escape = true; fault = Some fault }

-- surrogates of either half
abbrev pub is_surrogate : ℕ → Bool
is_surrogate c = is_high_surrogate c || is_low_surrogate c

-- the escape of a low surrogate by four digits that the text begins with: its characters, or none
unfoldable pub low_surrogate_escape : List ℕ → List ℕ
low_surrogate_escape text =
    let digits = four_digits (drop 2 text) in
    if is_prefix (backslash ∷ latin_small_letter_u ∷ []) text
    && option_map_or is_low_surrogate digits.code_point false
    then backslash ∷ latin_small_letter_u ∷ digits.text
    else []

-- What a surrogate's escape takes behind `\u`: where it is a high one of four digits, the escape of a low one too.
unfoldable pub surrogate_text : ℕ → UnicodeEscape → List ℕ
surrogate_text c escape =
    if is_high_surrogate c && not (begins (λ d. d == left_curly_bracket) escape.text)
    then escape.text ++ low_surrogate_escape escape.rest
    else escape.text

-- the item whose `\u` is followed by digits that stand for the code point, where the class has the characters that are
-- allowed
unfoldable pub item_of_code_point : (ℕ → Bool) → UnicodeEscape → ℕ → NameItem
item_of_code_point allowed escape c =
    if is_surrogate c
    then faulty_escape (backslash ∷ latin_small_letter_u ∷ surrogate_text c escape) bad_escape
    else if allowed c then good_escape (backslash ∷ latin_small_letter_u ∷ escape.text) c
    else faulty_escape (backslash ∷ latin_small_letter_u ∷ escape.text) (not_allowed c)

-- the item whose `\u` is followed by what was taken of a unicode escape
unfoldable pub item_of_escape : (ℕ → Bool) → UnicodeEscape → NameItem
item_of_escape allowed escape =
    option_map_or (item_of_code_point allowed escape) escape.code_point
    (faulty_escape (backslash ∷ latin_small_letter_u ∷ escape.text) bad_escape)

-- the item that begins with a `\`, where the text is what follows it
unfoldable pub escape_item : (ℕ → Bool) → List ℕ → NameItem
escape_item allowed [] = faulty_escape (backslash ∷ []) bad_escape
escape_item allowed (c ∷ cs) =
    if c == latin_small_letter_u then item_of_escape allowed (unicode_escape cs)
    else faulty_escape (backslash ∷ c ∷ []) bad_escape

-- The item of a name that the text begins with, where the class has the characters that are allowed.
abbrev pub name_item : (ℕ → Bool) → List ℕ → Option NameItem
name_item allowed [] = None
name_item allowed (c ∷ cs) =
    if c == backslash then Some (escape_item allowed cs)
    else if allowed c then Some (ordinary_item c)
    else None

-- The items that the text begins with, once so many of its characters are skipped, which belong to an item before
-- them. Every item but the first is of a character that goes on with a name.
abbrev pub items_at : ℕ → (ℕ → Bool) → List ℕ → List NameItem
items_at skipped allowed [] = []
items_at (suc skipped) allowed (c ∷ cs) = items_at skipped allowed cs
items_at zero allowed (c ∷ cs) =
    option_map_or (λ item. item ∷ items_at (length item.text - 1) is_identifier_part cs)
    (name_item allowed (c ∷ cs)) []

-- The items of a name that the text begins with, where the class has the characters that the first one may be of.
abbrev pub name_items : (ℕ → Bool) → List ℕ → List NameItem
name_items allowed text = items_at 0 allowed text

-- The text begins with these items, each of them what stands where the one before it ends; they are all, and then rest
-- is left. The first one may be of the characters that are allowed.
abbrev pub CutsInto : (ℕ → Bool) → List ℕ → List NameItem → List ℕ → Type 0
CutsInto allowed text [] rest = (name_item allowed text ≡ None) × (rest ≡ text)
CutsInto allowed text (item ∷ items) rest =
    (name_item allowed text ≡ Some item)
    × CutsInto is_identifier_part (drop (length item.text) text) items rest

-- the characters of items
abbrev pub items_text : List NameItem → List ℕ
items_text [] = []
items_text (item ∷ items) = item.text ++ items_text items

-- the characters that items stand for
abbrev pub items_value : List NameItem → List ℕ
items_value items = flat_map (λ item. item.value) items

-- an item is at fault
abbrev pub has_fault : List NameItem → Bool
has_fault items = list_any (λ item. is_some item.fault) items

-- a name begins here, good or at fault
abbrev pub begins_name : List ℕ → Bool
begins_name text = begins (λ c. is_identifier_start c || (c == backslash)) text

-- what may not follow a name, since it would go on with it
abbrev pub continues_name : List ℕ → Bool
continues_name text = begins (λ c. is_identifier_part c || (c == backslash)) text

-- The characters xs are a name: items, none of them at fault.
pub record IsName (xs : List ℕ) : Type 0 where
  pub some : xs ≢ []
  pub whole : items_text (name_items is_identifier_start xs) ≡ xs
  pub good : has_fault (name_items is_identifier_start xs) ≡ false

-- the characters that those of a name stand for
abbrev pub decoded : List ℕ → List ℕ
decoded xs = items_value (name_items is_identifier_start xs)

-- an escape is among the characters of a name: each begins with a `\`, which stands nowhere else
abbrev pub has_escape : List ℕ → Bool
has_escape xs = list_any (λ c. c == backslash) xs

-- what is reported of a fault of an item from the place up to the end
abbrev pub fault_report : ℕ → ℕ → NameFault → Diagnostic
fault_report place end bad_escape = UnicodeEscapeSequence (record { start = place + 1; end = end })
fault_report place end (not_allowed c) = InvalidCharacter c (empty_span end)

-- what is reported of an item that begins at the place
abbrev pub item_report : ℕ → NameItem → List Diagnostic
item_report place item =
    option_map_or (λ fault. fault_report place (place_behind place item.text) fault ∷ []) item.fault []

-- what is reported of items that begin at the place
abbrev pub items_report : ℕ → List NameItem → List Diagnostic
items_report place [] = []
items_report place (item ∷ items) = item_report place item ++ items_report (place_behind place item.text) items

-- The value of a name from start to end, without a `#`, that stands for these characters: its stretch of the source, or
-- where it has an escape, its characters as UTF-16 units.
abbrev pub name_value : Bool → List ℕ → ℕ → ℕ → RowValue
name_value escaped cs start end =
    if escaped then Units (units_of cs) else Slice (record { start = start; end = end })

-- an escape is among items
abbrev pub contains_escape : List NameItem → Bool
contains_escape items = list_any (λ item. item.is_escape) items

-- what is left of a text that begins with items
abbrev pub behind_items : List NameItem → List ℕ → List ℕ
behind_items items text = drop (length (items_text items)) text

-- what is read of items, where the text begins with them
unfoldable pub items_reading : List NameItem → List ℕ → Reading
items_reading items text =
    record (read_up_to (name_kind (encode_utf8_all (items_value items))) text (behind_items items text)) {
      escaped = contains_escape items;
      value = name_value (contains_escape items) (items_value items) 0 (length (encode_utf8_all (items_text items)));
      diagnostics = items_report 0 items;
    }

-- What is read of the name that the text begins with.
abbrev pub name_reading : List ℕ → Reading
name_reading text = items_reading (name_items is_identifier_start text) text

-- a private name of these items, which stand behind the `#` that the text begins with
unfoldable pub private_name_of : List NameItem → List ℕ → Reading
private_name_of items text = record (read_up_to PrivateIdentifier text (behind_items items (drop 1 text))) {
  escaped = contains_escape items;
  value = name_value (contains_escape items) (items_value items) 1 (1 + length (encode_utf8_all (items_text items)));
  diagnostics = items_report 1 items;
}

-- a `#` that no name follows: all that is left of the source belongs to the token
abbrev pub unnamed : Kind → List ℕ → Diagnostic → Reading
unnamed kind text diagnostic = record (read_up_to kind text []) { diagnostics = diagnostic ∷ [] }

-- what is read of a `#` that this follows, and no name
abbrev pub no_private_name : List ℕ → List ℕ → Reading
no_private_name text [] = unnamed Undetermined text (UnexpectedEnd (empty_span 1))
no_private_name text (c ∷ cs) =
    unnamed Eof text (InvalidCharacter c (record { start = 1; end = place_behind 1 (c ∷ []) }))

-- What is read of the `#` that the text begins with, and what follows it.
abbrev pub private_reading : List ℕ → Reading
private_reading text =
    if begins_name (drop 1 text) then private_name_of (name_items is_identifier_start (drop 1 text)) text
    else no_private_name text (drop 1 text)
