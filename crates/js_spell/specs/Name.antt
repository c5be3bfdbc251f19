-- The steps of reading a name.
use Rattle.std.specs.Prelude.{◌≡◌, ℕ, ◌+◌, ◌<◌, Bool, true, false, List, [], ◌∷◌, ◌++◌, ◌==◌, map, length, Option, Some}
use Rattle.std.specs.Prelude.{None, option_to_list, drop, ◌⊎◌, nat_lt, ◌&&◌}
use Rattle.std.specs.List.{list_any}
use Rattle.std.specs.Str.{chars, encode_utf8_all, IsUtf8}
use Rattle.js_text.specs.Ascii.{backslash, number_sign}
use Rattle.js_text.specs.Characters.{begins, from_first, is_identifier_start, is_identifier_part}
use Rattle.js_text.specs.JsStr.{units_of}
use Rattle.js_text.specs.declared.diagnostic.Diagnostic.{Diagnostic}
use Rattle.js_grammar.specs.Name.{NameItem, NameFault, CutsInto, items_text, items_value, items_report, item_report}
use Rattle.js_grammar.specs.Name.{is_no_part, ordinary_item, escape_item, item_of_escape, latin_small_letter_u}
use Rattle.js_grammar.specs.Name.{name_reading}
use Rattle.js_grammar.specs.Name.{private_reading, name_item, name_items, no_private_name, unnamed}
use Rattle.js_grammar.specs.Name.NameFault.{bad_escape, not_allowed}
use Rattle.js_grammar.specs.UnicodeEscape.{unicode_escape}
use Rattle.js_kind.specs.Keywords.{name_kind}
use Rattle.js_kind.specs.declared.kind.Kind.{Kind}
use Rattle.js_source.specs.Source.{At, rest}
use Rattle.js_spell.specs.declared.name.Decoding.{Decoding}
use Rattle.js_spell.specs.declared.name.Decoding.TheVariants.{Character, NotAllowed, Bad}
use Rattle.js_spell.specs.declared.name.Position.{Position}
use Rattle.js_spell.specs.declared.name.Position.TheVariants.{First, Later}
use Rattle.js_spell.specs.declared.spelt.Spelt.{Spelt}
use Rattle.js_spell.specs.declared.spelt.SpeltValue.TheVariants.{Decoded}
use Rattle.js_spell.specs.Spells.{SpellsSimply}
use Rattle.js_grammar.specs.Reading.{Reading, moved_diagnostic}

-- the characters that an item of a name may be of
abbrev pub class_of : Position → ℕ → Bool
class_of First = is_identifier_start
class_of Later = is_identifier_part

-- These items stand between the two places: with whatever items go on with the name, they are its items.
pub record GoesOn (from : Position) (old : At) (items : List NameItem) (to : Position) (new : At) : Type 0 where
  pub text : new.text ≡ old.text
  pub here : rest old ≡ items_text items ++ rest new
  pub go_on : (more : List NameItem) (left : List ℕ) → CutsInto (class_of to) (rest new) more left
      → CutsInto (class_of from) (rest old) (items ++ more) left

-- what is reported of all items of a name that are next
abbrev pub items_told : Position → At → List Diagnostic
items_told position at = items_report at.place (name_items (class_of position) (rest at))

-- The characters of a name up to its first escape, or its end, were passed.
pub record PassesUnescaped (old : At) (to : Position) (new : At) : Type 0 where
  pub characters : List ℕ
  pub goes_on : GoesOn First old (map ordinary_item characters) to new
  pub stops : begins is_identifier_part (rest new) ≡ false
  pub escape : to ≡ First → begins (λ c. c == backslash) (rest new) ≡ true

-- what an escape stands for
abbrev pub value_of_decoding : Decoding → List ℕ
value_of_decoding (Character c) = c ∷ []
value_of_decoding (NotAllowed c) = []
value_of_decoding Bad = []

-- what is wrong with it
abbrev pub fault_of_decoding : Decoding → Option NameFault
fault_of_decoding (Character c) = None
fault_of_decoding (NotAllowed c) = Some (not_allowed c)
fault_of_decoding Bad = Some bad_escape

-- The item was read, from behind its first characters on, and came to this.
pub record Decodes (item : NameItem) (first : List ℕ) (old : At) (decoding : Decoding) (new : At) : Type 0 where
  pub text : new.text ≡ old.text
  pub here : first ++ rest old ≡ item.text ++ rest new
  pub value : item.value ≡ value_of_decoding decoding
  pub fault : item.fault ≡ fault_of_decoding decoding

-- an escape was read behind its `\u`
abbrev pub DecodesUnicode : Position → At → Decoding → At → Type 0
DecodesUnicode position old decoding new =
    Decodes (item_of_escape (class_of position) (unicode_escape (rest old))) (backslash ∷ latin_small_letter_u ∷ []) old
    decoding new

-- an escape was read behind its `\`
abbrev pub DecodesEscape : Position → At → Decoding → At → Type 0
DecodesEscape position old decoding new =
    Decodes (escape_item (class_of position) (rest old)) (backslash ∷ []) old decoding new

-- An escape was read, and what is wrong with it was reported.
pub record ReadsEscape (position : Position) (old new : At) (before after : List Diagnostic) (c : Option ℕ)
    : Type 0 where
  pub item : NameItem
  pub goes_on : GoesOn position old (item ∷ []) Later new
  pub reports : after ≡ before ++ item_report old.place item
  pub value : item.value ≡ option_to_list c
  pub is_escape : item.is_escape ≡ true
  pub fewer : length (rest new) < length (rest old)

-- Items were read, what is wrong with them was reported, and the bytes of what they stand for were added. The flag
-- tells whether there is an escape among them.
pub record ReadsItems (from : Position) (old : At) (to : Position) (new : At) (before after : List Diagnostic)
    (was now : List ℕ) (has_escape : Bool)
    : Type 0 where
  pub items : List NameItem
  pub goes_on : GoesOn from old items to new
  pub reports : after ≡ before ++ items_report old.place items
  pub value : now ≡ was ++ encode_utf8_all (items_value items)
  pub escapes : list_any (λ item. item.is_escape) items ≡ has_escape

-- Parts that stand for themselves were read, all of them.
pub record PassesParts (old new : At) (was now : List ℕ) : Type 0 where
  pub characters : List ℕ
  pub goes_on : GoesOn Later old (map ordinary_item characters) Later new
  pub value : now ≡ was ++ encode_utf8_all characters
  pub stops : begins is_identifier_part (rest new) ≡ false

-- Items were read, up to the end of the name.
pub record ReadsToEnd (from : Position) (old new : At) (before after : List Diagnostic) (was now : List ℕ)
    (has_escape : Bool)
    : Type 0 where
  pub read : ReadsItems from old Later new before after was now has_escape
  pub end : name_item is_identifier_part (rest new) ≡ None

-- A name was read on from its first escape: its kind, and its value.
pub record SpellsDecoded (from : Position) (old new : At) (before after : List Diagnostic) (front : List ℕ)
    (spelt : Spelt)
    : Type 0 where
  pub text : List ℕ
  pub utf8 : IsUtf8 text
  pub read : ReadsToEnd from old new before after front text true
  pub kind : spelt.kind ≡ name_kind text
  pub value : spelt.value ≡ Decoded (units_of (chars text))

-- A name without an escape was read, of this kind.
abbrev pub SpellsUnescapedName : At → At → Kind → Type 0
SpellsUnescapedName old new kind = SpellsSimply (name_reading (rest old)) old.place old new kind

-- An escape begins the name, or stands behind its first characters.
abbrev pub MeetsEscape : List ℕ → Type 0
MeetsEscape text =
    (begins (λ c. c == backslash) text ≡ true)
    ⊎ (begins (λ c. c == backslash) (from_first is_no_part (drop 1 text)) ≡ true)

-- It was reported that no name follows a `#`; the token is of this kind.
pub record ReportsNoName (old : At) (before after : List Diagnostic) (kind : Kind) : Type 0 where
  pub report : Diagnostic
  pub read : no_private_name (number_sign ∷ rest old) (rest old) ≡ unnamed kind (number_sign ∷ rest old) report
  pub reports : (start : ℕ) → start + 1 ≡ old.place → after ≡ before ++ moved_diagnostic start report ∷ []

-- what is read of a `#` that this follows
abbrev pub behind_sign : List ℕ → Reading
behind_sign text = private_reading (number_sign ∷ text)

-- No ASCII character that begins a name is next, or an escape stands in the name.
abbrev pub MeetsNoUnescapedName : List ℕ → Type 0
MeetsNoUnescapedName text = (begins (λ c. nat_lt c 128 && is_identifier_start c) text ≡ false) ⊎ MeetsEscape text

-- A private name without an escape was read behind its `#`, of this kind.
abbrev pub SpellsUnescapedPrivateName : At → At → Kind → Type 0
SpellsUnescapedPrivateName old new kind =
    (start : ℕ) → start + 1 ≡ old.place → SpellsSimply (behind_sign (rest old)) start old new kind
