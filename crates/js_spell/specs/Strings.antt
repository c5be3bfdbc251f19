-- The steps of reading a string or a part of a template.
use Rattle.std.specs.Prelude.{◌≡◌, ℕ, ◌<◌, Bool, true, false, not, List, [], ◌∷◌, ◌++◌, length, drop, ◌==◌, ◌&&◌, ◌||◌}
use Rattle.std.specs.Prelude.{Option, ◌+◌}
use Rattle.std.specs.Prelude.{Some, None, codes, if◌then◌else◌}
use Rattle.js_text.specs.Ascii.{carriage_return, quotation_mark, apostrophe, backslash, grave_accent}
use Rattle.js_text.specs.Ascii.{dollar_sign}
use Rattle.js_text.specs.Characters.{begins}
use Rattle.js_text.specs.JsStr.{units_of}
use Rattle.js_text.specs.declared.diagnostic.Diagnostic.{Diagnostic}
use Rattle.js_text.specs.declared.diagnostic.Diagnostic.TheVariants.{UnterminatedString}
use Rattle.js_kind.specs.declared.kind.Kind.{Kind}
use Rattle.js_grammar.specs.Gap.{is_prefix}
use Rattle.js_grammar.specs.StringItems.{StringItem, StringValue, string_item, ends_string}
use Rattle.js_grammar.specs.StringItems.{all_items, items_before, string_text, string_units, contains_escape}
use Rattle.js_grammar.specs.StringItems.{contains_bad_escape}
use Rattle.js_grammar.specs.StringItems.{are_good, item_reports, stretch}
use Rattle.js_grammar.specs.StringItems.StringValue.{no_value, units, bad_value}
use Rattle.js_grammar.specs.Template.{template_item, template_value, template_part_reading}
use Rattle.js_grammar.specs.Quoted.{quoted_reading}
use Rattle.js_source.specs.Source.{At, rest, Reads}
use Rattle.js_spell.specs.declared.ordinary.Literal.{Literal}
use Rattle.js_spell.specs.declared.ordinary.Literal.TheVariants.{DoubleQuoted, SingleQuoted, Template}
use Rattle.js_spell.specs.declared.items.Stop.{Stop}
use Rattle.js_spell.specs.declared.items.Stop.TheVariants.{Escape, CarriageReturn, End}
use Rattle.js_spell.specs.declared.template.PartEnd.{PartEnd}
use Rattle.js_spell.specs.declared.template.PartEnd.TheVariants.{Tail, Substitution, Missing}
use Rattle.js_spell.specs.Spells.{SpellsSimply}
use Rattle.js_spell.specs.declared.spelt.SpeltValue.{SpeltValue}
use Rattle.js_spell.specs.declared.spelt.SpeltValue.TheVariants.{Plain, Decoded, Bad}

abbrev pub in_template : Literal → Bool
in_template DoubleQuoted = false
in_template SingleQuoted = false
in_template Template = true

-- the quote of a string
abbrev pub quote_of : Literal → ℕ
quote_of DoubleQuoted = quotation_mark
quote_of SingleQuoted = apostrophe
quote_of Template = grave_accent

-- the item that a text begins with
abbrev pub item_of : Literal → List ℕ → Option StringItem
item_of DoubleQuoted = string_item quotation_mark
item_of SingleQuoted = string_item apostrophe
item_of Template = template_item

-- the characters that do not stand for themselves, or not always
abbrev pub stops : Literal → ℕ → Bool
stops DoubleQuoted c = (c == backslash) || ends_string quotation_mark c
stops SingleQuoted c = (c == backslash) || ends_string apostrophe c
stops Template c =
    (c == backslash) || ((c == grave_accent) || ((c == dollar_sign) || (c == carriage_return)))

-- a character that stands for itself is next
abbrev pub ordinary_here : Literal → List ℕ → Bool
ordinary_here literal [] = false
ordinary_here literal (c ∷ cs) =
    not (stops literal c) || ((c == dollar_sign) && not (is_prefix (codes "${") (c ∷ cs)))

-- an escape is next, or a CR of a template
abbrev pub escape_here : Literal → List ℕ → Bool
escape_here literal text =
    begins (λ c. c == backslash) text || (in_template literal && begins (λ c. c == carriage_return) text)

-- the byte b is next, a character of those that do not always stand for themselves
pub record StopsAt (literal : Literal) (b : ℕ) (text : List ℕ) : Type 0 where
  pub behind : List ℕ
  pub here : text ≡ b ∷ behind
  pub stops_there : stops literal b ≡ true

-- The text begins with characters that stand for themselves, and this is left behind them.
pub record IsOrdinaryBefore (literal : Literal) (text left : List ℕ) : Type 0 where
  pub items : List StringItem
  pub here : text ≡ string_text items ++ left
  pub found : all_items (item_of literal) text ≡ items_before items (all_items (item_of literal) left)
  pub units : string_units items ≡ units_of (string_text items)
  pub escaped : contains_escape items ≡ false
  pub good : are_good items ≡ true

-- characters that stand for themselves were passed
pub record PassesCharacters (literal : Literal) (old new : At) : Type 0 where
  pub text : new.text ≡ old.text
  pub ordinary : IsOrdinaryBefore literal (rest old) (rest new)

-- Items were read: their units were added, and what is to be reported of them; the flag tells whether a bad escape is
-- among them.
pub record ReadsItems (literal : Literal) (start : ℕ) (old new : At) (units_before units_after : List ℕ)
    (before after : List Diagnostic) (has_bad : Bool) : Type 0 where
  pub text : new.text ≡ old.text
  pub items : List StringItem
  pub here : rest old ≡ string_text items ++ rest new
  pub found : all_items (item_of literal) (rest old) ≡ items_before items (all_items (item_of literal) (rest new))
  pub units : units_after ≡ units_before ++ string_units items
  pub reports : after ≡ before ++ item_reports (in_template literal) start old.place items
  pub bad : contains_bad_escape items ≡ has_bad

-- One item was read.
pub record ReadsOneItem (literal : Literal) (start : ℕ) (old new : At) (units_before units_after : List ℕ)
    (before after : List Diagnostic) (is_bad : Bool) : Type 0 where
  pub read : ReadsItems literal start old new units_before units_after before after is_bad
  pub shorter : length (rest new) < length (rest old)

-- An item was read that is more than a character that stands for itself, or none is next.
abbrev pub ReadsStopItem : Literal → ℕ → At → At → List ℕ → List ℕ → List Diagnostic → List Diagnostic → Option Bool
    → Type 0
ReadsStopItem literal start old new units_before units_after before after None =
    (item_of literal (rest old) ≡ None) × (new ≡ old) × (units_after ≡ units_before) × (after ≡ before)
ReadsStopItem literal start old new units_before units_after before after (Some is_good) =
    ReadsOneItem literal start old new units_before units_after before after (not is_good)

-- the value of items
abbrev pub value_of : Literal → List StringItem → StringValue
value_of DoubleQuoted items = units (string_units items)
value_of SingleQuoted items = units (string_units items)
value_of Template items = template_value items

-- what is reported of all items that are next, in a token that begins at the start
abbrev pub items_told : Literal → ℕ → At → List Diagnostic
items_told literal start at =
    item_reports (in_template literal) start at.place (all_items (item_of literal) (rest at)).items

-- where the value is, by the escaped flag of its token
abbrev pub told_value : Bool → StringValue → SpeltValue
told_value false value = Plain
told_value true no_value = Plain
told_value true (units us) = Decoded us
told_value true bad_value = Bad

-- All items that are next were read.
pub record ReadsValue (literal : Literal) (start : ℕ) (old new : At) (before after : List Diagnostic)
    (value : SpeltValue) : Type 0 where
  pub text : new.text ≡ old.text
  pub items : List StringItem
  pub here : rest old ≡ string_text items ++ rest new
  pub found : all_items (item_of literal) (rest old) ≡ record { items = items; rest = rest new }
  pub reports : after ≡ before ++ item_reports (in_template literal) start old.place items
  pub value_is : value ≡ told_value (contains_escape items) (value_of literal items)

-- what was missing at the end of a token is reported, and the next character taken, if there is one
pub record Unterminated (start : ℕ) (old new : At) (before after : List Diagnostic) : Type 0 where
  pub text : new.text ≡ old.text
  pub left : drop 1 (rest old) ≡ rest new
  pub reports : after ≡ before ++ UnterminatedString (stretch start new.place) ∷ []

-- The quote of a string was taken; or it is missing.
abbrev pub EndsString : ℕ → ℕ → At → At → List Diagnostic → List Diagnostic → Bool → Type 0
EndsString quote start old new before after true = Reads old new quote × (after ≡ before)
EndsString quote start old new before after false =
    (begins (λ c. c == quote) (rest old) ≡ false) × Unterminated start old new before after

-- the value is no stretch of the source
abbrev pub is_elsewhere : SpeltValue → Bool
is_elsewhere Plain = false
is_elsewhere (Decoded text) = true
is_elsewhere Bad = true

-- The quote of a string was taken.
pub record TakesQuote (old new : At) (literal : Literal) : Type 0 where
  pub string : in_template literal ≡ false
  pub read : Reads old new (quote_of literal)

-- The mark that ends a part of a template was taken; or it is missing.
abbrev pub EndsPart : ℕ → At → At → List Diagnostic → List Diagnostic → PartEnd → Type 0
EndsPart start old new before after Tail = Reads old new grave_accent × (after ≡ before)
EndsPart start old new before after Substitution =
    (begins (λ c. c == grave_accent) (rest old) ≡ false) × (is_prefix (codes "${") (rest old) ≡ true)
    × (new.text ≡ old.text) × (drop 2 (rest old) ≡ rest new) × (after ≡ before)
EndsPart start old new before after Missing =
    (begins (λ c. c == grave_accent) (rest old) ≡ false) × (is_prefix (codes "${") (rest old) ≡ false)
    × Unterminated start old new before after

-- what a mark says of a text at which no character stands for itself
abbrev pub StopIs : Literal → Stop → List ℕ → Type 0
StopIs literal Escape text = begins (λ c. c == backslash) text ≡ true
StopIs literal CarriageReturn text = (in_template literal ≡ true) × (begins (λ c. c == carriage_return) text ≡ true)
StopIs literal End text = escape_here literal text ≡ false

abbrev pub is_end : Stop → Bool
is_end Escape = false
is_end CarriageReturn = false
is_end End = true

-- the value of a literal with these units and an escape, by whether a bad one is in it
abbrev pub decoded_value : Literal → Bool → List ℕ → SpeltValue
decoded_value literal has_bad us = if has_bad && in_template literal then Bad else Decoded us

-- A string without an escape was read, of this kind.
abbrev pub SpellsUnescapedString : At → At → Kind → Type 0
SpellsUnescapedString old new kind = SpellsSimply (quoted_reading (rest old)) old.place old new kind

-- An escape stands in the string that begins with the quote, or the quote that would end it is missing.
pub record MeetsNoQuote (quote : ℕ) (text : List ℕ) : Type 0 where
  pub literal : Literal
  pub is : quote_of literal ≡ quote
  pub left : List ℕ
  pub passed : IsOrdinaryBefore literal (drop 1 text) left
  pub all : ordinary_here literal left ≡ false
  pub none : begins (λ c. c == quote) left ≡ false

-- A part of a template was read behind its mark without an escape and without a CR, of this kind.
abbrev pub SpellsUnescapedPart : Kind → Kind → At → At → Kind → Type 0
SpellsUnescapedPart substitute tail old new kind =
    (opening start : ℕ) → start + 1 ≡ old.place
    → SpellsSimply (template_part_reading substitute tail (opening ∷ rest old)) start old new kind

-- An escape or a CR stands in the part of a template, or the mark that would end it is missing.
pub record MeetsNoPartEnd (text : List ℕ) : Type 0 where
  pub left : List ℕ
  pub passed : IsOrdinaryBefore Template text left
  pub all : ordinary_here Template left ≡ false
  pub no_tail : begins (λ c. c == grave_accent) left ≡ false
  pub no_substitution : is_prefix (codes "${") left ≡ false
