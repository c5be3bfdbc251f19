-- The steps of reading a number.
use Rattle.std.specs.Prelude.{◌≡◌, ℕ, Bool, true, false, List, [], ◌∷◌, ◌++◌, ◌||◌, not, length, drop, ◌⊎◌, Some}
use Rattle.std.specs.Prelude.{None, nat_le, ◌==◌}
use Rattle.js_text.specs.Ascii.{low_line}
use Rattle.js_text.specs.declared.diagnostic.Diagnostic.{Diagnostic}
use Rattle.js_text.specs.Characters.{begins}
use Rattle.js_source.specs.Source.{At, rest, Reads}
use Rattle.js_grammar.specs.Number.{Item, Base, may_not_follow_number, base_of, digit_zero, whole, broken, digits_on}
use Rattle.js_grammar.specs.Number.{run, integer, are_digits, is_exponent_indicator, sign_text, sign_kind}
use Rattle.js_kind.specs.Digits.{is_digit_of}
use Rattle.js_grammar.specs.NumberReads.{Items, number_reading, invalid_number_end, number_items, legacy_items}
use Rattle.js_grammar.specs.NumberReads.{decimal_items, behind_prefix, unseparated_digits, sign_of, items_text}
use Rattle.js_grammar.specs.NumberReads.{contains_separator, missing_digits, base_at}
use Rattle.js_kind.specs.declared.kind.Kind.{Kind}
use Rattle.js_spell.specs.declared.digits.Digits.{Digits}
use Rattle.js_spell.specs.declared.digits.Digits.TheVariants.{Binary, Octal, Decimal, Hex}
use Rattle.js_spell.specs.declared.numeric.Prefix.{Prefix}
use Rattle.js_spell.specs.declared.numeric.Prefix.TheVariants as Prefixes
use Rattle.js_kind.specs.declared.kind.Kind.TheVariants as kinds
use Rattle.js_spell.specs.declared.numeric.Lead.{Lead}
use Rattle.js_spell.specs.declared.numeric.Lead.TheVariants.{Prefix as LedByPrefix, Legacy, Decimal as DecimalLead}
use Rattle.js_spell.specs.Spells.{ReadsAs, SpellsSimply}
use Rattle.js_spell.specs.declared.numeric.Passed.{Passed}
use Rattle.js_spell.specs.declared.numeric.Passed.TheVariants.{Whole, Separator, Broken}

abbrev pub radix_of_digits : Digits → ℕ
radix_of_digits Binary = 2
radix_of_digits Octal = 8
radix_of_digits Decimal = 10
radix_of_digits Hex = 16

-- an item with more characters in front
abbrev pub prepend : List ℕ → Item → Item
prepend xs item = record item { text = xs ++ item.text }

-- what stands here where these characters of a run were passed, and this is left
abbrev pub item_behind : Passed → ℕ → List ℕ → List ℕ → Item
item_behind Whole radix xs left = whole xs left
item_behind Separator radix xs left = prepend xs (digits_on radix left)
item_behind Broken radix xs left = broken xs left

-- a separator was passed
abbrev pub passed_separator : Passed → Bool
passed_separator Whole = false
passed_separator Separator = true
passed_separator Broken = true

-- digits, and perhaps a separator behind them, were passed
pub record PassesDigits (radix : ℕ) (old : At) (passed : Passed) (new : At) : Type 0 where
  pub text : new.text ≡ old.text
  pub characters : List ℕ
  pub here : rest old ≡ characters ++ rest new
  pub item : digits_on radix (rest old) ≡ item_behind passed radix characters (rest new)
  pub separator : contains_separator characters ≡ passed_separator passed

-- digits without separators were passed
pub record PassesUnseparatedDigits (old : At) (are_octal : Bool) (new : At) : Type 0 where
  pub text : new.text ≡ old.text
  pub characters : List ℕ
  pub here : rest old ≡ characters ++ rest new
  pub item : unseparated_digits (rest old) ≡ whole characters (rest new)
  pub octal : are_digits 8 characters ≡ are_octal
  pub separator : contains_separator characters ≡ false

-- what passing a whole run came to, or one in which a digit is missing
abbrev pub end_of : Bool → Passed
end_of true = Whole
end_of false = Broken

-- digits and separators of a run were passed, and the flag tells whether a separator was passed before or among them
pub record PassesGroups (radix : ℕ) (old : At) (passed : Passed) (new : At)
    (flag_before flag_after : Bool) : Type 0 where
  pub text : new.text ≡ old.text
  pub characters : List ℕ
  pub here : rest old ≡ characters ++ rest new
  pub item : digits_on radix (rest old) ≡ item_behind passed radix characters (rest new)
  pub separator : flag_after ≡ (flag_before || contains_separator characters)

-- Items were read: these are their characters, missing digits were reported, and the flag tells whether a separator was
-- read before or among them.
pub record ReadsItems (old new : At) (before after : List Diagnostic) (flag_before flag_after : Bool)
    (items : List Item) : Type 0 where
  pub text : new.text ≡ old.text
  pub here : rest old ≡ items_text items ++ rest new
  pub reports : after ≡ before ++ missing_digits old.place items
  pub separator : flag_after ≡ (flag_before || contains_separator (items_text items))

-- A run was read.
pub record ReadsRun (radix : ℕ) (old new : At) (before after : List Diagnostic)
    (flag_before flag_after is_whole : Bool) : Type 0 where
  pub items : ReadsItems old new before after flag_before flag_after (run radix (rest old) ∷ [])
  pub left : (run radix (rest old)).rest ≡ rest new
  pub whole_run : (run radix (rest old)).lacks_digit ≡ not is_whole

-- The integer of a decimal number was read.
pub record ReadsInteger (old new : At) (before after : List Diagnostic) (flag_before flag_after : Bool) : Type 0 where
  pub items : ReadsItems old new before after flag_before flag_after (integer (rest old) ∷ [])
  pub left : (integer (rest old)).rest ≡ rest new

-- A part of a number was read.
pub record ReadsPart (old new : At) (before after : List Diagnostic) (flag_before flag_after : Bool)
    (number : Items) : Type 0 where
  pub items : ReadsItems old new before after flag_before flag_after number.items
  pub left : number.rest ≡ rest new

-- The end of a number was read, of this kind.
pub record ReadsEnd (old new : At) (before after : List Diagnostic) (flag_before flag_after : Bool) (kind : Kind)
    (number : Items) : Type 0 where
  pub items : ReadsItems old new before after flag_before flag_after number.items
  pub left : number.rest ≡ rest new
  pub kind_is : number.kind ≡ kind

-- The items of a number were read, up to its end or, where a digit is missing behind a prefix, up to that of the
-- source.
pub record ReadsCut (old new : At) (before after : List Diagnostic) (flag_before flag_after : Bool) (kind : Kind)
    (number : Items) : Type 0 where
  pub text : new.text ≡ old.text
  pub reports : after ≡ before ++ missing_digits old.place number.items
  pub separator : flag_after ≡ (flag_before || contains_separator (items_text number.items))
  pub left : number.rest ≡ rest new
  pub kind_is : number.kind ≡ kind
  pub here : (rest new ≡ []) ⊎ (rest old ≡ items_text number.items ++ rest new)

-- A text that may not follow a number was read, and reported, up to the end of the source; or none is next.
abbrev pub ReadsBadEnd : At → At → List Diagnostic → List Diagnostic → Bool → Type 0
ReadsBadEnd old new before after false =
    (begins may_not_follow_number (rest old) ≡ false) × (new ≡ old) × (after ≡ before)
ReadsBadEnd old new before after true =
    (begins may_not_follow_number (rest old) ≡ true) × (new.text ≡ old.text) × (rest new ≡ [])
    × (after ≡ before ++ invalid_number_end old.place (rest old) ∷ [])

-- The number that is next was read, good or at fault.
pub record ReadsNumber (old new : At) (before after : List Diagnostic) (kind : Kind)
    (has_separator : Bool) : Type 0 where
  pub read : ReadsAs (number_reading (rest old)) old.place old new before after kind
  pub separator : (number_reading (rest old)).has_separator ≡ has_separator

-- what a prefix says
abbrev pub base_of_prefix : Prefix → Base
base_of_prefix Prefixes.Binary = record { radix = 2; kind = kinds.Binary; big_kind = kinds.BinaryBigInt }
base_of_prefix Prefixes.Octal = record { radix = 8; kind = kinds.Octal; big_kind = kinds.OctalBigInt }
base_of_prefix Prefixes.Hex = record { radix = 16; kind = kinds.Hex; big_kind = kinds.HexBigInt }

-- what stands behind a prefix
abbrev pub behind_base : Base → List ℕ → Items
behind_base base text = behind_prefix base (run base.radix text)

-- the mark of an exponent was taken
pub record TakesExponentIndicator (old new : At) : Type 0 where
  pub mark : ℕ
  pub is : is_exponent_indicator mark ≡ true
  pub read : Reads old new mark

-- the sign of an exponent was taken, if one was there
pub record TakesSign (old new : At) (kind : Kind) : Type 0 where
  pub text : new.text ≡ old.text
  pub here : rest old ≡ sign_text (sign_of (rest old)) ++ rest new
  pub left : drop (length (sign_text (sign_of (rest old)))) (rest old) ≡ rest new
  pub kind_is : sign_kind (sign_of (rest old)) ≡ kind

-- a number begins so, with this character behind a leading `0`
abbrev pub LeadsWith : Lead → ℕ → Type 0
LeadsWith (LedByPrefix prefix) c = base_of c ≡ Some (base_of_prefix prefix)
LeadsWith Legacy c = is_digit_of 10 c ≡ true
LeadsWith DecimalLead c = (base_of c ≡ None) × (is_digit_of 10 c ≡ false)

-- `0` and the letter of a base stand here
pub record HasPrefix (prefix : Prefix) (text : List ℕ) : Type 0 where
  pub letter : ℕ
  pub behind : List ℕ
  pub here : text ≡ digit_zero ∷ letter ∷ behind
  pub base : base_of letter ≡ Some (base_of_prefix prefix)

-- the number that is next begins so
abbrev pub Leads : Lead → List ℕ → Type 0
Leads (LedByPrefix prefix) text = HasPrefix prefix text
Leads Legacy text = number_items text ≡ legacy_items text
Leads DecimalLead text = number_items text ≡ decimal_items text

-- A number was read without a separator and without a fault, of this kind.
abbrev pub SpellsUnseparatedNumber : At → At → Kind → Type 0
SpellsUnseparatedNumber old new kind = SpellsSimply (number_reading (rest old)) old.place old new kind

-- A character is next that may not follow a number, or one past ASCII.
abbrev pub MayGoOn : List ℕ → Type 0
MayGoOn text = (begins may_not_follow_number text ≡ true) ⊎ (begins (λ c. nat_le 128 c) text ≡ true)

-- What may follow an integer that is read to its end: no digit, no separator, and no letter of a base.
pub record FollowsInteger (text : List ℕ) : Type 0 where
  pub digit : begins (is_digit_of 10) text ≡ false
  pub separator : begins (λ c. c == low_line) text ≡ false
  pub base : base_at text ≡ None
