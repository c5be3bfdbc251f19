-- The numbers, names, texts and classes of kinds.
use Rattle.std.specs.Prelude.{◌≡◌, ℕ, Bool, List, [], ◌∷◌, Some, length, map, slice_get, ◌==◌, ◌&&◌, ◌||◌, not}
use Rattle.std.specs.List.{filter, list_any}
use Rattle.js_kind.specs.declared.kind.Kind.{Kind}
use Rattle.js_kind.specs.declared.kind.Kind.TheVariants as variant
use Rattle.js_kind.specs.declared.kind.TheConstants.Kind.{VARIANTS}
use Rattle.js_kind.specs.declared.kind_rows.Row.{Row}
use Rattle.js_kind.specs.KindRows.{KindClass, class_number, kind_row, kind_count, reserved_word, contextual_word}
use Rattle.js_kind.specs.KindRows.{typescript_word, strict_word, literal_word, number_literal, template_part}

-- the number of a kind
abbrev pub number : Kind → ℕ
number kind = (kind_row kind).number

-- the list has each kind, at the place of its number, and no other item
abbrev pub ListsByNumber : List Kind → Type 0
ListsByNumber kinds = (length kinds ≡ kind_count) × ((kind : Kind) → slice_get kinds (number kind) ≡ Some kind)

-- the name of a kind
abbrev pub kind_name : Kind → List ℕ
kind_name kind = (kind_row kind).name

-- the text of a kind
abbrev pub kind_text : Kind → List ℕ
kind_text kind = (kind_row kind).text

-- the name and the text of a kind
abbrev pub names_of : Kind → List ℕ × List ℕ
names_of kind = (kind_name kind, kind_text kind)

-- those of a row of the code's table
abbrev pub row_of : Row → List ℕ × List ℕ
row_of row = (row.name.now, row.text.now)

-- the table has the name and the text of each kind, at the place of its number
pub record HasEachRow (rows : List Row) : Type 0 where
  pub count : length rows ≡ kind_count
  pub at_number : (kind : Kind) → slice_get (map row_of rows) (number kind) ≡ Some (names_of kind)

-- the kind is this one
abbrev pub is_kind : Kind → Kind → Bool
is_kind other kind = number kind == number other

-- the kind is one of these
abbrev pub is_one_of : List Kind → Kind → Bool
is_one_of kinds kind = list_any (λ other. number kind == number other) kinds

-- the kind is of the class
abbrev pub is_of : KindClass → Kind → Bool
is_of class kind = class_number (kind_row kind).class == class_number class

-- the kind is that of a word
abbrev pub is_word : Kind → Bool
is_word kind =
    is_of reserved_word kind || is_of contextual_word kind || is_of typescript_word kind || is_of strict_word kind
    || is_of literal_word kind

-- the kinds of all words
abbrev pub keywords : List Kind
keywords = filter is_word VARIANTS

-- the text of the kind is a word, reserved or not
unfoldable pub is_name_kind : Kind → Bool
is_name_kind kind = is_word kind

-- tokens of the kind are names (ECMA-262 12.7, IdentifierName)
unfoldable pub is_identifier_name : Kind → Bool
is_identifier_name kind = is_kind variant.Ident kind || is_word kind

-- tokens of the kind are numbers (ECMA-262 12.9.3, NumericLiteral)
unfoldable pub is_number_kind : Kind → Bool
is_number_kind kind = is_of number_literal kind

-- tokens of the kind are parts of templates (ECMA-262 12.9.6)
unfoldable pub is_template_kind : Kind → Bool
is_template_kind kind = is_of template_part kind

-- tokens of the kind are strings (ECMA-262 12.9.4)
unfoldable pub is_string_kind : Kind → Bool
is_string_kind kind = is_kind variant.Str kind

-- tokens of the kind are reserved words (ECMA-262 12.7.2, ReservedWord)
unfoldable pub is_reserved_keyword : Kind → Bool
is_reserved_keyword kind = is_of reserved_word kind || is_of literal_word kind || is_kind variant.Yield kind

-- tokens of the kind are names that are not reserved (ECMA-262 13.1, Identifier)
unfoldable pub is_identifier : Kind → Bool
is_identifier kind = is_identifier_name kind && not (is_reserved_keyword kind)

-- tokens of the kind are literals (ECMA-262 13.2.3 and 13.2.7)
unfoldable pub is_literal : Kind → Bool
is_literal kind =
    is_of literal_word kind || is_of number_literal kind || is_kind variant.Str kind || is_kind variant.RegExp kind

-- the kinds of assignment operators
abbrev pub assignment_operators : List Kind
assignment_operators =
    variant.Eq ∷ variant.PlusEq ∷ variant.MinusEq ∷ variant.StarEq ∷ variant.SlashEq ∷ variant.PercentEq
    ∷ variant.ShiftLeftEq ∷ variant.ShiftRightEq ∷ variant.ShiftRight3Eq ∷ variant.Pipe2Eq ∷ variant.Amp2Eq
    ∷ variant.PipeEq ∷ variant.CaretEq ∷ variant.AmpEq ∷ variant.Question2Eq ∷ variant.Star2Eq ∷ []

-- tokens of the kind are assignment operators (ECMA-262 13.15)
unfoldable pub is_assignment_operator : Kind → Bool
is_assignment_operator kind = is_one_of assignment_operators kind

-- the kinds of binary operators
abbrev pub binary_operators : List Kind
binary_operators =
    variant.Eq2 ∷ variant.Neq ∷ variant.Eq3 ∷ variant.Neq2 ∷ variant.LAngle ∷ variant.LtEq ∷ variant.RAngle
    ∷ variant.GtEq ∷ variant.ShiftLeft ∷ variant.ShiftRight ∷ variant.ShiftRight3 ∷ variant.Plus
    ∷ variant.Minus ∷ variant.Star ∷ variant.Slash ∷ variant.Percent ∷ variant.Pipe ∷ variant.Caret
    ∷ variant.Amp ∷ variant.In ∷ variant.Instanceof ∷ variant.Star2 ∷ variant.PipeGt ∷ []

-- tokens of the kind are binary operators (ECMA-262 13.6 to 13.12)
unfoldable pub is_binary_operator : Kind → Bool
is_binary_operator kind = is_one_of binary_operators kind

-- the kinds of logical operators
abbrev pub logical_operators : List Kind
logical_operators = variant.Pipe2 ∷ variant.Amp2 ∷ variant.Question2 ∷ []

-- tokens of the kind are logical operators (ECMA-262 13.13)
unfoldable pub is_logical_operator : Kind → Bool
is_logical_operator kind = is_one_of logical_operators kind
