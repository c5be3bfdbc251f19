-- The keyword table.
use Rattle.std.specs.Prelude.{◌≡◌, ◌≢◌, ◌⊎◌, ℕ, ◌+◌, ◌-◌, ◌*◌, ◌/◌, ◌%◌, ◌^◌, min, Bool, true, ◌==◌, ◌&&◌, ◌||◌}
use Rattle.std.specs.Prelude.{List, [], ◌∷◌, length, take, get_or, if◌then◌else◌}
use Rattle.std.specs.List.{list_all}
use Rattle.std.specs.Str.{bytes_eq}
use Rattle.js_kind.specs.declared.kind.Kind.{Kind}
use Rattle.js_kind.specs.declared.kind.Kind.TheVariants.{Ident}
use Rattle.js_kind.specs.declared.words.TheConstants.{FACTOR}
use Rattle.js_kind.specs.declared.words.Word.{Word}
use Rattle.js_kind.specs.Kinds.{number, is_name_kind, kind_text}
pub use Rattle.js_kind.specs.Kinds.{keywords}

-- the first of these kinds that has this text, and `Ident` where none has
abbrev pub kind_in : List Kind → List ℕ → Kind
kind_in [] text = Ident
kind_in (kind ∷ kinds) text = if bytes_eq text (kind_text kind) then kind else kind_in kinds text

-- the kind of a name with this text
unfoldable pub name_kind : List ℕ → Kind
name_kind text = kind_in keywords text

-- the kind is that of the word that the text is, and `Ident` where it is none
abbrev pub IsKindOfName : List ℕ → Kind → Type 0
IsKindOfName text kind =
    ((is_name_kind kind ≡ true) × (kind_text kind ≡ text))
    ⊎ ((kind ≡ Ident) × ((other : Kind) → is_name_kind other ≡ true → kind_text other ≢ text))

-- an entry of the table that is that of no word
abbrev pub empty : Word
empty = record { key = 0; length = 0; kind = Ident }

-- the number of some bytes, the first one the least
abbrev pub bytes_number : List ℕ → ℕ
bytes_number [] = 0
bytes_number (b ∷ bs) = b + 256 * bytes_number bs

-- the key of a text: the number of its first eight bytes
abbrev pub key_of : List ℕ → ℕ
key_of text = bytes_number (take 8 text)

-- what leaves the bytes of a text of this length of the eight bytes from its start on
abbrev pub mask : ℕ → ℕ
mask length = 2 ^ (8 * min length 8) - 1

-- the place of a key in the table: the 9 high bits of a product
abbrev pub place_of : ℕ → ℕ
place_of key = key * FACTOR % 2 ^ 64 / 2 ^ 55

-- the entry is that of no word
abbrev pub is_empty : Word → Bool
is_empty word = number word.kind == number Ident && word.key == 0 && word.length == 0

-- the entry is that of the word of its kind
abbrev pub is_word : Word → Bool
is_word word =
    is_name_kind word.kind && word.key == key_of (kind_text word.kind) && word.length == length (kind_text word.kind)

abbrev pub is_empty_or_word : Word → Bool
is_empty_or_word word = is_empty word || is_word word

-- the entry at the place of the text of the kind is that of the kind
abbrev pub is_placed : List Word → Kind → Bool
is_placed table kind = number (get_or table (place_of (key_of (kind_text kind))) empty).kind == number kind

-- the table has each word at the place of its key, and elsewhere nothing
pub record HoldsWords (table : List Word) : Type 0 where
  pub count : length table ≡ 512
  pub places : list_all (is_placed table) keywords ≡ true
  pub words : list_all is_empty_or_word table ≡ true

-- no other word has the key, and the entry is that of the word, or of none
pub record IsOnlyWord (key : ℕ) (word : Word) : Type 0 where
  pub only : (other : Kind) → is_name_kind other ≡ true → key_of (kind_text other) ≡ key → other ≡ word.kind
  pub entry : is_empty_or_word word ≡ true
