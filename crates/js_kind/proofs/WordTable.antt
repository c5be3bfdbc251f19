-- The table of words.
use Rattle.std.proofs.Common.{◌≡◌, ◌⊎◌, ◌≤◌, ◌<◌, ◌&&◌, ◌==◌, ℕ, zero, suc, Bool, true, false}
use Rattle.std.proofs.Common.{List, [], ◌∷◌, ◌++◌, length, take, drop, get_or, lit<, arith}
use Rattle.std.proofs.Common.{refl, sym, ◌∙◌, ap, inl, inr}
use Rattle.std.proofs.lemmas.Bool.{both_ways, eqb-true, leb-true, and_parts, or_cases}
use Rattle.std.proofs.lemmas.Slice.Eq.{bytes_eq-Decides}
use Rattle.std.proofs.lemmas.Grind.{same_number_lists}
use Rattle.std.proofs.lemmas.List.{length-take, take-append-drop, drop_all, get_or_default}
use Rattle.std.specs.Prelude.{min, slice_index, nat_le}
use Rattle.std.specs.List.{list_all}
use Rattle.std.specs.Str.{bytes_eq}
use Rattle.js_kind.specs.declared.kind.Kind.{Kind}
use Rattle.js_kind.specs.declared.kind.Kind.TheVariants.{Ident}
use Rattle.js_kind.specs.declared.words.Word.{Word}
use Rattle.js_kind.specs.Kinds.{number, keywords, kind_text, is_name_kind}
use Rattle.js_kind.specs.Keywords.{name_kind, key_of, place_of, empty, is_placed, is_empty_or_word}
use Rattle.js_kind.specs.Keywords.{is_empty, is_word, HoldsWords, IsOnlyWord, IsKindOfName}
use Rattle.js_kind.proofs.KindNumbers.{number_injective}
use Rattle.js_kind.proofs.Members.{word_passes}
use Rattle.js_kind.proofs.NameKeys.{AreBytes, are_bytes_to, same_bytes}
use Rattle.js_kind.proofs.NameKinds.{name_kind-is_kind_of_name, keyword_of_text, ident_is_no_word}

-- a table that computes
pub holds_words : (table : List Word) → length table ≡ 512 → list_all (is_placed table) keywords ≡ true
    → list_all is_empty_or_word table ≡ true → HoldsWords table
holds_words table count places words = record { count = count; places = places; words = words }

-- what a test tells of all entries, it tells of the one at a place
at_place : (test : Word → Bool) (words : List Word) (n : ℕ) (d : Word) → list_all test words ≡ true → n < length words
    → test (get_or words n d) ≡ true
at_place test [] n d all h = absurd (omega (arith, h))
at_place test (w ∷ ws) zero d all h = (and_parts (test w) (list_all test ws) all).0
at_place test (w ∷ ws) (suc n) d all h =
    at_place test ws n d (and_parts (test w) (list_all test ws) all).1 (omega (arith, h))

-- the entry at the place of a key
pub only_word : (table : List Word) (key n : ℕ) (d : Word) → HoldsWords table → n ≡ place_of key → n < 512
    → IsOnlyWord key (get_or table n d)
only_word table key n d is at h =
    let within : n < length table = omega (arith, h, is.count) in
    record {
      only = λ other word same.
          sym (number_injective (get_or table n d).kind other
          (ap (λ w. number w.kind) (get_or_default table n d empty within)
          ∙ ap (λ m. number (get_or table m empty).kind) (at ∙ ap place_of (sym same))
          ∙ eqb-true _ _ (word_passes (is_placed table) other is.places word)));
      entry = at_place is_empty_or_word table n d is.words within;
    }

no_word : (text : List ℕ) → ((kind : Kind) → is_name_kind kind ≡ true → kind_text kind ≡ text → ⊥)
    → IsKindOfName text (name_kind text) → Ident ≡ name_kind text
no_word text none (inl word) = absurd (none (name_kind text) word.0 word.1)
no_word text none (inr ident) = sym ident.0

-- the length of a word
abbrev is_short : Kind → Bool
is_short kind = nat_le (length (kind_text kind)) 11

all_short : list_all is_short keywords ≡ true
all_short = refl

is_short_word : (kind : Kind) → is_name_kind kind ≡ true → is_short kind ≡ true
is_short_word kind word = word_passes is_short kind all_short word

-- no word is as long
pub too_long : (text : List ℕ) → 11 < length text → Ident ≡ name_kind text
too_long text long =
    no_word text (λ kind word same. omega (arith, long, ap length same, leb-true _ _ (is_short_word kind word)))
    (name_kind-is_kind_of_name text)

-- what the entry of a word says of it
record Tells (word : Word) : Type 0 where
  name : is_name_kind word.kind ≡ true
  key : word.key ≡ key_of (kind_text word.kind)
  length : word.length ≡ length (kind_text word.kind)

-- the entry is that of no word, or tells of one
abbrev IsTold : Word → Type 0
IsTold word = ((word.kind ≡ Ident) × (word.length ≡ 0)) ⊎ Tells word

told : (word : Word) → is_empty_or_word word ≡ true → IsTold word
told word is = by_cases (or_cases (is_empty word) (is_word word) is)
  where
    by_cases : (is_empty word ≡ true) ⊎ (is_word word ≡ true) → IsTold word
    by_cases (inl none) =
        let kind = number word.kind == number Ident in
        let key = word.key == 0 in
        let rest = and_parts (kind && key) (word.length == 0) none in
        inl (number_injective word.kind Ident (eqb-true _ _ (and_parts kind key rest.0).0), eqb-true _ _ rest.1)
    by_cases (inr some) =
        let key = word.key == key_of (kind_text word.kind) in
        let count = word.length == length (kind_text word.kind) in
        let rest = and_parts (is_name_kind word.kind && key) count some in
        let name = and_parts (is_name_kind word.kind) key rest.0 in
        inr (record { name = name.0; key = eqb-true _ _ name.1; length = eqb-true _ _ rest.1 })

-- the entry of a kind of words tells of the word
tells : (word : Word) → is_name_kind word.kind ≡ true → IsTold word → Tells word
tells word name (inl none) = absurd (ident_is_no_word word.kind none.0 name)
tells word name (inr some) = some

-- The text is not that of the kind at its place, so it is no word.
other_word : (text : List ℕ) (word : Word) → IsOnlyWord (key_of text) word
    → (Tells word → kind_text word.kind ≡ text → ⊥) → Ident ≡ name_kind text
other_word text word is differs =
    no_word text
    (λ kind name same.
    let only : kind ≡ word.kind = is.only kind name (ap key_of same) in
    let here : is_name_kind word.kind ≡ true = ap is_name_kind (sym only) ∙ name in
    differs (tells word here (told word is.entry)) (ap kind_text (sym only) ∙ same))
    (name_kind-is_kind_of_name text)

-- So it is where the keys differ,
pub other_key : (text : List ℕ) (word : Word) → IsOnlyWord (key_of text) word → (word.key ≡ key_of text → ⊥)
    → Ident ≡ name_kind text
other_key text word is differs = other_word text word is (λ t same. differs (t.key ∙ ap key_of same))

-- or the lengths,
pub other_length : (text : List ℕ) (word : Word) → IsOnlyWord (key_of text) word → (word.length ≡ length text → ⊥)
    → Ident ≡ name_kind text
other_length text word is differs = other_word text word is (λ t same. differs (t.length ∙ ap length same))

-- or what is behind the first eight bytes.
pub other_end : (text : List ℕ) (word : Word) → IsOnlyWord (key_of text) word
    → bytes_eq (drop 8 text) (drop 8 (kind_text word.kind)) ≡ false → Ident ≡ name_kind text
other_end text word is differs =
    other_word text word is
    (λ t same.
    let alike : drop 8 text ≡ drop 8 (kind_text word.kind) = ap (drop 8) (sym same) in
    both_ways _ differs ((bytes_eq-Decides (drop 8 text) (drop 8 (kind_text word.kind))).1 alike))

-- A name of more than eight bytes has the length of the text of the kind at its place.
pub long_word : (text : List ℕ) (word : Word) → IsOnlyWord (key_of text) word → word.length ≡ length text
    → 8 < length text → length text ≡ length (kind_text word.kind)
long_word text word is count long = by_cases (told word is.entry)
  where
    by_cases : IsTold word → length text ≡ length (kind_text word.kind)
    by_cases (inl none) = absurd (omega (arith, count, long, none.1))
    by_cases (inr some) = sym count ∙ some.length

-- each number of the text of the kind is a byte
abbrev is_bytes : Kind → Bool
is_bytes kind = list_all (λ b. nat_le b 255) (kind_text kind)

all_bytes : list_all is_bytes keywords ≡ true
all_bytes = refl

below : (bs : List ℕ) → list_all (λ b. nat_le b 255) bs ≡ true → AreBytes bs
below [] all i = lit< tt
below (b ∷ bs) all zero = omega (arith, leb-true _ _ (and_parts (nat_le b 255) (list_all (λ b. nat_le b 255) bs) all).0)
below (b ∷ bs) all (suc i) = below bs (and_parts (nat_le b 255) (list_all (λ b. nat_le b 255) bs) all).1 i

word_is_bytes : (kind : Kind) → is_name_kind kind ≡ true → AreBytes (kind_text kind)
word_is_bytes kind name = below (kind_text kind) (word_passes is_bytes kind all_bytes name)

-- Where the keys, the lengths and what is behind the first eight bytes are the same, the texts are.
same_texts : (xs ys : List ℕ) → AreBytes xs → AreBytes ys → key_of xs ≡ key_of ys → length xs ≡ length ys
    → drop 8 xs ≡ drop 8 ys → xs ≡ ys
same_texts xs ys are_xs are_ys key count end =
    let counts : length (take 8 xs) ≡ length (take 8 ys) =
    length-take 8 xs ∙ ap (min 8) count ∙ sym (length-take 8 ys)
    in
    let start : take 8 xs ≡ take 8 ys =
    same_bytes (take 8 xs) (take 8 ys) (are_bytes_to xs 8 are_xs) (are_bytes_to ys 8 are_ys) counts key
    in
    sym (take-append-drop 8 xs) ∙ ap (λ a. a ++ drop 8 xs) start ∙ ap (λ a. take 8 ys ++ a) end ∙ take-append-drop 8 ys

-- Then the name is of the kind at its place.
the_word : (text : List ℕ) (word : Word) → IsOnlyWord (key_of text) word → AreBytes text → word.key ≡ key_of text
    → word.length ≡ length text → (Tells word → drop 8 text ≡ drop 8 (kind_text word.kind))
    → word.kind ≡ name_kind text
the_word text word is are key count end = by_cases (told word is.entry)
  where
    by_cases : IsTold word → word.kind ≡ name_kind text
    by_cases (inl none) =
        none.0
        ∙ no_word text
        (λ kind name same. ident_is_no_word kind (is.only kind name (ap key_of same) ∙ none.0) name)
        (name_kind-is_kind_of_name text)
    by_cases (inr some) =
        let same : text ≡ kind_text word.kind =
        same_texts text (kind_text word.kind) are (word_is_bytes word.kind some.name) (sym key ∙ some.key)
        (sym count ∙ some.length) (end some)
        in
        sym (ap name_kind same ∙ keyword_of_text word.kind some.name)

-- It is, where it has at most eight bytes,
pub short_word : (text : List ℕ) (word : Word) → IsOnlyWord (key_of text) word → AreBytes text
    → word.key ≡ key_of text → word.length ≡ length text → length text ≤ 8 → word.kind ≡ name_kind text
short_word text word is are key count short =
    the_word text word is are key count
    (λ t.
    drop_all 8 text short
    ∙ sym (drop_all 8 (kind_text word.kind) (omega (arith, short, t.length, count))))

-- and where what is behind them is the same.
pub same_end : (text : List ℕ) (word : Word) → IsOnlyWord (key_of text) word → AreBytes text
    → word.key ≡ key_of text → word.length ≡ length text
    → bytes_eq (drop 8 text) (drop 8 (kind_text word.kind)) ≡ true → word.kind ≡ name_kind text
same_end text word is are key count end =
    the_word text word is are key count
    (λ _. (bytes_eq-Decides (drop 8 text) (drop 8 (kind_text word.kind))).0 end)

-- texts that are compared byte by byte
pub same_to_the_end : (xs ys : List ℕ) → length xs ≡ length ys
    → ((k : ℕ) → k < length xs → slice_index xs k ≡ slice_index ys k) → bytes_eq xs ys ≡ true
same_to_the_end xs ys count all = (bytes_eq-Decides xs ys).1 (same_number_lists xs ys count all)
