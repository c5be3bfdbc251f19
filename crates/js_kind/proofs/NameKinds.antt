-- What the keyword table finds.
use Rattle.std.proofs.Common.{◌≡◌, ◌≢◌, ◌⊎◌, ◌==◌, ◌||◌, not, ℕ, Bool, true, false, List, [], ◌∷◌, refl, sym, ◌∙◌, ap}
use Rattle.std.proofs.Common.{inl, inr, if◌then◌else◌, ◌↔◌}
use Rattle.std.proofs.lemmas.Bool.{both_ways, not-true, eqb-true, or_cases, or_right}
use Rattle.std.specs.List.{list_all}
use Rattle.std.proofs.lemmas.Slice.Eq.{bytes_eq-Decides}
use Rattle.std.specs.Str.{bytes_eq}
use Rattle.js_kind.specs.declared.kind.Kind.{Kind}
use Rattle.js_kind.specs.declared.kind.Kind.TheVariants.{Ident}
use Rattle.js_kind.specs.Kinds.{number, is_one_of, is_word, keywords, kind_text}
use Rattle.js_kind.specs.Kinds.{is_name_kind, is_identifier_name, is_number_kind}
use Rattle.js_kind.specs.Keywords.{name_kind, kind_in, IsKindOfName}
use Rattle.js_kind.proofs.KindNumbers.{number_injective}
use Rattle.js_kind.proofs.Members.{is_first, is_later, listed, name_listed, name_passes, word_passes}

-- the text of the kind is looked up as the kind
abbrev is_found : Kind → Bool
is_found kind = number (name_kind (kind_text kind)) == number kind

all_found : list_all is_found keywords ≡ true
unfolding name_kind
all_found = refl

-- The text of each kind of word is looked up as that kind.
pub keyword_of_text : (kind : Kind) → is_name_kind kind ≡ true → name_kind (kind_text kind) ≡ kind
keyword_of_text kind word = number_injective _ kind (eqb-true _ _ (word_passes is_found kind all_found word))

-- the kind is one of these, and the text is its text
abbrev IsWordOf : List Kind → List ℕ → Kind → Type 0
IsWordOf kinds text kind = (is_one_of kinds kind ≡ true) × (kind_text kind ≡ text)

found_at : (kind : Kind) (kinds : List Kind) (text : List ℕ) (other : Kind) (same : Bool)
    → (same ≡ true → text ≡ kind_text kind)
    → IsWordOf kinds text other ⊎ (other ≡ Ident)
    → IsWordOf (kind ∷ kinds) text (if same then kind else other) ⊎ ((if same then kind else other) ≡ Ident)
found_at kind kinds text other true is rest = inl (is_first kind kinds, sym (is refl))
found_at kind kinds text other false is (inl word) = inl (is_later other kind kinds word.0, word.1)
found_at kind kinds text other false is (inr none) = inr none

found_in : (kinds : List Kind) (text : List ℕ) → IsWordOf kinds text (kind_in kinds text) ⊎ (kind_in kinds text ≡ Ident)
found_in [] text = inr refl
found_in (k ∷ ks) text =
    let same : bytes_eq text (kind_text k) ≡ true → text ≡ kind_text k = (bytes_eq-Decides text (kind_text k)).0
    in found_at k ks text (kind_in ks text) (bytes_eq text (kind_text k)) same (found_in ks text)

found : (text : List ℕ) → IsWordOf keywords text (name_kind text) ⊎ (name_kind text ≡ Ident)
unfolding name_kind
found text = found_in keywords text

-- A word is not `Ident`.
pub ident_is_no_word : (kind : Kind) → kind ≡ Ident → is_name_kind kind ≡ true → ⊥
unfolding is_name_kind
ident_is_no_word kind ident word = both_ways (is_name_kind Ident) refl (sym (ap is_name_kind ident) ∙ word)

not_found : (text : List ℕ) → name_kind text ≡ Ident → (other : Kind) → is_name_kind other ≡ true
    → kind_text other ≢ text
not_found text none other word is =
    let ident : other ≡ Ident = sym (keyword_of_text other word) ∙ (ap name_kind is ∙ none)
    in ident_is_no_word other ident word

word_or_ident : (text : List ℕ) (kind : Kind) → kind ≡ name_kind text
    → IsWordOf keywords text kind ⊎ (kind ≡ Ident) → IsKindOfName text kind
word_or_ident text kind is (inl word) = inl (listed kind ∙ word.0, word.1)
word_or_ident text kind is (inr none) = inr (none, not_found text (sym is ∙ none))

-- What the table finds is the kind of the word that the text is, and `Ident` where it is none.
pub name_kind-is_kind_of_name : (text : List ℕ) → IsKindOfName text (name_kind text)
name_kind-is_kind_of_name text = word_or_ident text (name_kind text) refl (found text)

name_or_ident : (text : List ℕ) (kind : Kind) → IsWordOf keywords text kind ⊎ (kind ≡ Ident)
    → is_identifier_name kind ≡ true
name_or_ident text kind (inl word) = name_listed kind ∙ is_later kind Ident keywords word.0
name_or_ident text kind (inr none) = name_listed kind ∙ ap (is_one_of (Ident ∷ keywords)) none

-- The kind of a name is a kind of identifier names.
pub name_kind-is_identifier_name : (text : List ℕ) → is_identifier_name (name_kind text) ≡ true
name_kind-is_identifier_name text = name_or_ident text (name_kind text) (found text)

-- The kinds of identifier names are `Ident` and the kinds of words.
pub ident_or_keyword : (kind : Kind)
    → (is_identifier_name kind ≡ true) ↔ ((kind ≡ Ident) ⊎ (is_name_kind kind ≡ true))
unfolding is_identifier_name is_name_kind
ident_or_keyword kind = (
  λ name. by_cases (or_cases (number kind == number Ident) (is_word kind) name),
  λ cases. name_of cases,
)
  where
    by_cases : ((number kind == number Ident) ≡ true) ⊎ (is_word kind ≡ true) → (kind ≡ Ident) ⊎ (is_word kind ≡ true)
    by_cases (inl same) = inl (number_injective kind Ident (eqb-true _ _ same))
    by_cases (inr word) = inr word

    name_of : (kind ≡ Ident) ⊎ (is_word kind ≡ true) → ((number kind == number Ident) || is_word kind) ≡ true
    name_of (inl ident) = ap (λ k. (number k == number Ident) || is_word k) ident
    name_of (inr word) = or_right (number kind == number Ident) (is_word kind) word

-- the kind is no kind of numbers
abbrev is_no_number : Kind → Bool
is_no_number kind = not (is_number_kind kind)

names_are_no_numbers : list_all is_no_number (Ident ∷ keywords) ≡ true
unfolding is_number_kind
names_are_no_numbers = refl

-- A kind of identifier names is no kind of numbers.
pub identifier_name-is_no_number : (kind : Kind) → is_identifier_name kind ≡ true → is_number_kind kind ≡ false
identifier_name-is_no_number kind name =
    not-true (is_number_kind kind) (name_passes is_no_number kind names_are_no_numbers name)
