-- Kinds in a list of kinds.
use Rattle.std.proofs.Common.{◌≡◌, ◌⊎◌, ◌==◌, Bool, true, List, [], ◌∷◌, refl, sym, ◌∙◌, ap, inl, inr}
use Rattle.std.proofs.lemmas.Bool.{and_parts, or_cases, or_left, or_right, eq-eqb, eqb-true}
use Rattle.std.specs.List.{list_all}
use Rattle.js_kind.specs.declared.kind.Kind.{Kind}
use Rattle.js_kind.specs.declared.kind.Kind.TheVariants as variant
use Rattle.js_kind.specs.Kinds.{number, is_one_of, is_name_kind, is_identifier_name, keywords}
use Rattle.js_kind.proofs.KindNumbers.{number_injective}

-- A kind is one of a list that begins with it.
pub is_first : (kind : Kind) (kinds : List Kind) → is_one_of (kind ∷ kinds) kind ≡ true
is_first kind kinds = or_left (number kind == number kind) (is_one_of kinds kind) (eq-eqb _ _ refl)

-- A kind of a list is one of a longer list.
pub is_later : (kind other : Kind) (kinds : List Kind) → is_one_of kinds kind ≡ true
    → is_one_of (other ∷ kinds) kind ≡ true
is_later kind other kinds is = or_right (number kind == number other) (is_one_of kinds kind) is

-- What a test tells of each kind of a list, it tells of a kind that is one of them.
pub one_passes : (test : Kind → Bool) (kinds : List Kind) (kind : Kind) → list_all test kinds ≡ true
    → is_one_of kinds kind ≡ true → test kind ≡ true
one_passes test [] kind all is = absurd (cc)
one_passes test (k ∷ ks) kind all is =
    let parts = and_parts (test k) (list_all test ks) all
    in by_cases (or_cases (number kind == number k) (is_one_of ks kind) is) parts.0 (one_passes test ks kind parts.1)
  where
    by_cases : ((number kind == number k) ≡ true) ⊎ (is_one_of ks kind ≡ true) → test k ≡ true
        → (is_one_of ks kind ≡ true → test kind ≡ true) → test kind ≡ true
    by_cases (inl same) first later = ap test (number_injective kind k (eqb-true _ _ same)) ∙ first
    by_cases (inr in_rest) first later = later in_rest

-- The words are the kinds of their list.
pub listed : (kind : Kind) → is_name_kind kind ≡ is_one_of keywords kind
unfolding is_name_kind
listed variant.Eof = refl
listed _ = refl

-- The kinds of identifier names are those and `Ident`.
pub name_listed : (kind : Kind) → is_identifier_name kind ≡ is_one_of (variant.Ident ∷ keywords) kind
unfolding is_identifier_name
name_listed variant.Eof = refl
name_listed _ = refl

-- What a test tells of each word, it tells of a kind that is one.
pub word_passes : (test : Kind → Bool) (kind : Kind) → list_all test keywords ≡ true → is_name_kind kind ≡ true
    → test kind ≡ true
word_passes test kind all word = one_passes test keywords kind all (sym (listed kind) ∙ word)

-- What it tells of `Ident` too, it tells of each kind of identifier names.
pub name_passes : (test : Kind → Bool) (kind : Kind) → list_all test (variant.Ident ∷ keywords) ≡ true
    → is_identifier_name kind ≡ true → test kind ≡ true
name_passes test kind all name = one_passes test (variant.Ident ∷ keywords) kind all (sym (name_listed kind) ∙ name)
