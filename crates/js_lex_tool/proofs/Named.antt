-- The names of kinds in rooms of one width.
use Rattle.std.proofs.Common.{◌≡◌, ℕ, ◌+◌, ◌-◌, ◌<◌, ◌≤◌, true, List, [], length, get_or, set, refl, arith, ltb, subst}
use Rattle.std.proofs.Common.{◌∙◌, eq-zero-or-pos, inl, inr, length-set, codes, ◌++◌, ◌∷◌, ◌&&◌, Bool, Some}
use Rattle.std.proofs.lemmas.Bool.{ltb-true, and_parts}
use Rattle.std.proofs.lemmas.List.{get_or-set_same, get_or-set_other}
use Rattle.std.proofs.lemmas.Str.{IsUtf8-from_ascii, IsAscii-append}
use Rattle.std.proofs.lemmas.Str.Ascii.{IsAscii-cons, IsAscii-nil}
use Rattle.std.specs.Str.{IsAscii, IsUtf8}
use Rattle.std.proofs.lemmas.Option.{slice_get_within}
use Rattle.std.specs.Prelude.{slice_get}
use Rattle.js_kind.proofs.KindNumbers.{kind_at_number}
use Rattle.js_kind.specs.Kinds.{kind_name, number}
use Rattle.js_kind.specs.declared.kind.Kind.{Kind}
use Rattle.js_kind.specs.declared.kind.Kind.TheVariants as variant
use Rattle.js_kind.specs.declared.kind.TheConstants.Kind.{VARIANTS}
use Rattle.js_lex_tool.specs.Names.{EndsInName, HasNames}
use Rattle.js_lex_tool.specs.declared.names.Name.{Name}

few_letters : (kind : Kind) → ltb (length (kind_name kind)) 23 ≡ true
few_letters variant.Eof = refl
few_letters _ = refl

-- The names of kinds are short.
pub name_is_short : (kind : Kind) → length (kind_name kind) ≤ 22
name_is_short k =
    let short : length (kind_name k) < 23 = ltb-true (length (kind_name k)) 23 (few_letters k) in omega arith

-- The kinds below this number have their names.
abbrev HaveNames : ℕ → List Name → Type 0
HaveNames n names = (k : ℕ) (kind : Kind) → k < n → slice_get VARIANTS k ≡ Some kind
    → EndsInName kind (get_or names k (record { room = []; len = 0 }))

-- The list has a place for each number, and the kinds below this one have their names there.
abbrev pub NamedBelow : ℕ → List Name → Type 0
NamedBelow n names = (length names ≡ 256) × HaveNames n names

have_more : (names : List Name) (n : ℕ) (kind : Kind) (name : Name) → n < length names
    → slice_get VARIANTS n ≡ Some kind → EndsInName kind name → HaveNames n names
    → HaveNames (n + 1) (set names n name)
have_more names n kind name room at ends below k other lt other_at =
    elim (eq-zero-or-pos (n - k)) [
      | inl z ↦
          let e : k ≡ n = omega arith in
          let same : kind ≡ other = cc in
          rw (e, get_or-set_same names n name (record { room = []; len = 0 }) room)
          (subst (λ (it : Kind). EndsInName it name) same ends)
      | inr g ↦
          rw (get_or-set_other names n k name (record { room = []; len = 0 }) (λ (e : k ≡ n). omega (arith, e)))
          (below k other (omega arith) other_at)
    ]

-- One more has it.
pub names_more : (names : List Name) (n : ℕ) (kind : Kind) (name : Name) → n < 171
    → slice_get VARIANTS n ≡ Some kind → EndsInName kind name → NamedBelow n names
    → NamedBelow (n + 1) (set names n name)
names_more names n kind name low is ends (room, below) = (
  length-set names n name ∙ room,
  have_more names n kind name (omega arith) is ends below,
)

-- Where all have theirs, each stands at the number of its kind.
pub all_named : (names : List Name) (n : ℕ) → length VARIANTS ≤ n → NamedBelow n names → HasNames names
all_named names n all (room, below) = record {
  at_number = λ kind.
      let at = kind_at_number kind in
      let within = slice_get_within VARIANTS (number kind) kind at in
      below (number kind) kind (omega arith) at;
}

ascii : List ℕ → Bool
ascii [] = true
ascii (b ∷ bs) = ltb b 128 && ascii bs

from_ascii : (bs : List ℕ) → ascii bs ≡ true → IsAscii bs
unfolding ascii
from_ascii [] e = IsAscii-nil
from_ascii (b ∷ bs) e =
    let parts = and_parts (ltb b 128) (ascii bs) e in
    IsAscii-cons b bs (ltb-true b 128 parts.0) (from_ascii bs parts.1)

letters_are_ascii : (kind : Kind) → ascii (kind_name kind) ≡ true
unfolding ascii
letters_are_ascii variant.Eof = refl
letters_are_ascii _ = refl

-- A name and a blank are UTF-8.
pub name_utf8 : (kind : Kind) → IsUtf8 (kind_name kind ++ codes " ")
unfolding ascii
name_utf8 kind =
    IsUtf8-from_ascii (kind_name kind ++ codes " ")
    (IsAscii-append (kind_name kind) (codes " ") (from_ascii (kind_name kind) (letters_are_ascii kind))
    (from_ascii (codes " ") refl))
