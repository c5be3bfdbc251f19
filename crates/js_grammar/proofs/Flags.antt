-- Tokens that are no names have no value and no escape; punctuators and the end of a source have no flag.
use Rattle.std.proofs.Common.{◌≡◌, ℕ, Bool, true, false, not, ◌&&◌, ◌||◌, List, ◌∷◌, refl, ◌∙◌, ap}
use Rattle.std.specs.List.{list_all}
use Rattle.js_text.specs.declared.value.RowValue.TheVariants.{Nothing}
use Rattle.js_kind.specs.Kinds.{is_identifier_name, is_number_kind, is_string_kind, is_template_kind, keywords}
use Rattle.js_kind.specs.declared.kind.Kind.{Kind}
use Rattle.js_kind.specs.declared.kind.Kind.TheVariants.{Eof, Ident, PrivateIdentifier}
use Rattle.js_kind.proofs.Members.{name_passes}
use Rattle.js_grammar.specs.Name.{has_escape}
use Rattle.js_grammar.specs.Punctuators.{Punctuator, punctuators, IsIn}
use Rattle.js_grammar.specs.Spelling.{is_escaped}
use Rattle.js_grammar.specs.TokenText.{is_named, is_private_name, is_quoted, is_valued}
use Rattle.js_grammar.specs.Spelling.{value_of}
use Rattle.js_grammar.specs.TokenText.{unescaped_value}
use Rattle.js_grammar.proofs.PunctuatorLemmas.{passes_at}
use Rattle.js_grammar.proofs.Tests.{and_true}

-- a kind whose tokens have no value and are no numbers
pub record IsUnflagged (kind : Kind) : Type 0 where
  pub no_value : is_valued kind ≡ false
  pub no_number : is_number_kind kind ≡ false

abbrev unflagged : Punctuator → Bool
unflagged p = not (is_valued p.kind) && not (is_number_kind p.kind)

punctuators_unflagged : list_all unflagged punctuators ≡ true
unfolding is_identifier_name is_private_name is_number_kind is_string_kind is_template_kind
punctuators_unflagged = refl

not_true : (b : Bool) → not b ≡ true → b ≡ false
not_true true e = absurd (cc)
not_true false e = refl

pub punctuator_unflagged : (p : Punctuator) (kind : Kind) → IsIn p punctuators → kind ≡ p.kind → IsUnflagged kind
punctuator_unflagged p kind i same =
    let both =
    and_true (not (is_valued p.kind)) (not (is_number_kind p.kind))
    (passes_at unflagged p punctuators i punctuators_unflagged) in
    record {
      no_value = ap is_valued same ∙ not_true _ both.0;
      no_number = ap is_number_kind same ∙ not_true _ both.1;
    }

pub end_unflagged : IsUnflagged Eof
unfolding is_identifier_name is_private_name is_number_kind is_string_kind is_template_kind
end_unflagged = record { no_value = refl; no_number = refl }

either_false : (a b : Bool) → (a || b) ≡ false → (a ≡ false) × (b ≡ false)
either_false true b e = absurd (cc)
either_false false b e = (refl, e)

-- a kind that is of no names is of neither
pub neither_name : (kind : Kind) → is_named kind ≡ false
    → (is_identifier_name kind ≡ false) × (is_private_name kind ≡ false)
neither_name kind e = either_false (is_identifier_name kind) (is_private_name kind) e

-- a kind that is of no strings and no templates is of neither
pub neither_quoted : (kind : Kind) → is_quoted kind ≡ false
    → (is_string_kind kind ≡ false) × (is_template_kind kind ≡ false)
neither_quoted kind e = either_false (is_string_kind kind) (is_template_kind kind) e

-- what a kind without values is none of
pub record IsNone (kind : Kind) : Type 0 where
  pub no_name : is_identifier_name kind ≡ false
  pub no_private_name : is_private_name kind ≡ false
  pub no_quoted : is_quoted kind ≡ false

pub none_of_them : (kind : Kind) → is_valued kind ≡ false → IsNone kind
none_of_them kind e =
    let both = either_false (is_named kind) (is_quoted kind) e in
    let names = neither_name kind both.0 in
    record { no_name = names.0; no_private_name = names.1; no_quoted = both.1 }

-- such a token has no value, and no escape
pub has_no_value : (kind : Kind) (xs ys : List ℕ) (end : ℕ) → is_valued kind ≡ false
    → value_of kind xs ys end ≡ Nothing
has_no_value kind xs ys end e =
    let none = none_of_them kind e in rw (none.no_name, none.no_private_name, none.no_quoted) refl

pub has_no_unescaped_value : (kind : Kind) (start end : ℕ) → is_valued kind ≡ false
    → unescaped_value kind start end ≡ Nothing
has_no_unescaped_value kind start end e = rw e refl

pub has_no_escape : (kind : Kind) (xs : List ℕ) → is_valued kind ≡ false → is_escaped kind xs ≡ false
has_no_escape kind xs e =
    let none = none_of_them kind e in
    let quoted = neither_quoted kind none.no_quoted in
    rw (quoted.1, none.no_name, none.no_private_name, quoted.0) refl

-- names are neither strings nor templates
abbrev is_unquoted : Kind → Bool
is_unquoted kind = not (is_quoted kind)

names_are_unquoted : list_all is_unquoted (Ident ∷ keywords) ≡ true
unfolding is_string_kind is_template_kind
names_are_unquoted = refl

pub name_is_unquoted : (kind : Kind) → is_identifier_name kind ≡ true → is_quoted kind ≡ false
name_is_unquoted kind is = not_true (is_quoted kind) (name_passes is_unquoted kind names_are_unquoted is)

pub private_name_is_unquoted : is_quoted PrivateIdentifier ≡ false
unfolding is_string_kind is_template_kind
private_name_is_unquoted = refl

-- names are escaped where an escape is in them
pub name_escape : (kind : Kind) (xs : List ℕ) → is_identifier_name kind ≡ true → is_escaped kind xs ≡ has_escape xs
name_escape kind xs is =
    rw ((neither_quoted kind (name_is_unquoted kind is)).1, is) refl

pub private_escape : (xs : List ℕ) → is_escaped PrivateIdentifier xs ≡ has_escape xs
unfolding is_identifier_name is_private_name is_template_kind
private_escape xs = refl
