-- Families of punctuators that begin with one character, read by what follows it.
use Rattle.std.specs.Prelude.{◌≡◌, ℕ, Bool, true, false, List, [], ◌∷◌, ◌++◌, ◌==◌, ◌&&◌, Option, Some, None, codes}
use Rattle.std.specs.List.{list_all, list_any}
use Rattle.std.specs.Str.{bytes_eq}
use Rattle.js_text.specs.Ascii.{equals_sign, greater_than_sign}
use Rattle.js_text.specs.declared.source_type.SourceType.{SourceType}
use Rattle.js_kind.specs.Kinds.{number}
use Rattle.js_kind.specs.declared.kind.Kind.{Kind}
use Rattle.js_kind.specs.declared.kind.Kind.TheVariants.{Arrow, Bang, Eq, Eq2, Eq3, Neq, Neq2, Pipe, Pipe2, Pipe2Eq}
use Rattle.js_kind.specs.declared.kind.Kind.TheVariants.{PipeEq}
use Rattle.js_kind.specs.declared.kind.Kind.TheVariants.{PipeGt}
use Rattle.js_grammar.specs.Punctuators.{Punctuator, punctuators, Exclusion, excludes_nothing, excludes_digits}
use Rattle.js_grammar.specs.Punctuators.{excludes_asterisk, excludes_reported_comment}
use Rattle.js_grammar.specs.Punctuators.{LongestPunctuator, NoPunctuator, going_on, is_not_next}
use Rattle.js_source.specs.Source.{At, rest}
use Rattle.js_spell.specs.declared.punctuator.Assigned.{Assigned}
use Rattle.js_spell.specs.declared.punctuator.Doubled.{Doubled}
use Rattle.js_spell.specs.declared.punctuator.Repeated.{Repeated}

-- The kinds of the punctuators that begin with a character `a`: `a`, `aa`, `aa=`, `a=`, `a==` and `a>`, as far as there
-- are such.
pub record Family : Type 0 where
  pub alone : Kind
  pub twice : Option Kind
  pub twice_equals : Option Kind
  pub equals : Option Kind
  pub equals_twice : Option Kind
  pub greater : Option Kind

-- Where no reported comment stands, anything may follow a punctuator with this text.
abbrev pub is_free : List ℕ → Exclusion → Bool
is_free text excludes_nothing = true
is_free text excludes_digits = false
is_free text excludes_asterisk = false
is_free text excludes_reported_comment = bytes_eq text (codes "<")

-- the punctuator has this text and this kind, and anything may follow it
abbrev pub is_free_punctuator : List ℕ → Kind → Punctuator → Bool
is_free_punctuator text kind p =
    bytes_eq p.text text && (number p.kind == number kind && is_free text p.exclusion)

-- There is such a punctuator, and those that are longer and begin with it go on with one of these characters.
abbrev pub is_member : List ℕ → List ℕ → Kind → Bool
is_member text next kind =
    list_any (is_free_punctuator text kind) punctuators
    && list_all (λ c. list_any (λ x. x == c) next) (going_on text punctuators)

-- the same of a member that a family may have
abbrev pub is_member_if : List ℕ → List ℕ → Option Kind → Bool
is_member_if text next None = true
is_member_if text next (Some kind) = is_member text next kind

-- the character, where a family has the member that goes on with it
abbrev pub next_if : ℕ → Option Kind → List ℕ
next_if c None = []
next_if c (Some kind) = c ∷ []

-- The family has its punctuators, by the table of all, and all those that begin with this character.
abbrev pub is_family : ℕ → Family → Bool
is_family a family =
    is_member (a ∷ [])
    ((next_if a family.twice ++ next_if equals_sign family.equals) ++ next_if greater_than_sign family.greater)
    family.alone
    && (is_member_if (a ∷ a ∷ []) (next_if equals_sign family.twice_equals) family.twice
    && (is_member_if (a ∷ a ∷ equals_sign ∷ []) [] family.twice_equals
    && (is_member_if (a ∷ equals_sign ∷ []) (next_if equals_sign family.equals_twice) family.equals
    && (is_member_if (a ∷ equals_sign ∷ equals_sign ∷ []) [] family.equals_twice
    && is_member_if (a ∷ greater_than_sign ∷ []) [] family.greater))))

-- a punctuator that is the only one of its family
abbrev pub only : Kind → Family
only kind = record {
  alone = kind;
  twice = None;
  twice_equals = None;
  equals = None;
  equals_twice = None;
  greater = None;
}

abbrev pub assigned : Assigned → Family
assigned kinds = record (only kinds.alone) { equals = Some kinds.equals }

abbrev pub repeated : Repeated → Family
repeated kinds = record (only kinds.alone) { twice = Some kinds.twice; equals = Some kinds.equals }

abbrev pub doubled : Doubled → Family
doubled kinds = record (only kinds.alone) {
  twice = Some kinds.twice;
  twice_equals = Some kinds.twice_equals;
  equals = Some kinds.equals;
}

abbrev pub exclamation_marks : Family
exclamation_marks = record (only Bang) { equals = Some Neq; equals_twice = Some Neq2 }

abbrev pub equals_signs : Family
equals_signs = record (only Eq) { equals = Some Eq2; equals_twice = Some Eq3; greater = Some Arrow }

abbrev pub vertical_lines : Family
vertical_lines =
    record (only Pipe) { twice = Some Pipe2; twice_equals = Some Pipe2Eq; equals = Some PipeEq; greater = Some PipeGt }

-- The character was next and was taken, and the member goes on with it; or nothing was read, and no member does.
abbrev pub TakesNext : ℕ → Option Kind → At → At → Option Kind → Type 0
TakesNext c member old new (Some kind) = (member ≡ Some kind) × (new.text ≡ old.text) × (rest old ≡ c ∷ rest new)
TakesNext c member old new None = (new ≡ old) × (list_all (is_not_next (rest old)) (next_if c member) ≡ true)

-- The longest punctuator, of the kind that is the answer; or none is there, and nothing was read.
abbrev pub ReadsPunctuator : SourceType → Bool → At → At → Option Kind → Type 0
ReadsPunctuator t line_has_ended old new (Some kind) =
    (new.text ≡ old.text) × LongestPunctuator t line_has_ended (rest old) (rest new) kind
ReadsPunctuator t line_has_ended old new None = (new ≡ old) × NoPunctuator t line_has_ended (rest old)
