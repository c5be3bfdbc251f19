-- The values of names without an escape.
use Rattle.std.proofs.Common.{◌≡◌, ℕ, Bool, true, false, not, ◌∷◌, refl}
use Rattle.std.specs.List.{list_all}
use Rattle.js_text.specs.declared.value.RowValue.TheVariants.{Slice}
use Rattle.js_kind.specs.Kinds.{is_identifier_name, keywords}
use Rattle.js_kind.specs.declared.kind.Kind.{Kind}
use Rattle.js_kind.specs.declared.kind.Kind.TheVariants.{Ident}
use Rattle.js_kind.proofs.Members.{name_passes}
use Rattle.js_grammar.specs.TokenText.{is_private_name, unescaped_value}
use Rattle.js_grammar.proofs.Flags.{name_is_unquoted}

not_true : (b : Bool) → not b ≡ true → b ≡ false
not_true true e = absurd (cc)
not_true false e = refl

abbrev is_public_name : Kind → Bool
is_public_name kind = not (is_private_name kind)

names_are_public : list_all is_public_name (Ident ∷ keywords) ≡ true
unfolding is_private_name
names_are_public = refl

-- a name is its whole stretch
pub name_value : (kind : Kind) (start end : ℕ) → is_identifier_name kind ≡ true
    → unescaped_value kind start end ≡ Slice (record { start = start; end = end })
name_value kind start end is =
    let public = not_true (is_private_name kind) (name_passes is_public_name kind names_are_public is) in
    let unquoted = name_is_unquoted kind is in
    rw (is, public, unquoted) refl
