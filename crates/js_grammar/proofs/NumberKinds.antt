-- The kinds of numbers.
use Rattle.std.proofs.Common.{◌≡◌, ℕ, Bool, false, true, List, refl, inl, inr, ◌==◌, ◌||◌, Some, None}
use Rattle.std.proofs.Common.{subst}
use Rattle.js_kind.specs.Kinds.{is_identifier_name, is_number_kind, is_string_kind, is_template_kind}
use Rattle.js_grammar.specs.ReLexed.{is_re_lexed}
use Rattle.js_grammar.specs.TokenText.{is_valued, is_private_name}
use Rattle.js_kind.specs.declared.kind.Kind.{Kind}
use Rattle.js_grammar.specs.Number.{Base, base_of, IsExponent, IsNumber, Sign, sign_kind}
use Rattle.js_grammar.specs.Number.Sign.{no_sign, plus, minus}
use Rattle.js_grammar.specs.Number.IsExponent.{exponent}
use Rattle.js_grammar.specs.Number.IsNumber.{prefixed, prefixed_big, decimal, decimal_big, with_point, with_exponent}
use Rattle.js_grammar.specs.Number.IsNumber.{point_first, legacy_octal, legacy_decimal}
use Rattle.js_grammar.proofs.NumberItems.{true_or_false}

-- tokens of the kind have a value, or may be read again
abbrev pub is_marked : Kind → Bool
is_marked kind = is_valued kind || is_re_lexed kind

pub unmarked_parts : (kind : Kind) → is_marked kind ≡ false → (is_valued kind ≡ false) × (is_re_lexed kind ≡ false)
unmarked_parts kind e = parts (is_valued kind) (is_re_lexed kind) e
  where
    parts : (a b : Bool) → (a || b) ≡ false → (a ≡ false) × (b ≡ false)
    parts true b e = absurd (cc)
    parts false b e = (refl, e)

-- tokens of a kind of numbers are neither
pub record IsNumberKind (kind : Kind) : Type 0 where
  pub is_number : is_number_kind kind ≡ true
  pub unmarked : is_marked kind ≡ false

abbrev AreNumberKinds : Base → Type 0
AreNumberKinds base = IsNumberKind base.kind × IsNumberKind base.big_kind

some_base : (a b : Base) → Some a ≡ Some b → AreNumberKinds a → AreNumberKinds b
some_base a b e h = let same : a ≡ b = cc in subst AreNumberKinds same h

pub base_kinds : (c : ℕ) (base : Base) → base_of c ≡ Some base → AreNumberKinds base
unfolding is_identifier_name is_private_name is_string_kind is_template_kind is_re_lexed is_number_kind
base_kinds c base e =
    elim (true_or_false ((c == 98) || (c == 66))) [
      | inl is ↦
          some_base _ base (rw is at e)
          (record { is_number = refl; unmarked = refl }, record { is_number = refl; unmarked = refl })
      | inr other ↦ elim (true_or_false ((c == 111) || (c == 79))) [
        | inl is ↦
            some_base _ base (rw (other, is) at e)
            (record { is_number = refl; unmarked = refl }, record { is_number = refl; unmarked = refl })
        | inr another ↦ elim (true_or_false ((c == 120) || (c == 88))) [
          | inl is ↦
              some_base _ base (rw (other, another, is) at e)
              (record { is_number = refl; unmarked = refl }, record { is_number = refl; unmarked = refl })
          | inr none ↦ (let h : None ≡ Some base = rw (other, another, none) at e in absurd (cc))
        ]
      ]
    ]

pub sign_is_number : (sign : Sign) → IsNumberKind (sign_kind sign)
unfolding is_identifier_name is_private_name is_string_kind is_template_kind is_re_lexed is_number_kind
sign_is_number no_sign = record { is_number = refl; unmarked = refl }
sign_is_number plus = record { is_number = refl; unmarked = refl }
sign_is_number minus = record { is_number = refl; unmarked = refl }

exponent_kind : (xs : List ℕ) (kind : Kind) → IsExponent xs kind → IsNumberKind kind
exponent_kind xs kind (exponent mark sign digits is run here kind_is) = rw kind_is (sign_is_number sign)

-- a number has a kind of numbers
pub number_kind : (xs : List ℕ) (kind : Kind) → IsNumber xs kind → IsNumberKind kind
unfolding is_identifier_name is_private_name is_string_kind is_template_kind is_re_lexed is_number_kind
number_kind xs kind (prefixed c base ds letter is here kind_is) = rw kind_is (base_kinds c base letter).0
number_kind xs kind (prefixed_big c base ds letter is here kind_is) = rw kind_is (base_kinds c base letter).1
number_kind xs kind (decimal is kind_is) = rw kind_is (record { is_number = refl; unmarked = refl })
number_kind xs kind (decimal_big ds is here kind_is) = rw kind_is (record { is_number = refl; unmarked = refl })
number_kind xs kind (with_point ds fs es d f p here kind_is) = rw kind_is (record { is_number = refl; unmarked = refl })
number_kind xs kind (with_exponent ds es d p here) = exponent_kind es kind p
number_kind xs kind (point_first fs es f p here kind_is) = rw kind_is (record { is_number = refl; unmarked = refl })
number_kind xs kind (legacy_octal is kind_is) = rw kind_is (record { is_number = refl; unmarked = refl })
number_kind xs kind (legacy_decimal is kind_is) = rw kind_is (record { is_number = refl; unmarked = refl })
