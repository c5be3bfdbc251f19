-- Values that are kept.
use Rattle.std.proofs.Common.{◌≡◌, ℕ, Bool, true, false, List, refl, sym, ◌∙◌, ap, subst, arith, Option, Some, cond}
use Rattle.std.specs.Prelude.{nat_eq}
use Rattle.std.proofs.lemmas.Bool.{eqb-true}
use Rattle.std.proofs.lemmas.Bool.Decides.{nat_tests}
use Rattle.js_text.specs.Characters.{from_place}
use Rattle.js_kind.specs.declared.kind.Kind.{Kind}
use Rattle.js_kind.specs.Kinds.{is_template_kind}
use Rattle.js_grammar.specs.Values.{decoded_units, template_units}
use Rattle.js_source.specs.Source.{At, rest}
use Rattle.js_kind.specs.TokenParts.{TokenParts}
use Rattle.js_reader.specs.Decoded.{Values, Placed, value_of, Holds, HoldsString, HoldsTemplate, AreOf, AreValues}
use Rattle.js_reader.specs.Decoded.{KeepsPlaced, Keeps, KeepsValues, IsKeptAs, HasValue, HasValueHere}

pub keeps_all : (values : Values) → Keeps values values
keeps_all values = record { strings = λ start units e. e; templates = λ start units e. e }

-- where nothing is added
pub keeps_same : (text : List ℕ) (old new : Values) → new ≡ old → KeepsValues text old new
keeps_same text old new same = record {
  kept = λ are. subst (Keeps old) (sym same) (keeps_all old);
  are_values = λ are. subst (AreValues text) (sym same) are;
}

-- what holds where the value of a token is added
record IsHeld (A : Type 0) (told : List ℕ → A) (text : List ℕ) (old new : Placed A) : Type 0 where
  kept : KeepsPlaced A old new
  are : AreOf A told text new

held_more : (A : Type 0) (told : List ℕ → A) (text : List ℕ) (place : ℕ) (value : A) (old new : Placed A)
    → Holds place value old new → value ≡ told (from_place text place) → AreOf A told text old
    → IsHeld A told text old new
held_more A told text place value old new holds is before = record {
  kept = λ start units e. kept_at start units e (nat_eq start place) refl;
  are = λ start units e. value_at start units e (nat_eq start place) refl;
}
  where
    held : (start : ℕ) (b : Bool) → nat_eq start place ≡ b
        → value_of new start ≡ cond b (Some value) (value_of old start)
    held start b e = holds start ∙ ap (λ x. cond x (Some value) (value_of old start)) e

    there : (start : ℕ) → nat_eq start place ≡ true → value ≡ told (from_place text start)
    there start e = is ∙ ap (λ p. told (from_place text p)) (sym (eqb-true start place e))

    kept_at : (start : ℕ) (units : A) → value_of old start ≡ Some units
        → (b : Bool) → nat_eq start place ≡ b → value_of new start ≡ Some units
    kept_at start units e true at = held start true at ∙ ap Some (there start at ∙ sym (before start units e))
    kept_at start units e false at = held start false at ∙ e

    value_at : (start : ℕ) (units : A) → value_of new start ≡ Some units
        → (b : Bool) → nat_eq start place ≡ b → units ≡ told (from_place text start)
    value_at start units e true at =
        let same : Some value ≡ Some units = sym (held start true at) ∙ e in
        let is_it : value ≡ units = cc in
        sym is_it ∙ there start at
    value_at start units e false at = before start units (sym (held start false at) ∙ e)

is_there : (A : Type 0) (place : ℕ) (value : A) (old new : Placed A) → Holds place value old new
    → value_of new place ≡ Some value
is_there A place value old new holds = holds place ∙ at (nat_eq place place) (same place)
  where
    same : (n : ℕ) → nat_eq n n ≡ true
    same n = grind (arith, nat_tests)

    at : (b : Bool) → b ≡ true → cond b (Some value) (value_of old place) ≡ Some value
    at true e = refl
    at false e = absurd (cc)

-- the value of a name or a string is added
pub keeps_string : (here : At) (value : List ℕ) (old new : Values) → HoldsString here.place value old new
    → value ≡ decoded_units (rest here) → KeepsValues here.text old new
keeps_string here value old new holds is = record {
  kept = λ are. record {
    strings = (held are).kept;
    templates = subst (KeepsPlaced (Option (List ℕ)) old.templates) (sym holds.templates) (λ start units e. e);
  };
  are_values = λ are. record {
    strings = (held are).are;
    templates = subst (AreOf (Option (List ℕ)) template_units here.text) (sym holds.templates) are.templates;
  };
}
  where
    held : AreValues here.text old → IsHeld (List ℕ) decoded_units here.text old.strings new.strings
    held are =
        held_more (List ℕ) decoded_units here.text here.place value old.strings new.strings holds.strings is
        are.strings

-- the value of a part of a template is added
pub keeps_template : (here : At) (value : Option (List ℕ)) (old new : Values)
    → HoldsTemplate here.place value old new → value ≡ template_units (rest here) → KeepsValues here.text old new
keeps_template here value old new holds is = record {
  kept = λ are. record {
    templates = (held are).kept;
    strings = subst (KeepsPlaced (List ℕ) old.strings) (sym holds.strings) (λ start units e. e);
  };
  are_values = λ are. record {
    templates = (held are).are;
    strings = subst (AreOf (List ℕ) decoded_units here.text) (sym holds.strings) are.strings;
  };
}
  where
    held : AreValues here.text old
        → IsHeld (Option (List ℕ)) template_units here.text old.templates new.templates
    held are =
        held_more (Option (List ℕ)) template_units here.text here.place value old.templates new.templates
        holds.templates is are.templates

-- and it is there then
pub has_string : (here : At) (value : List ℕ) (old new : Values) (kind : Kind) (escaped : Bool)
    → is_template_kind kind ≡ false → HoldsString here.place value old new → value ≡ decoded_units (rest here)
    → HasValueHere here new kind escaped
has_string here value old new kind escaped none holds is =
    λ _. subst (λ b. IsKeptAs b new here.place (rest here)) (sym none)
    (is_there (List ℕ) here.place value old.strings new.strings holds.strings ∙ ap Some is)

pub has_template : (here : At) (value : Option (List ℕ)) (old new : Values) (kind : Kind) (escaped : Bool)
    → is_template_kind kind ≡ true → HoldsTemplate here.place value old new → value ≡ template_units (rest here)
    → HasValueHere here new kind escaped
has_template here value old new kind escaped is_one holds is =
    λ _. subst (λ b. IsKeptAs b new here.place (rest here)) (sym is_one)
    (is_there (Option (List ℕ)) here.place value old.templates new.templates holds.templates ∙ ap Some is)

-- a token without an escape needs none
pub needs_no_value : (here : At) (values : Values) (kind : Kind) (escaped : Bool) → escaped ≡ false
    → HasValueHere here values kind escaped
needs_no_value here values kind escaped e = λ is. let no : true ≡ false = sym is ∙ e in absurd (cc)

-- a token without an escape needs no value
pub no_value : (text : List ℕ) (values : Values) (token : TokenParts) → token.escaped ≡ false
    → HasValue text values token
no_value text values token none = λ is. absurd (let no : true ≡ false = sym is ∙ none in cc)
