-- Angles that are read again: `>` and what it is the first character of, and the first character of a compound one.
use Rattle.std.specs.Prelude.{ℕ, List, [], ◌∷◌, length, drop, Option, Some, None, if◌then◌else◌}
use Rattle.js_kind.specs.Kinds.{kind_text}
use Rattle.js_kind.specs.declared.kind.Kind.{Kind}
use Rattle.js_kind.specs.declared.kind.Kind.TheVariants.{GtEq, LAngle, RAngle, ShiftRight, ShiftRight3, ShiftRight3Eq}
use Rattle.js_kind.specs.declared.kind.Kind.TheVariants.{ShiftRightEq}
use Rattle.js_grammar.specs.Gap.{is_prefix}
use Rattle.js_grammar.specs.Reading.{Reading, read_up_to}

-- the punctuators that begin with `>`, the longest first
abbrev pub right_angles : List Kind
right_angles = ShiftRight3Eq ∷ ShiftRight3 ∷ ShiftRightEq ∷ ShiftRight ∷ GtEq ∷ RAngle ∷ []

-- `<` alone
abbrev pub first_left_angle : List Kind
first_left_angle = LAngle ∷ []

-- `>` alone
abbrev pub first_right_angle : List Kind
first_right_angle = RAngle ∷ []

-- a punctuator of this kind, where the text begins with it
abbrev pub punctuator_reading : Kind → List ℕ → Reading
punctuator_reading kind text = read_up_to kind text (drop (length (kind_text kind)) text)

-- The first punctuator of the list that the text begins with.
abbrev pub angle_reading : List Kind → List ℕ → Option Reading
angle_reading [] text = None
angle_reading (kind ∷ kinds) text =
    if is_prefix (kind_text kind) text then Some (punctuator_reading kind text)
    else angle_reading kinds text
