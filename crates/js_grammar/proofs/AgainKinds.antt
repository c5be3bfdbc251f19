-- Kinds of tokens that a goal may read again.
use Rattle.std.proofs.Common.{◌≡◌, ◌⊎◌, ◌<◌, Bool, true, false, List, [], ◌∷◌, length, refl, sym, ◌∙◌, ap, inl, inr}
use Rattle.std.specs.Prelude.{◌||◌, ◌==◌}
use Rattle.std.specs.List.{flat_map, list_all, list_any}
use Rattle.std.proofs.Math.Dec.{ltb}
use Rattle.std.proofs.lemmas.Bool.{eqb-true, ltb-true, or_cases}
use Rattle.std.proofs.lemmas.List.Folds.{list_any-append}
use Rattle.js_kind.specs.Kinds.{is_one_of, kind_text, number}
use Rattle.js_kind.specs.declared.kind.Kind.{Kind}
use Rattle.js_kind.proofs.KindNumbers.{number_injective}
use Rattle.js_kind.proofs.Members.{one_passes}
use Rattle.js_grammar.specs.ReLexed.{again_goals, again_kinds, is_re_lexed, re_lexed_kinds}
use Rattle.js_grammar.specs.declared.goal.Goal.{Goal}
use Rattle.js_grammar.specs.declared.goal.Goal.TheVariants.{First, Next, TemplateTail, RegularExpression, RightAngle}
use Rattle.js_grammar.specs.declared.goal.Goal.TheVariants.{TypeScriptLeftAngle, TypeScriptRightAngle, JsxIdentifier}
use Rattle.js_grammar.specs.declared.goal.Goal.TheVariants.{JsxChild, JsxAttributeValue}

-- one of the lists has the kind
abbrev is_of_one : List Goal → Kind → Bool
is_of_one gs kind = list_any (λ goal. is_one_of (again_kinds goal) kind) gs

of_one : (gs : List Goal) (kind : Kind) → is_of_one gs kind ≡ is_one_of (flat_map again_kinds gs) kind
of_one [] kind = refl
of_one (g ∷ gs) kind =
    ap (λ b. is_one_of (again_kinds g) kind || b) (of_one gs kind)
    ∙ sym (list_any-append (λ other. number kind == number other) (again_kinds g) (flat_map again_kinds gs))

by_goals : (kind : Kind) → is_of_one again_goals kind ≡ is_re_lexed kind
unfolding is_re_lexed
by_goals kind = of_one again_goals kind

or_none : (a b c d e : Bool) → a ≡ false → b ≡ false → c ≡ false → d ≡ false
    → e ≡ (a || (b || (c || (d || (e || false)))))
or_none a b c d true na nb nc nd = rw (na, nb, nc, nd) refl
or_none a b c d false na nb nc nd = rw (na, nb, nc, nd) refl

-- What no other goal may read again may be read again where the last one may do it.
pub by_last_goal : (kind : Kind) → is_one_of (again_kinds TemplateTail) kind ≡ false
    → is_one_of (again_kinds RegularExpression) kind ≡ false → is_one_of (again_kinds RightAngle) kind ≡ false
    → is_one_of (again_kinds TypeScriptLeftAngle) kind ≡ false
    → is_one_of (again_kinds TypeScriptRightAngle) kind ≡ is_re_lexed kind
by_last_goal kind part expression angle left =
    or_none _ _ _ _ (is_one_of (again_kinds TypeScriptRightAngle) kind) part expression angle left ∙ by_goals kind

all_again : (goal : Goal) → list_all is_re_lexed (again_kinds goal) ≡ true
unfolding is_re_lexed
all_again First = refl
all_again Next = refl
all_again TemplateTail = refl
all_again RegularExpression = refl
all_again RightAngle = refl
all_again TypeScriptLeftAngle = refl
all_again TypeScriptRightAngle = refl
all_again JsxIdentifier = refl
all_again JsxChild = refl
all_again JsxAttributeValue = refl

-- What one goal may read again may be read again.
pub again_is_re_lexed : (goal : Goal) (kind : Kind) → is_one_of (again_kinds goal) kind ≡ true
    → is_re_lexed kind ≡ true
again_is_re_lexed goal kind is = one_passes is_re_lexed (again_kinds goal) kind (all_again goal) is

-- no spelling is long
abbrev is_short : Kind → Bool
is_short kind = ltb (length (kind_text kind)) 4

short_texts : list_all is_short re_lexed_kinds ≡ true
short_texts = refl

pub spelled_shortly : (kind : Kind) → is_re_lexed kind ≡ true → length (kind_text kind) < 4
unfolding is_re_lexed
spelled_shortly kind is =
    ltb-true (length (kind_text kind)) 4 (one_passes is_short re_lexed_kinds kind short_texts is)

-- A kind of a list of one is this one.
pub only_one : (kind only : Kind) → is_one_of (only ∷ []) kind ≡ true → kind ≡ only
only_one kind only is = by_cases (or_cases (number kind == number only) false is)
  where
    by_cases : ((number kind == number only) ≡ true) ⊎ (false ≡ true) → kind ≡ only
    by_cases (inl same) = number_injective kind only (eqb-true _ _ same)
    by_cases (inr none) = absurd (cc)
