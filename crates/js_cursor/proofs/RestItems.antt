-- The items of lists that a rest may end.
use Rattle.std.proofs.Common.{◌≡◌, Bool, true, false, List, [], ◌∷◌, ◌++◌, refl, ap, subst}
use Rattle.js_text.specs.declared.span.Span.{Span}
use Rattle.js_kind.specs.declared.kind.Kind.{Kind}
use Rattle.js_kind.specs.declared.kind.Kind.TheVariants.{Comma}
use Rattle.js_cursor.specs.Cursor.{CursorState}
use Rattle.js_cursor.specs.Lists.{IsSeparated}
use Rattle.js_cursor.specs.RestSteps.{GoesBehindItem}
use Rattle.js_cursor.specs.Rests.{EndsBehindItem, Item, elements}
use Rattle.js_cursor.specs.Rests.Item.{element, rest}

pub elements-append : {A R : Type 0} (xs ys : List (Item A R)) → elements (xs ++ ys) ≡ elements xs ++ elements ys
elements-append [] ys = refl
elements-append (element x ∷ xs) ys = ap (λ zs. x ∷ zs) (elements-append xs ys)
elements-append (rest r ∷ xs) ys = elements-append xs ys

-- where a list goes on, a comma was passed
pub separated_behind : (close : Kind) (opening : Span) (is_rest : Bool) (c : CursorState) (goes_on : Bool)
    (d : CursorState) → goes_on ≡ true → GoesBehindItem close opening is_rest c goes_on d → IsSeparated close Comma c d
separated_behind close opening is_rest c true d e behind = behind
separated_behind close opening is_rest c false d e behind = absurd (cc)

-- where it does not, it ends
pub ends_behind : (close : Kind) (opening : Span) (is_rest has_rest : Bool) (c : CursorState) (goes_on : Bool)
    (d : CursorState) → goes_on ≡ false → is_rest ≡ has_rest → GoesBehindItem close opening is_rest c goes_on d
    → EndsBehindItem close opening has_rest c d
ends_behind close opening is_rest has_rest c true d e same behind = absurd (cc)
ends_behind close opening is_rest has_rest c false d e same behind =
    subst (λ b. EndsBehindItem close opening b c d) same behind
