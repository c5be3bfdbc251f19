-- Lists that a rest may end.
use Rattle.std.specs.Prelude.{◌≡◌, ◌&&◌, Bool, true, false, not, List, [], ◌∷◌, Option, Some, None, if◌then◌else◌}
use Rattle.std.specs.Option.{is_some}
use Rattle.js_text.specs.declared.span.Span.{Span}
use Rattle.js_kind.specs.Kinds.{is_one_of}
use Rattle.js_kind.specs.declared.kind.Kind.{Kind}
use Rattle.js_kind.specs.declared.kind.Kind.TheVariants.{Comma, Dot3, Eof, Undetermined}
use Rattle.js_cursor.specs.Cursor.{CursorState, Advances, is_at, span_of, with_error, with_fatal_error}
use Rattle.js_cursor.specs.Lists.{IsSeparated, Reading, ReadsSeparated, ends_at, neither_closed_nor_separated}
use Rattle.js_cursor.specs.declared.diagnostic.CursorDiagnostic.{CursorDiagnostic}
use Rattle.js_cursor.specs.declared.diagnostic.CursorDiagnostic.TheVariants.{RestElementTrailingComma}

-- what stands in such a list: an element, or a rest
pub data Item (A R : Type 0) : Type 0 where
  element : A → Item A R
  rest : R → Item A R

-- the elements among the items
abbrev pub elements : {A R : Type 0} → List (Item A R) → List A
elements [] = []
elements (element x ∷ items) = x ∷ elements items
elements (rest r ∷ items) = elements items

-- what reads elements, what reads rests, and the rest that was read
pub record Readers (E P R : Type 0) : Type 0 where
  pub element : E
  pub rest : P
  pub found : Option R

-- Where no rest was read yet, an item that begins with `...` is a rest, and any other an element.
abbrev pub ReadsItem : {E P A R : Type 0} → Reading E A → Reading P R → Reading (Readers E P R) (Item A R)
ReadsItem of_element of_rest s c (element x) t d =
    (s.found ≡ None) × (is_at Dot3 c ≡ false) × of_element s.element c x t.element d × (t.rest ≡ s.rest)
    × (t.found ≡ None)
ReadsItem of_element of_rest s c (rest r) t d =
    (s.found ≡ None) × (is_at Dot3 c ≡ true) × of_rest s.rest c r t.rest d × (t.element ≡ s.element)
    × (t.found ≡ Some r)

-- a comma at the span between a rest and the end of its list is an error, but in an ambient context
abbrev pub noting_trailing_comma : Bool → Span → CursorState → CursorState
noting_trailing_comma has_rest span c =
    if has_rest && not c.ambient then with_error (RestElementTrailingComma span) c else c

-- Where such a list ends behind an item, be it a rest or not.
pub data EndsBehindItem (close : Kind) (opening : Span) (is_rest : Bool) (c new : CursorState) : Type 0 where
  closed : ends_at close c ≡ true → new ≡ c → EndsBehindItem close opening is_rest c new
  neither : ends_at close c ≡ false → is_at Comma c ≡ false
      → new ≡ neither_closed_nor_separated close Comma opening c → EndsBehindItem close opening is_rest c new
  trails : ends_at close c ≡ false → is_at Comma c ≡ true → (between : CursorState) → Advances Comma c between
      → is_at close between ≡ true → new ≡ noting_trailing_comma is_rest (span_of c.token) between
      → EndsBehindItem close opening is_rest c new
  cut_off : ends_at close c ≡ false → is_at Comma c ≡ true → Advances Comma c new → is_at close new ≡ false
      → is_one_of (Eof ∷ Undetermined ∷ []) new.token.kind ≡ true → EndsBehindItem close opening is_rest c new

-- Where such a list ends: there, or at an item behind the rest, which stops the cursor with the error of that rest.
pub data EndsWithRest {R : Type 0} (close : Kind) (opening : Span) (rest_last : R → CursorDiagnostic → Type 0)
    (c : CursorState) (found : Option R) (new : CursorState) : Type 0 where
  ends : EndsBehindItem close opening (is_some found) c new → EndsWithRest close opening rest_last c found new
  rest_is_not_last : (r : R) → found ≡ Some r → (between : CursorState) → IsSeparated close Comma c between
      → (error : CursorDiagnostic) → rest_last r error → new ≡ with_fatal_error error between
      → EndsWithRest close opening rest_last c found new

-- the readers of a list, before any of its items
abbrev pub no_rest_yet : {E P R : Type 0} → E → P → Readers E P R
no_rest_yet e p = record { element = e; rest = p; found = None }

-- A list that a rest may end was read: it ends at once, or behind its items.
pub data ReadsListWithRest {E P A R : Type 0} (of_element : Reading E A) (of_rest : Reading P R)
    (rest_last : R → CursorDiagnostic → Type 0) (close : Kind) (opening : Span) (e : E) (p : P) (old : CursorState)
    (xs : List A) (found : Option R) (new : CursorState) : Type 0 where
  empty : ends_at close old ≡ true → xs ≡ [] → found ≡ None → new ≡ old
      → ReadsListWithRest of_element of_rest rest_last close opening e p old xs found new
  items : (items : List (Item A R)) (last : Readers E P R) (end : CursorState)
      → ReadsSeparated (ReadsItem of_element of_rest) close Comma (no_rest_yet e p) old items last end
      → xs ≡ elements items → found ≡ last.found → EndsWithRest close opening rest_last end last.found new
      → ReadsListWithRest of_element of_rest rest_last close opening e p old xs found new
