-- What the parts of the call that reads a list with a rest do.
use Rattle.std.specs.Prelude.{◌≡◌, Bool, true, false, List, [], ◌∷◌, ◌++◌}
use Rattle.js_text.specs.declared.span.Span.{Span}
use Rattle.js_kind.specs.declared.kind.Kind.{Kind}
use Rattle.js_kind.specs.declared.kind.Kind.TheVariants.{Comma}
use Rattle.js_cursor.specs.Cursor.{CursorState}
use Rattle.js_cursor.specs.Lists.{IsSeparated, IsSeparatedRound, LeadingOn, Reading, Rounds}
use Rattle.js_cursor.specs.Rests.{EndsBehindItem, EndsWithRest, Item, Readers, ReadsItem, elements}
use Rattle.js_cursor.specs.declared.diagnostic.CursorDiagnostic.{CursorDiagnostic}
use Rattle.js_cursor.specs.declared.cursor.rest.ItemReader.{ItemReader}

-- the readers, without what they have read of elements
abbrev pub readers_of : {E P A R : Type 0} → ItemReader E P A R → Readers E P R
readers_of items = record { element = items.element; rest = items.rest; found = items.found }

-- One item was read, and is kept.
pub record ReadsOneItem {E P A R : Type 0} (of_element : Reading E A) (of_rest : Reading P R)
    (old : ItemReader E P A R) (c : CursorState) (new : ItemReader E P A R) (d : CursorState) : Type 0 where
  pub item : Item A R
  pub reads : ReadsItem of_element of_rest (readers_of old) c item (readers_of new) d
  pub kept : new.elements.items ≡ old.elements.items ++ elements (item ∷ [])

-- Behind an item stands the next one, or the end of the list.
abbrev pub GoesBehindItem : Kind → Span → Bool → CursorState → Bool → CursorState → Type 0
GoesBehindItem close opening is_rest old true new = IsSeparated close Comma old new
GoesBehindItem close opening is_rest old false new = EndsBehindItem close opening is_rest old new

-- Behind an item, commas with more items were read up to the end of the list.
pub record ReadsItems {E P A R : Type 0} (of_element : Reading E A) (of_rest : Reading P R)
    (rest_last : R → CursorDiagnostic → Type 0) (close : Kind) (opening : Span) (before : ItemReader E P A R)
    (old : CursorState) (after : ItemReader E P A R) (new : CursorState) : Type 0 where
  pub more : List (Item A R)
  pub end : CursorState
  pub rounds :
      Rounds (LeadingOn (IsSeparatedRound (ReadsItem of_element of_rest) close Comma)) (readers_of before) old more
      (readers_of after) end
  pub kept : after.elements.items ≡ before.elements.items ++ elements more
  pub ends : EndsWithRest close opening rest_last end after.found new
