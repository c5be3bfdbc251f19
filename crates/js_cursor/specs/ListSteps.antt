-- What the parts of the calls that read lists do.
use Rattle.std.specs.Prelude.{◌≡◌, ℕ, List, ◌++◌, Option}
use Rattle.js_text.specs.declared.span.Span.{Span}
use Rattle.js_kind.specs.declared.kind.Kind.{Kind}
use Rattle.js_cursor.specs.Cursor.{CursorState}
use Rattle.js_cursor.specs.Lists.{EndsDelimited, IsSeparated, IsSeparatedRound, LeadingOn, Reading, Rounds}
use Rattle.js_cursor.specs.declared.list_step.ListStep.{ListStep}
use Rattle.js_cursor.specs.declared.list_step.ListStep.TheVariants.{Element, End}

-- Behind an element stands the next one, or the end of the list.
abbrev pub GoesBehind : Kind → Kind → Span → CursorState → ListStep → CursorState → Type 0
GoesBehind close separator opening old Element new = IsSeparated close separator old new
GoesBehind close separator opening old (End trailing) new = EndsDelimited close separator opening old trailing new

-- Behind an element, separators with more elements were read up to the end of the list.
pub record ReadsMore {F T : Type 0} (R : Reading F T) (close separator : Kind) (opening : Span) (f : F)
    (old : CursorState) (before after : List T) (trailing : Option ℕ) (g : F) (new : CursorState) : Type 0 where
  pub more : List T
  pub end : CursorState
  pub rounds : Rounds (LeadingOn (IsSeparatedRound R close separator)) f old more g end
  pub after_is : after ≡ before ++ more
  pub ends : EndsDelimited close separator opening end trailing new
