-- Lists that a cursor reads.
use Rattle.std.specs.Prelude.{◌≡◌, ℕ, ◌-◌, ◌^◌, ◌&&◌, ◌||◌, Bool, true, false, List, [], ◌∷◌, Option, Some, None}
use Rattle.std.specs.Prelude.{Result, Ok, is_none, nat_le, if◌then◌else◌}
use Rattle.std.specs.List.{FoldsTo}
use Rattle.std.specs.Option.{is_some}
use Rattle.js_text.specs.declared.span.Span.{Span}
use Rattle.js_kind.specs.Kinds.{is_one_of}
use Rattle.js_kind.specs.declared.kind.Kind.{Kind}
use Rattle.js_kind.specs.declared.kind.Kind.TheVariants.{Eof, Undetermined}
use Rattle.js_cursor.specs.Checkpoint.{GoesOnFrom}
use Rattle.js_cursor.specs.Cursor.{CursorState, Advances, is_at, span_of, with_fatal_error}
use Rattle.js_cursor.specs.Expect.{expecting, expecting_closing}
use Rattle.js_cursor.specs.declared.diagnostic.CursorDiagnostic.TheVariants.{ExpectClosingOrSeparator}

-- What a call of an element means, whatever it answers: the element and the cursor before it, its answer, and both
-- after it.
abbrev pub Answering : Type 0 → Type 0 → Type 0 → Type 1
Answering F T Fault = F → CursorState → Result T Fault → F → CursorState → Type 0

-- What a call that reads one means: the element and the cursor before it, what it read, and both after it.
abbrev pub Reading : Type 0 → Type 0 → Type 1
Reading F T = F → CursorState → T → F → CursorState → Type 0

-- a call of an element that reads one
abbrev pub Given : {F T Fault : Type 0} → Answering F T Fault → Reading F T
Given A f c x g d = A f c (Ok x) g d

-- Whatever a call of the element answers, the cursor has gone on.
abbrev pub GoesOn : {F T Fault : Type 0} → Answering F T Fault → Type 0
GoesOn {F} {T} {Fault} A = (f : F) (c : CursorState) (answer : Result T Fault) (g : F) (d : CursorState)
    → A f c answer g d → GoesOnFrom c d

-- The rounds read these items, one after another, each from where the one before it left the element and the cursor.
abbrev pub Rounds : {F T : Type 0} → Reading F T → F → CursorState → List T → F → CursorState → Type 0
Rounds {F} R f c xs g d =
    FoldsTo {P = F × CursorState} (λ before x after. R before.0 before.1 x after.0 after.1) (f, c) xs (g, d)

-- a list ends where it is closed, and under a fatal error
abbrev pub ends_at : Kind → CursorState → Bool
ends_at close c = is_at close c || is_some c.fatal

-- A round that began at the place does not lead on: no fatal error stands after it, and the token starts no later.
abbrev pub is_stuck_at : ℕ → CursorState → Bool
is_stuck_at start after = is_none after.fatal && nat_le after.token.start start

abbrev pub is_stuck : CursorState → CursorState → Bool
is_stuck before after = is_stuck_at before.token.start after

-- What is left to read at most: nothing under a fatal error, and else the places from the current token's start on that
-- a source may have. A round that leads on leaves less.
abbrev pub left_to_read : CursorState → ℕ
left_to_read c = if is_some c.fatal then 0 else 2 ^ 32 - c.token.start

-- A round of a normal list, where the list does not end: an element.
pub record IsRound {F T : Type 0} (R : Reading F T) (close : Kind) (f : F) (c : CursorState) (x : T) (g : F)
    (d : CursorState) : Type 0 where
  pub is_open : ends_at close c ≡ false
  pub read : R f c x g d

-- Behind an element stands a separator, the list does not end, and neither does it behind the separator, where the
-- cursor is then.
pub record IsSeparated (close separator : Kind) (c between : CursorState) : Type 0 where
  pub is_open : ends_at close c ≡ false
  pub separator_is : is_at separator c ≡ true
  pub advances : Advances separator c between
  pub more : is_one_of (close ∷ Eof ∷ Undetermined ∷ []) between.token.kind ≡ false

-- A round of a list with separators: a separator, and an element behind it.
pub record IsSeparatedRound {F T : Type 0} (R : Reading F T) (close separator : Kind) (f : F) (c : CursorState) (x : T)
    (g : F) (d : CursorState) : Type 0 where
  pub between : CursorState
  pub separated : IsSeparated close separator c between
  pub read : R f between x g d

-- the same rounds, those that do not lead on left out
abbrev pub LeadingOn : {F T : Type 0} → Reading F T → Reading F T
LeadingOn Q f c x g d = Q f c x g d × (is_stuck c d ≡ false)

-- Elements were read up to the end of their list.
pub record ReadsElements {F T : Type 0} (R : Reading F T) (close : Kind) (f : F) (c : CursorState) (xs : List T)
    (last : F) (end : CursorState) : Type 0 where
  pub rounds : Rounds (LeadingOn (IsRound R close)) f c xs last end
  pub ends : ends_at close end ≡ true

-- the elements that are there, of those that may be none
abbrev pub Present : {F T : Type 0} → Reading F (Option T) → Reading F T
Present R f c x g d = R f c (Some x) g d

-- A list that an element may break off ends where it ends, or behind an element that is none.
pub data EndsBreakable {F T : Type 0} (R : Reading F (Option T)) (close : Kind) (f : F) (c : CursorState) (g : F)
    (end : CursorState) : Type 0 where
  closed : ends_at close c ≡ true → g ≡ f → end ≡ c → EndsBreakable R close f c g end
  broken : ends_at close c ≡ false → R f c None g end → EndsBreakable R close f c g end

-- Elements were read up to there.
pub record ReadsWhileSome {F T : Type 0} (R : Reading F (Option T)) (close : Kind) (f : F) (c : CursorState)
    (xs : List T) (g : F) (end : CursorState) : Type 0 where
  pub last : F
  pub from : CursorState
  pub rounds : Rounds (LeadingOn (IsRound (Present R) close)) f c xs last from
  pub ends : EndsBreakable R close last from g end

-- A normal list was read: its opening, its elements, and its closing.
pub record ReadsNormalList {F T : Type 0} (reads : Reading F (List T)) (opening close : Kind) (f : F)
    (old : CursorState) (xs : List T) (new : CursorState) : Type 0 where
  pub opened : CursorState
  pub opens : Advances opening (expecting opening old) opened
  pub last : F
  pub end : CursorState
  pub elements : reads f opened xs last end
  pub closes : Advances close (expecting_closing close (span_of old.token) end) new

-- A list that is neither closed nor goes on stops the cursor.
abbrev pub neither_closed_nor_separated : Kind → Kind → Span → CursorState → CursorState
neither_closed_nor_separated close separator opening c =
    with_fatal_error (ExpectClosingOrSeparator close separator c.token.kind (span_of c.token) opening) c

-- Where a list with separators ends behind an element, and what it tells of a separator at its end.
pub data EndsDelimited (close separator : Kind) (opening : Span) (c : CursorState) (trailing : Option ℕ)
    (new : CursorState) : Type 0 where
  closed : ends_at close c ≡ true → trailing ≡ None → new ≡ c
      → EndsDelimited close separator opening c trailing new
  neither : ends_at close c ≡ false → is_at separator c ≡ false → trailing ≡ None
      → new ≡ neither_closed_nor_separated close separator opening c
      → EndsDelimited close separator opening c trailing new
  trails : ends_at close c ≡ false → is_at separator c ≡ true → Advances separator c new
      → is_at close new ≡ true → trailing ≡ Some (new.previous_end - 1)
      → EndsDelimited close separator opening c trailing new
  cut_off : ends_at close c ≡ false → is_at separator c ≡ true → Advances separator c new
      → is_at close new ≡ false → is_one_of (Eof ∷ Undetermined ∷ []) new.token.kind ≡ true → trailing ≡ None
      → EndsDelimited close separator opening c trailing new

-- Elements with separators between them were read, at least one.
pub record ReadsSeparated {F T : Type 0} (R : Reading F T) (close separator : Kind) (f : F) (old : CursorState)
    (xs : List T) (last : F) (end : CursorState) : Type 0 where
  pub is_open : ends_at close old ≡ false
  pub x : T
  pub then_f : F
  pub behind : CursorState
  pub first : R f old x then_f behind
  pub more : List T
  pub rounds : Rounds (LeadingOn (IsSeparatedRound R close separator)) then_f behind more last end
  pub xs_are : xs ≡ x ∷ more

-- A list with separators was read: it ends at once, or behind its elements.
pub data ReadsDelimitedList {F T : Type 0} (R : Reading F T) (close separator : Kind) (opening : Span) (f : F)
    (old : CursorState) (xs : List T) (trailing : Option ℕ) (new : CursorState) : Type 0 where
  empty : ends_at close old ≡ true → xs ≡ [] → trailing ≡ None → new ≡ old
      → ReadsDelimitedList R close separator opening f old xs trailing new
  elements : (last : F) (end : CursorState) → ReadsSeparated R close separator f old xs last end
      → EndsDelimited close separator opening end trailing new
      → ReadsDelimitedList R close separator opening f old xs trailing new
