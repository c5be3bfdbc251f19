-- Where a list of a cursor failed: an element did, no memory was found, or a round did not lead on.
use Rattle.std.specs.Prelude.{◌≡◌, true, false, List, None, Ok, Err}
use Rattle.js_kind.specs.declared.kind.Kind.{Kind}
use Rattle.js_kind.specs.declared.kind.Kind.TheVariants.{Comma, Dot3}
use Rattle.js_cursor.specs.Cursor.{CursorState, Advances, IsAsBefore, is_at, span_of}
use Rattle.js_cursor.specs.Expect.{expecting, expecting_closing}
use Rattle.js_cursor.specs.Lists.{Answering, IsRound, IsSeparated, IsSeparatedRound, LeadingOn, Reading, Rounds, ends_at}
use Rattle.js_cursor.specs.Lists.{is_stuck}
use Rattle.js_cursor.specs.Rests.{Readers}
use Rattle.js_cursor.specs.declared.fault.ListFault.{ListFault}
use Rattle.js_cursor.specs.declared.fault.ListFault.TheVariants.{Stuck, Memory, Element}

-- What a call leaves that reads one and fails: the element and the cursor before it, the fault, and both after it.
abbrev pub Failing : Type 0 → Type 0 → Type 1
Failing F Fault = Reading F (ListFault Fault)

-- an element that answers a fault of its own
abbrev pub FailsItself : {F T Fault : Type 0} → Answering F T Fault → Failing F Fault
FailsItself A f c (Stuck at) g d = ⊥
FailsItself A f c Memory g d = ⊥
FailsItself A f c (Element fault) g d = A f c (Err fault) g d

-- and one that was read, and found no place in the list
abbrev pub Fails : {F T Fault : Type 0} → Answering F T Fault → Failing F Fault
Fails {F} {T} A f c (Stuck at) g d = ⊥
Fails {F} {T} A f c Memory g d = (x : T) × A f c (Ok x) g d
Fails {F} {T} A f c (Element fault) g d = A f c (Err fault) g d

-- Behind rounds that led on, the next one failed: in its item, or for want of memory before it, or it did not lead on.
pub data FailsInRounds {F T Fault : Type 0} (fails : Failing F Fault) (Q : Reading F T)
    (begins lacks : CursorState → CursorState → Type 0) (f : F) (c : CursorState) (fault : ListFault Fault) (g : F)
    (d : CursorState) : Type 0 where
  in_item : (xs : List T) (last : F) (from between : CursorState) → Rounds (LeadingOn Q) f c xs last from
      → begins from between → fails last between fault g d → FailsInRounds fails Q begins lacks f c fault g d
  before_item : fault ≡ Memory → (xs : List T) (from : CursorState) → Rounds (LeadingOn Q) f c xs g from
      → lacks from d → FailsInRounds fails Q begins lacks f c fault g d
  stuck : (xs : List T) (last : F) (from : CursorState) → Rounds (LeadingOn Q) f c xs last from → (x : T)
      → Q last from x g d → is_stuck from d ≡ true → fault ≡ Stuck d.token.start
      → FailsInRounds fails Q begins lacks f c fault g d

-- a round of a normal list begins where the list does not end
abbrev pub IsOpen : Kind → CursorState → CursorState → Type 0
IsOpen close c between = (ends_at close c ≡ false) × (between ≡ c)

-- nothing fails before an item
abbrev pub NothingBefore : CursorState → CursorState → Type 0
NothingBefore c d = ⊥

-- The separator was not passed: the cursor is as before.
pub record LacksSeparator (close separator : Kind) (c d : CursorState) : Type 0 where
  pub is_open : ends_at close c ≡ false
  pub separator_is : is_at separator c ≡ true
  pub before : IsAsBefore c d

-- A comma was not passed; or it was, before the end of the list, and there was no place for the error that it is there.
pub data LacksComma (close : Kind) (c d : CursorState) : Type 0 where
  comma : LacksSeparator close Comma c d → LacksComma close c d
  error : ends_at close c ≡ false → is_at Comma c ≡ true → Advances Comma c d → is_at close d ≡ true
      → LacksComma close c d

-- The elements of a normal list failed.
abbrev pub FailsInElements : {F T U Fault : Type 0} → Answering F U Fault → Reading F T → Kind → Failing F Fault
FailsInElements A R close f c fault g d =
    FailsInRounds (Fails A) (IsRound R close) (IsOpen close) NothingBefore f c fault g d

-- A normal list failed: at its opening, among its elements, or at its closing.
pub data FailsNormalList {F T Fault : Type 0} (fails : Failing F Fault) (reads : Reading F (List T))
    (opening close : Kind) (f : F) (old : CursorState) (fault : ListFault Fault) (new : CursorState) : Type 0 where
  at_opening : fault ≡ Memory → IsAsBefore (expecting opening old) new
      → FailsNormalList fails reads opening close f old fault new
  in_elements : (opened : CursorState) → Advances opening (expecting opening old) opened → (g : F)
      → fails f opened fault g new → FailsNormalList fails reads opening close f old fault new
  at_closing : fault ≡ Memory → (opened : CursorState) → Advances opening (expecting opening old) opened
      → (xs : List T) (last : F) (end : CursorState) → reads f opened xs last end
      → IsAsBefore (expecting_closing close (span_of old.token) end) new
      → FailsNormalList fails reads opening close f old fault new

-- Behind an item of a list with separators the list failed.
abbrev pub FailsSeparated : {F T Fault : Type 0} → Failing F Fault → Reading F T → Kind → Kind
    → (CursorState → CursorState → Type 0) → Failing F Fault
FailsSeparated fails R close separator lacks f c fault g d =
    FailsInRounds fails (IsSeparatedRound R close separator) (IsSeparated close separator) lacks f c fault g d

-- A list with separators failed: in its first item, or behind it.
pub data FailsDelimitedList {F T Fault : Type 0} (fails : Failing F Fault) (R : Reading F T) (close separator : Kind)
    (lacks : CursorState → CursorState → Type 0) (f : F) (old : CursorState) (fault : ListFault Fault)
    (new : CursorState) : Type 0 where
  in_first : ends_at close old ≡ false → (g : F) → fails f old fault g new
      → FailsDelimitedList fails R close separator lacks f old fault new
  behind_first : ends_at close old ≡ false → (x : T) (then_f : F) (behind : CursorState) → R f old x then_f behind
      → (g : F) → FailsSeparated fails R close separator lacks then_f behind fault g new
      → FailsDelimitedList fails R close separator lacks f old fault new

-- An item of a list that a rest may end failed: an element, or the rest.
pub data FailsItem {E P R Fault : Type 0} (of_element : Failing E Fault) (of_rest : Failing P Fault)
    (s : Readers E P R) (c : CursorState) (fault : ListFault Fault) (t : Readers E P R) (d : CursorState)
    : Type 0 where
  element : s.found ≡ None → is_at Dot3 c ≡ false → of_element s.element c fault t.element d → t.rest ≡ s.rest
      → t.found ≡ None → FailsItem of_element of_rest s c fault t d
  rest : s.found ≡ None → is_at Dot3 c ≡ true → of_rest s.rest c fault t.rest d → t.element ≡ s.element
      → t.found ≡ None → FailsItem of_element of_rest s c fault t d
