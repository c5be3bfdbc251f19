-- The rows of tokens that wait, and those that were live at open marks.
use Rattle.std.proofs.Common.{◌≡◌, ℕ, zero, suc, ◌≤◌, Bool, true, false, List, [], ◌∷◌, ◌++◌, length, map, refl, sym}
use Rattle.std.proofs.Common.{◌∙◌, ap, subst, arith, reverse, take, Option, Some, None}
use Rattle.std.specs.List.{AllByRecursion}
use Rattle.js_kind.specs.Kinds.{is_template_kind}
use Rattle.js_reader.specs.Decoded.{Keeps, Values, value_of}
use Rattle.js_text.specs.declared.value.RowValue.{RowValue}
use Rattle.js_session.specs.RowReader.{HoldsKept, HoldsPart, HoldsUnits}
use Rattle.js_session.specs.declared.mark.SessionMark.{SessionMark}
use Rattle.js_session.specs.declared.row.Row.{Row}
use Rattle.js_lists.specs.Drive.{IsHeld}
use Rattle.js_lists.specs.LiveLists.{taken_of}
use Rattle.js_lists.specs.Steps.{HandsEach}
use Rattle.js_lists.specs.Taken.{Taken, TakesEach}
use Rattle.js_lists.specs.declared.pending.OpenMark.{OpenMark}
use Rattle.js_session.specs.declared.re_lex.LastRead.{LastRead}
use Rattle.js_lists.proofs.DriveLemmas.{handed_row, held_row}
use Rattle.js_lists.proofs.ReaderSteps.{HoldsLast}

-- A value that is held stays so where no value is lost.
units_stay : (a b : Option (List ℕ)) (value : RowValue) → ((units : List ℕ) → a ≡ Some units → b ≡ Some units)
    → HoldsUnits a value → HoldsUnits b value
units_stay None b value keeps h = absurd h
units_stay (Some units) b value keeps h = subst (λ found. HoldsUnits found value) (sym (keeps units refl)) h

part_stays : (a b : Option (Option (List ℕ))) (value : RowValue)
    → ((units : Option (List ℕ)) → a ≡ Some units → b ≡ Some units) → HoldsPart a value → HoldsPart b value
part_stays None b value keeps h = absurd h
part_stays (Some units) b value keeps h = subst (λ found. HoldsPart found value) (sym (keeps units refl)) h

kept_stays : (template : Bool) (a b : Values) (start : ℕ) (value : RowValue) → Keeps a b
    → HoldsKept template a start value → HoldsKept template b start value
kept_stays true a b start value keeps h =
    part_stays (value_of a.templates start) (value_of b.templates start) value (keeps.templates start) h
kept_stays false a b start value keeps h =
    units_stay (value_of a.strings start) (value_of b.strings start) value (keeps.strings start) h

pub keeps_all : (v : Values) → Keeps v v
keeps_all v = record { strings = λ start value is. is; templates = λ start value is. is }

pub holds_on : (a b : Values) (row : Row) (last : LastRead) → Keeps a b → HoldsLast a row last → HoldsLast b row last
holds_on a b row last keeps h = record {
  token = h.token;
  regex = h.regex;
  value = record {
    escaped = λ e. kept_stays (is_template_kind last.token.kind) a b last.token.start row.value keeps
        (h.value.escaped e);
    unescaped = h.value.unescaped;
  };
  ordered = h.ordered;
}

-- These are the rows of the tokens.
abbrev pub HoldEach : Values → List Row → List LastRead → Type 0
HoldEach decoded [] [] = Unit {0}
HoldEach decoded [] (x ∷ xs) = ⊥
HoldEach decoded (row ∷ rows) [] = ⊥
HoldEach decoded (row ∷ rows) (x ∷ xs) = HoldsLast decoded row x × HoldEach decoded rows xs

pub each_on : (a b : Values) (rows : List Row) (xs : List LastRead) → Keeps a b → HoldEach a rows xs
    → HoldEach b rows xs
each_on a b [] [] keeps h = tt
each_on a b [] (x ∷ xs) keeps h = h
each_on a b (row ∷ rows) [] keeps h = h
each_on a b (row ∷ rows) (x ∷ xs) keeps h = (holds_on a b row x keeps h.0, each_on a b rows xs keeps h.1)

pub each_more : (decoded : Values) (rows : List Row) (xs : List LastRead) (row : Row) (x : LastRead)
    → HoldEach decoded rows xs → HoldsLast decoded row x → HoldEach decoded (rows ++ row ∷ []) (xs ++ x ∷ [])
each_more decoded [] [] row x h l = (l, tt)
each_more decoded [] (y ∷ xs) row x h l = absurd h
each_more decoded (r ∷ rows) [] row x h l = absurd h
each_more decoded (r ∷ rows) (y ∷ xs) row x h l = (h.0, each_more decoded rows xs row x h.1 l)

pub each_take : (decoded : Values) (n : ℕ) (rows : List Row) (xs : List LastRead) → HoldEach decoded rows xs
    → HoldEach decoded (take n rows) (take n xs)
each_take decoded zero rows xs h = tt
each_take decoded (suc n) [] [] h = tt
each_take decoded (suc n) [] (x ∷ xs) h = absurd h
each_take decoded (suc n) (row ∷ rows) [] h = absurd h
each_take decoded (suc n) (row ∷ rows) (x ∷ xs) h = (h.0, each_take decoded n rows xs h.1)

pub each_length : (decoded : Values) (rows : List Row) (xs : List LastRead) → HoldEach decoded rows xs
    → length rows ≡ length xs
each_length decoded [] [] h = refl
each_length decoded [] (x ∷ xs) h = absurd h
each_length decoded (row ∷ rows) [] h = absurd h
each_length decoded (row ∷ rows) (x ∷ xs) h = ap suc (each_length decoded rows xs h.1)

-- they may be handed over
pub each_held : (decoded : Values) (rows : List Row) (xs : List LastRead) → HoldEach decoded rows xs
    → AllByRecursion (IsHeld decoded) xs
each_held decoded [] [] h = tt
each_held decoded [] (x ∷ xs) h = absurd h
each_held decoded (row ∷ rows) [] h = tt
each_held decoded (row ∷ rows) (x ∷ xs) h = (held_row decoded row x h.0, each_held decoded rows xs h.1)

-- where they were, those of the rows were taken
pub each_taken : {S : Type 0} (takes : S → Taken → S → Type 0) (decoded : Values) (rows : List Row)
    (xs : List LastRead) (old new : S) → HoldEach decoded rows xs → HandsEach takes decoded xs old new
    → TakesEach takes old (map taken_of rows) new
each_taken takes decoded [] [] old new h g = g
each_taken takes decoded [] (x ∷ xs) old new h g = absurd h
each_taken takes decoded (row ∷ rows) [] old new h g = absurd h
each_taken takes decoded (row ∷ rows) (x ∷ xs) old new h g =
    (g.0, handed_row takes decoded old g.0 row x h.0 g.1, each_taken takes decoded rows xs g.0 new h.1 g.2)

-- A mark: the row that was the last live one at it, behind so many that waited.
pub record HoldsMark (decoded : Values) (handed waits : List Row) (bound : ℕ) (m : OpenMark) (x : SessionMark)
    (live : List Row) : Type 0 where
  pub row : Row
  pub within : m.waiting ≤ bound
  pub checkpoint : x.checkpoint ≡ m.checkpoint
  pub live_is : live ≡ row ∷ (reverse (take m.waiting waits) ++ handed)
  pub holds : HoldsLast decoded row m.last

-- The marks, the last one first, with those of the session and what was live at each.
abbrev pub HoldMarks : Values → List Row → List Row → ℕ → List OpenMark → List SessionMark → List (List Row) → Type 0
HoldMarks decoded handed waits bound [] [] [] = Unit {0}
HoldMarks decoded handed waits bound [] [] (live ∷ lives) = ⊥
HoldMarks decoded handed waits bound [] (x ∷ xs) lives = ⊥
HoldMarks decoded handed waits bound (m ∷ ms) [] lives = ⊥
HoldMarks decoded handed waits bound (m ∷ ms) (x ∷ xs) [] = ⊥
HoldMarks decoded handed waits bound (m ∷ ms) (x ∷ xs) (live ∷ lives) =
    HoldsMark decoded handed waits bound m x live × HoldMarks decoded handed waits m.waiting ms xs lives

-- where no value is lost, and those that waited so far still do
pub marks_on : (a b : Values) (handed waits more : List Row) (bound high : ℕ) (ms : List OpenMark)
    (xs : List SessionMark) (lives : List (List Row)) → Keeps a b → bound ≤ high
    → ((n : ℕ) → n ≤ bound → take n more ≡ take n waits)
    → HoldMarks a handed waits bound ms xs lives → HoldMarks b handed more high ms xs lives
marks_on a b handed waits more bound high [] [] [] keeps low same h = tt
marks_on a b handed waits more bound high [] [] (live ∷ lives) keeps low same h = h
marks_on a b handed waits more bound high [] (x ∷ xs) lives keeps low same h = h
marks_on a b handed waits more bound high (m ∷ ms) [] lives keeps low same h = h
marks_on a b handed waits more bound high (m ∷ ms) (x ∷ xs) [] keeps low same h = h
marks_on a b handed waits more bound high (m ∷ ms) (x ∷ xs) (live ∷ lives) keeps low same h = (
  record {
    row = h.0.row;
    within = omega (arith, h.0.within, low);
    checkpoint = h.0.checkpoint;
    live_is =
        h.0.live_is ∙ ap (λ w. h.0.row ∷ (reverse w ++ handed)) (sym (same m.waiting h.0.within));
    holds = holds_on a b h.0.row m.last keeps h.0.holds;
  },
  marks_on a b handed waits more m.waiting m.waiting ms xs lives keeps (omega arith)
      (λ n le. same n (omega (arith, le, h.0.within))) h.1,
)

-- none is open, and whatever waits
pub no_marks : (decoded : Values) (handed waits : List Row) (bound : ℕ) (xs : List SessionMark)
    (lives : List (List Row)) → HoldMarks decoded handed waits bound [] xs lives
    → (other : Values) (gone left : List Row) (high : ℕ) → HoldMarks other gone left high [] xs lives
no_marks decoded handed waits bound [] [] h other gone left high = tt
no_marks decoded handed waits bound [] (live ∷ lives) h other gone left high = h
no_marks decoded handed waits bound (x ∷ xs) lives h other gone left high = h

-- as many as the session has
pub marks_length : (decoded : Values) (handed waits : List Row) (bound : ℕ) (ms : List OpenMark)
    (xs : List SessionMark) (lives : List (List Row)) → HoldMarks decoded handed waits bound ms xs lives
    → length xs ≡ length ms
marks_length decoded handed waits bound [] [] lives h = refl
marks_length decoded handed waits bound [] (x ∷ xs) lives h = absurd h
marks_length decoded handed waits bound (m ∷ ms) [] lives h = absurd h
marks_length decoded handed waits bound (m ∷ ms) (x ∷ xs) [] h = absurd h
marks_length decoded handed waits bound (m ∷ ms) (x ∷ xs) (live ∷ lives) h =
    ap suc (marks_length decoded handed waits m.waiting ms xs lives h.1)

-- The last mark.
pub record LastMark (decoded : Values) (handed waits : List Row) (bound : ℕ) (m : OpenMark) (ms : List OpenMark)
    (xs : List SessionMark) (lives : List (List Row)) : Type 0 where
  pub x : SessionMark
  pub more : List SessionMark
  pub xs_are : xs ≡ x ∷ more
  pub live : List Row
  pub rest : List (List Row)
  pub lives_are : lives ≡ live ∷ rest
  pub holds : HoldsMark decoded handed waits bound m x live
  pub others : HoldMarks decoded handed waits m.waiting ms more rest

pub last_mark : (decoded : Values) (handed waits : List Row) (bound : ℕ) (m : OpenMark) (ms : List OpenMark)
    (xs : List SessionMark) (lives : List (List Row)) → HoldMarks decoded handed waits bound (m ∷ ms) xs lives
    → LastMark decoded handed waits bound m ms xs lives
last_mark decoded handed waits bound m ms [] lives h = absurd h
last_mark decoded handed waits bound m ms (x ∷ xs) [] h = absurd h
last_mark decoded handed waits bound m ms (x ∷ xs) (live ∷ lives) h = record {
  x = x;
  more = xs;
  xs_are = refl;
  live = live;
  rest = lives;
  lives_are = refl;
  holds = h.0;
  others = h.1;
}
