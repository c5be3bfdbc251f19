-- What is pending stands for the live rows, as commands are followed.
use Rattle.std.proofs.Common.{◌≡◌, List, [], ◌∷◌, ◌++◌, length, map}
use Rattle.std.proofs.Common.{refl, sym, ◌∙◌, ap, subst, arith, reverse, take}
use Rattle.std.proofs.lemmas.List.{length-append, length-take-le, map-append, reverse-append, reverse-reverse}
use Rattle.std.proofs.lemmas.List.{take-append-le, take-take, take_all}
use Rattle.js_reader.specs.Decoded.{Keeps, Values}
use Rattle.js_session.specs.declared.mark.SessionMark.{SessionMark}
use Rattle.js_session.specs.declared.row.Row.{Row}
use Rattle.js_lists.specs.LiveLists.{taken_of}
use Rattle.js_lists.specs.LiveRows.{RowState}
use Rattle.js_lists.specs.Steps.{AreHeld, HandsEach, Settles}
use Rattle.js_lists.specs.Taken.{Taken, TakesEach}
use Rattle.js_lists.specs.declared.pending.OpenMark.{OpenMark}
use Rattle.js_lists.specs.declared.pending.Pending.{Pending}
use Rattle.js_session.specs.declared.re_lex.LastRead.{LastRead}
use Rattle.js_lists.proofs.DriveLemmas.{held_row}
use Rattle.js_lists.proofs.PendingLemmas.{HoldEach, HoldMarks, HoldsMark, LastMark, each_held, each_length, each_more}
use Rattle.js_lists.proofs.PendingLemmas.{each_on, each_take, each_taken, holds_on, keeps_all, last_mark, marks_on, no_marks}
use Rattle.js_lists.proofs.ReaderSteps.{HoldsLast}
use Rattle.js_lists.proofs.TakenLemmas.{taken_backward, takes_both}

-- What is pending stands for the live rows behind those that were handed over, and its marks for those of the session.
pub record StandsFor (decoded : Values) (p : Pending) (handed : List Row) (marks : List SessionMark) (state : RowState)
    : Type 0 where
  pub row : Row
  pub waits : List Row
  pub now : state.now ≡ row ∷ (reverse waits ++ handed)
  pub last : HoldsLast decoded row p.last
  pub waiting : HoldEach decoded waits p.waiting
  pub marks_are : HoldMarks decoded handed waits (length waits) (reverse p.marks) (reverse marks) state.marks

pub stands_held : (decoded : Values) (p : Pending) (handed : List Row) (marks : List SessionMark) (state : RowState)
    → StandsFor decoded p handed marks state → AreHeld decoded p
stands_held decoded p handed marks state s = record {
  waiting = each_held decoded s.waits p.waiting s.waiting;
  last = held_row decoded s.row p.last s.last;
}

-- where no value is lost
pub stands_on : (a b : Values) (p : Pending) (handed : List Row) (marks : List SessionMark) (state : RowState)
    → Keeps a b → StandsFor a p handed marks state → StandsFor b p handed marks state
stands_on a b p handed marks state keeps s = record {
  row = s.row;
  waits = s.waits;
  now = s.now;
  last = holds_on a b s.row p.last keeps s.last;
  waiting = each_on a b s.waits p.waiting keeps s.waiting;
  marks_are =
      marks_on a b handed s.waits s.waits (length s.waits) (length s.waits) (reverse p.marks) (reverse marks)
      state.marks keeps (omega arith) (λ n le. refl) s.marks_are;
}

-- the last token was read again
pub stands_again : (a b : Values) (p : Pending) (last : LastRead) (handed : List Row) (marks : List SessionMark)
    (state : RowState) (row : Row) → Keeps a b → HoldsLast b row last → (s : StandsFor a p handed marks state)
    → StandsFor b (record p { last = last }) handed marks (record state { now = row ∷ (reverse s.waits ++ handed) })
stands_again a b p last handed marks state row keeps holds s = record {
  row = row;
  waits = s.waits;
  now = refl;
  last = holds;
  waiting = each_on a b s.waits p.waiting keeps s.waiting;
  marks_are =
      marks_on a b handed s.waits s.waits (length s.waits) (length s.waits) (reverse p.marks) (reverse marks)
      state.marks keeps (omega arith) (λ n le. refl) s.marks_are;
}

-- one more row behind some that stand backward
backward_on : (waits : List Row) (row : Row) → reverse (waits ++ row ∷ []) ≡ row ∷ reverse waits
backward_on waits row = reverse-append waits (row ∷ [])

-- the live rows in order, from those that were handed over on
forward : (row : Row) (waits handed : List Row)
    → reverse (row ∷ (reverse waits ++ handed)) ≡ reverse handed ++ (waits ++ row ∷ [])
forward row waits handed =
    reverse-append (row ∷ reverse waits) handed
    ∙ ap (λ rs. reverse handed ++ rs)
    (ap reverse (sym (backward_on waits row)) ∙ reverse-reverse (waits ++ row ∷ []))

-- All that is live was taken, where what waits and the last token were handed over.
pub takes_all : {S : Type 0} (takes : S → Taken → S → Type 0) (decoded : Values) (p : Pending) (handed : List Row)
    (marks : List SessionMark) (state : RowState) (start now new : S) → StandsFor decoded p handed marks state
    → TakesEach takes start (taken_backward handed) now
    → HandsEach takes decoded (p.waiting ++ p.last ∷ []) now new
    → TakesEach takes start (taken_backward state.now) new
takes_all takes decoded p handed marks state start now new s taken hands =
    let rows = s.waits ++ s.row ∷ [] in
    let same : taken_backward state.now ≡ taken_backward handed ++ map taken_of rows =
    ap taken_backward s.now ∙ ap (map taken_of) (forward s.row s.waits handed)
    ∙ map-append taken_of (reverse handed) rows in
    subst (λ xs. TakesEach takes start xs new) (sym same)
    (takes_both takes (taken_backward handed) (map taken_of rows) start now new taken
    (each_taken takes decoded rows (p.waiting ++ p.last ∷ []) now new
    (each_more decoded s.waits p.waiting s.row p.last s.waiting s.last) hands))

-- What stands once the last token was settled, and the one behind it was read.
pub record StandsBehind {S : Type 0} (takes : S → Taken → S → Type 0) (decoded : Values) (p : Pending)
    (marks : List SessionMark) (state : RowState) (start new : S) : Type 0 where
  pub handed : List Row
  pub stands : StandsFor decoded p handed marks state
  pub taken : TakesEach takes start (taken_backward handed) new

pub stands_behind : {S : Type 0} (takes : S → Taken → S → Type 0) (a b : Values) (p settled : Pending) (next : LastRead)
    (handed : List Row) (marks : List SessionMark) (state : RowState) (row : Row) (start now new : S)
    (open_marks : List OpenMark) → p.marks ≡ open_marks → Keeps a b → HoldsLast b row next
    → StandsFor a p handed marks state → TakesEach takes start (taken_backward handed) now
    → Settles takes a open_marks p settled now new
    → StandsBehind takes b (record settled { last = next }) marks (record state { now = row ∷ state.now }) start new
stands_behind takes a b p settled next handed marks state row start now new [] none keeps holds s taken settles =
    let turned : reverse p.marks ≡ [] = ap reverse none in
    let no : HoldMarks a handed s.waits (length s.waits) [] (reverse marks) state.marks =
    subst (λ ms. HoldMarks a handed s.waits (length s.waits) ms (reverse marks) state.marks) turned s.marks_are in
    let stands : StandsFor b (record p { last = next; waiting = [] }) state.now marks
    (record state { now = row ∷ state.now }) =
    record {
      row = row;
      waits = [];
      now = refl;
      last = holds;
      waiting = tt;
      marks_are =
          subst (λ ms. HoldMarks b state.now [] 0 ms (reverse marks) state.marks) (sym turned)
          (no_marks a handed s.waits (length s.waits) (reverse marks) state.marks no b state.now [] 0);
    } in
    record {
      handed = state.now;
      stands =
          subst (λ q. StandsFor b (record q { last = next }) state.now marks (record state { now = row ∷ state.now }))
          (sym settles.1) stands;
      taken = takes_all takes a p handed marks state start now new s taken settles.0;
    }
stands_behind takes a b p settled next handed marks state row start now new (m ∷ ms) some keeps holds s taken settles =
    let waits = s.waits ++ s.row ∷ [] in
    let stands : StandsFor b (record p { last = next; waiting = p.waiting ++ p.last ∷ [] }) handed marks
    (record state { now = row ∷ state.now }) =
    record {
      row = row;
      waits = waits;
      now = ap (λ rs. row ∷ rs) (s.now ∙ ap (λ rs. rs ++ handed) (sym (backward_on s.waits s.row)));
      last = holds;
      waiting =
          each_on a b waits (p.waiting ++ p.last ∷ []) keeps
          (each_more a s.waits p.waiting s.row p.last s.waiting s.last);
      marks_are =
          marks_on a b handed s.waits waits (length s.waits) (length waits) (reverse p.marks) (reverse marks)
          state.marks keeps (omega (arith, length-append s.waits (s.row ∷ [])))
          (λ n le. take-append-le n s.waits (s.row ∷ []) le) s.marks_are;
    } in
    record {
      handed = handed;
      stands =
          subst (λ q. StandsFor b (record q { last = next }) handed marks (record state { now = row ∷ state.now }))
          (sym settles.1) stands;
      taken = subst (λ x. TakesEach takes start (taken_backward handed) x) (sym settles.0) taken;
    }

-- A mark was opened.
pub stands_open : (decoded : Values) (p : Pending) (handed : List Row) (marks : List SessionMark) (state : RowState)
    (m : OpenMark) (x : SessionMark) → m.waiting ≡ length p.waiting → m.last ≡ p.last → x.checkpoint ≡ m.checkpoint
    → StandsFor decoded p handed marks state
    → StandsFor decoded (record p { marks = p.marks ++ m ∷ [] }) handed (marks ++ x ∷ [])
    (record state { marks = state.now ∷ state.marks })
stands_open decoded p handed marks state m x waiting last same s =
    let many : length s.waits ≡ m.waiting = each_length decoded s.waits p.waiting s.waiting ∙ sym waiting in
    let opened : HoldMarks decoded handed s.waits (length s.waits) (m ∷ reverse p.marks) (x ∷ reverse marks)
    (state.now ∷ state.marks) = (
      record {
        row = s.row;
        within = omega (arith, many);
        checkpoint = same;
        live_is =
            s.now
            ∙ ap (λ w. s.row ∷ (reverse w ++ handed)) (sym (take_all m.waiting s.waits (omega (arith, many))));
        holds = subst (HoldsLast decoded s.row) (sym last) s.last;
      },
      subst (λ n. HoldMarks decoded handed s.waits n (reverse p.marks) (reverse marks) state.marks) many s.marks_are,
    ) in
    record {
      row = s.row;
      waits = s.waits;
      now = s.now;
      last = s.last;
      waiting = s.waiting;
      marks_are =
          subst (λ ms. HoldMarks decoded handed s.waits (length s.waits) ms (reverse (marks ++ x ∷ []))
          (state.now ∷ state.marks)) (sym (reverse-append p.marks (m ∷ [])))
          (subst (λ xs. HoldMarks decoded handed s.waits (length s.waits) (m ∷ reverse p.marks) xs
          (state.now ∷ state.marks)) (sym (reverse-append marks (x ∷ []))) opened);
    }

-- The last mark, with that of the session.
pub record StandsAt (decoded : Values) (open_marks : List OpenMark) (m : OpenMark) (handed waits : List Row)
    (marks : List SessionMark) (state : RowState) : Type 0 where
  pub x : SessionMark
  pub others : List SessionMark
  pub marks_are : marks ≡ others ++ x ∷ []
  pub live : List Row
  pub lives : List (List Row)
  pub lives_are : state.marks ≡ live ∷ lives
  pub holds : HoldsMark decoded handed waits (length waits) m x live
  pub rest : HoldMarks decoded handed waits m.waiting (reverse open_marks) (reverse others) lives

pub stands_at : (decoded : Values) (p : Pending) (open_marks : List OpenMark) (m : OpenMark) (handed : List Row)
    (marks : List SessionMark) (state : RowState) → p.marks ≡ open_marks ++ m ∷ []
    → (s : StandsFor decoded p handed marks state)
    → StandsAt decoded open_marks m handed s.waits marks state
stands_at decoded p open_marks m handed marks state ends s =
    let turned : reverse p.marks ≡ m ∷ reverse open_marks = ap reverse ends ∙ reverse-append open_marks (m ∷ []) in
    let l : LastMark decoded handed s.waits (length s.waits) m (reverse open_marks) (reverse marks) state.marks =
    last_mark decoded handed s.waits (length s.waits) m (reverse open_marks) (reverse marks) state.marks
    (subst (λ ms. HoldMarks decoded handed s.waits (length s.waits) ms (reverse marks) state.marks) turned s.marks_are)
    in
    record {
      x = l.x;
      others = reverse l.more;
      marks_are = sym (reverse-reverse marks) ∙ ap reverse l.xs_are ∙ reverse-append (l.x ∷ []) l.more;
      live = l.live;
      lives = l.rest;
      lives_are = l.lives_are;
      holds = l.holds;
      rest =
          subst (λ xs. HoldMarks decoded handed s.waits m.waiting (reverse open_marks) xs l.rest)
          (sym (reverse-reverse l.more)) l.others;
    }

-- It is closed.
pub stands_closed : (decoded : Values) (p : Pending) (open_marks : List OpenMark) (m : OpenMark) (handed : List Row)
    (marks : List SessionMark) (state : RowState) → (s : StandsFor decoded p handed marks state)
    → (at : StandsAt decoded open_marks m handed s.waits marks state)
    → StandsFor decoded (record p { marks = open_marks }) handed at.others
    (record { now = state.now; marks = at.lives })
stands_closed decoded p open_marks m handed marks state s at = record {
  row = s.row;
  waits = s.waits;
  now = s.now;
  last = s.last;
  waiting = s.waiting;
  marks_are =
      marks_on decoded decoded handed s.waits s.waits m.waiting (length s.waits) (reverse open_marks)
      (reverse at.others) at.lives (keeps_all decoded) at.holds.within (λ n le. refl) at.rest;
}

-- It is closed, and what was live at it is live now.
pub stands_back : (decoded : Values) (p : Pending) (open_marks : List OpenMark) (m : OpenMark) (handed : List Row)
    (marks : List SessionMark) (state : RowState) → (s : StandsFor decoded p handed marks state)
    → (at : StandsAt decoded open_marks m handed s.waits marks state)
    → StandsFor decoded (record { last = m.last; waiting = take m.waiting p.waiting; marks = open_marks }) handed
    at.others (record { now = at.live; marks = at.lives })
stands_back decoded p open_marks m handed marks state s at =
    let waits = take m.waiting s.waits in
    let many : length waits ≡ m.waiting = length-take-le m.waiting s.waits at.holds.within in
    record {
      row = at.holds.row;
      waits = waits;
      now = at.holds.live_is;
      last = at.holds.holds;
      waiting = each_take decoded m.waiting s.waits p.waiting s.waiting;
      marks_are =
          marks_on decoded decoded handed s.waits waits m.waiting (length waits) (reverse open_marks)
          (reverse at.others) at.lives (keeps_all decoded) (omega (arith, many))
          (λ n le. take-take n m.waiting s.waits le) at.rest;
    }
