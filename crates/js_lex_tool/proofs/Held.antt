-- Texts that are written in pieces as they are made.
use Rattle.std.proofs.Common.{◌≡◌, ℕ, ◌+◌, ◌<◌, List, [], ◌∷◌, ◌++◌, length, get_or, drop, arith, refl, sym, ap, subst}
use Rattle.std.proofs.Common.{◌∙◌, inl, inr}
use Rattle.std.proofs.Common.{append_assoc, append-nil}
use Rattle.std.specs.Prelude.{Result, Ok, Err}
use Rattle.std.specs.List.{AllByRecursion, flat_map}
use Rattle.std.proofs.lemmas.List.{at_drop_more, drop_more}
use Rattle.std.proofs.KnownBytes.{Appends-nil, Appends-trans}
use Rattle.js_kind.specs.TokenParts.{TokenParts}
use Rattle.js_session.specs.Report.{IsSliceOnPlaces}
use Rattle.js_session.specs.declared.row.Row.{Row}
use Rattle.js_process.specs.Outside.{OutputState, WritesAll}
use Rattle.js_process.specs.Status.{CountsFault, number}
use Rattle.js_process.specs.Status.Status.{WriteFailed}
use Rattle.js_process.specs.Writing.{status_of_fault, WritesOn, StopsIn}
use Rattle.js_process.specs.declared.write_all.WriteFault.{WriteFault}
use Rattle.js_process.specs.declared.write_all.WriteFault.TheVariants.{Failed, Memory}
use Rattle.js_process.proofs.Courses.{InTime-refl}
use Rattle.js_process.proofs.Pieces.{begins_with_more, begins_behind}
use Rattle.js_lex_tool.specs.Held.{HandsOn, EndsWriting}
use Rattle.js_lex_tool.specs.ReportText.{row_line, row_lines}

writes_nothing : (s : OutputState) → WritesOn [] s s
writes_nothing s = record { written = Appends-nil s.written; faults = refl; stays_open = λ h. h }

writes_both : (xs ys : List ℕ) (old mid new : OutputState) → WritesOn xs old mid → WritesOn ys mid new
    → WritesOn (xs ++ ys) old new
writes_both xs ys old mid new a b = record {
  written = Appends-trans old.written mid.written new.written xs ys a.written b.written;
  faults = b.faults ∙ a.faults;
  stays_open = λ h. b.stays_open (a.stays_open h);
}

-- Where there is no memory for more of a text, nothing more is written.
pub stops_at_once : (text : List ℕ) (s : OutputState) → StopsIn text s s Memory
stops_at_once text s = record {
  written = (0, omega arith, Appends-nil s.written);
  faults = record { rises = λ e. absurd (omega (arith, e)); stays = λ _. refl };
  in_time = InTime-refl s.course;
}

-- What comes behind a text that was written.
stops_behind : (xs ys all : List ℕ) (old mid new : OutputState) (fault : WriteFault) → all ≡ xs ++ ys
    → WritesOn xs old mid → StopsIn ys mid new fault
    → StopsIn all old new fault
stops_behind xs ys all old mid new fault e a b = record {
  written = begins_behind old mid new xs ys all e a.written b.written;
  faults = subst (λ (m : ℕ). CountsFault WriteFailed (number (status_of_fault fault)) m new.faults) a.faults b.faults;
  in_time = λ h. b.in_time (a.stays_open h);
}

stops_before : (xs ys all : List ℕ) (old new : OutputState) (fault : WriteFault) → all ≡ xs ++ ys
    → StopsIn xs old new fault
    → StopsIn all old new fault
stops_before xs ys all old new fault e a = record {
  written = begins_with_more old new xs ys all e a.written;
  faults = a.faults;
  in_time = a.in_time;
}

-- Nothing is written while little is held back.
pub hands_nothing : (held : List ℕ) (s : OutputState)
    → (out : List ℕ) × (out ++ held ≡ held ++ []) × WritesOn out s s
hands_nothing held s = ([], sym (append-nil held), writes_nothing s)

-- All that was held back was written.
pub hands_all : (held held_new : List ℕ) (old new : OutputState) → held_new ≡ [] → WritesOn held old new
    → (out : List ℕ) × (out ++ held_new ≡ held ++ []) × WritesOn out old new
hands_all held held_new old new e w = (held, ap (λ xs. held ++ xs) e, w)

-- A line that was made is held back with what was.
pub hands_line : {A : Type 0} (r : Result A WriteFault) (line held mid new : List ℕ) (s t : OutputState)
    → mid ≡ held ++ line → HandsOn [] mid new s t r
    → HandsOn line held new s t r
hands_line (Ok a) line held mid new s t e (out, same, w) = (out, same ∙ append-nil mid ∙ e, w)
hands_line (Err fault) line held mid new s t e h =
    subst (λ (xs : List ℕ). StopsIn xs s t fault) (append-nil mid ∙ e) h

-- Of a whole text, a beginning was written, then comes what is held back, and then what is left to be made.
pub record HasHandedOn (whole held left : List ℕ) (old new : OutputState) : Type 0 where
  pub out : List ℕ
  pub same : out ++ (held ++ left) ≡ whole
  pub writes : WritesOn out old new

pub nothing_handed : (held left : List ℕ) (s : OutputState) → HasHandedOn (held ++ left) held left s s
nothing_handed held left s = record { out = []; same = refl; writes = writes_nothing s }

regroup : (out more held line left : List ℕ) (held_new : List ℕ) → more ++ held_new ≡ held ++ line
    → (out ++ more) ++ (held_new ++ left) ≡ out ++ (held ++ (line ++ left))
regroup out more held line left held_new e =
    append_assoc out more (held_new ++ left)
    ∙ ap (λ xs. out ++ xs)
    (sym (append_assoc more held_new left) ∙ ap (λ xs. xs ++ left) e ∙ append_assoc held line left)

pub line_handed : (whole held line left held_new : List ℕ) (old mid new : OutputState)
    → HasHandedOn whole held (line ++ left) old mid
    → (out : List ℕ) × (out ++ held_new ≡ held ++ line) × WritesOn out mid new
    → HasHandedOn whole held_new left old new
line_handed whole held line left held_new old mid new h (more, e, w) = record {
  out = h.out ++ more;
  same = regroup h.out more held line left held_new e ∙ h.same;
  writes = writes_both h.out more old mid new h.writes w;
}

pub line_stopped : (whole held line left : List ℕ) (old mid new : OutputState) (fault : WriteFault)
    → HasHandedOn whole held (line ++ left) old mid → StopsIn (held ++ line) mid new fault
    → StopsIn whole old new fault
line_stopped whole held line left old mid new fault h stop =
    stops_behind h.out (held ++ (line ++ left)) whole old mid new fault (sym h.same) h.writes
    (stops_before (held ++ line) left (held ++ (line ++ left)) mid new fault (sym (append_assoc held line left)) stop)

pub all_handed : (whole held left : List ℕ) (old new : OutputState) → left ≡ [] → HasHandedOn whole held left old new
    → (out : List ℕ) × (out ++ held ≡ whole) × WritesOn out old new
all_handed whole held left old new e h = (
  h.out,
  ap (λ xs. h.out ++ xs) (sym (append-nil held) ∙ ap (λ xs. held ++ xs) (sym e)) ∙ h.same,
  h.writes,
)

-- A text is made behind one that was made.
pub hands_both : {A : Type 0} (r : Result A WriteFault) (xs ys held mid_held held_new : List ℕ)
    (old mid new : OutputState) → (out : List ℕ) × (out ++ mid_held ≡ held ++ xs) × WritesOn out old mid
    → HandsOn ys mid_held held_new mid new r
    → HandsOn (xs ++ ys) held held_new old new r
hands_both (Ok a) xs ys held mid_held held_new old mid new (out, e, w) (more, f, v) = (
  out ++ more,
  append_assoc out more held_new
      ∙ ap (λ zs. out ++ zs) f
      ∙ sym (append_assoc out mid_held ys)
      ∙ ap (λ zs. zs ++ ys) e
      ∙ append_assoc held xs ys,
  writes_both out more old mid new w v,
)
hands_both (Err fault) xs ys held mid_held held_new old mid new (out, e, w) stop =
    stops_behind out (mid_held ++ ys) (held ++ (xs ++ ys)) old mid new fault
    (sym (append_assoc held xs ys) ∙ ap (λ zs. zs ++ ys) (sym e) ∙ append_assoc out mid_held ys) w stop

-- Where the first of two texts stops, so do both.
pub hands_stopped : (xs ys held : List ℕ) (old new : OutputState) (fault : WriteFault)
    → StopsIn (held ++ xs) old new fault
    → StopsIn (held ++ (xs ++ ys)) old new fault
hands_stopped xs ys held old new fault stop =
    stops_before (held ++ xs) ys (held ++ (xs ++ ys)) old new fault (sym (append_assoc held xs ys)) stop

-- The line of the next token comes before those of the tokens behind it.
pub token_next : (line : TokenParts → List ℕ) (tokens : List TokenParts) (i : ℕ) (token : TokenParts)
    → i < length tokens → token ≡ get_or tokens i token
    → flat_map line (drop i tokens) ≡ line token ++ flat_map line (drop (i + 1) tokens)
token_next line tokens i token h is =
    at_drop_more (flat_map line) tokens i token h
    ∙ ap (λ (t : TokenParts). line t ++ flat_map line (drop (i + 1) tokens)) (sym is)

-- A run that is out of memory writes no more.
pub ends_at_once : (text : List ℕ) (s : OutputState) → EndsWriting text s s 1
ends_at_once text s = record {
  status = inl refl;
  writes = record { partly = (0, omega arith, Appends-nil s.written); whole = λ e. absurd (omega (arith, e)) };
  faults = record { rises = λ e. absurd (omega (arith, e)); stays = λ _. refl };
  in_time = InTime-refl s.course;
}

-- A fault in the first part of a text is one in the text.
pub ends_stopped : (xs ys all : List ℕ) (old new : OutputState) (fault : WriteFault) → all ≡ xs ++ ys
    → StopsIn xs old new fault
    → EndsWriting all old new (number (status_of_fault fault))
ends_stopped xs ys all old new Failed e stop = record {
  status = inr (inl refl);
  writes =
      record { partly = begins_with_more old new xs ys all e stop.written; whole = λ d. absurd (omega (arith, d)) };
  faults = stop.faults;
  in_time = stop.in_time;
}
ends_stopped xs ys all old new Memory e stop = record {
  status = inl refl;
  writes =
      record { partly = begins_with_more old new xs ys all e stop.written; whole = λ d. absurd (omega (arith, d)) };
  faults = stop.faults;
  in_time = stop.in_time;
}

-- The last part of a text is written behind the first.
pub ends_behind : (xs ys all : List ℕ) (old mid new : OutputState) (n : ℕ) → all ≡ xs ++ ys → WritesOn xs old mid
    → EndsWriting ys mid new n
    → EndsWriting all old new n
ends_behind xs ys all old mid new n e w end = record {
  status = end.status;
  writes = record {
    partly = begins_behind old mid new xs ys all e w.written end.writes.partly;
    whole = λ done.
        let rest : WritesAll mid new ys = end.writes.whole done in
        record {
          written =
              rw e (Appends-trans old.written mid.written new.written xs ys w.written rest.written);
          flushed = rest.flushed;
        };
  };
  faults = subst (λ (m : ℕ). CountsFault WriteFailed n m new.faults) w.faults end.faults;
  in_time = λ h. end.in_time (w.stays_open h);
}

-- The last part of a text, with what was held back of the first, is written behind it.
pub ends_held : (xs ys held : List ℕ) (old mid new : OutputState) (n : ℕ)
    → (out : List ℕ) × (out ++ held ≡ xs) × WritesOn out old mid
    → EndsWriting (held ++ ys) mid new n
    → EndsWriting (xs ++ ys) old new n
ends_held xs ys held old mid new n (out, e, w) end =
    ends_behind out (held ++ ys) (xs ++ ys) old mid new n
    (ap (λ zs. zs ++ ys) (sym e) ∙ append_assoc out held ys) w end

-- The line of the next row comes before those of the rows behind it.
pub row_next : (source : List ℕ) (rows : List Row) (i : ℕ) (row : Row) → i < length rows → row ≡ get_or rows i row
    → row_lines source i (drop i rows) ≡ row_line source i row ++ row_lines source (i + 1) (drop (i + 1) rows)
row_next source rows i row h is =
    at_drop_more (row_lines source i) rows i row h
    ∙ ap (λ (r : Row). row_line source i r ++ row_lines source (i + 1) (drop (i + 1) rows)) (sym is)

-- Where the rows that are left have their slices on places, so have those behind the next one.
pub slices_next : (source : List ℕ) (rows : List Row) (i : ℕ) (row : Row) → i < length rows
    → AllByRecursion (λ r. IsSliceOnPlaces source r.value) (drop i rows)
    → AllByRecursion (λ r. IsSliceOnPlaces source r.value) (drop (i + 1) rows)
slices_next source rows i row h all =
    let next : AllByRecursion (λ r. IsSliceOnPlaces source r.value) (get_or rows i row ∷ drop (i + 1) rows) =
    subst (λ (left : List Row). AllByRecursion (λ r. IsSliceOnPlaces source r.value) left) (drop_more rows i row h) all
    in next.1
