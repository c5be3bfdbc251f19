-- What is pending, as it is handed over, and as marks are opened and closed.
use Rattle.std.proofs.Common.{◌≡◌, ℕ, zero, suc, ◌+◌, ◌<◌, ◌≤◌, ◌==◌, true, false, List, [], ◌∷◌, ◌++◌, length, refl}
use Rattle.std.proofs.Common.{sym, ◌∙◌, ap, subst, arith, get_or, take, Option, Some, None}
use Rattle.std.proofs.lemmas.Bool.{eqb-true}
use Rattle.std.proofs.lemmas.List.{take_all, take_more}
use Rattle.std.specs.List.{AllByRecursion}
use Rattle.std.specs.Prelude.{IsSome, ◌↔◌, option_to_list}
use Rattle.js_reader.specs.Decoded.{Values}
use Rattle.js_lexer.specs.Lexer.{CanRewind, Checkpoint, LexerState, checkpoint_of}
use Rattle.js_lists.specs.Drive.{HandsOver, IsHeld}
use Rattle.js_lists.specs.Steps.{ClosesMark, HandsEach, OpensMark, Settles, mark_of}
use Rattle.js_lists.specs.Taken.{BreaksOff, Taken, TakesEach}
use Rattle.js_lists.specs.declared.pending.OpenMark.{OpenMark}
use Rattle.js_lists.specs.declared.pending.Pending.{Pending}
use Rattle.js_session.specs.declared.re_lex.LastRead.{LastRead}
use Rattle.js_lists.proofs.TakenLemmas.{breaks_behind, breaks_here}

-- one more token was handed over
pub hands_more : {S : Type 0} (takes : S → Taken → S → Type 0) (decoded : Values) (xs : List LastRead) (x : LastRead)
    (old mid new : S) → HandsEach takes decoded xs old mid → HandsOver takes decoded x mid new
    → HandsEach takes decoded (xs ++ x ∷ []) old new
hands_more takes decoded [] x old mid new h o = (new, subst (λ s. HandsOver takes decoded x s new) h o, refl)
hands_more takes decoded (y ∷ xs) x old mid new h o = (h.0, h.1, hands_more takes decoded xs x h.0 mid new h.2 o)

held_get : (decoded : Values) (xs : List LastRead) (i : ℕ) (d : LastRead) → AllByRecursion (IsHeld decoded) xs
    → i < length xs → IsHeld decoded (get_or xs i d)
held_get decoded [] i d h within = absurd (omega (arith, within))
held_get decoded (x ∷ xs) zero d h within = h.0
held_get decoded (x ∷ xs) (suc k) d h within = held_get decoded xs k d h.1 (omega (arith, within))

-- each of them may be handed over
pub held_at : (decoded : Values) (xs : List LastRead) (i : ℕ) (x : LastRead) → AllByRecursion (IsHeld decoded) xs
    → i < length xs → x ≡ get_or xs i x → IsHeld decoded x
held_at decoded xs i x h within is = subst (IsHeld decoded) (sym is) (held_get decoded xs i x h within)

-- a step of the loop
pub hands_step : {S : Type 0} (takes : S → Taken → S → Type 0) (decoded : Values) (xs : List LastRead) (i : ℕ)
    (x : LastRead) (old mid new : S) → i < length xs → x ≡ get_or xs i x
    → HandsEach takes decoded (take i xs) old mid → HandsOver takes decoded x mid new
    → HandsEach takes decoded (take (i + 1) xs) old new
hands_step takes decoded xs i x old mid new within is h o =
    subst (λ ys. HandsEach takes decoded ys old new)
    (sym (take_more xs i x within ∙ ap (λ y. take i xs ++ y ∷ []) (sym is)))
    (hands_more takes decoded (take i xs) x old mid new h o)

-- and behind it
pub hands_end : {S : Type 0} (takes : S → Taken → S → Type 0) (decoded : Values) (xs : List LastRead) (i : ℕ)
    (old new : S) → length xs ≤ i → HandsEach takes decoded (take i xs) old new → HandsEach takes decoded xs old new
hands_end takes decoded xs i old new past h =
    subst (λ ys. HandsEach takes decoded ys old new) (take_all i xs past) h

-- what was taken of them
pub taken_each : {S : Type 0} (takes : S → Taken → S → Type 0) (decoded : Values) (xs : List LastRead) (old new : S)
    → HandsEach takes decoded xs old new → (taken : List Taken) × TakesEach takes old taken new
taken_each takes decoded [] old new h = ([], h)
taken_each takes decoded (x ∷ xs) old new h =
    let more = taken_each takes decoded xs h.0 new h.2 in (
      record { token = x.token; value = h.1.value; regex = x.regex } ∷ more.0,
      (h.0, h.1.taken, more.1),
    )

-- There was no memory behind them.
pub breaks_each : {S : Type 0} (takes : S → Taken → S → Type 0) (breaks_off : S → S → Type 0) (decoded : Values)
    (xs : List LastRead) (old mid new : S) → HandsEach takes decoded xs old mid → breaks_off mid new
    → BreaksOff takes breaks_off old new
breaks_each takes breaks_off decoded xs old mid new h b =
    let taken = taken_each takes decoded xs old mid h in
    breaks_behind takes breaks_off taken.0 old mid new taken.1 b

-- The last token was settled, and then there was no memory.
pub breaks_settled : {S : Type 0} (takes : S → Taken → S → Type 0) (breaks_off : S → S → Type 0) (decoded : Values)
    (marks : List OpenMark) (p q : Pending) (old new : S) → Settles takes decoded marks p q old new
    → BreaksOff takes breaks_off old new
breaks_settled takes breaks_off decoded [] p q old new h =
    let taken = taken_each takes decoded (p.waiting ++ p.last ∷ []) old new h.0 in
    breaks_here takes breaks_off taken.0 old new taken.1
breaks_settled takes breaks_off decoded (m ∷ ms) p q old new h = breaks_here takes breaks_off [] old new h.0

-- where no mark is open
pub settles_all : {S : Type 0} (takes : S → Taken → S → Type 0) (decoded : Values) (marks : List OpenMark)
    (p q : Pending) (old new : S) → (length marks == 0) ≡ true
    → HandsEach takes decoded (p.waiting ++ p.last ∷ []) old new → q ≡ record p { waiting = [] }
    → Settles takes decoded marks p q old new
settles_all takes decoded [] p q old new none h after = (h, after)
settles_all takes decoded (m ∷ ms) p q old new none h after = absurd (omega (arith, eqb-true (length (m ∷ ms)) 0 none))

-- where one is
pub settles_none : {S : Type 0} (takes : S → Taken → S → Type 0) (decoded : Values) (marks : List OpenMark)
    (p q : Pending) (old new : S) → (length marks == 0) ≡ false → new ≡ old
    → q ≡ record p { waiting = p.waiting ++ p.last ∷ [] } → Settles takes decoded marks p q old new
settles_none takes decoded [] p q old new some same after = absurd (let no : true ≡ false = some in cc)
settles_none takes decoded (m ∷ ms) p q old new some same after = (same, after)

-- a mark was opened with this checkpoint, behind so many that wait
pub opens_mark : (l : LexerState) (p q : Pending) (checkpoint : Checkpoint) (waiting : ℕ) (marks : List OpenMark)
    → checkpoint ≡ checkpoint_of l → CanRewind l checkpoint → waiting ≡ length p.waiting
    → marks ≡ p.marks ++ record { checkpoint = checkpoint; last = p.last; waiting = waiting } ∷ []
    → q ≡ record p { marks = marks } → OpensMark l p q
opens_mark l p q checkpoint waiting marks is can many pushed after =
    let same : record { checkpoint = checkpoint; last = p.last; waiting = waiting } ≡ mark_of l p = rw (is, many) refl in
    record {
      can_rewind = subst (CanRewind l) is can;
      after = after ∙ ap (λ ms. record p { marks = ms }) (pushed ∙ ap (λ m. p.marks ++ m ∷ []) same);
    }

-- the last mark is closed, if one was open
pub closes_mark : (p q : Pending) (marks : List OpenMark) (closed : Option OpenMark)
    → p.marks ≡ marks ++ option_to_list closed → (IsSome closed ↔ (0 < length p.marks)) → 0 < length p.marks
    → q ≡ record p { marks = marks } → ClosesMark p q
closes_mark p q marks None ends found some after = absurd (let no : false ≡ true = found.1 some in cc)
closes_mark p q marks (Some m) ends found some after = record {
  mark = m;
  marks = ends ∙ ap (λ ms. ms ++ m ∷ []) (sym (ap (λ x. x.marks) after));
  after = after ∙ ap (λ ms. record p { marks = ms }) (sym (ap (λ x. x.marks) after));
}
