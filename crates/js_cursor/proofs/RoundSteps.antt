-- The rounds of lists.
use Rattle.std.proofs.Common.{◌≡◌, ◌<◌, ℕ, ◌-◌, ◌^◌, Bool, true, false, List, [], ◌∷◌, ◌++◌, refl, sym, ◌∙◌, subst}
use Rattle.std.proofs.Common.{Option, Some, None, arith}
use Rattle.std.specs.Prelude.{Result, ◌&&◌, ◌||◌, if◌then◌else◌, is_none, nat_le}
use Rattle.std.specs.Option.{is_some}
use Rattle.std.proofs.lemmas.Bool.Decides.{nat_tests}
use Rattle.std.proofs.lemmas.Fn.{FoldsTo-push}
use Rattle.js_kind.specs.declared.kind.Kind.{Kind}
use Rattle.js_lexer.specs.Places.{KeepsPlaces}
use Rattle.js_cursor.specs.Cursor.{CursorState, is_at}
use Rattle.js_cursor.specs.Lists.{Answering, GoesOn, IsRound, LeadingOn, Reading, Rounds, ends_at, is_stuck}
use Rattle.js_cursor.specs.Lists.{is_stuck_at, left_to_read}
use Rattle.js_cursor.specs.Onward.{GoesOnIf, HasNotGoneBack}
use Rattle.js_cursor.proofs.GoesOn.{goes_on-refl, goes_on-trans}

-- one more round
pub rounds-push : {F T : Type 0} (Q : Reading F T) (f : F) (c : CursorState) (xs : List T) (g : F) (d : CursorState)
    (x : T) (h : F) (e : CursorState) → Rounds Q f c xs g d → Q g d x h e → Rounds Q f c (xs ++ x ∷ []) h e
rounds-push {F} Q f c xs g d x h e rounds step =
    FoldsTo-push {P = F × CursorState} (λ before y after. Q before.0 before.1 y after.0 after.1) (f, c) xs (g, d) x
    (h, e) rounds step

or_none : (a b : Bool) → (a || b) ≡ false → (a ≡ false) × (b ≡ false)
or_none true b e = absurd (cc)
or_none false b e = (refl, e)

-- where a list does not end, no fatal error stands
pub no_fatal_error : (close : Kind) (c : CursorState) → ends_at close c ≡ false → is_some c.fatal ≡ false
no_fatal_error close c e = (or_none (is_at close c) (is_some c.fatal) e).1

leads_on : {A : Type 0} (before after : Option A) (m n : ℕ) → m < 2 ^ 32 → is_some before ≡ false
    → (is_none after && nat_le n m) ≡ false
    → (if is_some after then 0 else 2 ^ 32 - n) < (if is_some before then 0 else 2 ^ 32 - m)
leads_on (Some x) after m n short is e = absurd (cc)
leads_on None (Some y) m n short is e = omega arith
leads_on None None m n short is e = let later : m < n = grind (arith, nat_tests) in omega arith

-- A round that leads on leaves less to read: there is a fatal error, or the current token starts later.
pub leaves_less : (close : Kind) (before after : CursorState) → before.token.start < 2 ^ 32
    → ends_at close before ≡ false → is_stuck before after ≡ false → left_to_read after < left_to_read before
leaves_less close before after short is_open leading =
    leads_on before.fatal after.fatal before.token.start after.token.start short (no_fatal_error close before is_open)
    leading

-- what a test of the place where a round began tells of the round
pub stuck_as_told : (before after : CursorState) (start : ℕ) (told answer : Bool) → start ≡ before.token.start
    → told ≡ is_stuck_at start after → told ≡ answer → is_stuck before after ≡ answer
stuck_as_told before after start told answer start_is told_is e =
    subst (λ n. is_stuck_at n after ≡ answer) start_is (sym told_is ∙ e)

-- one more round of a normal list, which leads on
pub round-push : {F T : Type 0} (R : Reading F T) (close : Kind) (f : F) (c : CursorState) (xs ys : List T) (g : F)
    (d : CursorState) (x : T) (h : F) (e : CursorState) → Rounds (LeadingOn (IsRound R close)) f c xs g d
    → ends_at close d ≡ false → R g d x h e → is_stuck d e ≡ false → ys ≡ xs ++ x ∷ []
    → Rounds (LeadingOn (IsRound R close)) f c ys h e
round-push R close f c xs ys g d x h e rounds is_open read leading added =
    subst (λ zs. Rounds (LeadingOn (IsRound R close)) f c zs h e) (sym added)
    (rounds-push (LeadingOn (IsRound R close)) f c xs g d x h e rounds
    (record { is_open = is_open; read = read }, leading))

-- what goes on if others do
pub goes_on_if-refl : (others : Type 0) (c : CursorState) → GoesOnIf others c c
goes_on_if-refl others c = record { places = omega arith; goes_on = λ onward. goes_on-refl c }

pub goes_on_if-trans : (others : Type 0) (a b c : CursorState) → GoesOnIf others a b → GoesOnIf others b c
    → GoesOnIf others a c
goes_on_if-trans others a b c h k = record {
  places = omega (arith, h.places, k.places);
  goes_on = λ onward. goes_on-trans a b c (h.goes_on onward) (k.goes_on onward);
}

pub goes_on_always : (others : Type 0) (a b : CursorState) → HasNotGoneBack a b → GoesOnIf others a b
goes_on_always others a b h = record { places = h.places.count; goes_on = λ onward. h.goes_on }

-- an element was called for
pub read_goes_on : {F T Fault : Type 0} (A : Answering F T Fault) (c : CursorState) (f : F) (answer : Result T Fault)
    (g : F) (d : CursorState) → A f c answer g d → KeepsPlaces c.lexer d.lexer → GoesOnIf (GoesOn A) c d
read_goes_on A c f answer g d read places =
    record { places = places; goes_on = λ onward. onward f c answer g d read }

-- and so behind what went on
pub then_read : {F T Fault : Type 0} (A : Answering F T Fault) (a b : CursorState) (f : F) (answer : Result T Fault)
    (g : F) (d : CursorState) → GoesOnIf (GoesOn A) a b → A f b answer g d → KeepsPlaces b.lexer d.lexer
    → GoesOnIf (GoesOn A) a d
then_read A a b f answer g d before read places =
    goes_on_if-trans (GoesOn A) a b d before (read_goes_on A b f answer g d read places)

-- what goes on always, behind what goes on if others do
pub goes_on_behind : (others : Type 0) (a b c : CursorState) → GoesOnIf others a b → HasNotGoneBack b c
    → GoesOnIf others a c
goes_on_behind others a b c h k = goes_on_if-trans others a b c h (goes_on_always others b c k)

-- and what goes on if others do, between what goes on always
pub goes_on_around : (others : Type 0) (a b c d : CursorState) → HasNotGoneBack a b → GoesOnIf others b c
    → HasNotGoneBack c d → GoesOnIf others a d
goes_on_around others a b c d first h last =
    goes_on_behind others a c d (goes_on_if-trans others a b c (goes_on_always others a b first) h) last
