-- A parser that was stopped.
use Rattle.std.proofs.Common.{◌≡◌, Bool, true, false, refl, sym, ap, ◌∙◌}
use Rattle.std.specs.Prelude.{if◌then◌else◌, not, ◌||◌}
use Rattle.std.specs.Option.{is_some}
use Rattle.js_cursor.specs.Cursor.{CursorState, is_at, with_fatal_error}
use Rattle.js_cursor.specs.Lists.{ends_at}
use Rattle.js_kind.specs.declared.kind.Kind.{Kind}
use Rattle.js_cursor.specs.declared.diagnostic.CursorDiagnostic.{CursorDiagnostic}

either_way : (b : Bool) (c d : CursorState) → is_some c.fatal ≡ b → is_some d.fatal ≡ true
    → is_some ((if b then c else d).fatal) ≡ true
either_way true c d e f = e
either_way false c d e f = f

-- a fatal error stands where one was set
pub is_stopped : (error : CursorDiagnostic) (c d : CursorState) → d ≡ with_fatal_error error c
    → is_some d.fatal ≡ true
is_stopped error c d e =
    ap (λ (s : CursorState). is_some s.fatal) e ∙ either_way (is_some c.fatal) c _ refl refl

or_true : (a b : Bool) → b ≡ true → (a || b) ≡ true
or_true true b e = refl
or_true false b e = e

-- a list ends under a fatal error
pub ends_when_stopped : (close : Kind) (c : CursorState) → is_some c.fatal ≡ true → ends_at close c ≡ true
ends_when_stopped close c e = or_true (is_at close c) (is_some c.fatal) e

is_true : (b : Bool) → false ≡ not b → b ≡ true
is_true true e = refl
is_true false e = absurd (cc)

-- a list ends where it does not go on
pub ends_where_it_stops : (close : Kind) (c : CursorState) (goes_on : Bool) → goes_on ≡ not (ends_at close c)
    → goes_on ≡ false → ends_at close c ≡ true
ends_where_it_stops close c goes_on e f = is_true (ends_at close c) (sym f ∙ e)
