-- How far calls have come.
use Rattle.std.proofs.Common.{◌≡◌, false, Some}
use Rattle.std.specs.declared.option.Option.{Option}
use Rattle.js_process.specs.Outside.{MovesOn, InTime}
use Rattle.js_process.specs.declared.outside.Course.{Course}
use Rattle.js_process.specs.declared.outside.Course.TheVariants.{Open}

-- A call that is not the last leaves the course open.
pub stays_open : (mid new : Option Course) → mid ≡ Some Open → MovesOn false mid new → new ≡ Some Open
stays_open mid new is_open moves = rw is_open at moves

-- Nothing was called.
pub InTime-refl : (old : Option Course) → InTime old old
InTime-refl old is_open late = absurd cc
