-- What a text comes to that is written and not flushed.
use Rattle.std.proofs.Common.{◌≡◌, ℕ, List, arith, refl, sym, ◌∙◌, Some}
use Rattle.std.specs.Prelude.{Result, Ok, Err, OnOk, OnErr, IsErrOf}
use Rattle.std.specs.Io.KnownBytes.{Appends}
use Rattle.js_process.specs.Outside.{OutputState, WritesPrefix, Rises, StaysOpen, Closes, InTime}
use Rattle.js_process.specs.Writing.{WritesUnflushed}
use Rattle.js_process.specs.declared.outside.Course.TheVariants.{Over, Late}
use Rattle.js_process.specs.declared.write_all.WriteFault.{WriteFault}
use Rattle.js_process.specs.declared.write_all.WriteFault.TheVariants.{Failed, Memory}

open_no_more : (old new : OutputState) → Closes old.course new.course → InTime old.course new.course
open_no_more old new closes is_open late = absurd (let both : Some Over ≡ Some Late = sym (closes is_open) ∙ late in cc)

-- What the writing of a piece comes to.
pub unflushed : {A : Type 0} (r : Result A WriteFault) (text : List ℕ) (old new : OutputState)
    → OnOk r (Appends old.written new.written text) → OnErr r (WritesPrefix old new text)
    → (IsErrOf r Failed → Rises old.faults new.faults)
    → ((¬ (IsErrOf r Failed)) → new.faults ≡ old.faults)
    → OnOk r (StaysOpen old.course new.course) → OnErr r (Closes old.course new.course)
    → WritesUnflushed text old new r
unflushed (Ok a) text old new all prefix fault no_fault stays closes =
    record { written = all; faults = no_fault (λ h. absurd cc); stays_open = stays }
unflushed (Err Failed) text old new all prefix fault no_fault stays closes = record {
  written = prefix;
  faults = record { rises = λ _. fault refl; stays = λ other. absurd (other refl) };
  in_time = open_no_more old new closes;
}
unflushed (Err Memory) text old new all prefix fault no_fault stays closes = record {
  written = prefix;
  faults = record { rises = λ e. absurd (omega (arith, e)); stays = λ _. no_fault (λ h. absurd cc) };
  in_time = open_no_more old new closes;
}
