-- Clauses of answers.
use Rattle.std.proofs.Common.{Result, Ok, Err}
use Rattle.std.specs.Prelude.{IfOk, OnErr}

-- what holds, holds of an error
pub on_err : {A E : Type 0} {P : Type 0} (r : Result A E) → P → OnErr r P
on_err (Ok x) p = tt
on_err (Err e) p = p

pub err_gives : {A E : Type 0} {P Q : Type 0} (r : Result A E) → (P → Q) → OnErr r P → OnErr r Q
err_gives (Ok x) f h = tt
err_gives (Err e) f h = f h

pub ok_gives : {A E : Type 0} {P Q : A → Type 0} (r : Result A E) → ((x : A) → P x → Q x) → IfOk r P → IfOk r Q
ok_gives (Ok x) f h = f x h
ok_gives (Err e) f h = tt
