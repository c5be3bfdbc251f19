-- Where a list found no memory.
use Rattle.std.proofs.Common.{◌≡◌, sym, subst}
use Rattle.std.specs.Prelude.{Result, Ok, Err, IfErr, IsErrAnd}
use Rattle.js_cursor.specs.declared.fault.ListFault.{ListFault}
use Rattle.js_cursor.specs.declared.fault.ListFault.TheVariants.{Memory}

-- what is said of a call that finds no memory
pub lacking : {A Fault : Type 0} (r : Result A (ListFault Fault)) (P : ListFault Fault → Type 0)
    → IsErrAnd r (λ fault. fault ≡ Memory) → P Memory → IfErr r P
lacking (Ok x) P told p = absurd told
lacking (Err fault) P told p = subst P (sym told) p
