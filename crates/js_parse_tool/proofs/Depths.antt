-- Places where expressions nest too deep.
use Rattle.std.proofs.Common.{◌≡◌, ℕ, ◌≤◌, arith, subst, sym}
use Rattle.js_parse_tool.specs.Depth.{IsBehind}
use Rattle.js_parse_tool.specs.declared.fault.ParseFault.{ParseFault}
use Rattle.js_parse_tool.specs.declared.fault.ParseFault.TheVariants.{Memory, TooDeep}

-- what stands behind a place stands behind each place before that
pub behind_sooner : (sooner least : ℕ) (fault : ParseFault) → sooner ≤ least → IsBehind least fault
    → IsBehind sooner fault
behind_sooner sooner least (TooDeep at) before h = omega arith
behind_sooner sooner least Memory before h = tt

-- want of memory is behind each place
pub memory_anywhere : (least : ℕ) (fault : ParseFault) → fault ≡ Memory → IsBehind least fault
memory_anywhere least fault e = subst (IsBehind least) (sym e) tt
