-- How deep expressions may nest.
use Rattle.std.specs.Prelude.{ℕ, ◌≤◌}
use Rattle.js_parse_tool.specs.declared.fault.ParseFault.{ParseFault}
use Rattle.js_parse_tool.specs.declared.fault.ParseFault.TheVariants.{Memory, TooDeep}

-- how many levels deep expressions may nest
abbrev pub most_depth : ℕ
most_depth = 1000

-- What is nested too deep stands at this place, or behind it: each level takes a byte at least.
abbrev pub IsBehind : ℕ → ParseFault → Type 0
IsBehind least (TooDeep at) = least ≤ at
IsBehind least Memory = Unit {0}
