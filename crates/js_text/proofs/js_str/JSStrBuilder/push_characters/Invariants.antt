use Rattle.std.proofs.Common.{◌≡◌, ◌++◌}
use Rattle.js_text.specs.JsStr.{units_of}
use Rattle.js_text.proofs.js_str.JSStrBuilder.push_characters.Given as goal

-- The units of the characters so far were added.
abbrev pub invariant-loop-c : goal.invariant-loop-c
invariant-loop-c l = l.self ≡ l.fn.self ++ units_of l.yielded
