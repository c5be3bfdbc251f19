-- What the program comes to from its words on.
use Rattle.std.specs.Prelude.{◌≡◌, ℕ, Option, Result, Ok, Err, Vec, String}
use Rattle.std.specs.declared.alloc.Global.{Global}
use Rattle.std.specs.declared.io.Error.{Error}
use Rattle.std.specs.IoError.{error_kind}
use Rattle.js_process.specs.Outside.{InputState, OutputState}
use Rattle.js_process.specs.Status.{number, status_without_words}
use Rattle.js_lex_tool.specs.Run.{RunsTool}
use Rattle.js_lex_tool.specs.Words.{task_of}
use Rattle.js_lex_tool.specs.declared.tool.Ran.{Ran}

-- A run of the words has this status; or there are none, and the status tells why.
abbrev pub RunsWords : Result (Vec (String Global) Global) Error → InputState → InputState → OutputState → OutputState
    → ℕ → Type 0
RunsWords (Ok words) input input_new output output_new n =
    (ran : Option Ran)
    × RunsTool (task_of words.items) input input_new output output_new (record { status = n; ran = ran })
RunsWords (Err error) input input_new output output_new n =
    (n ≡ number (status_without_words (error_kind error))) × (input_new ≡ input) × (output_new ≡ output)
