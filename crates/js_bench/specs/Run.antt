-- What a run of the program comes to.
use Rattle.std.specs.Prelude.{◌≡◌, ℕ, ◌<◌, List, ◌++◌, codes, Option, None, replicate, Result, Ok, Err}
use Rattle.std.specs.Prelude.{Vec, String}
use Rattle.std.specs.declared.alloc.Global.{Global}
use Rattle.std.specs.declared.io.Error.{Error}
use Rattle.std.specs.IoError.{error_kind}
use Rattle.std.specs.Fmt.{decimal}
use Rattle.std.specs.List.{flat_map}
use Rattle.js_process.specs.Outside.{InputState, OutputState}
use Rattle.js_process.specs.Status.{number, status_without_words}
use Rattle.js_process.specs.Status.Status.{Usage}
use Rattle.js_process.specs.TextRun.{RunsMaker}
use Rattle.js_bench.specs.Counts.{IsPass, rule_of}
use Rattle.js_bench.specs.Words.{bench_line_of}
use Rattle.js_bench.specs.declared.pass.PassCounts.{PassCounts}
use Rattle.js_bench.specs.declared.words.BenchLine.{BenchLine}

-- the line of a pass
unfoldable pub pass_line : PassCounts → List ℕ
pass_line counts =
    codes "tokens " ++ decimal counts.tokens ++ codes " comments " ++ decimal counts.comments
    ++ codes " diagnostics " ++ decimal counts.diagnostics ++ codes "\n"

-- The counts of a pass of a line over a source.
abbrev pub IsPassOf : BenchLine → List ℕ → PassCounts → Type 0
IsPassOf line source counts = IsPass line.kept (rule_of line.rule) source line.source_type counts

-- A text that has the line of a pass over a source so many times, with the counts of the one report there is.
pub record HasPasses (line : BenchLine) (source : List ℕ) (passes : ℕ) (text : List ℕ) : Type 0 where
  pub counts : PassCounts
  pub counted : 0 < passes → IsPassOf line source counts
  pub lines : text ≡ flat_map pass_line (replicate passes counts)

-- The text of a run of a line over a source.
abbrev pub HasLines : BenchLine → List ℕ → List ℕ → Type 0
HasLines line source text = HasPasses line source line.passes text

-- What a run comes to, by what its words mean: where they are not valid, its status always tells that.
pub record RunsBench (words : Option BenchLine) (input input_new : InputState) (output output_new : OutputState) (n : ℕ)
    : Type 0 where
  pub runs : RunsMaker HasLines words input input_new output output_new n
  pub usage : words ≡ None → n ≡ number Usage

-- A run of the words has this status; or there are none, and the status tells why.
abbrev pub RunsWords : Result (Vec (String Global) Global) Error → InputState → InputState → OutputState → OutputState
    → ℕ → Type 0
RunsWords (Ok words) input input_new output output_new n =
    RunsBench (bench_line_of words.items) input input_new output output_new n
RunsWords (Err error) input input_new output output_new n =
    (n ≡ number (status_without_words (error_kind error))) × (input_new ≡ input) × (output_new ≡ output)
