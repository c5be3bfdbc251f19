use Rattle.std.specs.Prelude.{string_bytes}
use Rattle.js_bench.specs.Run.{HasPasses}
use Rattle.js_bench.proofs.bench.bench_text.Given as goal

-- There is a line for each pass so far.
abbrev pub invariant-passes : goal.invariant-passes
invariant-passes l = HasPasses l.line l.source l.counter (string_bytes l.text)
