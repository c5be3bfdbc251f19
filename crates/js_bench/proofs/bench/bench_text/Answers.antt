use Rattle.std.specs.Prelude.{string_bytes}
use Rattle.js_bench.proofs.Passes.{no_passes, one_more}
use Rattle.js_bench.proofs.bench.bench_text.Goals as goal

pub passes-preserved : goal.passes-preserved
passes-preserved c =
    one_more c.args.line.now c.args.source.now c.passes.counter (string_bytes c.passes.text)
    (string_bytes c.push_pass.new.text) c.in_ok-counts.counts c.passes.invariant c.in_ok-counts.ensures
    c.in_ok-push_pass.ensures

pub passes-init : goal.passes-init
passes-init c =
    no_passes c.args.line.now c.args.source.now (string_bytes c.new-text.result) c.new-text.ensures.bytes
