use Rattle.std.proofs.Common.{ap, Ok, ◌∙◌}
use Rattle.js_bench.specs.Words.{bench_line_of}
use Rattle.js_bench.proofs.bench.bench_run.Goals as goal

pub returns : goal.returns
returns g c = record {
  runs = c.text_run.ensures.run (bench_line_of c.args.words.now.items) c.read_bench_words.ensures;
  usage = λ none. c.text_run.ensures.usage (ap Ok (c.read_bench_words.ensures ∙ none));
}
