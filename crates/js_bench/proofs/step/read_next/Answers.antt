use Rattle.js_bench.proofs.step.read_next.Goals as goal

pub returns : goal.returns
returns g c = record {
  token = c.in_ok-token.token;
  reads = c.in_ok-token.ensures.ok;
  told = λ tokens told. c.read_passed.ensures tokens (c.in_ok-pass.ensures.ok tokens told);
}
