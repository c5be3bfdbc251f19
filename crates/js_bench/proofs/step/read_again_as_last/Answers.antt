use Rattle.js_bench.proofs.step.read_again_as_last.Goals as goal

pub returns : goal.returns
returns g c = (c.in_ok-_token._token, c.in_ok-_token.ensures)
