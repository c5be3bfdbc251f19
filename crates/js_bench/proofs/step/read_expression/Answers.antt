use Rattle.std.proofs.Common.{◌∙◌, ap}
use Rattle.js_grammar.specs.declared.goal.Goal.TheVariants.{RegularExpression}
use Rattle.js_session.proofs.AgainLemmas.{stands_for}
use Rattle.js_bench.proofs.step.read_expression.Goals as goal

pub next_regex-requires-clause-kind : goal.next_regex-requires-clause-kind
next_regex-requires-clause-kind g c = c.kind-kind.ensures ∙ ap (λ t. t.kind) c.last_token.ensures.token

pub next_regex-requires-clause-behind : goal.next_regex-requires-clause-behind
next_regex-requires-clause-behind g c =
    stands_for RegularExpression c.args.lexer.now c.requires.fits c.requires.behind

pub returns : goal.returns
returns g c = c.in_ok-found.ensures.ok.again
