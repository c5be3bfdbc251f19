use Rattle.js_grammar.specs.declared.goal.Goal.TheVariants.{TemplateTail}
use Rattle.js_session.proofs.AgainLemmas.{stands_for}
use Rattle.js_bench.proofs.step.read_part.Goals as goal

pub next_template_substitution_tail-requires : goal.next_template_substitution_tail-requires
next_template_substitution_tail-requires g c =
    stands_for TemplateTail c.args.lexer.now c.requires.fits c.requires.behind
