use Rattle.std.proofs.Common.{sym}
use Rattle.js_spell.proofs.SpellSteps.{plain_tail, plain_substitution}
use Rattle.js_spell.proofs.template.read_unescaped_part.Goals as goal

pub returns-then-b-eq96-clause-some : goal.returns-then-b-eq96-clause-some
returns-then-b-eq96-clause-some c = λ opening start at errors token.
    plain_tail c.args.substitute c.args.tail c.in_ok-b.b opening start c.args.source.now c.pass_to_mark.new.source
    c.next_ascii.new.self errors token at c.pass_to_mark.ensures.passes c.pass_to_mark.ensures.all
    c.if-b-eq96.true c.next_ascii.ensures.reads

pub returns-then-begins_substitution-clause-some : goal.returns-then-begins_substitution-clause-some
returns-then-begins_substitution-clause-some c = λ opening start at errors token.
    plain_substitution c.args.substitute c.args.tail opening start c.next_2_chars.result c.args.source.now
    c.pass_to_mark.new.source
    c.next_2_chars.new.self errors token at c.pass_to_mark.ensures.passes c.pass_to_mark.ensures.all
    (sym c.if-begins_substitution.ensures) c.next_2_chars.ensures.none c.next_2_chars.ensures.some
