use Rattle.js_spell.proofs.SpellSteps.{unescaped_string}
use Rattle.js_spell.proofs.string.read_unescaped_string.Goals as goal

pub returns-clause-some : goal.returns-clause-some
returns-clause-some c = λ errors token.
    unescaped_string c.args.quote c.in_ok-b.b c.args.source.now c.next_ascii.new.self c.pass_to_mark.new.source
    c.next_ascii-2.new.self errors token c.literal_of-literal.result
    c.literal_of-literal.ensures.string c.literal_of-literal.ensures.quote c.next_ascii.ensures.reads
    c.pass_to_mark.ensures.passes c.pass_to_mark.ensures.all c.if-b-quote.false c.next_ascii-2.ensures.reads
