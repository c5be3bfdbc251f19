use Rattle.js_spell.specs.Name.{class_of}
use Rattle.js_spell.proofs.NameSteps.{other_decoded, unicode_decoded}
use Rattle.js_spell.proofs.name.decode_escape.Goals as goal

pub returns-then-not-advance_if_ascii_eq : goal.returns-then-not-advance_if_ascii_eq
returns-then-not-advance_if_ascii_eq c =
    other_decoded (class_of c.args.position) c.args.source.now c.advance_if_ascii_eq.new.self c.next_char.new.self
    c.next_char.result c.if-not-advance_if_ascii_eq.ensures.cases.0 c.if-not-advance_if_ascii_eq.ensures.cases.1
    c.next_char.ensures.none c.next_char.ensures.some

pub returns : goal.returns
returns c =
    unicode_decoded (class_of c.args.position) c.args.source.now c.advance_if_ascii_eq.new.self
    c.decode_unicode.new.source c.decode_unicode.result c.if-not-advance_if_ascii_eq.ensures.cases
    c.decode_unicode.ensures
