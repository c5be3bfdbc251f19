use Rattle.std.proofs.Common.{◌∙◌, false, ap, subst, sym}
use Rattle.std.specs.Prelude.{IfSome}
use Rattle.std.proofs.lemmas.Option.{IfSome_then}
use Rattle.js_text.specs.declared.source_type.SourceType.TheVariants.{Script}
use Rattle.js_source.specs.Source.{At, rest, HasFirstByte}
use Rattle.js_reader.specs.Simple.{SpellsFor}
use Rattle.js_reader.proofs.SimpleReadings.{and_false, simple_punctuator}
use Rattle.js_reader.proofs.simple.read_simple_symbol.Goals as goal

pub returns-in-Some-clause-spells : goal.returns-in-Some-clause-spells
returns-in-Some-clause-spells c = λ r ended none.
    simple_punctuator r ended c.args.source.now c.read_punctuator.new.source c.in-Some.kind none c.in-Some.ensures

pub returns-in-Some-clause-text : goal.returns-in-Some-clause-text
returns-in-Some-clause-text c = (c.in-Some.ensures Script false (and_false _)).0

pub read_value-kind-requires-clause-next : goal.read_value-kind-requires-clause-next
read_value-kind-requires-clause-next c =
    let unread = c.in_default.ensures Script false (and_false _) in
    subst (λ (a : At). HasFirstByte c.args.b (rest a)) (sym (c.here-behind.ensures.same ∙ unread.0)) c.requires.next

pub returns-clause-spells : goal.returns-clause-spells
returns-clause-spells c = λ r ended none.
    let unread = c.in_default.ensures Script false (and_false _) in
    let kind = c.read_value-kind.result in
    subst (λ (a : At). IfSome kind (SpellsFor r ended a c.read_value-kind.new.source))
    (c.here-behind.ensures.same ∙ unread.0)
    (IfSome_then kind (c.read_value-kind.ensures.spells ended) (λ kind spells. spells r))

pub returns-clause-text : goal.returns-clause-text
returns-clause-text c =
    let unread = c.in_default.ensures Script false (and_false _) in
    c.read_value-kind.ensures.text ∙ ap (λ (a : At). a.text) (c.here-behind.ensures.same ∙ unread.0)
