use Rattle.std.proofs.Common.{arith, ap, ◌∙◌}
use Rattle.js_text.specs.Characters.{from_place}
use Rattle.js_grammar.specs.StringItems.{string_text}
use Rattle.js_spell.proofs.ItemSteps.{copied, passes_onward, on_ok_map}
use Rattle.js_spell.proofs.items.copy_characters.Goals as goal

pub str_from_pos_to_current-requires-clause-ordered : goal.str_from_pos_to_current-requires-clause-ordered
str_from_pos_to_current-requires-clause-ordered c =
    omega (
      arith,
      c.position-from.ensures.place,
      passes_onward c.args.literal c.args.source.now c.pass_characters.new.source
          c.pass_characters.ensures.passes,
    )

pub returns-clause-ok : goal.returns-clause-ok
returns-clause-ok c =
    let new = c.pass_characters.new.source in
    let plain = c.pass_characters.ensures.passes in
    let here = ap (λ t. from_place t c.position-from.result) plain.text
    ∙ ap (from_place c.args.source.now.text) c.position-from.ensures.place ∙ plain.ordinary.here in
    on_ok_map c.push_str.result _ _
    (λ added start errors.
    copied c.args.literal start c.args.source.now new c.args.text.now c.push_str.new.self
    c.str_from_pos_to_current.result.now errors plain added
    (c.str_from_pos_to_current.ensures.characters (string_text plain.ordinary.items) here))
    c.push_str.ensures.ok

pub returns-clause-onward : goal.returns-clause-onward
returns-clause-onward c =
    passes_onward c.args.literal c.args.source.now c.pass_characters.new.source c.pass_characters.ensures.passes
