use Rattle.js_spell.proofs.ItemSteps.{line_end_read, on_ok_map}
use Rattle.js_spell.proofs.items.read_carriage_return.Goals as goal

pub returns-clause-ok : goal.returns-clause-ok
returns-clause-ok c =
    on_ok_map c.push_unit.result _ _
    (λ added start errors.
    line_end_read c.advance_if_ascii_eq.result start c.args.source.now c.next_char.new.self
    c.advance_if_ascii_eq.new.self c.args.text.now c.push_unit.new.self errors
    c.requires c.next_char.ensures.past c.advance_if_ascii_eq.ensures.cases
    added)
    c.push_unit.ensures.ok
