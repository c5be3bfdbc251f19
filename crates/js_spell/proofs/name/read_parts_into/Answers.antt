use Rattle.std.specs.Prelude.{string_bytes}
use Rattle.js_spell.specs.Name.{PassesParts}
use Rattle.js_spell.proofs.NameReadings.{parts_read, on_pushed}
use Rattle.js_spell.proofs.name.read_parts_into.Goals as goal

pub returns-clause-ok : goal.returns-clause-ok
returns-clause-ok c =
    on_pushed c.push_str.result (λ bytes. PassesParts c.args.source.now c.skip_parts.new.source
    (string_bytes c.args.decoded.now) bytes) (string_bytes c.args.decoded.now) (string_bytes c.push_str.new.self)
    c.str_from_pos_to_current.result.now c.push_str.ensures.bytes
    (λ added. parts_read c.args.source.now c.skip_parts.new.source (string_bytes c.args.decoded.now)
    (string_bytes c.push_str.new.self) c.str_from_pos_to_current.result.now c.skip_parts.ensures.text
    c.skip_parts.ensures.rest
    (rw c.position-start.ensures.place at c.str_from_pos_to_current.ensures.characters) added)
