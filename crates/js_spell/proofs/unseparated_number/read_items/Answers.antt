use Rattle.js_spell.proofs.UnseparatedNumbers.{no_point}
use Rattle.js_spell.proofs.unseparated_number.read_items.Goals as goal

pub find_lead-requires : goal.find_lead-requires
find_lead-requires c = no_point c.args.b _ c.requires.ascii c.requires.next c.requires.digit
