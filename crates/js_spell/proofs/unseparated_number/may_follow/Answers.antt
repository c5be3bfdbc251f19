use Rattle.js_spell.proofs.UnseparatedNumbers.{follower_by_table}
use Rattle.js_spell.proofs.unseparated_number.may_follow.Goals as goal

pub returns : goal.returns
returns c = follower_by_table c.name_parts.result.now c.args.b c.name_parts.ensures c.if-b-ge128.false
