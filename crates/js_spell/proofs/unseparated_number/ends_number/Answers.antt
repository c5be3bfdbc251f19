use Rattle.js_source.specs.Source.{rest}
use Rattle.js_spell.proofs.UnseparatedNumbers.{end_by_byte}
use Rattle.js_spell.proofs.unseparated_number.ends_number.Goals as goal

pub returns-in-Some : goal.returns-in-Some
returns-in-Some c =
    end_by_byte c.may_follow.result c.in-Some.b (rest c.args.source.now) c.in-Some.ensures.some c.may_follow.ensures
