use Rattle.std.proofs.Common.{rules}
use Rattle.js_cursor.proofs.TokenSteps.{before_in_its_place}
use Rattle.js_cursor.proofs.cursor.Cursor.peek_token.Goals as goal

pub returns-clause-before : goal.returns-clause-before
returns-clause-before g c = search rules

pub returns-clause-stays : goal.returns-clause-stays
returns-clause-stays g c = before_in_its_place c.args.self.now _ (search rules) (returns-clause-before g c)
