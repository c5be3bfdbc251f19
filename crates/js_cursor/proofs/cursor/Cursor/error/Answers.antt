use Rattle.std.proofs.Common.{rules}
use Rattle.js_cursor.proofs.TokenSteps.{reported}
use Rattle.js_cursor.proofs.cursor.Cursor.error.Goals as goal

pub returns-clause-ok : goal.returns-clause-ok
returns-clause-ok g c = search rules

pub returns-clause-err : goal.returns-clause-err
returns-clause-err g c = search rules

pub returns-clause-stays : goal.returns-clause-stays
returns-clause-stays g c =
    reported c.args.error c.args.self.now _ c.push.result (returns-clause-ok g c) (returns-clause-err g c)
