use Rattle.std.proofs.Common.{rules}
use Rattle.js_cursor.proofs.CursorSteps.{is_kind}
use Rattle.js_cursor.proofs.cursor.Cursor.at.Goals as goal

pub returns-clause-same : goal.returns-clause-same
returns-clause-same g c = search rules

pub returns-clause-answer : goal.returns-clause-answer
returns-clause-answer g c = is_kind c.args.self.now.token.kind c.args.kind _ (returns-clause-same g c)
