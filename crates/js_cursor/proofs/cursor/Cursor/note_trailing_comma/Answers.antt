use Rattle.std.proofs.Common.{refl}
use Rattle.js_cursor.proofs.TokenSteps.{unmoved}
use Rattle.js_cursor.proofs.cursor.Cursor.note_trailing_comma.Goals as goal

pub returns-then-not-has_rest-clause-stays : goal.returns-then-not-has_rest-clause-stays
returns-then-not-has_rest-clause-stays g c = unmoved c.args.self.now _ refl

pub returns-then-self-clause-stays : goal.returns-then-self-clause-stays
returns-then-self-clause-stays g c = unmoved c.args.self.now _ refl
