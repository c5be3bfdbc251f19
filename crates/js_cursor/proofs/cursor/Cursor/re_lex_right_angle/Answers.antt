use Rattle.std.proofs.Common.{refl}
use Rattle.js_cursor.proofs.TokenSteps.{unmoved}
use Rattle.js_cursor.proofs.cursor.Cursor.re_lex_right_angle.Goals as goal

pub returns-then-has_fatal_error-clause-stays : goal.returns-then-has_fatal_error-clause-stays
returns-then-has_fatal_error-clause-stays g c = unmoved c.args.self.now _ refl
