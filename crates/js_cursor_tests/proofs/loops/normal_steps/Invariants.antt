use Rattle.js_cursor.specs.Lists.{left_to_read}
use Rattle.js_cursor_tests.proofs.loops.normal_steps.Given as goal

-- No fatal error stands, and there is still text behind the current token.
abbrev pub decreases-elements : goal.decreases-elements
decreases-elements l = left_to_read l.cursor
