use Rattle.std.proofs.Common.{◌-◌, ◌^◌}
use Rattle.js_cursor_tests.proofs.first.count_tokens.Given as goal

-- There is still text behind the start of the current token.
abbrev pub decreases-tokens : goal.decreases-tokens
decreases-tokens l = 2 ^ 32 - l.cursor.token.start
