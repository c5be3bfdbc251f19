use Rattle.std.proofs.Common.{◌≢◌, ◌<◌, ◌^◌, rules, arith}
use Rattle.js_kind.specs.declared.kind.Kind.TheVariants.{Eof}
use Rattle.js_cursor_tests.proofs.first.count_tokens.Goals as goal

pub tokens-smaller : goal.tokens-smaller
tokens-smaller c =
    let short : c.tokens.cursor.token.start < 2 ^ 32 = omega arith in
    let some : c.tokens.cursor.token.kind ≢ Eof = search rules in
    let later = c.in_ok-bump_any.ensures.passed.starts some in
    omega (arith, short, later)
