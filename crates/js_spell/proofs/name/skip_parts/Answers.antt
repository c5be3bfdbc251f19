use Rattle.std.proofs.Common.{ap, arith, length}
use Rattle.js_spell.proofs.NameSteps.{behind}
use Rattle.js_spell.proofs.name.skip_parts.Goals as goal

pub loop-c-smaller : goal.loop-c-smaller
loop-c-smaller c =
    let after =
    behind c.in-Some.c c.pass_parts.new.source c.pass_char.new.self c.in-Some.ensures.some
    c.pass_char.ensures.past in
    omega (arith, ap length after.1, c.in-Some.ensures.fewer)
