use Rattle.std.proofs.Common.{inl}
use Rattle.js_spell.proofs.NameSteps.{mark_first}
use Rattle.js_spell.proofs.name.read_unescaped_name.Goals as goal

pub returns-then-b-eq92-clause-none : goal.returns-then-b-eq92-clause-none
returns-then-b-eq92-clause-none c =
    inl (mark_first c.args.b _ c.requires.ascii c.requires.next c.if-b-eq92.true)
