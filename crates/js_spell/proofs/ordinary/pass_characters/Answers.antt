use Rattle.std.proofs.Common.{sym}
use Rattle.std.proofs.lemmas.Bool.{ne_eqb}
use Rattle.js_source.specs.Source.{rest}
use Rattle.js_spell.proofs.OrdinaryCharacters.{passes_then, passes_past, nothing_ordinary, stop_not_ordinary}
use Rattle.js_spell.proofs.OrdinaryCharacters.{substitution_not_ordinary, dollar_is_ordinary, first_of_stop}
use Rattle.js_spell.proofs.ordinary.pass_characters.Goals as goal

pub returns-in-None-clause-passes : goal.returns-in-None-clause-passes
returns-in-None-clause-passes c =
    passes_then c.args.literal c.args.source.now c.characters.source c.pass_ordinary.new.source
    c.characters.invariant c.pass_ordinary.ensures.passes

pub returns-in-None-clause-all : goal.returns-in-None-clause-all
returns-in-None-clause-all c = nothing_ordinary c.args.literal _ c.in-None.ensures.none

pub returns-then-b-ne36-clause-passes : goal.returns-then-b-ne36-clause-passes
returns-then-b-ne36-clause-passes c =
    passes_then c.args.literal c.args.source.now c.characters.source c.pass_ordinary.new.source
    c.characters.invariant c.pass_ordinary.ensures.passes

pub returns-then-b-ne36-clause-all : goal.returns-then-b-ne36-clause-all
returns-then-b-ne36-clause-all c =
    stop_not_ordinary c.args.literal c.in-Some.b (rest c.pass_ordinary.new.source) c.in-Some.ensures.some
    (ne_eqb c.in-Some.b 36 c.if-b-ne36.true)

pub returns-then-b-ne36-clause-some : goal.returns-then-b-ne36-clause-some
returns-then-b-ne36-clause-some c =
    first_of_stop c.args.literal c.in-Some.b (rest c.pass_ordinary.new.source) c.in-Some.ensures.some

pub returns-then-begins_substitution-clause-passes : goal.returns-then-begins_substitution-clause-passes
returns-then-begins_substitution-clause-passes c =
    passes_then c.args.literal c.args.source.now c.characters.source c.pass_ordinary.new.source
    c.characters.invariant c.pass_ordinary.ensures.passes

pub returns-then-begins_substitution-clause-all : goal.returns-then-begins_substitution-clause-all
returns-then-begins_substitution-clause-all c =
    substitution_not_ordinary c.args.literal c.in-Some.b (rest c.pass_ordinary.new.source) c.in-Some.ensures.some
    (sym c.if-begins_substitution.ensures)

pub returns-then-begins_substitution-clause-some : goal.returns-then-begins_substitution-clause-some
returns-then-begins_substitution-clause-some c =
    first_of_stop c.args.literal c.in-Some.b (rest c.pass_ordinary.new.source) c.in-Some.ensures.some

pub characters-preserved : goal.characters-preserved
characters-preserved c =
    let mid = c.pass_ordinary.new.source in
    passes_then c.args.literal c.args.source.now c.characters.source c.next_char.new.self
    c.characters.invariant
    (passes_then c.args.literal c.characters.source mid c.next_char.new.self c.pass_ordinary.ensures.passes
    (passes_past c.args.literal mid c.next_char.new.self c.next_char.ensures.past
    (dollar_is_ordinary c.args.literal c.in-Some.b (rest mid) c.in-Some.ensures.some c.if-b-ne36.false
    (sym c.if-begins_substitution.ensures))))
