use Rattle.std.proofs.Common.{subst}
use Rattle.js_text.specs.Characters.{from_place}
use Rattle.js_source.specs.Source.{At, rest}
use Rattle.js_spell.specs.Strings.{IsOrdinaryBefore}
use Rattle.js_spell.proofs.OrdinaryCharacters.{passes_then, passes_run}
use Rattle.js_spell.proofs.ordinary.pass_to_mark.Goals as goal

pub returns-in_err-b-clause-passes : goal.returns-in_err-b-clause-passes
returns-in_err-b-clause-passes c =
    passes_run c.args.literal c.table_of.result.now c.args.source.now c.pass_ascii.new.self c.table_of.ensures
    c.pass_ascii.ensures.text c.pass_ascii.ensures.run

pub returns-then-b-ne36-clause-passes : goal.returns-then-b-ne36-clause-passes
returns-then-b-ne36-clause-passes c =
    passes_run c.args.literal c.table_of.result.now c.args.source.now c.pass_ascii.new.self c.table_of.ensures
    c.pass_ascii.ensures.text c.pass_ascii.ensures.run

pub returns-clause-passes : goal.returns-clause-passes
returns-clause-passes c =
    let mid = c.pass_ascii.new.self in
    passes_then c.args.literal c.args.source.now mid c.set_position.new.self
    (passes_run c.args.literal c.table_of.result.now c.args.source.now mid c.table_of.ensures
    c.pass_ascii.ensures.text c.pass_ascii.ensures.run) (record {
      text = c.set_position.ensures.text;
      ordinary = rw (c.set_position.ensures.text, c.set_position.ensures.there) (subst
          (λ (here : At). IsOrdinaryBefore c.args.literal (rest here)
          (from_place here.text c.end_of_characters-end.result))
          c.here.ensures.same c.end_of_characters-end.ensures.passes);
    })
