use Rattle.std.proofs.Common.{[], refl, subst, not, true}
use Rattle.js_source.specs.Source.{rest}
use Rattle.js_spell.specs.declared.ordinary.Literal.{Literal}
use Rattle.js_spell.specs.Strings.{ReadsOneItem}
use Rattle.js_spell.proofs.BreakSteps.{on_err, unreported}
use Rattle.js_spell.proofs.OrdinaryCharacters.{no_item_here}
use Rattle.js_spell.proofs.ItemSteps.{match_option, is_template}
use Rattle.js_spell.proofs.items.read_marked_item.Goals as goal

pub returns-in_ok-read_carriage_return-in-CarriageReturn-clause-ok
    : goal.returns-in_ok-read_carriage_return-in-CarriageReturn-clause-ok
returns-in_ok-read_carriage_return-in-CarriageReturn-clause-ok c =
    let mark = c.in-CarriageReturn.ensures (rest c.args.source.now)
    (match_option c.peek_byte.result _ _ c.peek_byte.ensures.none c.peek_byte.ensures.some) in
    subst (λ (literal : Literal). ReadsOneItem literal c.args.token.now.start c.args.source.now
    c.read_carriage_return.new.source c.args.text.now c.read_carriage_return.new.text c.args.errors.now
    c.args.errors.now (not true))
    (is_template c.args.literal mark.0)
    (c.in_ok-read_carriage_return-in-CarriageReturn.ensures.ok c.args.token.now.start c.args.errors.now)

pub returns-in-End-clause-ok : goal.returns-in-End-clause-ok
returns-in-End-clause-ok c =
    let mark = c.in-End.ensures (rest c.args.source.now)
    (match_option c.peek_byte.result _ _ c.peek_byte.ensures.none c.peek_byte.ensures.some) in
    (no_item_here c.args.literal (rest c.args.source.now) c.requires.marked mark, refl, refl, refl)

pub returns-in_err-read_carriage_return-in-CarriageReturn-clause-err
    : goal.returns-in_err-read_carriage_return-in-CarriageReturn-clause-err
returns-in_err-read_carriage_return-in-CarriageReturn-clause-err c =
    on_err c.from_residual-in_err-read_carriage_return-in-CarriageReturn.result _
    (unreported [] c.args.source.now c.read_carriage_return.new.source c.args.errors.now c.args.errors.now
    c.read_carriage_return.ensures.same_text c.read_carriage_return.ensures.onward refl)
