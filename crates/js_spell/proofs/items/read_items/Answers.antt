use Rattle.std.proofs.Common.{arith, refl}
use Rattle.js_spell.specs.Strings.{items_told}
use Rattle.js_spell.proofs.BreakSteps.{broken_first, on_err, unreported}
use Rattle.js_spell.proofs.ItemSteps.{items_broken, one_more_turn, turn_shortens}
use Rattle.js_spell.proofs.items.read_items.Goals as goal

pub items-smaller : goal.items-smaller
items-smaller c =
    let one = rw c.in-Some.is at c.in_ok-is_good.ensures.ok in
    let copied = c.in_ok-copy_characters.ensures.ok c.args.token.now.start c.read_marked_item.new.errors in
    turn_shortens c.args.literal c.args.token.now.start c.items.source c.read_marked_item.new.source
    c.copy_characters.new.source c.items.text c.read_marked_item.new.text c.copy_characters.new.text c.items.errors
    c.read_marked_item.new.errors _ one copied

pub items-preserved : goal.items-preserved
items-preserved c =
    let one = rw c.in-Some.is at c.in_ok-is_good.ensures.ok in
    let copied = c.in_ok-copy_characters.ensures.ok c.args.token.now.start c.read_marked_item.new.errors in
    record {
      read =
          one_more_turn c.args.literal c.args.token.now.start c.args.source.now c.items.source
          c.read_marked_item.new.source c.copy_characters.new.source c.args.text.now c.items.text
          c.read_marked_item.new.text c.copy_characters.new.text c.args.errors.now c.items.errors
          c.read_marked_item.new.errors c.items.has_bad c.in-Some.is_good c.either-has_bad.result
          c.items.invariant.read one copied c.either-has_bad.ensures;
      marked = c.copy_characters.ensures.all;
      onward =
          omega (
            arith,
            c.items.invariant.onward,
            c.read_marked_item.ensures.onward,
            c.copy_characters.ensures.onward,
          );
    }

pub returns-in_err-is_good-clause-err : goal.returns-in_err-is_good-clause-err
returns-in_err-is_good-clause-err c =
    let start = c.args.token.now.start in
    on_err c.from_residual.result _
    (items_broken c.args.literal start c.args.source.now c.items.source c.read_marked_item.new.source c.args.text.now
    c.items.text c.args.errors.now c.items.errors c.read_marked_item.new.errors c.items.has_bad c.items.invariant.read
    (broken_first (items_told c.args.literal start c.items.source) c.items.source c.read_marked_item.new.source
    c.items.errors c.read_marked_item.new.errors c.in_err-is_good.ensures.err))

pub returns-in_err-copy_characters-clause-err : goal.returns-in_err-copy_characters-clause-err
returns-in_err-copy_characters-clause-err c =
    let start = c.args.token.now.start in
    let mid = c.read_marked_item.new.source in
    let new = c.copy_characters.new.source in
    let one = rw c.in-Some.is at c.in_ok-is_good.ensures.ok in
    on_err c.from_residual-in_err-copy_characters.result _
    (items_broken c.args.literal start c.args.source.now c.items.source new c.args.text.now c.items.text
    c.args.errors.now c.items.errors c.read_marked_item.new.errors c.items.has_bad c.items.invariant.read
    (items_broken c.args.literal start c.items.source mid new c.items.text c.read_marked_item.new.text c.items.errors
    c.read_marked_item.new.errors c.read_marked_item.new.errors _
    one.read (unreported (items_told c.args.literal start mid) mid new c.read_marked_item.new.errors
    c.read_marked_item.new.errors c.copy_characters.ensures.same_text c.copy_characters.ensures.onward refl)))
