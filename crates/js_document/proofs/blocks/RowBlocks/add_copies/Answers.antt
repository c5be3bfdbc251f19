use Rattle.std.specs.Prelude.{slice_get}
use Rattle.std.proofs.Common.{append-nil, drop, map, sym, take, ◌+◌, ◌-◌, ◌∙◌, ap, arith, ◌≡◌, ◌∷◌, ◌++◌, []}
use Rattle.js_document.specs.declared.gap.Entry.{Entry}
use Rattle.js_document.specs.Blocks.{MovesEntry}
use Rattle.js_document.specs.Gap.{shifted_entry}
use Rattle.js_document.proofs.BlockSteps.{copied_more}
use Rattle.js_document.proofs.ListLemmas.{each_there, get_dropped}
use Rattle.js_document.proofs.blocks.RowBlocks.add_copies.Goals as goal

pub loop-index-init : goal.loop-index-init
loop-index-init g c =
    let f : Entry g.row.K.Denot → Entry g.row.K.Denot = shifted_entry c.args.shift.now.from c.args.shift.now.to in
    let none : 0 ≡ c.args.start - c.args.start = omega arith in
    record {
      from = omega arith;
      few = c.requires.ordered;
      copied =
          sym (append-nil c.args.entries.now.items)
          ∙ ap (λ n. c.args.entries.now.items ++ map f (take n (drop c.args.start c.args.self.now))) none;
    }

pub moved-requires : goal.moved-requires
moved-requires g c =
    let shift = c.args.shift.now in
    let start = c.args.start in
    let index = c.loop-index.index in
    let from = c.loop-index.invariant.from in
    let place : start + (index - start) ≡ index = omega (arith, from) in
    each_there (MovesEntry shift.from shift.to) (drop start c.args.self.now) (index - start) c.at-held.result c.requires.moves
    (get_dropped start (index - start) c.args.self.now ∙ ap (slice_get c.args.self.now) place ∙ c.at-held.ensures)

pub loop-index-preserved : goal.loop-index-preserved
loop-index-preserved g c =
    let from = c.loop-index.invariant.from in
    let less = c.loop-index-test.true in
    record {
      from = omega (arith, from);
      few = omega (arith, less);
      copied =
          copied_more (shifted_entry c.args.shift.now.from c.args.shift.now.to) c.args.self.now c.args.start c.loop-index.index
          c.at-held.result c.args.entries.now.items c.loop-index.entries.items c.push.new.self.items from c.at-held.ensures
          c.loop-index.invariant.copied
          (c.in_ok-push.ensures.items ∙ ap (λ e. c.loop-index.entries.items ++ e ∷ []) c.in_ok-entry.ensures);
    }
