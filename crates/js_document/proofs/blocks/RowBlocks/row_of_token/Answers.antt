use Rattle.std.proofs.Common.{◌≡◌, ◌<◌, ◌+◌, ◌-◌, ◌/◌, ◌∙◌, ap, arith, subst, sym, take}
use Rattle.std.proofs.lemmas.List.{length-map, take-map}
use Rattle.js_document.specs.Gap.{count_tokens, rows_of}
use Rattle.js_document.proofs.blocks.RowBlocks.row_of_token.Given.{Over}
use Rattle.js_document.proofs.blocks.RowBlocks.row_of_token.Goals as goal
use Rattle.js_document.proofs.blocks.RowBlocks.row_of_token.Goals.{After-tokens_up_to}

-- how many tokens there are up to the row in the middle, that one included
counted : (g : Over) (c : After-tokens_up_to g)
    → c.tokens_up_to.result
    ≡ count_tokens (take (c.loop-row.row + (c.loop-row.end - c.loop-row.row) / 2 + 1) (rows_of c.args.self.now))
counted g c =
    c.tokens_up_to.ensures
    ∙ ap (λ rs. count_tokens rs)
    (sym (take-map (λ e. e.row) (c.loop-row.row + (c.loop-row.end - c.loop-row.row) / 2 + 1) c.args.self.now))

pub loop-row-init : goal.loop-row-init
loop-row-init g c =
    let all = c.len-end.ensures in
    record {
      ordered = omega arith;
      few = omega (arith, all);
      before = omega arith;
      next = λ less. absurd (omega (arith, less, all));
    }

pub loop-row-preserved-then-tokens_up_to-index : goal.loop-row-preserved-then-tokens_up_to-index
loop-row-preserved-then-tokens_up_to-index g c =
    let kept = c.loop-row.invariant in
    let less = c.loop-row-test.true in
    let found = counted g (goal.at.loop-row-preserved-then-tokens_up_to-index g c).After-tokens_up_to in
    let few = c.if-tokens_up_to-index.true in
    record {
      ordered = omega (arith, less);
      few = kept.few;
      before = omega (arith, found, few);
      next = kept.next;
    }

pub loop-row-preserved : goal.loop-row-preserved
loop-row-preserved g c =
    let kept = c.loop-row.invariant in
    let less = c.loop-row-test.true in
    let ordered = kept.ordered in
    let few = kept.few in
    let found = counted g (goal.at.loop-row-preserved g c).After-tokens_up_to in
    let more = c.if-tokens_up_to-index.false in
    record {
      ordered = omega arith;
      few = omega (arith, less, few);
      before = kept.before;
      next = λ inside. omega (arith, found, more);
    }

pub returns : goal.returns
returns g c =
    let kept = c.loop-row.invariant in
    let ordered = kept.ordered in
    let few = kept.few in
    let past = c.loop-row-test.false in
    let same : c.loop-row.end ≡ c.loop-row.row = omega (arith, ordered, past) in
    let long = length-map c.args.self.now (λ e. e.row) in
    record {
      few = omega (arith, few, same, long);
      before = kept.before;
      next = λ less.
          subst (λ n. c.args.index < count_tokens (take (n + 1) (rows_of c.args.self.now))) same
          (kept.next (omega (arith, less, same, long)));
    }
