use Rattle.std.proofs.Common.{rules}
use Rattle.std.proofs.lemmas.List.Sorted.{IsNonDecreasingBy-from_sort_by_key, answers_always}
use Rattle.js_html.specs.Faults.{fault_start}
use Rattle.js_html.proofs.faults.put_in_order.Goals as goal

pub returns : goal.returns
returns c = record {
  permutation = c.sort_by_key.ensures.permutation;
  ordered = IsNonDecreasingBy-from_sort_by_key fault_start _ c.in_ok-sort_by_key.ensures.sorted (λ a r q k. search rules);
  stable = c.sort_by_key.ensures.stable fault_start (answers_always _ _ _ (λ f a r g h. search rules));
}
