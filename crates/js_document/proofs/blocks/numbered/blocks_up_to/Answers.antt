use Rattle.std.proofs.Common.{leb, rules}
use Rattle.std.proofs.lemmas.List.Sorted.{IsPartitionPoint-from_clause}
use Rattle.js_document.proofs.BlockLemmas.{begin_up_to, numbers_parted}
use Rattle.js_document.proofs.blocks.numbered.blocks_up_to.Goals as goal

pub returns : goal.returns
returns g c =
    let blocks = c.args.blocks.now in
    let index = c.args.index in
    begin_up_to blocks c.requires index c.partition_point.result c.partition_point.ensures.bound
    (IsPartitionPoint-from_clause (λ b. leb b.rows_before index) blocks c.partition_point.result
    c.partition_point.ensures.partitioned (numbers_parted blocks c.requires index) (λ a r f k. search rules))
