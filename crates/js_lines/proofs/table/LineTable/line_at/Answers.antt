use Rattle.std.proofs.Common.{◌≡◌, ◌≤◌, ◌++◌, ℕ, List, suc, true, false, arith, leb, length, subst, sym, rules}
use Rattle.std.proofs.lemmas.List.Sorted.{IsPartitionPoint-from_clause}
use Rattle.std.specs.List.Sorted.{IsPartitionPoint, IsPartitionedBy}
use Rattle.std.specs.Str.{chars}
use Rattle.js_lines.proofs.LineLemmas.{cut_at, line_found, of_view}
use Rattle.js_lines.specs.Columns.{length_in}
use Rattle.js_lines.specs.Lines.{lines_ended}
use Rattle.js_lines.specs.declared.columns.ColumnUnit.TheVariants.{Bytes}
use Rattle.js_lines.proofs.table.LineTable.line_at.Goals as goal
use Rattle.js_lines.proofs.table.LineTable.line_at.Goals.{After-partition_point}

found : (c : After-partition_point) (xs ys : List ℕ) → chars c.args.self.now.text ≡ xs ++ ys
    → c.args.offset ≡ length_in Bytes xs → c.partition_point.result ≡ suc (lines_ended c.args.self.now.ends xs ys)
found c =
    let are = of_view _ _ _ _ c.self.view_is c.self.invariant in
    let items = c.deref.ensures.value in
    line_found c.args.self.now.ends c.args.self.now.text c.self.inside.starts.items c.args.offset
    c.partition_point.result are
    (subst (λ zs. c.partition_point.result ≤ length zs) items c.partition_point.ensures.bound)
    (λ parted. subst (λ zs. IsPartitionPoint (λ y. leb y c.args.offset ≡ true) (λ y. leb y c.args.offset ≡ false) zs
    c.partition_point.result) items
    (IsPartitionPoint-from_clause (λ y. leb y c.args.offset) c.deref.result.now c.partition_point.result
    c.partition_point.ensures.partitioned
    (subst (IsPartitionedBy (λ y. leb y c.args.offset)) (sym items) parted) (λ a r f k. search rules)))

pub overflow_sub-result : goal.overflow_sub-result
overflow_sub-result c =
    let are = of_view _ _ _ _ c.self.view_is c.self.invariant in
    let cut = cut_at c.args.self.now.text c.args.offset are.utf8 c.requires in
    omega (arith, found c cut.front _ cut.whole cut.bytes)

pub returns : goal.returns
returns c xs ys whole bytes = omega (arith, found c xs ys whole bytes)
