use Rattle.std.proofs.Common.{leb, false, true, ◌≡◌, arith, rules}
use Rattle.std.specs.List.Sorted.{IsPartitionPoint}
use Rattle.std.proofs.lemmas.Bool.Decides.{nat_tests}
use Rattle.std.proofs.lemmas.List.Sorted.{IsPartitionPoint-from_clause, IsPartitionedBy-leb}
use Rattle.symbol_stack.specs.declared.names.Row.{Row}
use Rattle.symbol_stack.proofs.RowLemmas.{rises}
use Rattle.symbol_stack.proofs.names.begun.Goals as goal

-- where the rows that begin higher begin
point : (c : goal.After-partition_point) → IsPartitionPoint (λ (r : Row). leb r.start c.args.address ≡ true) (λ (r : Row). leb r.start c.args.address ≡ false) c.args.rows.now c.partition_point.result
point c =
    let parted = IsPartitionedBy-leb (λ (r : Row). r.start) c.args.rows.now c.args.address (rises c.args.rows.now c.requires) in
    IsPartitionPoint-from_clause (λ (r : Row). leb r.start c.args.address) _ _ c.partition_point.ensures.partitioned parted (λ a r q k. search rules)

pub returns-clause-begun : goal.returns-clause-begun
returns-clause-begun c = λ k d low high. let h = (point c).0 k d low high in grind (arith, nat_tests, h)

pub returns-clause-later : goal.returns-clause-later
returns-clause-later c = λ k d low high. let h = (point c).1 k d low high in grind (arith, nat_tests, h)
