use Rattle.std.proofs.Common.{leb, arith, rules, sym, ap, ◌∙◌, ◌-◌}
use Rattle.std.proofs.lemmas.List.Sorted.{IsPartitionPoint-from_clause, IsPartitionedBy-leb}
use Rattle.std.proofs.lemmas.List.{get_or_default}
use Rattle.memory_map.specs.Layout.{contains}
use Rattle.memory_map.specs.Part.{Part}
use Rattle.memory_map.proofs.Order.{rising, none_at_point}
use Rattle.memory_map.proofs.parts.searched_place.Goals as goal

pub returns-then-after-eq0-clause-none : goal.returns-then-after-eq0-clause-none
returns-then-after-eq0-clause-none c =
    let parted = IsPartitionedBy-leb (λ (p : Part). p.base) _ c.args.address (rising _ c.requires) in
    let point = IsPartitionPoint-from_clause (λ (p : Part). leb p.base c.args.address) _ _ c.partition_point-after.ensures.partitioned parted (λ a r q k. search rules) in
    none_at_point _ c.args.address _ c.requires point c.partition_point-after.ensures.bound (λ d l. absurd (omega arith))

pub returns-else-contains-clause-none : goal.returns-else-contains-clause-none
returns-else-contains-clause-none c =
    let parted = IsPartitionedBy-leb (λ (p : Part). p.base) _ c.args.address (rising _ c.requires) in
    let point = IsPartitionPoint-from_clause (λ (p : Part). leb p.base c.args.address) _ _ c.partition_point-after.ensures.partitioned parted (λ a r q k. search rules) in
    none_at_point _ c.args.address _ c.requires point c.partition_point-after.ensures.bound (λ d l.
    let r = c.index-regions-place.result in
    ap (λ (p : Part). contains p c.args.address) (get_or_default c.args.regions.now (c.partition_point-after.result - 1) d r (omega (arith, c.partition_point-after.ensures.bound)) ∙ sym c.index-regions-place.is)
    ∙ sym c.contains.ensures ∙ c.if-contains.false)
