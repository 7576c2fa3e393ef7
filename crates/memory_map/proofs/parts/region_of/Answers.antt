use Rattle.memory_map.proofs.Places.{part_of_others}
use Rattle.memory_map.proofs.parts.region_of.Goals as goal

pub returns-clause-some : goal.returns-clause-some
returns-clause-some c =
    part_of_others c.args.stack.now c.args.regions.now c.args.address c.in_ok-place.place c.index-regions-place.result c.requires c.in_ok-place.ensures.some c.index-regions-place.is
