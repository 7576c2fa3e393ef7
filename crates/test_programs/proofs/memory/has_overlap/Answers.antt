use Rattle.test_programs.proofs.Regions.{overlap_on_stack, overlap_on_code, overlap_of_regions}
use Rattle.test_programs.proofs.memory.has_overlap.Goals as goal

pub returns-then-shares_with_any : goal.returns-then-shares_with_any
returns-then-shares_with_any c = overlap_on_stack c.args.size c.args.regions.now c.requires c.if-shares_with_any.ensures

pub returns-then-shares_with_any-2 : goal.returns-then-shares_with_any-2
returns-then-shares_with_any-2 c = overlap_on_code c.args.size c.args.regions.now c.requires c.if-shares_with_any.ensures c.if-shares_with_any-2.ensures

pub returns : goal.returns
returns c = overlap_of_regions c.args.size c.args.regions.now _ c.requires c.if-shares_with_any.ensures c.if-shares_with_any-2.ensures c.any_overlap.ensures
