use Rattle.std.proofs.Common.{◌<◌}
use Rattle.std.specs.Prelude.{All}
use Rattle.term_model.specs.Words.{AreBytes}
use Rattle.term_model.specs.Conditions.{Hold}
use Rattle.term_arena.specs.Trees.{trees_of}
use Rattle.group_model.specs.declared.Group.{Group}
use Rattle.term_model.proofs.ByteLemmas.{bytes_everywhere}
use Rattle.group_model.specs.Group.{IsGroup}
use Rattle.group_laws.proofs.Lists.{all_from}
use Rattle.group_laws.proofs.Parts.{places_below, is_group, group_holds}
use Rattle.group_laws.proofs.Unique.{few_places}
use Rattle.group_laws.proofs.each_is_a_group.Goals as goal

pub returns : goal.returns
returns c = record {
  below = λ trees terms groups n are below. all_from (λ (g : Group). All (λ i. i < n) g.places) groups (places_below trees terms groups are n below);
  groups = λ trees terms groups n are conditions below small. all_from (λ (g : Group). IsGroup trees g.places g.conditions) groups (is_group trees terms groups are n conditions below small);
  few = few_places;
  possible = λ trees terms groups n y are a h. all_from (λ (g : Group). AreBytes y × Hold (trees_of trees g.conditions) y) groups (λ g cg. (bytes_everywhere y a.in_range, group_holds trees terms groups are g cg y h));
}
