use Rattle.std.proofs.Common.{◌≡◌, ℕ, List, sym, subst, length, arith}
use Rattle.term_arena.specs.Trees.{trees_of}
use Rattle.path_condition.specs.Places.{HasPlaces}
use Rattle.path_condition.proofs.PlaceLemmas.{first_places}
use Rattle.path_condition.proofs.ListLemmas.{take_all, with_conditions-none, still_first, next_added}
use Rattle.path_condition.proofs.list.Conditions.add_all.Goals as goal

pub loop-t-init : goal.loop-t-init
loop-t-init c =
    let count : c.len-before.result ≡ length c.args.self.now = rw (← c.self.view_is) (omega arith) in
    (c.requires.listed, take_all c.args.self.now c.len-before.result count, sym (with_conditions-none (trees_of c.args.arena.now c.args.self.now)))

pub invariant_of-self : goal.invariant_of-self
invariant_of-self c =
    subst (λ (ts : List ℕ). HasPlaces ts c.self-in-loop-t.inside.places) (sym c.truncate.ensures.items)
    (first_places c.self-in-loop-t.inside.terms.items c.self-in-loop-t.inside.places c.len-before.result c.self-in-loop-t.invariant)

pub loop-t-preserved : goal.loop-t-preserved
loop-t-preserved c =
    let count : c.len-before.result ≡ length c.args.self.now = rw (← c.self.view_is) (omega arith) in (
      c.in-Ok.ensures.listed,
      still_first c.len-before.result c.args.self.now c.loop-t.self c.add.new.self count c.loop-t.invariant.1 c.in-Ok.ensures.first,
      next_added c.args.arena.now (trees_of c.args.arena.now c.args.self.now) c.loop-t.self c.add.new.self c.args.terms.now c.loop-t.t-index c.t-item.result (omega arith) c.t-item.is c.loop-t.invariant.2 c.in-Ok.ensures.trees,
    )
