use Rattle.std.proofs.Common.{◌≡◌, ℕ, ◌<◌, Bool, List, [], ◌∷◌, length, sym, ◌∙◌, arith}
use Rattle.std.specs.Prelude.{slice_index, nat_lt}
use Rattle.term_model.specs.Conditions.{holds}
use Rattle.term_arena.specs.Trees.{trees_of}
use Rattle.input_laws.specs.Narrow.{freed_beside}
use Rattle.std.proofs.lemmas.List.{length-set}
use Rattle.input_laws.specs.Sets.{freed}
use Rattle.byte_sets.specs.ByteSet.{has}
use Rattle.narrow_solve.specs.Tried.{with_pair}
use Rattle.narrow_solve.proofs.GroupLemmas.{group_reads, looks_one, first_passes, freed_is_one, in_order, pair_first_passes, second_passes, sets_of_two, at_high}
use Rattle.narrow_solve.proofs.sets_for.Goals as goal

two_sets : (a b p q : ℕ → Bool) → a ≡ p → b ≡ q → a ∷ b ∷ [] ≡ p ∷ q ∷ []
two_sets a b p q e f = rw (e, f)

pub values_at-values-requires-clause-reads : goal.values_at-values-requires-clause-reads
values_at-values-requires-clause-reads c = group_reads c.args.arena.now c.args.places.now c.args.conditions.now c.requires.narrow.group (length c.args.trial.now) c.requires.narrow.within

pub values_at-values-requires-clause-passes : goal.values_at-values-requires-clause-passes
values_at-values-requires-clause-passes c =
    first_passes c.args.arena.now c.args.places.now c.args.conditions.now c.requires.narrow.group c.if-places-eq1.true c.args.trial.now c.requires.meets.0 (slice_index c.args.first 0) (c.requires.narrow.within 0 0 c.requires.narrow.some) (c.requires.meets.1 0 c.requires.narrow.some) c.requires.meets.2

pub returns-then-places-eq1-clause-sets : goal.returns-then-places-eq1-clause-sets
returns-then-places-eq1-clause-sets c = record {
  two = λ two y within has_at. absurd (omega (arith, two, c.if-places-eq1.true));
  one = λ one y within.
      let test : List ℕ → Bool = holds (trees_of c.args.arena.now c.args.conditions.now) in
      let low : ℕ = slice_index c.args.places.now 0 in
      two_sets (has c.values_at-values.result) (has c.full.result) (freed test y low) (λ v. nat_lt v 256)
      (c.values_at-values.ensures.values ∙ freed_is_one test low (looks_one c.args.arena.now c.args.places.now c.args.conditions.now c.requires.narrow.group one) c.args.trial.now (c.requires.narrow.within 0 0 c.requires.narrow.some) y within)
      c.full.ensures;
}

pub values_at-lower-requires-clause-reads : goal.values_at-lower-requires-clause-reads
values_at-lower-requires-clause-reads c =
    rw (length-set, length-set) (group_reads c.args.arena.now c.args.places.now c.args.conditions.now c.requires.narrow.group (length c.args.trial.now) c.requires.narrow.within)

pub values_at-lower-requires-clause-passes : goal.values_at-lower-requires-clause-passes
values_at-lower-requires-clause-passes c =
    let two : length c.args.places.now ≡ 2 = omega arith in
    let order : slice_index c.args.places.now 0 < slice_index c.args.places.now 1 = in_order c.args.arena.now c.args.places.now c.args.conditions.now c.requires.narrow.group two in
    let within : slice_index c.args.places.now 1 < length c.args.trial.now = c.requires.narrow.within 1 0 (omega arith) in
    let y : List ℕ = with_pair c.args.trial.now (slice_index c.args.places.now 0) (slice_index c.args.places.now 1) (slice_index c.args.first 0) (slice_index c.args.first 1) in
    pair_first_passes c.args.arena.now c.args.places.now c.args.conditions.now c.requires.narrow.group two y c.requires.meets.0 (slice_index c.args.first 0) (slice_index c.args.first 1)
    (rw (length-set, length-set) within)
    (at_high c.args.trial.now (slice_index c.args.places.now 0) (slice_index c.args.places.now 1) (slice_index c.args.first 0) (slice_index c.args.first 1) order within)
    (c.requires.meets.1 0 (omega arith)) (c.requires.meets.1 1 (omega arith)) c.requires.meets.2

pub values_beside-higher-requires-clause-reads : goal.values_beside-higher-requires-clause-reads
values_beside-higher-requires-clause-reads c =
    let same : length c.values_at-lower.new.trial ≡ length c.args.trial.now = omega (arith, length-set {A = ℕ}) in
    rw same (group_reads c.args.arena.now c.args.places.now c.args.conditions.now c.requires.narrow.group (length c.args.trial.now) c.requires.narrow.within)

pub values_beside-higher-requires-clause-passes : goal.values_beside-higher-requires-clause-passes
values_beside-higher-requires-clause-passes c =
    let two : length c.args.places.now ≡ 2 = omega arith in
    let order : slice_index c.args.places.now 0 < slice_index c.args.places.now 1 = in_order c.args.arena.now c.args.places.now c.args.conditions.now c.requires.narrow.group two in
    let within : slice_index c.args.places.now 1 < length c.args.trial.now = c.requires.narrow.within 1 0 (omega arith) in
    let y : List ℕ = with_pair c.args.trial.now (slice_index c.args.places.now 0) (slice_index c.args.places.now 1) (slice_index c.args.first 0) (slice_index c.args.first 1) in
    second_passes c.args.arena.now c.args.places.now c.args.conditions.now c.requires.narrow.group two y c.values_at-lower.new.trial (has c.values_at-lower.result) (slice_index c.args.first 1)
    (rw (length-set, length-set) within) (omega (arith, length-set {A = ℕ}))
    (at_high c.args.trial.now (slice_index c.args.places.now 0) (slice_index c.args.places.now 1) (slice_index c.args.first 0) (slice_index c.args.first 1) order within)
    (omega arith) c.values_at-lower.ensures.values

pub returns-clause-sets : goal.returns-clause-sets
returns-clause-sets c = record {
  one = λ one y within. absurd (omega (arith, one, c.if-places-eq1.false));
  two = λ two y within has_at.
      let order : slice_index c.args.places.now 0 < slice_index c.args.places.now 1 = in_order c.args.arena.now c.args.places.now c.args.conditions.now c.requires.narrow.group two in
      let there : slice_index c.args.places.now 1 < length c.args.trial.now = c.requires.narrow.within 1 0 (omega arith) in
      let x : List ℕ = with_pair c.args.trial.now (slice_index c.args.places.now 0) (slice_index c.args.places.now 1) (slice_index c.args.first 0) (slice_index c.args.first 1) in
      let sets = sets_of_two c.args.arena.now c.args.places.now c.args.conditions.now c.requires.narrow.group two x c.values_at-lower.new.trial y (has c.values_at-lower.result) (has c.values_beside-higher.result)
      (rw (length-set, length-set) there) (omega (arith, length-set {A = ℕ})) within
      (at_high c.args.trial.now (slice_index c.args.places.now 0) (slice_index c.args.places.now 1) (slice_index c.args.first 0) (slice_index c.args.first 1) order there ∙ sym (has_at 1 (omega arith)))
      c.values_at-lower.ensures.values c.values_beside-higher.ensures.values in
      let test : List ℕ → Bool = holds (trees_of c.args.arena.now c.args.conditions.now) in
      let low : ℕ = slice_index c.args.places.now 0 in
      let high : ℕ = slice_index c.args.places.now 1 in
      two_sets (has c.values_at-lower.result) (has c.values_beside-higher.result) (freed test y low) (freed_beside test (freed test y low) y low high) sets.0 sets.1;
}
