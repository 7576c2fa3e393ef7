use Rattle.std.proofs.Common.{◌≡◌, ℕ, ◌<◌, [], ◌∷◌, length, take, subst, sym, arith}
use Rattle.std.specs.Prelude.{slice_index}
use Rattle.term_arena.specs.Trees.{trees_of}
use Rattle.group_model.specs.Group.{IsGroupFirst}
use Rattle.narrow_solve.proofs.GroupLemmas.{group_reads, narrow_one, narrow_two, some_one, some_pair}
use Rattle.narrow_solve.proofs.first_for.Goals as goal

pub first_at-requires-clause-reads : goal.first_at-requires-clause-reads
first_at-requires-clause-reads c = group_reads c.args.arena.now c.args.places.now c.args.conditions.now c.requires.narrow.group (length c.args.trial.now) c.requires.narrow.within

pub unreachable-requires : goal.unreachable-requires
unreachable-requires c =
    let within : slice_index c.args.places.now 0 < length c.args.trial.now = c.requires.narrow.within 0 0 c.requires.narrow.some in
    some_one c.args.arena.now c.args.places.now c.args.conditions.now c.requires.narrow.group c.if-places-eq1.true c.args.trial.now c.requires.possible.0 within c.requires.possible.1 c.requires.possible.2 c.in-None.ensures.first

pub returns-then-places-eq1-clause-first : goal.returns-then-places-eq1-clause-first
returns-then-places-eq1-clause-first c =
    let within : slice_index c.args.places.now 0 < length c.args.trial.now = c.requires.narrow.within 0 0 c.requires.narrow.some in
    let P : ℕ → Type 0 = λ n. IsGroupFirst c.args.mask.now c.args.places.now (trees_of c.args.arena.now c.args.conditions.now) (take n (c.in-Some.value ∷ 0 ∷ [])) in
    subst P (sym c.if-places-eq1.true)
    (narrow_one c.args.arena.now c.args.places.now c.args.conditions.now c.requires.narrow.group c.if-places-eq1.true c.args.mask.now c.args.trial.now c.in-Some.value within (omega arith) c.in-Some.ensures.first)

pub first_pair-requires-clause-reads : goal.first_pair-requires-clause-reads
first_pair-requires-clause-reads c = group_reads c.args.arena.now c.args.places.now c.args.conditions.now c.requires.narrow.group (length c.args.trial.now) c.requires.narrow.within

pub unreachable-requires-in-None-first_pair : goal.unreachable-requires-in-None-first_pair
unreachable-requires-in-None-first_pair c =
    let two : length c.args.places.now ≡ 2 = omega arith in
    let within : slice_index c.args.places.now 1 < length c.args.trial.now = c.requires.narrow.within 1 0 (omega arith) in
    some_pair c.args.arena.now c.args.places.now c.args.conditions.now c.requires.narrow.group two c.args.trial.now c.requires.possible.0 within c.requires.possible.1 c.requires.possible.2 c.in-None-first_pair.ensures.first

pub returns-clause-first : goal.returns-clause-first
returns-clause-first c =
    let two : length c.args.places.now ≡ 2 = omega arith in
    let within : slice_index c.args.places.now 1 < length c.args.trial.now = c.requires.narrow.within 1 0 (omega arith) in
    let P : ℕ → Type 0 = λ n. IsGroupFirst c.args.mask.now c.args.places.now (trees_of c.args.arena.now c.args.conditions.now) (take n (c.in-Some-first_pair.first ∷ c.in-Some-first_pair.second ∷ [])) in
    subst P (sym two)
    (narrow_two c.args.arena.now c.args.places.now c.args.conditions.now c.requires.narrow.group two c.args.mask.now c.args.trial.now c.in-Some-first_pair.first c.in-Some-first_pair.second within (rw c.in-Some-first_pair.first-is c.in-Some-first_pair.ensures.bytes.0) (rw c.in-Some-first_pair.second-is c.in-Some-first_pair.ensures.bytes.1) c.in-Some-first_pair.ensures.first)
