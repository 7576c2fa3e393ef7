use Rattle.std.proofs.Common.{ℕ, ◌<◌, length, Option, subst, sym, arith}
use Rattle.std.specs.Prelude.{IfSome}
use Rattle.term_arena.specs.Trees.{tree_of}
use Rattle.byte_groups.specs.Joined.{IsLeaf}
use Rattle.reached_terms.proofs.ReachedLemmas.{operands_under}
use Rattle.byte_groups.proofs.LeafLemmas.{steady_right}
use Rattle.byte_groups.proofs.joined.join_operands.Goals as goal

pub returns-in_default-clause-joined : goal.returns-in_default-clause-joined
returns-in_default-clause-joined c = λ side h pass.
    let first : c.in-Apply.a < c.args.t = c.in-Apply.ensures.place.0 in
    let second : c.in-Apply.b < c.args.t = c.in-Apply.ensures.place.1 in
    let both = c.requires.operands c.in-Apply.field-0 c.in-Apply.a c.in-Apply.b (omega (arith, first)) (omega (arith, second)) c.in-Apply.ensures.top in
    let steady = pass c.in-Apply.field-0 c.in-Apply.a c.in-Apply.b (omega (arith, first)) (omega (arith, second)) c.in-Apply.ensures.top in
    let Q : Option ℕ → Type 0 = IsLeaf (tree_of c.args.arena.now c.in-Apply.a) in
    steady_right c.args.arena.now c.args.t c.in-Apply.a c.in-Apply.b c.in-Apply.field-0 c.in-Apply.ensures.top side steady.0 steady.1 (subst Q (sym c.in_default.ensures) both.0)

pub join-requires-clause-within : goal.join-requires-clause-within
join-requires-clause-within c =
    let first : c.in-Apply.a < c.args.t = c.in-Apply.ensures.place.0 in
    let second : c.in-Apply.b < c.args.t = c.in-Apply.ensures.place.1 in
    let both = c.requires.within c.in-Apply.field-0 c.in-Apply.a c.in-Apply.b (omega (arith, first)) (omega (arith, second)) c.in-Apply.ensures.top in
    let Q : Option ℕ → Type 0 = λ r. IfSome r (λ i. i < length c.args.parents.now) in
    subst Q (sym c.in-Some.ensures) both.0

pub join-requires-clause-within_too : goal.join-requires-clause-within_too
join-requires-clause-within_too c =
    let first : c.in-Apply.a < c.args.t = c.in-Apply.ensures.place.0 in
    let second : c.in-Apply.b < c.args.t = c.in-Apply.ensures.place.1 in
    let both = c.requires.within c.in-Apply.field-0 c.in-Apply.a c.in-Apply.b (omega (arith, first)) (omega (arith, second)) c.in-Apply.ensures.top in
    let Q : Option ℕ → Type 0 = λ r. IfSome r (λ i. i < length c.args.parents.now) in
    subst Q (sym c.in-Some-leaf.ensures) both.1

pub returns-in-Some-leaf-clause-later : goal.returns-in-Some-leaf-clause-later
returns-in-Some-leaf-clause-later c = λ side h steady.
    let first : c.in-Apply.a < c.args.t = c.in-Apply.ensures.place.0 in
    let second : c.in-Apply.b < c.args.t = c.in-Apply.ensures.place.1 in
    let both = c.requires.operands c.in-Apply.field-0 c.in-Apply.a c.in-Apply.b (omega (arith, first)) (omega (arith, second)) c.in-Apply.ensures.top in
    let under = operands_under c.args.arena.now c.args.t c.in-Apply.a c.in-Apply.b c.in-Apply.field-0 c.in-Apply.ensures.top in
    let Q : Option ℕ → Type 0 = IsLeaf (tree_of c.args.arena.now c.in-Apply.a) in
    let R : Option ℕ → Type 0 = IsLeaf (tree_of c.args.arena.now c.in-Apply.b) in
    c.join.ensures.later side h (steady c.in-Some.first c.in-Some-leaf.second (under.0 c.in-Some.first (subst Q (sym c.in-Some.ensures) both.0)) (under.1 c.in-Some-leaf.second (subst R (sym c.in-Some-leaf.ensures) both.1)))
