use Rattle.std.proofs.Common.{ℕ, ◌<◌, Option, subst, sym, arith}
use Rattle.term_arena.specs.Trees.{tree_of}
use Rattle.byte_groups.specs.Joined.{IsLeaf}
use Rattle.byte_groups.proofs.LeafLemmas.{leaf_left}
use Rattle.byte_groups.proofs.joined.leaf_of.Goals as goal

pub returns-in-Some : goal.returns-in-Some
returns-in-Some c =
    let first : c.in-Apply.a < c.args.t = c.in-Apply.ensures.place.0 in
    let second : c.in-Apply.b < c.args.t = c.in-Apply.ensures.place.1 in
    let both = c.requires.operands c.in-Apply.field-0 c.in-Apply.a c.in-Apply.b (omega (arith, first)) (omega (arith, second)) c.in-Apply.ensures.top in
    let Q : Option ℕ → Type 0 = IsLeaf (tree_of c.args.arena.now c.in-Apply.a) in
    leaf_left c.args.arena.now c.args.t c.in-Apply.a c.in-Apply.b c.in-Apply.field-0 c.in-Apply.ensures.top c.in-Some.place (subst Q (sym c.in-Some.ensures) both.0)
