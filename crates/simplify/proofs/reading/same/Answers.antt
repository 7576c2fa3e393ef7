use Rattle.std.proofs.Common.{◌≡◌, ap, sym, arith}
use Rattle.std.proofs.lemmas.Bool.Decides.{nat_tests}
use Rattle.term_arena.specs.Trees.{tree_of}
use Rattle.term_model.proofs.SameLemmas.{same_tree_is}
use Rattle.simplify.proofs.reading.same.Goals as goal

pub returns : goal.returns
returns c =
    sym (same_tree_is (tree_of c.args.arena.now c.args.s) (tree_of c.args.arena.now c.args.t) c.eq.result
    (λ e. let n : c.args.s ≡ c.args.t = grind (arith, nat_tests) in ap (tree_of c.args.arena.now) n)
    (λ e. let n : c.args.s ≡ c.args.t = c.len-shared.ensures.shared c.args.s c.args.t c.requires.first c.requires.second e in grind (arith, nat_tests)))
