use Rattle.std.proofs.Common.{◌≡◌, [], ◌∷◌, ◌++◌, sym, ap, ◌∙◌}
use Rattle.std.specs.Prelude.{map}
use Rattle.word_gates.proofs.MoveLemmas.{turned, turned_is, turned_trees, turned_below, map_more, all_taken}
use Rattle.word_gates.proofs.NetLemmas.{lit_at}
use Rattle.word_gates.proofs.moves.nots.Goals as goal

pub loop-bit-preserved : goal.loop-bit-preserved
loop-bit-preserved c =
    let bit = lit_at c.args.a.now c.loop-bit.bit-index in
    let e : c.not.result ≡ turned bit = turned_is bit c.not.result c.not.ensures.name c.not.ensures.tree in
    c.in_ok-push.ensures.items ∙ ap (λ z. c.loop-bit.turned.items ++ z ∷ []) e ∙ ap (λ zs. zs ++ turned bit ∷ []) c.loop-bit.invariant ∙ sym (map_more turned c.args.a.now c.loop-bit.bit-index c.loop-bit-test.true)

pub returns-clause-below : goal.returns-clause-below
returns-clause-below c = let e : c.loop-bit.turned.items ≡ map turned c.args.a.now = c.loop-bit.invariant ∙ ap (map turned) (all_taken c.args.a.now c.loop-bit.bit-index c.loop-bit-test.false) in rw e (turned_below c.args.a.now)

pub returns-clause-trees : goal.returns-clause-trees
returns-clause-trees c = let e : c.loop-bit.turned.items ≡ map turned c.args.a.now = c.loop-bit.invariant ∙ ap (map turned) (all_taken c.args.a.now c.loop-bit.bit-index c.loop-bit-test.false) in rw e (turned_trees c.args.a.now)
