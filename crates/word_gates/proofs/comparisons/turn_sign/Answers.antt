use Rattle.std.proofs.Common.{◌≡◌, [], ◌∷◌, ◌++◌, ◌-◌, take, length, ap, ◌∙◌, rules}
use Rattle.gate_model.specs.Makers.{negation}
use Rattle.gate_net.specs.Trees.{signed_of, all_signed_of}
use Rattle.word_gates.proofs.NetLemmas.{trees_push}
use Rattle.word_gates.proofs.SignLemmas.{turned_sign}
use Rattle.word_gates.proofs.comparisons.turn_sign.Goals as goal

pub returns-clause-trees : goal.returns-clause-trees
returns-clause-trees c = λ net h.
    let is : c.push.new.self.items ≡ take (length c.args.a.now - 1) c.args.a.now ++ c.not-highest.result ∷ [] = search rules in
    ap (all_signed_of net) is ∙ trees_push net (take (length c.args.a.now - 1) c.args.a.now) c.not-highest.result ∙ turned_sign net c.args.a.now (signed_of net c.not-highest.result) c.requires.some (c.not-highest.ensures.tree net ∙ ap negation (c.sign.ensures.tree net))
