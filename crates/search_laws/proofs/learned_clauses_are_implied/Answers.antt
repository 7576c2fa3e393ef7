-- A conflict of decisions refutes that a model has them all.
use Rattle.std.proofs.lemmas.List.Elements.{Contains-append_right}
use Rattle.search_model.specs.Literals.{named}
use Rattle.search_laws.proofs.LitLemmas.{named_are_literals}
use Rattle.search_laws.proofs.Implied.{learned_implied}
use Rattle.search_laws.proofs.learned_clauses_are_implied.Goals as goal

pub returns : goal.returns
returns c = λ clauses order s comes set model k at.
    (learned_implied named named_are_literals clauses order set model s comes).each k (Contains-append_right clauses s.learned k at)
