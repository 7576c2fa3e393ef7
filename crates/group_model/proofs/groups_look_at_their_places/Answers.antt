use Rattle.group_model.proofs.HoldLemmas.{holds_alike, found_among, among_found}
use Rattle.group_model.proofs.groups_look_at_their_places.Goals as goal

pub returns-clause-looks : goal.returns-clause-looks
returns-clause-looks c = λ places conditions within y z same. holds_alike conditions y z (λ k d l i r. same i (found_among places i (within k d l i r)))

pub returns-clause-places : goal.returns-clause-places
returns-clause-places c = λ places i. (among_found places i, found_among places i)
