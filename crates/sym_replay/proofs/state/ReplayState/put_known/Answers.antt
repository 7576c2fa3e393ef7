use Rattle.std.proofs.Common.{◌∙◌, sym, if◌then◌else◌}
use Rattle.replay_law.specs.Terms.{with_tree}
use Rattle.sym_replay.specs.Values.{value_tree}
use Rattle.sym_replay.specs.States.{terms_of}
use Rattle.sym_replay.proofs.StateLemmas.{with_bytes}
use Rattle.sym_replay.proofs.state.ReplayState.put_known.Goals as goal

pub returns-in-Known-clause-terms : goal.returns-in-Known-clause-terms
returns-in-Known-clause-terms c trees =
    let s = terms_of trees c.args.self.now in
    c.put_number.ensures.terms trees
    ∙ (λ i. if c.put_number.result then with_bytes s (with_tree s.bytes c.args.address (value_tree trees (sym c.in-Known.is i))) else s)
