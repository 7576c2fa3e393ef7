use Rattle.std.proofs.Common.{◌∙◌}
use Rattle.replay_law.specs.Terms.{with_tree}
use Rattle.path_condition.proofs.ListLemmas.{then_ok}
use Rattle.sym_replay.proofs.StateLemmas.{grown_state, grown_terms}
use Rattle.sym_replay.proofs.state.ReplayState.store_byte.Goals as goal

pub put_byte-requires-clause-state : goal.put_byte-requires-clause-state
put_byte-requires-clause-state c = grown_state c.args.arena.now c.byte_of_value.new.arena c.args.self.now c.in_ok-byte.ensures.keeps c.requires.state

pub returns-clause-terms : goal.returns-clause-terms
returns-clause-terms c =
    let grown = grown_terms c.args.arena.now c.byte_of_value.new.arena c.args.self.now c.in_ok-byte.ensures.keeps c.requires.state in
    let byte = c.in_ok-byte.ensures.value.is in
    then_ok c.put_byte.result (c.put_byte.ensures.terms)
    (λ e. e ∙ (λ i. record (grown i) { bytes = with_tree (grown i).bytes c.args.address (byte i) }))
