use Rattle.std.proofs.Common.{◌∙◌}
use Rattle.replay_law.specs.Terms.{put_reg}
use Rattle.sym_replay.proofs.StateLemmas.{grown_state, grown_terms}
use Rattle.sym_replay.proofs.state.ReplayState.load.Goals as goal

pub returns-clause-state : goal.returns-clause-state
returns-clause-state c =
    c.put.ensures.state c.loaded.new.arena (grown_state c.args.arena.now c.loaded.new.arena c.args.self.now c.in_ok-v.ensures.keeps c.requires.state) c.in_ok-v.ensures.value.within

pub returns-clause-terms : goal.returns-clause-terms
returns-clause-terms c =
    let grown = grown_terms c.args.arena.now c.loaded.new.arena c.args.self.now c.in_ok-v.ensures.keeps c.requires.state in
    c.put.ensures.terms c.loaded.new.arena ∙ (λ i. put_reg c.args.register (c.in_ok-v.ensures.value.is i) (grown i))
