use Rattle.std.proofs.Common.{sym, ap, ◌∙◌}
use Rattle.term_model.specs.Tree.{Const}
use Rattle.replay_law.specs.Terms.{put_reg, after_reply}
use Rattle.sym_replay.specs.States.{terms_of}
use Rattle.sym_replay.proofs.state.ReplayState.answer.Goals as goal

pub put_constant-requires-in-Breaks-clause-state : goal.put_constant-requires-in-Breaks-clause-state
put_constant-requires-in-Breaks-clause-state c = c.move_break.ensures.state c.args.arena.now c.requires.state

pub returns-in-Breaks-clause-terms : goal.returns-in-Breaks-clause-terms
returns-in-Breaks-clause-terms c =
    c.put_constant-in-Breaks.ensures.terms
    ∙ ap (put_reg 10 (Const c.in-Breaks.address)) (c.move_break.ensures.terms c.args.arena.now)
    ∙ ap (λ r. after_reply (terms_of c.args.arena.now c.args.self.now) c.args.event.now r) (sym c.in-Breaks.is)
