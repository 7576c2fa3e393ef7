use Rattle.std.proofs.Common.{◌≡◌, ◌+◌, ◌-◌}
use Rattle.term_arena.specs.Trees.{Extends}
use Rattle.replay_law.specs.Terms.{put_trees, input_terms}
use Rattle.sym_replay.specs.States.{terms_of, IsState}
use Rattle.sym_replay.proofs.state.ReplayState.read.Given as goal

-- the bytes so far are put, and the others still come
abbrev pub invariant-loop-k : goal.invariant-loop-k
invariant-loop-k l =
    IsState l.arena l.self × Extends l.fn.arena l.arena × (l.self.place ≡ l.fn.self.place + l._k)
    × ((terms_of l.arena l.self).registers ≡ (terms_of l.fn.arena l.fn.self).registers)
    × (l.self.memory ≡ l.fn.self.memory)
    × (put_trees (terms_of l.arena l.self).bytes l.at (input_terms l.self.place (l.count - l._k)) ≡ put_trees (terms_of l.fn.arena l.fn.self).bytes l.fn.address (input_terms l.fn.self.place l.count))
