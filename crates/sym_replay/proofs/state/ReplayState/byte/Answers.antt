use Rattle.std.proofs.Common.{◌≡◌, ◌∙◌, sym, arith}
use Rattle.memory_map.specs.Cells.{byte_at}
use Rattle.sym_replay.proofs.StateLemmas.{term_byte, known_byte}
use Rattle.sym_replay.proofs.state.ReplayState.byte.Goals as goal

pub returns-in-Some : goal.returns-in-Some
returns-in-Some c = term_byte c.args.arena.now c.args.self.now c.args.address c.in-Some.t c.requires (sym c.in-Some.is ∙ c.term_at.ensures)

pub returns-in-None : goal.returns-in-None
returns-in-None c =
    let same : c.from.result ≡ byte_at c.args.self.now.memory.map c.args.address = cc in
    known_byte c.args.arena.now c.args.self.now c.args.address c.from.result (omega arith) same (sym c.in-None.is ∙ c.term_at.ensures)
