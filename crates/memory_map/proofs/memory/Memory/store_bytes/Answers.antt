use Rattle.std.proofs.Common.{length, arith, refl}
use Rattle.std.proofs.lemmas.Bool.{OnTrue_at}
use Rattle.memory_map.specs.Cells.{write}
use Rattle.memory_map.proofs.Runs.{range_can, answered}
use Rattle.memory_map.proofs.memory.Memory.store_bytes.Goals as goal

pub returns-then-write_within-clause-answer : goal.returns-then-write_within-clause-answer
returns-then-write_within-clause-answer c =
    let t = c.if-write_within.true in
    let may = OnTrue_at t c.write_within.ensures.written in
    let within = OnTrue_at t c.write_within.ensures.within in
    answered _ tt tt (range_can (length c.args.bytes.now) write c.args.address c.args.self.now.map may (omega arith) within) refl
