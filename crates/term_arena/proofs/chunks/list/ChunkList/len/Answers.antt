use Rattle.std.proofs.Common.{sym}
use Rattle.term_arena.proofs.ListLemmas.{count}
use Rattle.term_arena.proofs.chunks.list.ChunkList.len.Goals as goal

pub returns : goal.returns
returns g c = sym (count c.args.self.now c.requires)
