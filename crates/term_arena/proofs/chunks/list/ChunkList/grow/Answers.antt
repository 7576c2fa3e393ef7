use Rattle.std.proofs.Common.{◌++◌, ◌∷◌, [], length, refl, ap, ◌∙◌, arith, length-append}
use Rattle.term_arena.specs.contracts.chunks.list.ChunkList.grow.{T-row}
use Rattle.term_arena.proofs.ListLemmas.{unchanged, grown}
use Rattle.term_arena.proofs.chunks.list.ChunkList.grow.Goals as goal

pub returns-in_err-reserve-clause-kept : goal.returns-in_err-reserve-clause-kept
returns-in_err-reserve-clause-kept g c = unchanged (T-row g.row.T) c.args.self.now _ c.requires.0 c.reserve.ensures.items refl refl

pub returns-in_err-chunk-clause-kept : goal.returns-in_err-chunk-clause-kept
returns-in_err-chunk-clause-kept g c = unchanged (T-row g.row.T) c.args.self.now _ c.requires.0 c.reserve.ensures.items refl refl

pub returns-clause-kept : goal.returns-clause-kept
returns-clause-kept g c =
    grown (T-row g.row.T) c.args.self.now _ c.requires.0 c.in_ok-chunk.chunk c.in_ok-chunk.ensures refl refl (c.push_reserved.ensures.items ∙ ap (λ cs. cs ++ c.in_ok-chunk.chunk ∷ []) c.reserve.ensures.items)

pub returns-clause-room : goal.returns-clause-room
returns-clause-room g c =
    let l = c.args.self.now in let enough = c.requires.0.enough in
    let longer = ap length (c.push_reserved.ensures.items ∙ ap (λ cs. cs ++ c.in_ok-chunk.chunk ∷ []) c.reserve.ensures.items) ∙ length-append l.chunks.items (c.in_ok-chunk.chunk ∷ []) in
    (omega (arith, enough, longer), omega arith)
