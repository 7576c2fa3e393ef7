use Rattle.term_model.specs.ZeroBytes.{is_zero_byte}
use Rattle.term_arena.specs.Trees.{tree_of}
use Rattle.simplify.proofs.ByteLemmas.{bit_test}
use Rattle.simplify.proofs.reading.is_zero_byte.Goals as goal

pub returns-then-k-lt4 : goal.returns-then-k-lt4
returns-then-k-lt4 c =
    bit_test c.zero_bytes.result c.args.k (is_zero_byte (tree_of c.args.arena.now c.args.t) c.args.k)
    (c.zero_bytes.ensures.each c.args.k c.if-k-lt4.true)
