use Rattle.std.proofs.Common.{◌≡◌, ◌+◌, ◌-◌, ◌%◌, ◌^◌, true, sym, ap, ◌∙◌, arith, get_or, drop, length}
use Rattle.std.proofs.Math.ListN.{drop_of_length-le}
use Rattle.std.specs.FinMap as finmap
use Rattle.memory_map.specs.Cells.{can, write, with_byte, placed, first_without, Map}
use Rattle.memory_map.proofs.Placed.{all_kept, room_first, room_rest, placed_more, placed_none}
use Rattle.memory_map.proofs.memory.Memory.write_across.Goals as goal

pub loop-byte-preserved : goal.loop-byte-preserved
loop-byte-preserved c =
    let m = c.loop-byte.self.map in
    let at = c.loop-byte.at in
    let i = c.loop-byte.byte-index in
    let bs = c.args.bytes.now in
    let may : can write (finmap.get m at) ≡ true = room_first (length bs - i) at write m (omega arith) c.loop-byte.invariant.room in
    let after = rw (c.store.ensures.stored, may) at c.store.ensures.after in
    let new : c.store.new.self.map ≡ with_byte m at (get_or bs i 0) (finmap.get m at) = (λ i. (after i).map) in
    record {
      heap = (λ i. (after i).heap) ∙ c.loop-byte.invariant.heap;
      room =
          ap (λ (n : Map). first_without write n ((at + 1) % 2 ^ 32) (length bs - (i + 1))) new
          ∙ all_kept (length bs - (i + 1)) at (get_or bs i 0) ((at + 1) % 2 ^ 32) write m
          ∙ room_rest (length bs - i) (length bs - (i + 1)) at write m (omega arith) c.loop-byte.invariant.room;
      rest = c.loop-byte.invariant.rest ∙ placed_more m at i bs (omega arith) ∙ ap (λ (n : Map). placed n ((at + 1) % 2 ^ 32) (drop (i + 1) bs)) (sym new);
    }

pub returns : goal.returns
returns c =
    let map = sym (c.loop-byte.invariant.rest ∙ placed_none _ _ _ (drop_of_length-le c.args.bytes.now (omega arith))) in
    let heap = c.loop-byte.invariant.heap in
    (λ i. record { map = map i; heap = heap i })
