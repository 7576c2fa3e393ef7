use Rattle.std.proofs.lemmas.List.Elements.{All-replicate}
use Rattle.decode_cache.specs.Entries.{IsDecoded}
use Rattle.decode_cache.proofs.DecodeCache.new.Goals as goal

pub invariant_of-result : goal.invariant_of-result
invariant_of-result c = All-replicate IsDecoded 1024 c.entry_of.result c.entry_of.ensures.decoded
