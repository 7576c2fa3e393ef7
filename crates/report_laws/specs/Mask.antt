-- The mask of a seed, which fixes the order of inputs.
use Rattle.std.specs.Prelude.{ℕ, ◌==◌, List, replicate, if◌then◌else◌}
use Rattle.rand_core.specs.Stream.{Stream, fill_bytes}
use Rattle.rand_core.specs.Steps.{stream_of, steps_u32}
use Rattle.rand_core.specs.Pcg32Seed.{pcg32_seed}
use Rattle.rand_pcg.specs.Pcg.{pcg32, pcg32_of_seed}

-- the generator `Lcg64Xsh32` that `seed_from_u64` makes of a seed
abbrev pub generator : ℕ → Stream
generator seed = stream_of (steps_u32 pcg32) (pcg32_of_seed (pcg32_seed 16 seed))

-- the first n bytes of the seed's generator, and n zero bytes for seed 0
unfoldable pub mask : ℕ → ℕ → List ℕ
mask seed n = if seed == 0 then replicate n 0 else (fill_bytes n (generator seed)).0
