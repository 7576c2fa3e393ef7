use Rattle.std.proofs.Common.{arith}
use Rattle.watchers.proofs.KnownLemmas.{known_at}
use Rattle.watchers.proofs.covered.is_known.Goals as goal

pub returns-then-place-known : goal.returns-then-place-known
returns-then-place-known c = λ s same all. known_at s c.args.known.now c.place_of-place.result c.args.pc (omega (arith, c.if-place-known.true)) same all
