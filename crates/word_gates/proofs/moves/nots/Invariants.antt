use Rattle.std.proofs.Common.{◌≡◌, take}
use Rattle.std.specs.Prelude.{map}
use Rattle.word_gates.proofs.MoveLemmas.{turned}
use Rattle.word_gates.proofs.moves.nots.Given as goal

abbrev pub invariant-loop-bit : goal.invariant-loop-bit
invariant-loop-bit l = l.turned.items ≡ map turned (take l.bit-index l.a)
