-- The gate that is made at each place of two words.
use Rattle.std.specs.Prelude.{ℕ, ◌<◌, List}
use Rattle.gate_model.specs.Tree.{Tree, Signed}
use Rattle.gate_model.specs.Makers.{and_gate, or_gate, xor_gate, mux_gate}
use Rattle.gate_net.specs.Trees.{signed_of}
use Rattle.word_gates.specs.declared.bitwise.BitGate.{BitGate}
use Rattle.word_gates.specs.declared.bitwise.BitGate.TheVariants as gate

abbrev pub gate_of : List Tree → BitGate → Signed → Signed → Signed
gate_of net gate.And a b = and_gate a b
gate_of net gate.Or a b = or_gate a b
gate_of net gate.Xor a b = xor_gate a b
gate_of net (gate.Mux c) a b = mux_gate (signed_of net c) a b

-- the Lit that the gate has belongs to the net
abbrev pub BelongsTo : ℕ → BitGate → Type 0
BelongsTo n gate.And = Unit {0}
BelongsTo n gate.Or = Unit {0}
BelongsTo n gate.Xor = Unit {0}
BelongsTo n (gate.Mux c) = c.name < n
