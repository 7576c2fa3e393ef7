-- The gates of a net have each tree once.
use Rattle.std.proofs.Common.{◌≡◌, ℕ, ◌<◌, List, length, get_or, sym, ◌∙◌, arith, Some}
use Rattle.std.specs.Prelude.{slice_get}
use Rattle.std.proofs.lemmas.Option.{slice_get_within, slice_get-get_or}
use Rattle.gate_model.specs.Tree.{Tree, Yes, Bit, And, Xor}
use Rattle.gate_net.specs.declared.literals.Gate.{Gate}
use Rattle.gate_net.specs.declared.literals.Gate.TheVariants as gate
use Rattle.gate_net.specs.Trees.{tree_of, tree_from, IsShared}
use Rattle.gate_net.specs.Gates.{trees_of_gates, AreGates, AreOnce}
use Rattle.gate_net.proofs.KeyLemmas.{lit_parts}
use Rattle.gate_net.proofs.TreeLemmas.{tree_count, tree_of_gate}

some_gate : Gate
some_gate = gate.Yes

module _ (gs : List Gate) (ordered : AreGates gs) (once : AreOnce gs) where
  -- the gate of a name that stands below another
  operand : (k : ℕ) (g : Gate) (a : ℕ) → slice_get gs k ≡ Some g → a < k → (h : Gate) × (slice_get gs a ≡ Some h) × (tree_from (trees_of_gates gs) h ≡ tree_of (trees_of_gates gs) a)
  operand k g a e below =
      let within : k < length gs = slice_get_within gs k g e in
      let here : a < length gs = omega arith in
      let h : Gate = get_or gs a some_gate in
      let at : slice_get gs a ≡ Some h = slice_get-get_or gs a some_gate here in
      (h, at, sym (tree_of_gate gs a h at (ordered a h at)))

  same_place : (T : Tree) (s t : ℕ) (g h : Gate) → slice_get gs s ≡ Some g → slice_get gs t ≡ Some h → tree_from (trees_of_gates gs) g ≡ T → tree_from (trees_of_gates gs) h ≡ T → s ≡ t
  same_place Yes s t gate.Yes gate.Yes es et p q =
      once s t gate.Yes es et
  same_place (Bit v w) s t (gate.Bit x y) (gate.Bit x' y') es et p q =
      let same : slice_get gs t ≡ Some (gate.Bit x y) = cc in
      once s t (gate.Bit x y) es same
  same_place (And x u y v) s t (gate.And a b) (gate.And a' b') es et p q =
      let os = ordered s _ es in
      let ot = ordered t _ et in
      let n1 = operand s _ a.name es os.0 in
      let m1 = operand t _ a'.name et ot.0 in
      let n2 = operand s _ b.name es os.1 in
      let m2 = operand t _ b'.name et ot.1 in
      let first : tree_of (trees_of_gates gs) a.name ≡ x = cc in
      let first' : tree_of (trees_of_gates gs) a'.name ≡ x = cc in
      let second : tree_of (trees_of_gates gs) b.name ≡ y = cc in
      let second' : tree_of (trees_of_gates gs) b'.name ≡ y = cc in
      let sign1 : a.positive ≡ a'.positive = cc in
      let sign2 : b.positive ≡ b'.positive = cc in
      let same1 : a ≡ a' = lit_parts a a' (same_place x a.name a'.name n1.0 m1.0 n1.1 m1.1 (n1.2 ∙ first) (m1.2 ∙ first')) sign1 in
      let same2 : b ≡ b' = lit_parts b b' (same_place y b.name b'.name n2.0 m2.0 n2.1 m2.1 (n2.2 ∙ second) (m2.2 ∙ second')) sign2 in
      let same : slice_get gs t ≡ Some (gate.And a b) = cc in
      once s t (gate.And a b) es same
  same_place (Xor x u y v) s t (gate.Xor a b) (gate.Xor a' b') es et p q =
      let os = ordered s _ es in
      let ot = ordered t _ et in
      let n1 = operand s _ a.name es os.0 in
      let m1 = operand t _ a'.name et ot.0 in
      let n2 = operand s _ b.name es os.1 in
      let m2 = operand t _ b'.name et ot.1 in
      let first : tree_of (trees_of_gates gs) a.name ≡ x = cc in
      let first' : tree_of (trees_of_gates gs) a'.name ≡ x = cc in
      let second : tree_of (trees_of_gates gs) b.name ≡ y = cc in
      let second' : tree_of (trees_of_gates gs) b'.name ≡ y = cc in
      let sign1 : a.positive ≡ a'.positive = cc in
      let sign2 : b.positive ≡ b'.positive = cc in
      let same1 : a ≡ a' = lit_parts a a' (same_place x a.name a'.name n1.0 m1.0 n1.1 m1.1 (n1.2 ∙ first) (m1.2 ∙ first')) sign1 in
      let same2 : b ≡ b' = lit_parts b b' (same_place y b.name b'.name n2.0 m2.0 n2.1 m2.1 (n2.2 ∙ second) (m2.2 ∙ second')) sign2 in
      let same : slice_get gs t ≡ Some (gate.Xor a b) = cc in
      once s t (gate.Xor a b) es same
  same_place T s t g h es et p q = cc

  pub shared : IsShared (trees_of_gates gs)
  shared s t long_s long_t e =
      let hs : s < length gs = rw (← tree_count gs) long_s in
      let ht : t < length gs = rw (← tree_count gs) long_t in
      let g : Gate = get_or gs s some_gate in
      let h : Gate = get_or gs t some_gate in
      let es : slice_get gs s ≡ Some g = slice_get-get_or gs s some_gate hs in
      let et : slice_get gs t ≡ Some h = slice_get-get_or gs t some_gate ht in
      let ps : tree_of (trees_of_gates gs) s ≡ tree_from (trees_of_gates gs) g = tree_of_gate gs s g es (ordered s g es) in
      let pt : tree_of (trees_of_gates gs) t ≡ tree_from (trees_of_gates gs) h = tree_of_gate gs t h et (ordered t h et) in
      (same_place (tree_of (trees_of_gates gs) s) s t g h es et (sym ps) (sym pt ∙ sym e))
