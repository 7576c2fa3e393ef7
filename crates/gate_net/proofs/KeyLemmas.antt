-- The derived tests for equal Lits and gates tell them apart.
use Rattle.std.proofs.Common.{◌≡◌, ℕ, Bool, true, false, ◌||◌, nat_eq, List, [], ◌∷◌, Some, zero, suc, refl, ap, ◌∙◌, true≢false, sym}
use Rattle.std.specs.Prelude.{slice_get}
use Rattle.std.specs.Bool.{beq}
use Rattle.std.specs.List.{list_any}
use Rattle.std.proofs.lemmas.Bool.{and_parts, and_from, eqb-true, eq-eqb}
use Rattle.gate_model.proofs.SameLemmas.{beq_equal, beq_itself}
use Rattle.gate_net.specs.declared.literals.Lit.{Lit}
use Rattle.gate_net.specs.declared.literals.Gate.{Gate}
use Rattle.gate_net.specs.declared.literals.Gate.TheVariants as gate
use Rattle.gate_net.specs.contracts.literals.LitPartialEq.TheImpl as lit_eq
use Rattle.gate_net.specs.contracts.literals.GatePartialEq.TheImpl as gate_eq

-- the derived test for equal Lits
abbrev pub lits_eq : Lit → Lit → Bool
lits_eq a b = (lit_eq.ghosts).eq a b

-- the derived test for equal gates
abbrev pub gates_eq : Gate → Gate → Bool
gates_eq x y = (gate_eq.ghosts).eq x y

-- Lits are equal by their parts
pub lit_parts : (a b : Lit) → a.name ≡ b.name → a.positive ≡ b.positive → a ≡ b
lit_parts a b d e = ap (λ n. let x : Lit = record { name = n; positive = a.positive } in x) d ∙ ap (λ p. let x : Lit = record { name = b.name; positive = p } in x) e

pub lits_equal : (a b : Lit) → lits_eq a b ≡ true → a ≡ b
lits_equal a b e =
    let h = and_parts (nat_eq a.name b.name) (beq a.positive b.positive) e in
    lit_parts a b (eqb-true a.name b.name h.0) (beq_equal a.positive b.positive h.1)

pub lits_itself : (a : Lit) → lits_eq a a ≡ true
lits_itself a = and_from (nat_eq a.name a.name) (beq a.positive a.positive) (eq-eqb a.name a.name refl) (beq_itself a.positive)

pub gate_equal : (x y : Gate) → gates_eq x y ≡ true → x ≡ y
gate_equal gate.Yes gate.Yes e = refl
gate_equal (gate.Bit place bit) (gate.Bit place' bit') e =
    let h = and_parts (nat_eq place place') (nat_eq bit bit') e in
    let first : place ≡ place' = eqb-true place place' h.0 in
    let second : bit ≡ bit' = eqb-true bit bit' h.1 in
    cc
gate_equal (gate.And a b) (gate.And c d) e =
    let h = and_parts (lits_eq a c) (lits_eq b d) e in
    let first : a ≡ c = lits_equal a c h.0 in
    let second : b ≡ d = lits_equal b d h.1 in
    cc
gate_equal (gate.Xor a b) (gate.Xor c d) e =
    let h = and_parts (lits_eq a c) (lits_eq b d) e in
    let first : a ≡ c = lits_equal a c h.0 in
    let second : b ≡ d = lits_equal b d h.1 in
    cc
gate_equal x y e = cc

gate_itself : (x : Gate) → gates_eq x x ≡ true
gate_itself gate.Yes = refl
gate_itself (gate.Bit place bit) = and_from (nat_eq place place) (nat_eq bit bit) (eq-eqb place place refl) (eq-eqb bit bit refl)
gate_itself (gate.And a b) = and_from (lits_eq a a) (lits_eq b b) (lits_itself a) (lits_itself b)
gate_itself (gate.Xor a b) = and_from (lits_eq a a) (lits_eq b b) (lits_itself a) (lits_itself b)

neither : (p q : Bool) → (p || q) ≡ false → (p ≡ false) × (q ≡ false)
neither true q e = cc
neither false q e = (refl, e)

-- a gate that isn't found stands nowhere
pub absent : (gs : List Gate) (g : Gate) (k : ℕ) → list_any (gates_eq g) gs ≡ false → slice_get gs k ≡ Some g → ⊥
absent [] g k e h = cc
absent (x ∷ xs) g zero e h =
    let is : x ≡ g = cc in
    let apart : gates_eq g x ≡ false = (neither (gates_eq g x) (list_any (gates_eq g) xs) e).0 in
    let apart' : gates_eq g g ≡ false = rw is at apart in
    true≢false (sym (gate_itself g) ∙ apart')
absent (x ∷ xs) g (suc k) e h = absent xs g k (neither (gates_eq g x) (list_any (gates_eq g) xs) e).1 h
