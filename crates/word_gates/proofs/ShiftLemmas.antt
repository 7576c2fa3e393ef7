-- The five bits by which a word is shifted.
use Rattle.std.proofs.Common.{◌≡◌, ℕ, ◌<◌, ◌≤◌, List, [], ◌∷◌, length, take, refl, sym, ap, ◌∙◌, arith}
use Rattle.gate_model.specs.Tree.{Tree, Signed}
use Rattle.gate_model.specs.Makers.{tree_gates}
use Rattle.word_bits.specs.Circuits.{choose, up, down, stages_up, stages_down, shift_left, shift_right}
use Rattle.gate_net.specs.declared.literals.Lit.{Lit}
use Rattle.gate_net.specs.Trees.{signed_of, all_signed_of, Extends}
use Rattle.gate_net.specs.Lits.{AreNamed}
use Rattle.word_gates.proofs.NetLemmas.{lit_at, kept, below_at, turns}

pub five_bits : (net : List Tree) (b : List Lit) → 5 ≤ length b → take 5 (all_signed_of net b) ≡ signed_of net (lit_at b 0) ∷ signed_of net (lit_at b 1) ∷ signed_of net (lit_at b 2) ∷ signed_of net (lit_at b 3) ∷ signed_of net (lit_at b 4) ∷ []
five_bits net (p ∷ q ∷ r ∷ s ∷ t ∷ b) h = refl
five_bits net b h = absurd (omega arith)

-- five stages, by one place and twice as many at each next
abbrev staged : (ℕ → List Signed → List Signed) → List Signed → Signed → Signed → Signed → Signed → Signed → List Signed
staged move A c0 c1 c2 c3 c4 =
    let T1 : List Signed = choose tree_gates c0 (move 1 A) A in
    let T2 : List Signed = choose tree_gates c1 (move 2 T1) T1 in
    let T4 : List Signed = choose tree_gates c2 (move 4 T2) T2 in
    let T8 : List Signed = choose tree_gates c3 (move 8 T4) T4 in
    choose tree_gates c4 (move 16 T8) T8

module _ (n0 n1 n2 n3 n4 : List Tree) (b : List Lit) (move : ℕ → List Signed → List Signed) (k1 : Extends n0 n1) (k2 : Extends n1 n2) (k3 : Extends n2 n3) (k4 : Extends n3 n4) (below : AreNamed (length n0) b) (five : 5 ≤ length b) (A T1 T2 T4 T8 T16 : List Signed) where
  -- a bit that chooses, in a later net
  later : (net : List Tree) (i : ℕ) → Extends n0 net → i < 5 → signed_of net (lit_at b i) ≡ signed_of n0 (lit_at b i)
  later net i k h = kept n0 net (lit_at b i) k (below_at (length n0) b i below (omega arith))

  five_stages : T1 ≡ choose tree_gates (signed_of n0 (lit_at b 0)) (move 1 A) A → T2 ≡ choose tree_gates (signed_of n1 (lit_at b 1)) (move 2 T1) T1 → T4 ≡ choose tree_gates (signed_of n2 (lit_at b 2)) (move 4 T2) T2 → T8 ≡ choose tree_gates (signed_of n3 (lit_at b 3)) (move 8 T4) T4 → T16 ≡ choose tree_gates (signed_of n4 (lit_at b 4)) (move 16 T8) T8 →
      T16 ≡ staged move A (signed_of n0 (lit_at b 0)) (signed_of n0 (lit_at b 1)) (signed_of n0 (lit_at b 2)) (signed_of n0 (lit_at b 3)) (signed_of n0 (lit_at b 4))
  five_stages e1 e2 e4 e8 e16 =
      let m2 = turns n0 n1 n2 k1 k2 in
      let m3 = turns n0 n2 n3 m2 k3 in
      let m4 = turns n0 n3 n4 m3 k4 in
      let c1 : Signed = signed_of n0 (lit_at b 1) in
      let c2 : Signed = signed_of n0 (lit_at b 2) in
      let c3 : Signed = signed_of n0 (lit_at b 3) in
      let c4 : Signed = signed_of n0 (lit_at b 4) in
      let f2 : T2 ≡ choose tree_gates c1 (move 2 T1) T1 = e2 ∙ ap (λ c. choose tree_gates c (move 2 T1) T1) (later n1 1 k1 (omega arith)) in
      let f4 : T4 ≡ choose tree_gates c2 (move 4 T2) T2 = e4 ∙ ap (λ c. choose tree_gates c (move 4 T2) T2) (later n2 2 m2 (omega arith)) in
      let f8 : T8 ≡ choose tree_gates c3 (move 8 T4) T4 = e8 ∙ ap (λ c. choose tree_gates c (move 8 T4) T4) (later n3 3 m3 (omega arith)) in
      let f16 : T16 ≡ choose tree_gates c4 (move 16 T8) T8 = e16 ∙ ap (λ c. choose tree_gates c (move 16 T8) T8) (later n4 4 m4 (omega arith)) in
      f16 ∙ ap (λ t. choose tree_gates c4 (move 16 t) t) (f8 ∙ ap (λ t. choose tree_gates c3 (move 8 t) t) (f4 ∙ ap (λ t. choose tree_gates c2 (move 4 t) t) (f2 ∙ ap (λ t. choose tree_gates c1 (move 2 t) t) e1)))

pub five_up : (n0 n1 n2 n3 n4 : List Tree) (b : List Lit) (k1 : Extends n0 n1) (k2 : Extends n1 n2) (k3 : Extends n2 n3) (k4 : Extends n3 n4) (below : AreNamed (length n0) b) (five : 5 ≤ length b) (A T1 T2 T4 T8 T16 : List Signed) →
    T1 ≡ choose tree_gates (signed_of n0 (lit_at b 0)) (up tree_gates 1 A) A → T2 ≡ choose tree_gates (signed_of n1 (lit_at b 1)) (up tree_gates 2 T1) T1 → T4 ≡ choose tree_gates (signed_of n2 (lit_at b 2)) (up tree_gates 4 T2) T2 → T8 ≡ choose tree_gates (signed_of n3 (lit_at b 3)) (up tree_gates 8 T4) T4 → T16 ≡ choose tree_gates (signed_of n4 (lit_at b 4)) (up tree_gates 16 T8) T8 →
    T16 ≡ shift_left tree_gates A (all_signed_of n0 b)
five_up n0 n1 n2 n3 n4 b k1 k2 k3 k4 below five A T1 T2 T4 T8 T16 e1 e2 e4 e8 e16 =
    five_stages n0 n1 n2 n3 n4 b (up tree_gates) k1 k2 k3 k4 below five A T1 T2 T4 T8 T16 e1 e2 e4 e8 e16 ∙ ap (stages_up tree_gates 1 A) (sym (five_bits n0 b five))

pub five_down : (fill : Lit) (n0 n1 n2 n3 n4 : List Tree) (b : List Lit) (k1 : Extends n0 n1) (k2 : Extends n1 n2) (k3 : Extends n2 n3) (k4 : Extends n3 n4) (fill_below : fill.name < length n0) (below : AreNamed (length n0) b) (five : 5 ≤ length b) (A T1 T2 T4 T8 T16 : List Signed) →
    T1 ≡ choose tree_gates (signed_of n0 (lit_at b 0)) (down tree_gates (signed_of n0 fill) 1 A) A → T2 ≡ choose tree_gates (signed_of n1 (lit_at b 1)) (down tree_gates (signed_of n1 fill) 2 T1) T1 → T4 ≡ choose tree_gates (signed_of n2 (lit_at b 2)) (down tree_gates (signed_of n2 fill) 4 T2) T2 → T8 ≡ choose tree_gates (signed_of n3 (lit_at b 3)) (down tree_gates (signed_of n3 fill) 8 T4) T4 → T16 ≡ choose tree_gates (signed_of n4 (lit_at b 4)) (down tree_gates (signed_of n4 fill) 16 T8) T8 →
    T16 ≡ shift_right tree_gates (signed_of n0 fill) A (all_signed_of n0 b)
five_down fill n0 n1 n2 n3 n4 b k1 k2 k3 k4 fill_below below five A T1 T2 T4 T8 T16 e1 e2 e4 e8 e16 =
    let m2 = turns n0 n1 n2 k1 k2 in
    let m3 = turns n0 n2 n3 m2 k3 in
    let m4 = turns n0 n3 n4 m3 k4 in
    five_stages n0 n1 n2 n3 n4 b (down tree_gates (signed_of n0 fill)) k1 k2 k3 k4 below five A T1 T2 T4 T8 T16 e1
    (e2 ∙ ap (λ f. choose tree_gates (signed_of n1 (lit_at b 1)) (down tree_gates f 2 T1) T1) (kept n0 n1 fill k1 fill_below))
    (e4 ∙ ap (λ f. choose tree_gates (signed_of n2 (lit_at b 2)) (down tree_gates f 4 T2) T2) (kept n0 n2 fill m2 fill_below))
    (e8 ∙ ap (λ f. choose tree_gates (signed_of n3 (lit_at b 3)) (down tree_gates f 8 T4) T4) (kept n0 n3 fill m3 fill_below))
    (e16 ∙ ap (λ f. choose tree_gates (signed_of n4 (lit_at b 4)) (down tree_gates f 16 T8) T8) (kept n0 n4 fill m4 fill_below))
    ∙ ap (stages_down tree_gates (signed_of n0 fill) 1 A) (sym (five_bits n0 b five))
