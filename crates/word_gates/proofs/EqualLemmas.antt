-- Equality bit by bit, so far.
use Rattle.std.proofs.Common.{◌≡◌, ℕ, ◌+◌, ◌<◌, List, [], ◌∷◌, Bool, true, false, length, drop, refl, sym, ap, ◌∙◌, if◌then◌else◌}
use Rattle.gate_model.specs.Tree.{Tree, Signed, same, same_tree}
use Rattle.gate_model.specs.Makers.{yes as yes_tree, no as no_tree, negation, and_gate, xor_gate, tree_gates}
use Rattle.gate_model.proofs.SameLemmas.{same_equal}
use Rattle.gate_net.specs.declared.literals.Lit.{Lit}
use Rattle.gate_net.specs.Trees.{signed_of, all_signed_of, Extends}
use Rattle.word_bits.specs.Circuits.{equal, equal_after}
use Rattle.gate_net.specs.Lits.{AreNamed}
use Rattle.word_gates.specs.Lits.{HasYes}
use Rattle.word_gates.proofs.NetLemmas.{kept, itself, turns, lit_at, drop_at, below_at, drop_all}

and_yes : (x : Signed) → and_gate yes_tree x ≡ x
unfolding and_gate same same_tree
and_yes x = go (same x no_tree) refl
  where
    go : (b : Bool) → same x no_tree ≡ b → (if b then no_tree else x) ≡ x
    go true e = sym (same_equal x no_tree e)
    go false e = refl

equal_from_yes : (xs ys : List Signed) → equal_after tree_gates yes_tree xs ys ≡ equal tree_gates xs ys
equal_from_yes [] ys = refl
equal_from_yes (x ∷ xs) [] = refl
equal_from_yes (x ∷ xs) (y ∷ ys) = ap (λ e. equal_after tree_gates e xs ys) (and_yes (negation (xor_gate x y)))

pub record IsEqualSoFar (start now : List Tree) (a b : List Lit) (e : Lit) (i : ℕ) : Type 0 where
  pub keeps : Extends start now
  pub below : e.name < length now
  pub so_far : equal_after tree_gates (signed_of now e) (all_signed_of start (drop i a)) (all_signed_of start (drop i b)) ≡ equal tree_gates (all_signed_of start a) (all_signed_of start b)

pub equal_start : (start : List Tree) (a b : List Lit) → HasYes start → 0 < length start → IsEqualSoFar start start a b (record { name = 0; positive = true }) 0
equal_start start a b has some = record {
  keeps = itself start;
  below = some;
  so_far = ap (λ t. equal_after tree_gates (record { tree = t; positive = true }) (all_signed_of start a) (all_signed_of start b)) has ∙ equal_from_yes (all_signed_of start a) (all_signed_of start b);
}

pub equal_more : (start now mid next : List Tree) (a b : List Lit) (e d t f : Lit) (i : ℕ) → IsEqualSoFar start now a b e i → AreNamed (length start) a → AreNamed (length start) b → i < length a → i < length b →
    Extends now mid → Extends mid next → f.name < length next → signed_of mid d ≡ xor_gate (signed_of now (lit_at a i)) (signed_of now (lit_at b i)) → signed_of mid t ≡ negation (signed_of mid d) → signed_of next f ≡ and_gate (signed_of mid e) (signed_of mid t) →
    IsEqualSoFar start next a b f (i + 1)
equal_more start now mid next a b e d t f i so first second in_a in_b g h below differ turned both =
    let X : Signed = signed_of start (lit_at a i) in
    let Y : Signed = signed_of start (lit_at b i) in
    let A : List Signed = all_signed_of start (drop (i + 1) a) in
    let B : List Signed = all_signed_of start (drop (i + 1) b) in
    let x : signed_of now (lit_at a i) ≡ X = kept start now (lit_at a i) so.keeps (below_at (length start) a i first in_a) in
    let y : signed_of now (lit_at b i) ≡ Y = kept start now (lit_at b i) so.keeps (below_at (length start) b i second in_b) in
    let tree : signed_of next f ≡ and_gate (signed_of now e) (negation (xor_gate X Y)) =
    both ∙ ap (λ s. and_gate s (signed_of mid t)) (kept now mid e g so.below)
    ∙ ap (and_gate (signed_of now e)) (turned ∙ ap negation (differ ∙ ap (λ s. xor_gate s (signed_of now (lit_at b i))) x ∙ ap (xor_gate X) y)) in
    record {
      keeps = turns start mid next (turns start now mid so.keeps g) h;
      below = below;
      so_far =
          ap (λ s. equal_after tree_gates s A B) tree
          ∙ ap (λ l. equal_after tree_gates (signed_of now e) l (Y ∷ B)) (sym (ap (all_signed_of start) (drop_at a i in_a)))
          ∙ ap (λ l. equal_after tree_gates (signed_of now e) (all_signed_of start (drop i a)) l) (sym (ap (all_signed_of start) (drop_at b i in_b)))
          ∙ so.so_far;
    }

pub equal_end : (start now : List Tree) (a b : List Lit) (e : Lit) → IsEqualSoFar start now a b e (length a) → signed_of now e ≡ equal tree_gates (all_signed_of start a) (all_signed_of start b)
equal_end start now a b e so = ap (λ l. equal_after tree_gates (signed_of now e) (all_signed_of start l) (all_signed_of start (drop (length a) b))) (sym (drop_all a)) ∙ so.so_far
