-- One more gate in a list of gates.
use Rattle.std.proofs.Common.{◌≡◌, ℕ, zero, suc, List, [], ◌∷◌, ◌++◌, length, refl, ap, sym, ◌∙◌, Some, false, ◌⊎◌, inl, inr}
use Rattle.std.specs.Prelude.{slice_get}
use Rattle.std.specs.List.{list_any}
use Rattle.std.proofs.Math.Seq.{get_or-append_seam}
use Rattle.gate_net.specs.declared.literals.Gate.{Gate}
use Rattle.gate_model.specs.Tree.{Tree, Yes}
use Rattle.gate_net.specs.Trees.{tree_of, IsGateAt}
use Rattle.gate_net.specs.Gates.{AreGates, AreOnce}
use Rattle.gate_net.proofs.KeyLemmas.{gates_eq, absent}

-- the tree that was put at the end
pub tree_of-end : (trees : List Tree) (tree : Tree) (t : ℕ) → t ≡ length trees → tree_of (trees ++ tree ∷ []) t ≡ tree
tree_of-end trees tree t h = rw h (get_or-append_seam trees tree [] Yes)

push_at : {X : Type 0} (ns : List X) (n m : X) (k : ℕ) → slice_get (ns ++ n ∷ []) k ≡ Some m → (slice_get ns k ≡ Some m) ⊎ ((k ≡ length ns) × (m ≡ n))
push_at [] n m zero e = let same : m ≡ n = cc in inr (refl, same)
push_at [] n m (suc k) e = cc
push_at (x ∷ ns) n m zero e = inl e
push_at (x ∷ ns) n m (suc k) e = elim (push_at ns n m k e) [ inl h ↦ inl h | inr h ↦ inr (ap suc h.0, h.1) ]

pub at_push : (ns : List Gate) (n m : Gate) (k : ℕ) → slice_get ns k ≡ Some m → slice_get (ns ++ n ∷ []) k ≡ Some m
at_push [] n m k e = cc
at_push (x ∷ ns) n m zero e = e
at_push (x ∷ ns) n m (suc k) e = at_push ns n m k e

pub ordered_push : (ns : List Gate) (n : Gate) → AreGates ns → IsGateAt (length ns) n → AreGates (ns ++ n ∷ [])
ordered_push ns n ok below k m e =
    elim (push_at ns n m k e) [
      | inl h ↦ ok k m h
      | inr h ↦ rw (h.0, h.1) below
    ]

-- a gate that wasn't there
pub once_push : (ns : List Gate) (n : Gate) → AreOnce ns → list_any (gates_eq n) ns ≡ false → AreOnce (ns ++ n ∷ [])
once_push ns n once new j k g at_j at_k =
    elim (push_at ns n g j at_j) [
      | inl hj ↦ elim (push_at ns n g k at_k) [
        | inl hk ↦ once j k g hj hk
        | inr hk ↦ absurd (absent ns n j new (hj ∙ ap Some hk.1))
      ]
      | inr hj ↦ elim (push_at ns n g k at_k) [
        | inl hk ↦ absurd (absent ns n k new (hk ∙ ap Some hj.1))
        | inr hk ↦ hj.0 ∙ sym hk.0
      ]
    ]
