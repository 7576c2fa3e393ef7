-- One more gate in a net, and what holds of every net.
use Rattle.std.proofs.Common.{◌≡◌, ℕ, ◌<◌, ◌≤◌, Bool, true, false, List, [], ◌∷◌, ◌++◌, length, get_or, refl, ap, ◌∙◌, sym, if◌then◌else◌, arith, Some, ◌⊎◌, inl, inr, length-append}
use Rattle.std.specs.Prelude.{slice_get}
use Rattle.std.specs.List.{list_any}
use Rattle.std.proofs.lemmas.Bool.{cases_lt}
use Rattle.std.proofs.lemmas.List.{get_or_past}
use Rattle.std.proofs.lemmas.Option.{slice_get_within, slice_get-get_or}
use Rattle.indexmap.specs.IndexSet.{insert_key}
use Rattle.gate_model.specs.Tree.{Tree, Yes}
use Rattle.gate_model.specs.Made.{IsMade}
use Rattle.gate_net.specs.declared.literals.Gate.{Gate}
use Rattle.gate_net.specs.declared.literals.Gate.TheVariants as gate
use Rattle.gate_net.specs.Trees.{tree_of, tree_from, IsGateAt, HasOperandsBelow, IsNet, Extends, AddsAtMost}
use Rattle.gate_net.specs.Gates.{trees_of_gates, AreNetGates}
use Rattle.gate_net.proofs.KeyLemmas.{gates_eq, gate_equal}
use Rattle.gate_net.proofs.TreeLemmas.{tree_count, tree_of_gate, tree_of-append, tree_from_alike, trees_of_gates-push, extends_itself, extends_push}
use Rattle.gate_net.proofs.PushLemmas.{at_push, tree_of-end, ordered_push, once_push}
use Rattle.gate_net.proofs.SharedLemmas.{shared}

-- every tree is made where one more is
made_push : (trees : List Tree) (tree : Tree) → ((name : ℕ) → IsMade (tree_of trees name)) → IsMade tree → (name : ℕ) → IsMade (tree_of (trees ++ tree ∷ []) name)
made_push trees tree made last name =
    elim (cases_lt name (length trees)) [
      | inl within ↦ rw (tree_of-append trees (tree ∷ []) name within) (made name)
      | inr past ↦ made_at_end (cases_lt (length trees) name) past
    ]
  where
    made_at_end : (length trees < name) ⊎ (name ≤ length trees) → length trees ≤ name → IsMade (tree_of (trees ++ tree ∷ []) name)
    made_at_end (inl past) h =
        let beyond : length (trees ++ tree ∷ []) ≤ name = omega (arith, length-append trees (tree ∷ [])) in
        rw (get_or_past (trees ++ tree ∷ []) name Yes beyond) tt
    made_at_end (inr at) h = rw (tree_of-end trees tree name (omega arith)) last

-- a gate is the top of its name's tree
pub gate_top : (gs : List Gate) (name : ℕ) (g : Gate) → AreNetGates gs → slice_get gs name ≡ Some g → tree_of (trees_of_gates gs) name ≡ tree_from (trees_of_gates gs) g
gate_top gs name g ok h = tree_of_gate gs name g h (ok.ordered name g h)

-- what is added extends
pub adds_extends : (old : List Tree) (tree : Tree) (new : List Tree) → AddsAtMost old tree new → Extends old new
adds_extends old tree new (inl same) = rw same (extends_itself old)
adds_extends old tree new (inr more) = rw more (extends_push old tree)

-- The gates of a net, in which a gate was found or to which it was added.
module _ (gs gs' : List Gate) (g : Gate) (inserted : gs' ≡ insert_key gates_eq gs g) (at : IsGateAt (length (trees_of_gates gs)) g) (made : IsMade (tree_from (trees_of_gates gs) g)) (ok : AreNetGates gs) where
  pub placed : AreNetGates gs' × AddsAtMost (trees_of_gates gs) (tree_from (trees_of_gates gs) g) (trees_of_gates gs')
  placed = by (list_any (gates_eq g) gs) refl
    where
      by : (b : Bool) → list_any (gates_eq g) gs ≡ b → AreNetGates gs' × AddsAtMost (trees_of_gates gs) (tree_from (trees_of_gates gs) g) (trees_of_gates gs')
      by true there =
          let same : gs' ≡ gs = inserted ∙ ap (λ b. if b then gs else gs ++ g ∷ []) there in
          rw same (ok, inl refl)
      by false new =
          let more : gs' ≡ gs ++ g ∷ [] = inserted ∙ ap (λ b. if b then gs else gs ++ g ∷ []) new in
          let net : AreNetGates (gs ++ g ∷ []) = record {
            ordered = ordered_push gs g ok.ordered (rw (tree_count gs) at at);
            once = once_push gs g ok.once new;
            first = at_push gs g gate.Yes 0 ok.first;
            made = rw (trees_of_gates-push gs g) (made_push (trees_of_gates gs) (tree_from (trees_of_gates gs) g) ok.made made);
          } in
          rw more (net, inr (trees_of_gates-push gs g))

  module _ (name : ℕ) (h : Gate) (there : slice_get gs' name ≡ Some h) (is : gates_eq g h ≡ true) where
    pub placed_below : name < length (trees_of_gates gs')
    placed_below = rw (tree_count gs') (slice_get_within gs' name h there)

    pub placed_tree : tree_of (trees_of_gates gs') name ≡ tree_from (trees_of_gates gs) g
    placed_tree =
        let here : slice_get gs' name ≡ Some g = there ∙ ap Some (sym (gate_equal g h is)) in
        let keeps : Extends (trees_of_gates gs) (trees_of_gates gs') = adds_extends _ _ _ placed.1 in
        gate_top gs' name g placed.0 here ∙ tree_from_alike (trees_of_gates gs') (trees_of_gates gs) (length (trees_of_gates gs)) g keeps.same at

operands_of : (trees : List Tree) (n : ℕ) (g : Gate) → IsGateAt n g → HasOperandsBelow trees n (tree_from trees g)
operands_of trees n gate.Yes at = tt
operands_of trees n (gate.Bit place bit) at = tt
operands_of trees n (gate.And a b) at = ((a.name, at.0, refl), (b.name, at.1, refl))
operands_of trees n (gate.Xor a b) at = ((a.name, at.0, refl), (b.name, at.1, refl))

-- the operands of each tree stand before it
operands_below : (gs : List Gate) → AreNetGates gs → (name : ℕ) → name < length (trees_of_gates gs) → HasOperandsBelow (trees_of_gates gs) name (tree_of (trees_of_gates gs) name)
operands_below gs ok name within =
    let h : name < length gs = rw (← tree_count gs) within in
    let g : Gate = get_or gs name gate.Yes in
    let e : slice_get gs name ≡ Some g = slice_get-get_or gs name gate.Yes h in
    rw (gate_top gs name g ok e) (operands_of (trees_of_gates gs) name g (ok.ordered name g e))

pub gates_are_net : (gs : List Gate) → AreNetGates gs → IsNet (trees_of_gates gs)
gates_are_net gs ok = record {
  some = rw (tree_count gs) (slice_get_within gs 0 gate.Yes ok.first);
  yes = gate_top gs 0 gate.Yes ok ok.first;
  shared = shared gs ok.ordered ok.once;
  operands = operands_below gs ok;
  made = ok.made;
}
