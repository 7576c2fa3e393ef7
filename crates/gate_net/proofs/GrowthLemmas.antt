-- What a net that grew says of earlier Lits.
use Rattle.std.proofs.Common.{◌≡◌, ◌<◌, ◌≤◌, ◌+◌, List, [], ◌∷◌, length, refl, ap, arith, inl, inr, length-append}
use Rattle.std.specs.Prelude.{Contains}
use Rattle.std.proofs.lemmas.Bool.{cases_lt}
use Rattle.gate_model.specs.Tree.{Tree, Signed}
use Rattle.gate_model.specs.Makers.{negation, and_gate, mux_gate}
use Rattle.gate_net.specs.declared.literals.Lit.{Lit}
use Rattle.gate_net.specs.Trees.{signed_of, Extends, AddsAtMost, AddsOnly, mux_trees}
use Rattle.gate_net.proofs.PushLemmas.{tree_of-end}

-- an earlier Lit keeps its tree
pub signed_of-extends : (old new : List Tree) (l : Lit) → Extends old new → l.name < length old → signed_of new l ≡ signed_of old l
signed_of-extends old new l keeps within = ap (λ (t : Tree). let s : Signed = record { tree = t; positive = l.positive } in s) (keeps.same l.name within)

-- an addition adds one at most
pub adds_one : (old : List Tree) (tree : Tree) (new : List Tree) → AddsAtMost old tree new → length new ≤ length old + 1
adds_one old tree new (inl same) = omega (arith, ap length same)
adds_one old tree new (inr more) = omega (arith, ap length more, length-append old (tree ∷ []))

-- what an addition puts down is its tree
pub adds_only : (trees old : List Tree) (tree : Tree) (new : List Tree) → Contains trees tree → AddsAtMost old tree new → AddsOnly old trees new
adds_only trees old tree new there (inl same) = λ name past within. absurd (omega (arith, ap length same))
adds_only trees old tree new there (inr more) = λ name past within.
    let at : name ≡ length old = omega (arith, ap length more, length-append old (tree ∷ [])) in
    rw (more, tree_of-end old tree name at) there

-- what two turns put down
pub only_in_turns : (trees old mid new : List Tree) → AddsOnly old trees mid → Extends mid new → AddsOnly mid trees new → AddsOnly old trees new
only_in_turns trees old mid new first keeps second = λ name past within.
    elim (cases_lt name (length mid)) [
      | inl early ↦ rw (keeps.same name early) (first name past early)
      | inr late ↦ second name late within
    ]

-- a net that stays as it is
pub only_itself : (trees old : List Tree) → AddsOnly old trees old
only_itself trees old = λ name past within. absurd (omega arith)

-- the gates of a choice, each among them
pub first_branch : (c a b : Signed) → Contains (mux_trees c a b) (and_gate c a).tree
first_branch c a b = (0, omega arith, refl)

pub second_branch : (c a b : Signed) → Contains (mux_trees c a b) (and_gate (negation c) b).tree
second_branch c a b = (1, omega arith, refl)

pub whole_choice : (c a b : Signed) → Contains (mux_trees c a b) (mux_gate c a b).tree
whole_choice c a b = (2, omega arith, refl)
