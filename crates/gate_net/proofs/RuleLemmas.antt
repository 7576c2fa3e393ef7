-- The rules of the gates, by the Lits of a net.
use Rattle.std.proofs.Common.{◌≡◌, ◌<◌, Bool, true, false, ◌||◌, cond, nat_eq, List, length, refl, ap, sym}
use Rattle.std.proofs.lemmas.Bool.{eqb-true, eq-eqb}
use Rattle.gate_model.specs.Booleans.{xor}
use Rattle.gate_model.specs.Tree.{Tree, Yes, Signed, plain, And_of, same_tree, same}
use Rattle.gate_model.specs.Makers.{yes, no, negation, and_gate, unsigned_xor, xor_gate, or_gate, mux_gate}
use Rattle.gate_model.proofs.SameLemmas.{same_equal, same_itself, tree_equal, tree_itself}
use Rattle.gate_net.specs.declared.literals.Lit.{Lit}
use Rattle.gate_net.specs.Trees.{tree_of, signed_of, IsNet}
use Rattle.gate_net.specs.Rules.{xor_tree}
use Rattle.gate_net.proofs.KeyLemmas.{lits_eq, lit_parts, lits_equal, lits_itself}

abbrev pub lit_yes : Lit
lit_yes = record { name = 0; positive = true }

abbrev pub lit_no : Lit
lit_no = record { name = 0; positive = false }

-- two tests that hold of the same
alike : (s t : Bool) → (s ≡ true → t ≡ true) → (t ≡ true → s ≡ true) → s ≡ t
alike true t f g = sym (f refl)
alike false true f g = g refl
alike false false f g = refl

module _ (trees : List Tree) (net : IsNet trees) where
  pub yes_is : signed_of trees lit_yes ≡ yes
  yes_is = ap (λ t. let s : Signed = record { tree = t; positive = true } in s) net.yes

  pub no_is : signed_of trees lit_no ≡ no
  no_is = ap (λ t. let s : Signed = record { tree = t; positive = false } in s) net.yes

  -- signed trees are the same where the Lits are
  pub same_is : (a b : Lit) → a.name < length trees → b.name < length trees → same (signed_of trees a) (signed_of trees b) ≡ lits_eq a b
  same_is a b ha hb =
      alike (same (signed_of trees a) (signed_of trees b)) (lits_eq a b)
      (λ e.
      let is : signed_of trees a ≡ signed_of trees b = same_equal (signed_of trees a) (signed_of trees b) e in
      let name : a.name ≡ b.name = net.shared a.name b.name ha hb (ap (λ (s : Signed). s.tree) is) in
      let sign : a.positive ≡ b.positive = ap (λ (s : Signed). s.positive) is in
      rw (lit_parts a b name sign) (lits_itself b))
      (λ e. rw (lits_equal a b e) (same_itself (signed_of trees b)))

  pub is_yes : (a : Lit) → a.name < length trees → same (signed_of trees a) yes ≡ lits_eq a lit_yes
  is_yes a ha = rw yes_is at (same_is a lit_yes ha net.some)

  pub is_no : (a : Lit) → a.name < length trees → same (signed_of trees a) no ≡ lits_eq a lit_no
  is_no a ha = rw no_is at (same_is a lit_no ha net.some)

  -- trees are the same where the names are
  pub trees_same : (a b : Lit) → a.name < length trees → b.name < length trees → same_tree (tree_of trees a.name) (tree_of trees b.name) ≡ nat_eq a.name b.name
  trees_same a b ha hb =
      alike (same_tree (tree_of trees a.name) (tree_of trees b.name)) (nat_eq a.name b.name)
      (λ e. eq-eqb a.name b.name (net.shared a.name b.name ha hb (tree_equal (tree_of trees a.name) (tree_of trees b.name) e)))
      (λ e. rw (eqb-true a.name b.name e) (tree_itself (tree_of trees b.name)))

  module _ (a b : Lit) (ha : a.name < length trees) (hb : b.name < length trees) where
    -- And by tests of Lits, where one Lit is the negation of b
    pub and_is : (n : Lit) → n.name ≡ b.name → signed_of trees n ≡ negation (signed_of trees b) →
        and_gate (signed_of trees a) (signed_of trees b) ≡
        cond (lits_eq a lit_no || lits_eq b lit_no) no
        (cond (lits_eq a lit_yes) (signed_of trees b)
        (cond (lits_eq b lit_yes) (signed_of trees a)
        (cond (lits_eq a b) (signed_of trees a)
        (cond (lits_eq a n) no (plain (And_of (signed_of trees a) (signed_of trees b)))))))
    unfolding and_gate
    and_is n name is =
        let opposite : same (signed_of trees a) (negation (signed_of trees b)) ≡ lits_eq a n = rw is at (same_is a n ha (rw name hb)) in
        rw (is_no a ha, is_no b hb, is_yes a ha, is_yes b hb, same_is a b ha hb, opposite) refl

    pub xor_is : xor_gate (signed_of trees a) (signed_of trees b) ≡
        cond (lits_eq a lit_no) (signed_of trees b)
        (cond (lits_eq a lit_yes) (negation (signed_of trees b))
        (cond (lits_eq b lit_no) (signed_of trees a)
        (cond (lits_eq b lit_yes) (negation (signed_of trees a))
        (cond (nat_eq a.name b.name) (record { tree = Yes; positive = xor a.positive b.positive }) (xor_tree (signed_of trees a) (signed_of trees b))))))
    unfolding xor_gate unsigned_xor
    xor_is = rw (is_no a ha, is_yes a ha, is_no b hb, is_yes b hb, trees_same a b ha hb) refl

    pub mux_is : (c : Lit) → c.name < length trees → mux_gate (signed_of trees c) (signed_of trees a) (signed_of trees b) ≡
        cond (lits_eq c lit_yes) (signed_of trees a)
        (cond (lits_eq c lit_no) (signed_of trees b)
        (cond (lits_eq a b) (signed_of trees a)
        (or_gate (and_gate (signed_of trees c) (signed_of trees a)) (and_gate (negation (signed_of trees c)) (signed_of trees b)))))
    unfolding mux_gate
    mux_is c hc = rw (is_yes c hc, is_no c hc, same_is a b ha hb) refl
