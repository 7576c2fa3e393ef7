-- The search over the names of a net is the search over their trees.
use Rattle.std.proofs.Common.{◌≡◌, ℕ, ◌<◌, Bool, true, false, List, [], ◌∷◌, ◌++◌, refl, sym, ◌∙◌, ap, inl, inr, arith, length, map, subst, zero-add}
use Rattle.std.specs.Prelude.{Contains, All, not, ◌&&◌, ◌↔◌, if◌then◌else◌}
use Rattle.std.specs.List.{list_any, range_with_len}
use Rattle.std.proofs.lemmas.List.Elements.{Contains-append_left, Contains-append_right, Contains-append_cases, All-contains}
use Rattle.std.proofs.lemmas.List.FromFn.{get_or-range_with_len, length-range_with_len}
use Rattle.gate_model.specs.Tree.{Tree, Yes, Bit, And, Xor, Signed, same_tree}
use Rattle.gate_model.specs.Value.{under_sign}
use Rattle.gate_model.specs.Clauses.{tree_clauses, IsUnder, IsClause}
use Rattle.gate_model.proofs.SameLemmas.{tree_test}
use Rattle.gate_net.specs.declared.literals.Lit.{Lit}
use Rattle.gate_net.specs.Lits.{negation, AreNamed}
use Rattle.gate_net.specs.Trees.{tree_of, signed_of, all_signed_of, IsNet}
use Rattle.gate_net.specs.Formulas.{signed_clauses}
use Rattle.search_model.specs.Literals.{named}
use Rattle.search_model.specs.Closure.{IsSettled}
use Rattle.search_model.specs.Search.{conflict_count, ends_in_conflict, values_found}
use Rattle.search_model.specs.Model.{IsTotal, signed, Settles}
use Rattle.search_laws.proofs.ListLemmas.{both, both_true, any_true, any_one, no_element, Contains-head, Contains-tail}
use Rattle.search_laws.proofs.LitLemmas.{named_are_literals}
use Rattle.search_laws.proofs.Renamed.{map_contains, map_contains_one, SameSet, Keeps, SameClauses, count_same, values_same, ends_same, closure_back, bool_same}
use Rattle.wide_laws.specs.Formula.{signed_trees, clauses_under, formula_of}
use Rattle.wide_laws.proofs.Forcing.{trees_are_literals}
use Rattle.wide_laws.proofs.Models.{clause_cases, root_clause, under_among}

-- The clauses under a tree are those of the trees under it.
pub under_one : (g : Tree) (c : List Signed) → Contains (clauses_under g) c → (h : Tree) × IsUnder h g × Contains (tree_clauses h) c
unfolding clauses_under
under_one Yes c at = absurd (no_element c at)
under_one (Bit place bit) c at = absurd (no_element c at)
under_one (And a s b t) c at = elim (Contains-append_cases (tree_clauses (And a s b t)) (clauses_under a ++ clauses_under b) c at) [
  | inl here ↦ (And a s b t, inl refl, here)
  | inr later ↦ elim (Contains-append_cases (clauses_under a) (clauses_under b) c later) [
    | inl h ↦ let one = under_one a c h in (one.0, inr (inl one.1), one.2)
    | inr h ↦ let one = under_one b c h in (one.0, inr (inr one.1), one.2)
  ]
]
under_one (Xor a s b t) c at = elim (Contains-append_cases (tree_clauses (Xor a s b t)) (clauses_under a ++ clauses_under b) c at) [
  | inl here ↦ (Xor a s b t, inl refl, here)
  | inr later ↦ elim (Contains-append_cases (clauses_under a) (clauses_under b) c later) [
    | inl h ↦ let one = under_one a c h in (one.0, inr (inl one.1), one.2)
    | inr h ↦ let one = under_one b c h in (one.0, inr (inr one.1), one.2)
  ]
]

own_clauses : (g : Tree) (c : List Signed) → Contains (tree_clauses g) c → Contains (clauses_under g) c
unfolding clauses_under
own_clauses Yes c at = absurd (no_element c at)
own_clauses (Bit place bit) c at = absurd (no_element c at)
own_clauses (And a s b t) c at = Contains-append_left (tree_clauses (And a s b t)) (clauses_under a ++ clauses_under b) c at
own_clauses (Xor a s b t) c at = Contains-append_left (tree_clauses (Xor a s b t)) (clauses_under a ++ clauses_under b) c at

pub one_under : (g h : Tree) (c : List Signed) → IsUnder h g → Contains (tree_clauses h) c → Contains (clauses_under g) c
unfolding clauses_under
one_under Yes h c is at = let P : Tree → Type 0 = λ x. Contains (tree_clauses x) c in absurd (no_element c (subst P is at))
one_under (Bit place bit) h c is at = let P : Tree → Type 0 = λ x. Contains (tree_clauses x) c in absurd (no_element c (subst P is at))
one_under (And a s b t) h c (inl is) at = let P : Tree → Type 0 = λ x. Contains (tree_clauses x) c in own_clauses (And a s b t) c (subst P is at)
one_under (And a s b t) h c (inr (inl k)) at = Contains-append_right (tree_clauses (And a s b t)) (clauses_under a ++ clauses_under b) c (Contains-append_left (clauses_under a) (clauses_under b) c (one_under a h c k at))
one_under (And a s b t) h c (inr (inr k)) at = Contains-append_right (tree_clauses (And a s b t)) (clauses_under a ++ clauses_under b) c (Contains-append_right (clauses_under a) (clauses_under b) c (one_under b h c k at))
one_under (Xor a s b t) h c (inl is) at = let P : Tree → Type 0 = λ x. Contains (tree_clauses x) c in own_clauses (Xor a s b t) c (subst P is at)
one_under (Xor a s b t) h c (inr (inl k)) at = Contains-append_right (tree_clauses (Xor a s b t)) (clauses_under a ++ clauses_under b) c (Contains-append_left (clauses_under a) (clauses_under b) c (one_under a h c k at))
one_under (Xor a s b t) h c (inr (inr k)) at = Contains-append_right (tree_clauses (Xor a s b t)) (clauses_under a ++ clauses_under b) c (Contains-append_right (clauses_under a) (clauses_under b) c (one_under b h c k at))

-- the list of the formula's clauses has the clauses of the formula and no others
pub formula_is : (roots : List Signed) (c : List Signed) → Contains (formula_of roots) c ↔ IsClause roots c
formula_is roots c = (
  λ at. elim (clause_cases roots c at) [
    | inl (r, among, under) ↦ let one = under_one r.tree c under in inl (one.0, (r, among, one.1), one.2)
    | inr (r, among, apart, is) ↦ inr (r, among, apart, sym is)
  ],
  λ clause. elim clause [
    | inl (h, (r, among, under), at) ↦ under_among roots r among c (one_under r.tree h c under at)
    | inr (r, among, apart, is) ↦ (let P : List Signed → Type 0 = λ k. Contains (formula_of roots) k in subst P (sym is) (root_clause roots r among apart))
  ],
)

sign_not : (p v : Bool) → under_sign (not p) v ≡ not (under_sign p v)
sign_not true v = refl
sign_not false true = refl
sign_not false false = refl

range_has : (n k : ℕ) → k < n → Contains (range_with_len 0 n) k
range_has n k low = (k, (let size : length (range_with_len 0 n) ≡ n = length-range_with_len 0 n in omega (arith, size, low)), get_or-range_with_len 0 n k k low ∙ zero-add k)

pub in_range : (n k : ℕ) → Contains (range_with_len 0 n) k → k < n
in_range n k (i, lt, is) =
    let size : length (range_with_len 0 n) ≡ n = length-range_with_len 0 n in
    let low : i < n = omega (arith, size, lt) in
    omega (arith, low, is, get_or-range_with_len 0 n i k low)

-- the names of a net and their trees
module _ (trees : List Tree) (net : IsNet trees) where
  abbrev IsOwn : Lit → Type 0
  IsOwn l = l.name < length trees

  pub keeps : Keeps named named_are_literals signed_trees trees_are_literals (signed_of trees) (λ l. l.name < length trees)
  keeps = record {
    negation = λ l. refl;
    own_negation = λ l own. own;
    one = λ a b own_a own_b e. (
        let trees_same : tree_of trees a.name ≡ tree_of trees b.name = ap (λ (s : Signed). s.tree) e in
        let names_same : a.name ≡ b.name = net.shared a.name b.name own_a own_b trees_same in
        let signs_same : a.positive ≡ b.positive = ap (λ (s : Signed). s.positive) e in
        ap (λ (n : ℕ). record { name = n; positive = a.positive }) names_same ∙ ap (λ (p : Bool). record { name = b.name; positive = p }) signs_same);
  }

  module _ (roots : List Lit) (clauses : List (List Lit)) (below : All (AreNamed (length trees)) clauses)
      (are : (c : List Signed) → Contains (signed_clauses trees clauses) c ↔ IsClause (all_signed_of trees roots) c) where
    pub same : SameClauses named named_are_literals signed_trees trees_are_literals (signed_of trees) (λ l. l.name < length trees) clauses (formula_of (all_signed_of trees roots))
    same = record {
      owned = λ c at l here. All-contains (λ (x : Lit). x.name < length trees) c l (All-contains (AreNamed (length trees)) clauses c below at) here;
      there = λ c at. (
          let clause : Contains (signed_clauses trees clauses) (all_signed_of trees c) = map_contains (all_signed_of trees) clauses c at in
          (all_signed_of trees c, (formula_is (all_signed_of trees roots) (all_signed_of trees c)).1 ((are (all_signed_of trees c)).0 clause), record { there = λ x h. h; back = λ x h. h }));
      back = λ c' at. (
          let one = map_contains_one (all_signed_of trees) clauses c' ((are c').1 ((formula_is (all_signed_of trees roots) c').0 at)) in
          let P : List Signed → Type 0 = λ k. SameSet (all_signed_of trees one.0) k in
          (one.0, one.1, subst P one.2 (record { there = λ x h. h; back = λ x h. h })));
    }

    module _ (order : List Lit) (order_below : AreNamed (length trees) order) where
      own_order : (l : Lit) → Contains order l → l.name < length trees
      own_order l at = All-contains (λ (x : Lit). x.name < length trees) order l order_below at

      pub names_count : conflict_count signed_trees (formula_of (all_signed_of trees roots)) (all_signed_of trees order) ≡ conflict_count named clauses order
      names_count = count_same named named_are_literals signed_trees trees_are_literals (signed_of trees) (λ l. l.name < length trees) keeps clauses (formula_of (all_signed_of trees roots)) same order own_order

      pub names_values : values_found signed_trees (formula_of (all_signed_of trees roots)) (all_signed_of trees order) ≡ values_found named clauses order
      names_values = values_same named named_are_literals signed_trees trees_are_literals (signed_of trees) (λ l. l.name < length trees) keeps clauses (formula_of (all_signed_of trees roots)) same order own_order

      pub names_end : ends_in_conflict signed_trees (formula_of (all_signed_of trees roots)) (all_signed_of trees order) ≡ ends_in_conflict named clauses order
      names_end = ends_same named named_are_literals signed_trees trees_are_literals (signed_of trees) (λ l. l.name < length trees) keeps clauses (formula_of (all_signed_of trees roots)) same order own_order

      -- a set of names as one of trees
      module _ (set : Lit → Bool) (total : IsTotal named set) where
        abbrev names_it : Tree → ℕ → Bool
        names_it t n = same_tree (tree_of trees n) t && set (record { name = n; positive = true })

        has_tree : Tree → Bool
        has_tree t = list_any (names_it t) (range_with_len 0 (length trees))

        tree_set : Signed → Bool
        tree_set s = under_sign s.positive (has_tree s.tree)

        tree_total : IsTotal signed_trees tree_set
        unfolding tree_set
        tree_total s = sign_not s.positive (has_tree s.tree)

        set_sign : (name : ℕ) (p : Bool) → set (record { name = name; positive = p }) ≡ under_sign p (set (record { name = name; positive = true }))
        set_sign name true = refl
        set_sign name false = total (record { name = name; positive = true })

        has_name : (name : ℕ) → name < length trees → has_tree (tree_of trees name) ≡ set (record { name = name; positive = true })
        unfolding has_tree
        has_name name low = bool_same (has_tree (tree_of trees name)) (set (record { name = name; positive = true }))
            (λ e. (
            let one = any_one (names_it (tree_of trees name)) (range_with_len 0 (length trees)) e in
            let parts = both (same_tree (tree_of trees one.0) (tree_of trees name)) (set (record { name = one.0; positive = true })) one.2 in
            let trees_same : tree_of trees one.0 ≡ tree_of trees name = (tree_test (tree_of trees one.0) (tree_of trees name)).0 parts.0 in
            let is : one.0 ≡ name = net.shared one.0 name (in_range (length trees) one.0 one.1) low trees_same in
            ap (λ (n : ℕ). set (record { name = n; positive = true })) (sym is) ∙ parts.1))
            (λ e. any_true (names_it (tree_of trees name)) (range_with_len 0 (length trees)) name (range_has (length trees) name low)
            (both_true (same_tree (tree_of trees name) (tree_of trees name)) (set (record { name = name; positive = true })) ((tree_test (tree_of trees name) (tree_of trees name)).1 refl) e))

        agree : (l : Lit) → l.name < length trees → tree_set (signed_of trees l) ≡ set l
        unfolding tree_set
        agree l low = ap (under_sign l.positive) (has_name l.name low) ∙ sym (set_sign l.name l.positive)

        signed_one : (l : Lit) (b : Bool) → signed_of trees (if b then l else negation l) ≡ (if b then signed_of trees l else signed_trees.negation (signed_of trees l))
        signed_one l true = refl
        signed_one l false = refl

        signed_map : (os : List Lit) → ((l : Lit) → Contains os l → l.name < length trees) → map (signed_of trees) (signed named set os) ≡ signed signed_trees tree_set (map (signed_of trees) os)
        signed_map [] own = refl
        signed_map (o ∷ os) own =
            ap (λ (x : Signed). x ∷ map (signed_of trees) (signed named set os))
            (signed_one o (set o) ∙ ap (λ b. if b then signed_of trees o else signed_trees.negation (signed_of trees o)) (sym (agree o (own o (Contains-head o os)))))
            ∙ ap (λ (xs : List Signed). (if tree_set (signed_of trees o) then signed_of trees o else signed_trees.negation (signed_of trees o)) ∷ xs) (signed_map os (λ l h. own l (Contains-tail o os l h)))

        own_if : (o : Lit) (b : Bool) → o.name < length trees → (if b then o else negation o).name < length trees
        own_if o true low = low
        own_if o false low = low

        own_signed : (l : Lit) → Contains (signed named set order) l → l.name < length trees
        own_signed l h =
            let f : Lit → Lit = λ x. if set x then x else negation x in
            let one = map_contains_one f order l h in
            let P : Lit → Type 0 = λ x. x.name < length trees in
            subst P one.2 (own_if one.0 (set one.0) (own_order one.0 one.1))

      -- where the trees' bits settle the formula of the trees, the names' bits settle the formula of the names
      pub names_settle : Settles signed_trees (formula_of (all_signed_of trees roots)) (all_signed_of trees order) → Settles named clauses order
      names_settle settles set total c l at here =
          let low : l.name < length trees = same.owned c at l here in
          let clause = same.there c at in
          let there : Contains clause.0 (signed_of trees l) = clause.2.there (signed_of trees l) (map_contains (signed_of trees) c l here) in
          let P : List Signed → Type 0 = λ ds. IsSettled signed_trees (formula_of (all_signed_of trees roots)) ds (signed_of trees l) in
          let settled = subst P (sym (signed_map set total order own_order)) (settles (tree_set set total) (tree_total set total) clause.0 (signed_of trees l) clause.1 there) in
          elim settled [
            | inl h ↦ inl (closure_back named named_are_literals signed_trees trees_are_literals (signed_of trees) (λ x. x.name < length trees) keeps clauses (formula_of (all_signed_of trees roots)) same (signed named set order) (own_signed set total) l low h)
            | inr h ↦ inr (closure_back named named_are_literals signed_trees trees_are_literals (signed_of trees) (λ x. x.name < length trees) keeps clauses (formula_of (all_signed_of trees roots)) same (signed named set order) (own_signed set total) (negation l) low h)
          ]
