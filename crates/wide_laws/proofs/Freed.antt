-- The bits that stay fixed, by the names of a net and by their trees.
use Rattle.std.proofs.Common.{◌≡◌, ℕ, ◌<◌, Bool, true, false, List, [], ◌∷◌, ◌++◌, refl, sym, ◌∙◌, ap, inl, inr, length, map, subst}
use Rattle.std.specs.Prelude.{Contains, All, not, ◌||◌, ◌&&◌, ◌↔◌}
use Rattle.std.specs.List.{list_all}
use Rattle.std.proofs.lemmas.List.{map-append}
use Rattle.std.proofs.lemmas.List.Elements.{Contains-append_cases, Contains-push_cases, All-contains}
use Rattle.gate_model.specs.Tree.{Tree, Signed, same}
use Rattle.gate_model.specs.Clauses.{IsGateClause}
use Rattle.gate_model.specs.Makers.{yes, negation as opposite}
use Rattle.gate_model.specs.Value.{value, input_bit}
use Rattle.gate_model.proofs.SameLemmas.{same_equal}
use Rattle.gate_model.proofs.ValueLemmas.{value_not}
use Rattle.gate_net.specs.declared.literals.Lit.{Lit}
use Rattle.gate_net.specs.Lits.{AreNamed}
use Rattle.gate_net.specs.Trees.{signed_of, all_signed_of, IsNet}
use Rattle.gate_net.specs.Formulas.{signed_clauses}
use Rattle.search_model.specs.Literals.{named}
use Rattle.search_model.specs.Tests.{in_closure, is_conflict}
use Rattle.search_laws.proofs.ListLemmas.{bool_cases, no_element, not_true, Contains-head, Contains-tail}
use Rattle.search_laws.proofs.LitLemmas.{named_are_literals}
use Rattle.search_laws.proofs.TestLemmas.{is_calm}
use Rattle.search_laws.proofs.Implied.{model_closure}
use Rattle.search_laws.proofs.Renamed.{map_contains, map_contains_one, SameSet, SameClauses, in_same, conflict_same, bool_same}
use Rattle.wide_laws.specs.Formula.{signed_trees, clauses_under, gate_formula, order_of}
use Rattle.wide_laws.specs.Sets.{fixed_from, has_roots, force_roots, yes_name}
use Rattle.wide_laws.proofs.Forcing.{trees_are_literals}
use Rattle.wide_laws.proofs.Models.{flat_one, flat_has, bit_of}
use Rattle.wide_laws.proofs.Joined.{value_is}
use Rattle.wide_laws.proofs.Names.{under_one, one_under, keeps}
use Rattle.wide_laws.proofs.Sets.{fixed_end, fixed_freed, fixed_kept, gates_model, order_is, IsBit, itself, beq_under}

pub gates_are : (roots : List Signed) (c : List Signed) → Contains (gate_formula roots) c ↔ IsGateClause roots c
gates_are roots c = (
  λ at. (
      let one = flat_one (λ (r : Signed). clauses_under r.tree) roots c at in
      let tree = under_one one.0.tree c one.2 in
      (tree.0, (one.0, one.1, tree.1), tree.2)),
  λ (h, (r, among, under), at). flat_has (λ (x : Signed). clauses_under x.tree) roots r c among (one_under r.tree h c under at),
)

all_map : {X Y : Type 0} (f : X → Y) (p : Y → Bool) (q : X → Bool) (xs : List X) → ((x : X) → Contains xs x → p (f x) ≡ q x) → list_all p (map f xs) ≡ list_all q xs
all_map f p q [] each = refl
all_map f p q (x ∷ xs) each =
    ap (λ b. b && list_all p (map f xs)) (each x (Contains-head x xs))
    ∙ ap (λ b. q x && b) (all_map f p q xs (λ z at. each z (Contains-tail x xs z at)))

-- the first bytes' own bits are true under them
pub own_true : (first places : List ℕ) (l : Signed) → Contains (order_of first places) l → value l first ≡ true
own_true first places l at =
    let b : IsBit first places l = order_is first places l at in
    ap (λ (x : Signed). value x first) b.is ∙ value_is (bit_of first b.place b.bit) first
    ∙ beq_under (input_bit first b.place b.bit) (input_bit first b.place b.bit) (itself (input_bit first b.place b.bit))

not_same : (v : Bool) → v ≡ true → not v ≡ true → ⊥
not_same v e f = not_true v e f

-- a map that keeps the test keeps the bits that stay fixed
module _ {L M : Type 0} (f : L → M) (own : L → Type 0) (frees : List L → Bool) (frees' : List M → Bool)
    (same_test : (others : List L) → ((l : L) → Contains others l → own l) → frees' (map f others) ≡ frees others) where
  abbrev Owned : List L → Type 0
  Owned ls = (l : L) → Contains ls l → own l

  own_more : (kept rest : List L) → Owned kept → Owned rest → Owned (kept ++ rest)
  own_more kept rest own_kept own_rest l h = elim (Contains-append_cases kept rest l h) [
    | inl here ↦ own_kept l here
    | inr later ↦ own_rest l later
  ]

  own_push : (kept : List L) (d : L) → Owned kept → own d → Owned (kept ++ d ∷ [])
  own_push kept d own_kept own_d l h = elim (Contains-push_cases kept d l h) [
    | inl here ↦ own_kept l here
    | inr is ↦ subst own is own_d
  ]

  tested : (kept rest : List L) → Owned kept → Owned rest → frees' (map f kept ++ map f rest) ≡ frees (kept ++ rest)
  tested kept rest own_kept own_rest = ap frees' (sym (map-append f kept rest)) ∙ same_test (kept ++ rest) (own_more kept rest own_kept own_rest)

  pub fixed_same : (kept rest : List L) → Owned kept → Owned rest → map f (fixed_from frees kept rest) ≡ fixed_from frees' (map f kept) (map f rest)
  fixed_same kept [] own_kept own_rest = ap (map f) (fixed_end frees kept) ∙ sym (fixed_end frees' (map f kept))
  fixed_same kept (d ∷ rest) own_kept own_all =
      let own_rest : Owned rest = λ l at. own_all l (Contains-tail d rest l at) in
      let test = tested kept rest own_kept own_rest in
      elim (bool_cases (frees (kept ++ rest))) [
        | inl e ↦
            ap (map f) (fixed_freed frees kept d rest e) ∙ fixed_same kept rest own_kept own_rest
            ∙ sym (fixed_freed frees' (map f kept) (f d) (map f rest) (test ∙ e))
        | inr e ↦
            ap (map f) (fixed_kept frees kept d rest e) ∙ fixed_same (kept ++ d ∷ []) rest (own_push kept d own_kept (own_all d (Contains-head d rest))) own_rest
            ∙ ap (λ (ms : List M). fixed_from frees' ms (map f rest)) (map-append f kept (d ∷ []))
            ∙ sym (fixed_kept frees' (map f kept) (f d) (map f rest) (test ∙ e))
      ]

module _ (trees : List Tree) (net : IsNet trees) (roots : List Lit) (clauses : List (List Lit)) (below : All (AreNamed (length trees)) clauses)
    (are : (c : List Signed) → Contains (signed_clauses trees clauses) c ↔ IsGateClause (all_signed_of trees roots) c) where
  abbrev Own : List Lit → Type 0
  Own ls = (l : Lit) → Contains ls l → l.name < length trees

  same_gates : SameClauses named named_are_literals signed_trees trees_are_literals (signed_of trees) (λ l. l.name < length trees) clauses (gate_formula (all_signed_of trees roots))
  same_gates = record {
    owned = λ c at l here. All-contains (λ (x : Lit). x.name < length trees) c l (All-contains (AreNamed (length trees)) clauses c below at) here;
    there = λ c at. (
        let clause : Contains (signed_clauses trees clauses) (all_signed_of trees c) = map_contains (all_signed_of trees) clauses c at in
        (all_signed_of trees c, (gates_are (all_signed_of trees roots) (all_signed_of trees c)).1 ((are (all_signed_of trees c)).0 clause), record { there = λ x h. h; back = λ x h. h }));
    back = λ c' at. (
        let one = map_contains_one (all_signed_of trees) clauses c' ((are c').1 ((gates_are (all_signed_of trees roots) c').0 at)) in
        let P : List Signed → Type 0 = λ k. SameSet (all_signed_of trees one.0) k in
        (one.0, one.1, subst P one.2 (record { there = λ x h. h; back = λ x h. h })));
  }

  yes_same : (r : Lit) → r.name < length trees → same (signed_of trees r) yes ≡ named.same r yes_name
  yes_same r low =
      let yes_is : signed_of trees yes_name ≡ yes = ap (λ (t : Tree). record { tree = t; positive = true }) net.yes in
      bool_same (same (signed_of trees r) yes) (named.same r yes_name)
      (λ e. (named_are_literals.same_is r yes_name).1 ((keeps trees net).one r yes_name low net.some (same_equal (signed_of trees r) yes e ∙ sym yes_is)))
      (λ e. (trees_are_literals.same_is (signed_of trees r) yes).1 (ap (signed_of trees) ((named_are_literals.same_is r yes_name).0 e) ∙ yes_is))

  pub roots_same : AreNamed (length trees) roots → (bits : List Lit) → ((l : Lit) → Contains bits l → l.name < length trees) → force_roots (all_signed_of trees roots) (map (signed_of trees) bits) ≡ has_roots named yes_name clauses roots bits
  roots_same roots_below bits own_bits =
      let gates : List (List Signed) = gate_formula (all_signed_of trees roots) in
      all_map (signed_of trees) (λ r. same r yes || in_closure signed_trees gates (map (signed_of trees) bits) r) (λ r. named.same r yes_name || in_closure named clauses bits r) roots
      (λ r at. (
      let low : r.name < length trees = All-contains (λ (x : Lit). x.name < length trees) roots r roots_below at in
      ap (λ b. b || in_closure signed_trees gates (map (signed_of trees) bits) (signed_of trees r)) (yes_same r low)
      ∙ ap (λ b. named.same r yes_name || b) (in_same named named_are_literals signed_trees trees_are_literals (signed_of trees) (λ x. x.name < length trees) (keeps trees net) clauses gates same_gates bits own_bits r low)))

  -- what stays fixed by names stays fixed by trees
  pub names_fixed : AreNamed (length trees) roots → (order : List Lit) → AreNamed (length trees) order →
      all_signed_of trees (fixed_from (has_roots named yes_name clauses roots) [] order) ≡ fixed_from (force_roots (all_signed_of trees roots)) [] (all_signed_of trees order)
  names_fixed roots_below order order_below =
      fixed_same (signed_of trees) (λ l. l.name < length trees) (has_roots named yes_name clauses roots) (force_roots (all_signed_of trees roots)) (roots_same roots_below)
      [] order (λ l none. absurd (no_element l none)) (λ l at. All-contains (λ (x : Lit). x.name < length trees) order l order_below at)

  -- the closure of the first bytes' own bits is no conflict
  pub names_calm : (first places : List ℕ) (order : List Lit) → AreNamed (length trees) order → all_signed_of trees order ≡ order_of first places →
      (bits : List Lit) → ((l : Lit) → Contains bits l → Contains order l) → is_conflict named clauses bits ≡ false
  names_calm first places order order_below in_order bits among =
      let gates : List (List Signed) = gate_formula (all_signed_of trees roots) in
      let P : List Signed → Signed → Type 0 = λ ls l. Contains ls l in
      let trues : (m : Signed) → Contains (map (signed_of trees) bits) m → value m first ≡ true = λ m at. (
      let one = map_contains_one (signed_of trees) bits m at in
      let there : Contains (all_signed_of trees order) (signed_of trees one.0) = map_contains (signed_of trees) order one.0 (among one.0 one.1) in
      let Q : List Signed → Type 0 = λ ls. Contains ls (signed_of trees one.0) in
      ap (λ (x : Signed). value x first) (sym one.2) ∙ own_true first places (signed_of trees one.0) (subst Q in_order there)) in
      sym (conflict_same named named_are_literals signed_trees trees_are_literals (signed_of trees) (λ x. x.name < length trees) (keeps trees net) clauses gates same_gates bits
      (λ l at. All-contains (λ (x : Lit). x.name < length trees) order l order_below (among l at)))
      ∙ is_calm signed_trees trees_are_literals gates (map (signed_of trees) bits) (λ (l, here, there).
      not_same (value l first)
      (model_closure signed_trees trees_are_literals gates (map (signed_of trees) bits) (λ a. value a first) (gates_model (all_signed_of trees roots) first) trues l here)
      (sym (value_not first l) ∙ model_closure signed_trees trees_are_literals gates (map (signed_of trees) bits) (λ a. value a first) (gates_model (all_signed_of trees roots) first) trues (opposite l) there))
