-- Sets that are found group by group are those of the conditions.
use Rattle.std.proofs.Common.{◌≡◌, ℕ, ◌<◌, inl, inr, Bool, true, false, cond, List, [], ◌∷◌, length, map, refl, sym, ◌∙◌, ap, subst}
use Rattle.std.specs.Prelude.{All, Contains, filter, nat_eq, nat_lt, slice_index}
use Rattle.std.specs.List.{list_any, range_with_len}
use Rattle.std.proofs.lemmas.List.{ext_get_or}
use Rattle.std.proofs.lemmas.List.Elements.{All-contains}
use Rattle.std.proofs.lemmas.Bool.{false_from_ne_true}
use Rattle.term_model.specs.Tree.{Tree}
use Rattle.term_model.specs.Places.{reads, ReadsBelow}
use Rattle.term_arena.specs.Trees.{tree_of, trees_of}
use Rattle.input_laws.specs.Sets.{set_at}
use Rattle.group_model.specs.declared.Group.{Group}
use Rattle.group_model.specs.Division.{IsGrouped, AreGroups}
use Rattle.group_laws.specs.Groups.{first_of}
use Rattle.group_laws.proofs.Groups.{conditions_are, group_is_filled, place_is_read, contains_at}
use Rattle.group_laws.proofs.Division.{first_of_group, group_is, read_by_trees, read_by_terms}
use Rattle.group_laws.proofs.Stays.{grouped_or_not}
use Rattle.set_laws.specs.Sets.{group_at, conditions_on, values_in, values_of, sets_from}
use Rattle.set_laws.specs.Found.{HasValues}
use Rattle.set_laws.proofs.GroupAt.{is_read, when_read}
use Rattle.set_laws.proofs.Choices.{length_sets, set_is, values_are, value_unread}

-- what is kept of what a function makes of all items
pub kept_map : {X Y : Type 0} (p : Y → Bool) (f : X → Y) (xs : List X) → filter p (map f xs) ≡ map f (filter (λ x. p (f x)) xs)
kept_map p f [] = refl
kept_map p f (x ∷ xs) = by (p (f x)) (kept_map p f xs)
  where
    by : (b : Bool) → filter p (map f xs) ≡ map f (filter (λ x. p (f x)) xs) → cond b (f x ∷ filter p (map f xs)) (filter p (map f xs)) ≡ map f (cond b (x ∷ filter (λ x. p (f x)) xs) (filter (λ x. p (f x)) xs))
    by true e = ap (λ ys. f x ∷ ys) e
    by false e = e

module _ (trees : List Tree) (terms : List ℕ) (groups : List Group) (are : AreGroups trees terms groups) where
  -- a group's conditions are those that read its places
  pub conditions_on_are : (g : Group) → Contains groups g → conditions_on (trees_of trees terms) g.places ≡ trees_of trees g.conditions
  conditions_on_are g cg = kept_map (λ t. list_any (reads t) g.places) (tree_of trees) terms ∙ ap (map (tree_of trees)) (sym (conditions_are trees terms groups are g cg))

  module _ (n : ℕ) (below : All (λ t. ReadsBelow n (tree_of trees t)) terms) where
    -- the group that has a place
    pub group_at_is : (g : Group) → Contains groups g → (i : ℕ) → Contains g.places i → group_at (trees_of trees terms) n i ≡ g.places
    group_at_is g cg i ci =
        let cs : List Tree = trees_of trees terms in
        let least : ℕ = slice_index g.places 0 in
        let c_least : Contains g.places (slice_index g.places 0) = contains_at g.places 0 (group_is_filled trees terms groups are g cg) in
        let read : is_read (trees_of trees terms) n i ≡ true = read_by_trees trees terms i (place_is_read trees terms groups are g cg i ci) in
        let one : first_of (trees_of trees terms) n i ≡ first_of (trees_of trees terms) n (slice_index g.places 0) =
        first_of_group trees terms groups are n below g cg i ci ∙ sym (first_of_group trees terms groups are n below g cg (slice_index g.places 0) c_least) in
        when_read (trees_of trees terms) n i read
        ∙ (ap (λ f. filter (λ k. nat_eq (first_of (trees_of trees terms) n k) f) (range_with_len 0 n)) one ∙ group_is trees terms groups are n below g cg)

  module _ (first : List ℕ) (below : All (λ t. ReadsBelow (length first) (tree_of trees t)) terms) where
    pub value_grouped : (g : Group) → Contains groups g → (i : ℕ) → Contains g.places i → values_of (trees_of trees terms) first i ≡ values_in (trees_of trees g.conditions) g.places first i
    value_grouped g cg i ci =
        values_are (trees_of trees terms) first i g.places (group_at_is (length first) below g cg i ci)
        ∙ ap (λ cs. values_in cs g.places first i) (conditions_on_are g cg)

    pub value_free : (i : ℕ) → (IsGrouped groups i → ⊥) → values_of (trees_of trees terms) first i ≡ (λ v. nat_lt v 256)
    value_free i none =
        value_unread (trees_of trees terms) first i (false_from_ne_true (is_read (trees_of trees terms) (length first) i) (λ r. none ((are.places i).0 (read_by_terms trees terms i r))))

    pub sets_are : (sets : List (ℕ → Bool)) → length sets ≡ length first → ((i : ℕ) → i < length first → (IsGrouped groups i → ⊥) → set_at sets i ≡ (λ v. nat_lt v 256)) → All (HasValues trees first sets) groups → sets ≡ sets_from (trees_of trees terms) first
    sets_are sets long free has = ext_get_or (λ _. false) sets (sets_from (trees_of trees terms) first) (long ∙ sym (length_sets (trees_of trees terms) first)) (λ i l.
        let here : i < length first = rw long at l in
        elim (grouped_or_not groups i) [
          | inl w ↦ All-contains (HasValues trees first sets) groups w.0 has w.1 i w.2 ∙ sym (value_grouped w.0 w.1 i w.2)
          | inr none ↦ free i here none ∙ sym (value_free i none)
        ]
        ∙ sym (set_is (trees_of trees terms) first i (λ _. false) here))

-- the same, for a first input of a stated length
pub sets_found : (trees : List Tree) (terms : List ℕ) (groups : List Group) (n : ℕ) (first : List ℕ) (sets : List (ℕ → Bool)) → AreGroups trees terms groups → All (λ t. ReadsBelow n (tree_of trees t)) terms → length first ≡ n → length sets ≡ n → ((i : ℕ) → i < n → (IsGrouped groups i → ⊥) → set_at sets i ≡ (λ v. nat_lt v 256)) → All (HasValues trees first sets) groups → sets ≡ sets_from (trees_of trees terms) first
sets_found trees terms groups n first sets are below long sets_long free has =
    sets_are trees terms groups are first (subst (λ k. All (λ t. ReadsBelow k (tree_of trees t)) terms) (sym long) below) sets (sets_long ∙ sym long)
    (λ i l. free i (rw long at l)) has
