-- The groups of a finest division are those that follow from the conditions alone.
use Rattle.std.proofs.Common.{◌≡◌, ◌∙◌, ℕ, zero, suc, ◌+◌, ◌<◌, ◌≤◌, Bool, true, List, [], length, get_or, map, sym, ap, subst, arith}
use Rattle.std.specs.Prelude.{All, AllPairs, Contains, filter, nat_eq, nat_lt, slice_index}
use Rattle.std.specs.List.{list_any, range_with_len}
use Rattle.std.proofs.lemmas.List.{get_or_default, get_or-map, length-map}
use Rattle.std.proofs.lemmas.List.Elements.{All-contains}
use Rattle.std.proofs.lemmas.List.FromFn.{length-range_with_len, get_or-range_with_len}
use Rattle.std.proofs.lemmas.List.Kept.{AllPairs-filter}
use Rattle.std.proofs.lemmas.Bool.{and_parts, and_from}
use Rattle.term_model.specs.Tree.{Tree}
use Rattle.term_model.specs.Places.{reads, ReadsBelow}
use Rattle.term_model.proofs.PlaceLemmas.{reads_are_below}
use Rattle.term_arena.specs.Trees.{tree_of, trees_of}
use Rattle.group_model.specs.declared.Group.{Group}
use Rattle.group_model.specs.Group.{IsAscending, is_among}
use Rattle.group_model.specs.Division.{IsRead, IsSteadyOn, IsGrouped, AreGroups}
use Rattle.group_model.proofs.HoldLemmas.{found_among, among_found, same_number, one_truth}
use Rattle.group_laws.specs.Groups.{first_of, group_with, begins_group, groups_of, has_wide_group}
use Rattle.group_laws.proofs.Lists.{any_here, any_found, Found, kept_is_item, kept_passes, item_is_kept, same_lists, contains_map, map_item, map_alike, map_twice, any_map}
use Rattle.group_laws.proofs.Firsts.{itself, in_range, below_end, first_is_low, first_is_first, read_together, side_of_first, first_of_unread}
use Rattle.group_laws.proofs.Groups.{reads_within, condition_of, places_ascend, group_is_filled, group_is_uncut, place_is_below, place_is_read, contains_at}

-- ---- lists of numbers

-- a range ascends
pub range_ascends : (n : ℕ) → IsAscending (range_with_len 0 n)
range_ascends n i j d less inside =
    let l : j < n = rw (length-range_with_len 0 n) at inside in
    let a : get_or (range_with_len 0 n) i d ≡ 0 + i = get_or-range_with_len 0 n i d (omega arith) in
    let b : get_or (range_with_len 0 n) j d ≡ 0 + j = get_or-range_with_len 0 n j d l in
    omega (arith, a, b)

-- the first item of a list that ascends is the least
pub first_is_least : (places : List ℕ) → IsAscending places → (i : ℕ) → Contains places i → slice_index places 0 ≤ i
first_is_least places up i (zero, l, e) = let same : get_or places 0 i ≡ slice_index places 0 = get_or_default places 0 i 0 l in omega (arith, e)
first_is_least places up i (suc k, l, e) =
    let less : get_or places 0 i < get_or places (suc k) i = up 0 (suc k) i (omega arith) l in
    let same : get_or places 0 i ≡ slice_index places 0 = get_or_default places 0 i 0 (omega arith) in
    omega (arith, e)

-- ---- conditions as trees

-- the tree of a condition
pub tree_is_there : (trees : List Tree) (terms : List ℕ) (t : ℕ) → Contains terms t → Contains (trees_of trees terms) (tree_of trees t)
tree_is_there trees terms t c = contains_map (tree_of trees) terms t c

-- a place is read by the trees where it is by the conditions
pub read_by_trees : (trees : List Tree) (terms : List ℕ) (i : ℕ) → IsRead trees terms i → list_any (λ t. reads t i) (trees_of trees terms) ≡ true
read_by_trees trees terms i r = any_here (λ t. reads t i) (trees_of trees terms) (tree_of trees r.0) (tree_is_there trees terms r.0 r.1) r.2

pub read_by_terms : (trees : List Tree) (terms : List ℕ) (i : ℕ) → list_any (λ t. reads t i) (trees_of trees terms) ≡ true → IsRead trees terms i
read_by_terms trees terms i e =
    let f : Found (λ t. reads t i) (trees_of trees terms) = any_found (λ t. reads t i) (trees_of trees terms) e in
    let t = map_item (tree_of trees) terms f.item f.inside in
    (t.0, t.1, ap (λ u. reads u i) t.2 ∙ f.passes)

-- ---- groups

module _ (trees : List Tree) (terms : List ℕ) (groups : List Group) (are : AreGroups trees terms groups) (n : ℕ) where
  -- a place that no group has is the first of its own
  pub first_of_free : (i : ℕ) → i < n → (IsGrouped groups i → ⊥) → first_of (trees_of trees terms) n i ≡ i
  first_of_free i l none = first_of_unread (trees_of trees terms) n i l (λ t c r. none ((are.places i).0 (read_by_terms trees terms i (any_here (λ u. reads u i) (trees_of trees terms) t c r))))

  module _ (below : All (λ t. ReadsBelow n (tree_of trees t)) terms) where
    read_below : (t i : ℕ) → Contains terms t → reads (tree_of trees t) i ≡ true → i < n
    read_below t i c r = reads_are_below n (tree_of trees t) (All-contains (λ t. ReadsBelow n (tree_of trees t)) terms t below c) i r

    -- the places of a group have one first place
    one_first : (g : Group) → Contains groups g → (a b : ℕ) → Contains g.places a → Contains g.places b → first_of (trees_of trees terms) n a ≡ first_of (trees_of trees terms) n b
    one_first g cg a b ca cb =
        let first : ℕ → ℕ = first_of (trees_of trees terms) n in
        let same : nat_eq (first a) (first b) ≡ nat_eq (first b) (first b) = group_is_uncut trees terms groups are g cg (λ k. nat_eq (first k) (first b)) (λ t c x y r s.
        let inside : Contains terms t = condition_of trees terms groups are g cg t c in
        ap (λ k. nat_eq k (first b)) (read_together (trees_of trees terms) n (tree_of trees t) x y (tree_is_there trees terms t inside) r s (read_below t x inside r) (read_below t y inside s))) a b ca cb in
        same_number (first a) (first b) (same ∙ itself (first b))

    -- a place with the first place of a group is of the group
    with_one_first : (g : Group) → Contains groups g → (a b : ℕ) → a < n → b < n → Contains g.places a → first_of (trees_of trees terms) n a ≡ first_of (trees_of trees terms) n b → Contains g.places b
    with_one_first g cg a b la lb ca e =
        let side : ℕ → Bool = is_among g.places in
        let steady : (t : Tree) → Contains (trees_of trees terms) t → IsSteadyOn side t = λ t c x y r s.
        let u = map_item (tree_of trees) terms t c in
        let here : reads (tree_of trees u.0) x ≡ true = ap (λ v. reads v x) u.2 ∙ r in
        let there : reads (tree_of trees u.0) y ≡ true = ap (λ v. reads v y) u.2 ∙ s in
        one_truth (side x) (side y)
        (λ q. found_among g.places y (reads_within trees terms groups are g cg u.0 u.1 x here (among_found g.places x q) y there))
        (λ q. found_among g.places x (reads_within trees terms groups are g cg u.0 u.1 y there (among_found g.places y q) x here)) in
        let to_first : (k : ℕ) → k < n → side k ≡ side (first_of (trees_of trees terms) n k) = side_of_first (trees_of trees terms) n side steady in
        among_found g.places b (to_first b lb ∙ (ap side (sym e) ∙ (sym (to_first a la) ∙ found_among g.places a ca)))

    -- the first place of each place of a group is the group's first
    pub first_of_group : (g : Group) → Contains groups g → (a : ℕ) → Contains g.places a → first_of (trees_of trees terms) n a ≡ slice_index g.places 0
    first_of_group g cg a ca =
        let cs : List Tree = trees_of trees terms in
        let first : ℕ = first_of cs n a in
        let least : ℕ = slice_index g.places 0 in
        let la : a < n = place_is_below trees terms groups are n below g cg a ca in
        let low : first ≤ a = first_is_low cs n a la in
        let inside : Contains g.places first = with_one_first g cg a first la (omega arith) ca (sym (first_is_first cs n a la)) in
        let one : least ≤ first = first_is_least g.places (places_ascend trees terms groups are g cg) first inside in
        let c_least : Contains g.places least = contains_at g.places 0 (group_is_filled trees terms groups are g cg) in
        let same : first_of cs n least ≡ first = one_first g cg least a c_least ca in
        let two : first_of cs n least ≤ least = first_is_low cs n least (place_is_below trees terms groups are n below g cg least c_least) in
        omega arith

    -- the places of a group are those with its first place
    pub group_is : (g : Group) → Contains groups g → group_with (trees_of trees terms) n (slice_index g.places 0) ≡ g.places
    group_is g cg =
        let cs : List Tree = trees_of trees terms in
        let least : ℕ = slice_index g.places 0 in
        let c_least : Contains g.places least = contains_at g.places 0 (group_is_filled trees terms groups are g cg) in
        let l_least : least < n = place_is_below trees terms groups are n below g cg least c_least in
        let test : ℕ → Bool = λ j. nat_eq (first_of cs n j) (first_of cs n least) in
        same_lists (λ k. k) (group_with cs n least) g.places
        (AllPairs-filter (λ a b. a < b) test (range_with_len 0 n) (range_ascends n))
        (places_ascend trees terms groups are g cg)
        (λ x c. with_one_first g cg least x l_least (below_end n x (kept_is_item test (range_with_len 0 n) x c)) c_least (sym (same_number (first_of cs n x) (first_of cs n least) (kept_passes test (range_with_len 0 n) x c))))
        (λ x c. item_is_kept test (range_with_len 0 n) x (in_range n x (place_is_below trees terms groups are n below g cg x c))
        (ap (λ k. nat_eq k (first_of cs n least)) (one_first g cg x least c c_least) ∙ itself (first_of cs n least)))

    -- the groups begin at their first places
    firsts_are : filter (begins_group (trees_of trees terms) n) (range_with_len 0 n) ≡ map (λ g. slice_index g.places 0) groups
    firsts_are =
        let cs : List Tree = trees_of trees terms in
        let test : ℕ → Bool = begins_group cs n in
        let begin : Group → ℕ = λ g. slice_index g.places 0 in
        same_lists (λ k. k) (filter test (range_with_len 0 n)) (map begin groups)
        (AllPairs-filter (λ a b. a < b) test (range_with_len 0 n) (range_ascends n))
        (ascending_map begin groups are.in_order)
        (λ x c.
        let parts : (list_any (λ t. reads t x) cs ≡ true) × (nat_eq (first_of cs n x) x ≡ true) = and_parts (list_any (λ t. reads t x) cs) (nat_eq (first_of cs n x) x) (kept_passes test (range_with_len 0 n) x c) in
        let home : IsGrouped groups x = (are.places x).0 (read_by_terms trees terms x parts.0) in
        let same : slice_index home.0.places 0 ≡ x = sym (first_of_group home.0 home.1 x home.2) ∙ same_number (first_of cs n x) x parts.1 in
        let P : ℕ → Type 0 = Contains (map begin groups) in
        subst P same (contains_map begin groups home.0 home.1))
        (λ x c.
        let g = map_item begin groups x c in
        let c_least : Contains g.0.places (begin g.0) = contains_at g.0.places 0 (group_is_filled trees terms groups are g.0 g.1) in
        let P : ℕ → Type 0 = Contains (filter test (range_with_len 0 n)) in
        subst P g.2 (item_is_kept test (range_with_len 0 n) (begin g.0) (in_range n (begin g.0) (place_is_below trees terms groups are n below g.0 g.1 (begin g.0) c_least))
        (and_from (list_any (λ t. reads t (begin g.0)) cs) (nat_eq (first_of cs n (begin g.0)) (begin g.0))
        (read_by_trees trees terms (begin g.0) (place_is_read trees terms groups are g.0 g.1 (begin g.0) c_least))
        (ap (λ k. nat_eq k (begin g.0)) (first_of_group g.0 g.1 (begin g.0) c_least) ∙ itself (begin g.0)))))
      where
        ascending_map : (f : Group → ℕ) (gs : List Group) → AllPairs (λ g h. f g < f h) gs → IsAscending (map f gs)
        ascending_map f gs up i j d less inside =
            let l : j < length gs = rw (length-map gs f) at inside in
            let any : Group = record { places = []; conditions = [] } in
            let a : get_or (map f gs) i d ≡ f (get_or gs i any) = get_or-map f gs i any d (omega arith) in
            let b : get_or (map f gs) j d ≡ f (get_or gs j any) = get_or-map f gs j any d l in
            let c : f (get_or gs i any) < f (get_or gs j any) = up i j any less l in
            omega (arith, a, b)

    -- the groups' places are those of the groups by conditions
    pub groups_are : groups_of (trees_of trees terms) n ≡ map (λ g. g.places) groups
    unfolding groups_of
    groups_are =
        let cs : List Tree = trees_of trees terms in
        let begin : Group → ℕ = λ g. slice_index g.places 0 in
        ap (map (group_with cs n)) firsts_are
        ∙ (map_twice begin (group_with cs n) groups ∙ map_alike (λ g. group_with cs n (begin g)) (λ g. g.places) groups group_is)

    -- so some group has more than two places by the one where by the other
    pub wide_are : has_wide_group (trees_of trees terms) n ≡ list_any (λ g. nat_lt 2 (length g.places)) groups
    wide_are = ap (list_any (λ places. nat_lt 2 (length places))) groups_are ∙ any_map (λ places. nat_lt 2 (length places)) (λ (g : Group). g.places) groups
