-- The gathered places and the dealt conditions are the finest division.
use Rattle.std.proofs.Common.{◌≡◌, ◌≢◌, ℕ, zero, suc, ◌<◌, ◌&&◌, List, [], ◌∷◌, Bool, true, false, cond, Option, Some, None, length, get_or, map, subst, refl, sym, ◌∙◌, ap, inl, inr, arith, ⊎_elim, nat_eq}
use Rattle.std.specs.Prelude.{All, Contains, ◌↔◌, filter, slice_index}
use Rattle.std.specs.List.{list_any, zip}
use Rattle.std.specs.Global.{Vec}
use Rattle.std.specs.Ordering.{nat_cmp}
use Rattle.std.specs.BTreeMap.{BTreeMap, get}
use Rattle.std.proofs.lemmas.Bool.{cases_eq, or_cases, or_left, or_right}
use Rattle.std.proofs.lemmas.Bool.Decides.{nat_tests}
use Rattle.std.proofs.lemmas.List.Elements.{Contains-get_or}
use Rattle.term_model.specs.Tree.{Tree}
use Rattle.term_model.specs.Places.{reads}
use Rattle.term_arena.specs.Trees.{tree_of}
use Rattle.group_model.specs.declared.Group.{Group}
use Rattle.group_model.specs.Conditions.{IsCondition}
use Rattle.group_model.specs.Group.{IsAscending}
use Rattle.group_model.specs.Division.{IsRead, IsGrouped, IsSteadyOn, AreGroups}
use Rattle.group_model.proofs.HoldLemmas.{one_truth, same_number}
use Rattle.reached_terms.specs.Reached.{AreReached}
use Rattle.byte_groups.specs.Joined.{IsLeaf}
use Rattle.byte_groups.specs.Labels.{IsSteadyAlong}
use Rattle.byte_groups.specs.Joined.{HasLeaf, ReadsUpTo, AreLabels}
use Rattle.byte_groups.specs.Gathered.{is_marked, number_at, lists_of}
use Rattle.byte_groups.specs.Dealt.{number_by, number_of, is_number}
use Rattle.byte_groups.specs.Grouped.{group_of, AreBuilt, AreGrouped}

-- ---- tests of lists

equal_number : (x y : ℕ) → x ≡ y → nat_eq x y ≡ true
equal_number x y e = grind (arith, nat_tests)

unequal_number : (x y : ℕ) → x ≢ y → nat_eq x y ≡ false
unequal_number x y ne = grind (arith, nat_tests)

-- a test that passes for an item passes for some
pub any_at : (test : ℕ → Bool) (xs : List ℕ) (x : ℕ) → Contains xs x → test x ≡ true → list_any test xs ≡ true
any_at test [] x (k, l, e) t = absurd (omega arith)
any_at test (y ∷ ys) x (zero, l, e) t = or_left (test y) (list_any test ys) (ap test e ∙ t)
any_at test (y ∷ ys) x (suc k, l, e) t = or_right (test y) (list_any test ys) (any_at test ys x (k, omega arith, e) t)

pub some_item : (test : ℕ → Bool) (xs : List ℕ) → list_any test xs ≡ true → (x : ℕ) × Contains xs x × (test x ≡ true)
some_item test [] e = absurd (cc)
some_item test (y ∷ ys) e = elim (or_cases (test y) (list_any test ys) e) [
  | inl t ↦ (y, (0, omega arith, refl), t)
  | inr r ↦ let s = some_item test ys r in (s.0, (suc s.1.0, omega (arith, s.1.1), s.1.2), s.2)
]

-- tests that agree on the items keep the same
pub filter_alike : (f g : ℕ → Bool) (xs : List ℕ) → ((x : ℕ) → Contains xs x → f x ≡ g x) → filter f xs ≡ filter g xs
filter_alike f g [] h = refl
filter_alike f g (x ∷ xs) h =
    let here : f x ≡ g x = h x (0, omega arith, refl) in
    let rest : filter f xs ≡ filter g xs = filter_alike f g xs (λ y (k, l, e). h y (suc k, omega arith, e)) in
    rw (here, rest) refl

-- what is kept is an item that passes
pub kept_item : (f : ℕ → Bool) (xs : List ℕ) (x : ℕ) → Contains xs x → f x ≡ true → Contains (filter f xs) x
kept_item f [] x (k, l, e) t = absurd (omega arith)
kept_item f (y ∷ ys) x (zero, l, e) t = let is : f y ≡ true = ap f e ∙ t in rw is (0, omega arith, e)
kept_item f (y ∷ ys) x (suc k, l, e) t = later (f y) (kept_item f ys x (k, omega arith, e) t)
  where
    later : (b : Bool) → Contains (filter f ys) x → Contains (cond b (y ∷ filter f ys) (filter f ys)) x
    later true (k, l, e) = (suc k, omega arith, e)
    later false h = h

-- ---- groups made of lists

built_long : (ps cs : List (Vec ℕ)) → length cs ≡ length ps → length (map group_of (zip ps cs)) ≡ length (lists_of ps)
built_long [] cs e = refl
built_long (p ∷ ps) [] e = absurd (omega arith)
built_long (p ∷ ps) (c ∷ cs) e = ap suc (built_long ps cs (omega arith))

built_places : (ps cs : List (Vec ℕ)) → length cs ≡ length ps → (q : ℕ) (d : Group) (e : List ℕ) → q < length (lists_of ps) → (get_or (map group_of (zip ps cs)) q d).places ≡ get_or (lists_of ps) q e
built_places [] cs f q d e l = absurd (omega arith)
built_places (p ∷ ps) [] f q d e l = absurd (omega arith)
built_places (p ∷ ps) (c ∷ cs) f zero d e l = refl
built_places (p ∷ ps) (c ∷ cs) f (suc q) d e l = built_places ps cs (omega arith) q d e (omega arith)

built_conditions : (ps cs : List (Vec ℕ)) → length cs ≡ length ps → (q : ℕ) (d : Group) (e : List ℕ) → q < length (lists_of ps) → (get_or (map group_of (zip ps cs)) q d).conditions ≡ get_or (lists_of cs) q e
built_conditions [] cs f q d e l = absurd (omega arith)
built_conditions (p ∷ ps) [] f q d e l = absurd (omega arith)
built_conditions (p ∷ ps) (c ∷ cs) f zero d e l = refl
built_conditions (p ∷ ps) (c ∷ cs) f (suc q) d e l = built_conditions ps cs (omega arith) q d e (omega arith)

-- groups made of as many lists of places as of conditions
pub built_of : (ps cs : List (Vec ℕ)) (groups : List Group) → length cs ≡ length ps → groups ≡ map group_of (zip ps cs) → AreBuilt (lists_of ps) (lists_of cs) groups
built_of ps cs groups e is = rw is (record { long = built_long ps cs e; places_of = built_places ps cs e; conditions_of = built_conditions ps cs e })

-- ---- the finest division

module _ (trees : List Tree) (conditions terms : List ℕ) (leaves : BTreeMap ℕ ℕ) (width : ℕ) (labels : List ℕ) (marks : List Bool) (groups : List Group)
    (are : All (IsCondition trees) conditions) (reached : AreReached trees conditions terms) (leaf : (t : ℕ) → Contains terms t → HasLeaf trees leaves t) (above : (t : ℕ) → Contains terms t → ReadsUpTo trees width t)
    (labelled : AreLabels trees terms width labels) (marked : (i : ℕ) → (is_marked marks i ≡ true) ↔ ((t : ℕ) × Contains terms t × (reads (tree_of trees t) i ≡ true))) (grouped : AreGrouped labels marks leaves conditions groups) where
  label : ℕ → ℕ
  label = slice_index labels

  -- places that a term reads have one label
  same_label : (t : ℕ) → Contains terms t → (i j : ℕ) → reads (tree_of trees t) i ≡ true → reads (tree_of trees t) j ≡ true → slice_index labels i ≡ slice_index labels j
  same_label t h i j r s =
      let side : ℕ → Bool = λ p. nat_eq (slice_index labels p) (slice_index labels i) in
      let along : IsSteadyAlong side labels = λ k l. ap (λ x. nat_eq x (slice_index labels i)) (sym (labelled.flat k l)) in
      let e : side i ≡ side j = labelled.whole side along t h i j r s in
      sym (same_number (slice_index labels j) (slice_index labels i) (sym e ∙ equal_number (slice_index labels i) (slice_index labels i) refl))

  is_read : (t : ℕ) → Contains terms t → (i : ℕ) → reads (tree_of trees t) i ≡ true → (i < length labels) × (is_marked marks i ≡ true)
  is_read t h i r = (let b : i < width = above t h i r in let e : length labels ≡ width = labelled.long in omega arith, (marked i).1 (t, h, r))

  -- the leaf of a term that reads a place
  leaf_case : (t i : ℕ) → reads (tree_of trees t) i ≡ true → (r : Option ℕ) → IsLeaf (tree_of trees t) r → (x : ℕ) × (r ≡ Some x) × (reads (tree_of trees t) x ≡ true)
  leaf_case t i r (Some x) h = (x, refl, h)
  leaf_case t i r None h = let f : reads (tree_of trees t) i ≡ false = h i in absurd (cc)

  place_of : (t : ℕ) → Contains conditions t → (i : ℕ) × (reads (tree_of trees t) i ≡ true)
  place_of t (k, l, e) =
      let P : ℕ → Type 0 = λ u. (i : ℕ) × (reads (tree_of trees u) i ≡ true) in
      let is : IsCondition trees (get_or conditions k t) = are k t l in
      subst P e (is.place, is.read)

  -- the number of the group of a condition
  pub condition_number : (t : ℕ) → Contains conditions t → (q : ℕ) × (q < length grouped.places) × ((i : ℕ) → reads (tree_of trees t) i ≡ true → number_at grouped.numbers (slice_index labels i) ≡ Some q) × (number_of labels grouped.numbers leaves t ≡ Some q)
  condition_number t h =
      let in' : Contains terms t = reached.starts t h in
      let place = place_of t h in
      let found = leaf_case t place.0 place.1 (get nat_cmp leaves t) (leaf t in') in
      let here = is_read t in' found.0 found.2 in
      let put = grouped.gathered.placed found.0 here.0 here.1 in
      (put.0, put.1, (λ i r. ap (number_at grouped.numbers) (same_label t in' i found.0 r found.2) ∙ put.2), ap (number_by labels grouped.numbers) found.1 ∙ put.2)

  -- a place that a term reads is in the list of its number
  in_list : (t : ℕ) → Contains terms t → (i q : ℕ) (d : List ℕ) → reads (tree_of trees t) i ≡ true → q < length grouped.places → number_at grouped.numbers (slice_index labels i) ≡ Some q → Contains (get_or grouped.places q d) i
  in_list t h i q d r l e = let here = is_read t h i r in (grouped.gathered.holds q d l i).1 (here.0, here.1, e)

  -- a condition has the number of a group exactly where it reads one of its places
  is_in : (q : ℕ) (d : List ℕ) → q < length grouped.places → (t : ℕ) → Contains conditions t → is_number q (number_of labels grouped.numbers leaves t) ≡ list_any (reads (tree_of trees t)) (get_or grouped.places q d)
  is_in q d l t h =
      let own = condition_number t h in
      let place = place_of t h in
      one_truth (is_number q (number_of labels grouped.numbers leaves t)) (list_any (reads (tree_of trees t)) (get_or grouped.places q d))
      (λ is.
      let same : own.0 ≡ q = same_number own.0 q (ap (is_number q) (sym own.3) ∙ is) in
      any_at (reads (tree_of trees t)) (get_or grouped.places q d) place.0 (in_list t (reached.starts t h) place.0 q d place.1 l (own.2 place.0 place.1 ∙ ap Some same)) place.1)
      (λ any.
      let found = some_item (reads (tree_of trees t)) (get_or grouped.places q d) any in
      let e : number_at grouped.numbers (slice_index labels found.0) ≡ Some q = ((grouped.gathered.holds q d l found.0).0 found.1).2 in
      let f : number_at grouped.numbers (slice_index labels found.0) ≡ Some own.0 = own.2 found.0 found.2 in
      let same : own.0 ≡ q = cc in
      ap (is_number q) own.3 ∙ equal_number own.0 q same)

  none : Group
  none = record { places = []; conditions = [] }

  within : (q : ℕ) → q < length groups → q < length grouped.places
  within q l = omega (arith, l, grouped.built.long)

  -- a place of a group
  listed : (q : ℕ) (d : Group) → q < length groups → (i : ℕ) → Contains (get_or groups q d).places i → (is_marked marks i ≡ true) × (number_at grouped.numbers (slice_index labels i) ≡ Some q)
  listed q d l i h =
      let P : List ℕ → Type 0 = λ ps. Contains ps i in
      let f = (grouped.gathered.holds q [] (within q l) i).0 (subst P (grouped.built.places_of q d [] (within q l)) h) in
      (f.1, f.2)

  -- a group of a number
  group_has : (q i : ℕ) → q < length grouped.places → Contains (get_or grouped.places q []) i → Contains (get_or groups q (record { places = []; conditions = [] })).places i
  group_has q i l h = let P : List ℕ → Type 0 = λ ps. Contains ps i in subst P (sym (grouped.built.places_of q (record { places = []; conditions = [] }) [] l)) h

  group_at : (q : ℕ) → q < length grouped.places → Contains groups (get_or groups q (record { places = []; conditions = [] }))
  group_at q l = Contains-get_or groups q (record { places = []; conditions = [] }) (omega (arith, l, grouped.built.long))

  read_by_condition : (i : ℕ) → is_marked marks i ≡ true → IsRead trees conditions i
  read_by_condition i m =
      let t = (marked i).0 m in
      let top = reached.under t.0 t.1 in
      (top.0, top.1, top.2 i t.2)

  places_are : (i : ℕ) → IsRead trees conditions i ↔ IsGrouped groups i
  places_are i = (
    λ (t, h, r).
        let in' : Contains terms t = reached.starts t h in
        let own = condition_number t h in
        (get_or groups own.0 (record { places = []; conditions = [] }), group_at own.0 own.1, group_has own.0 i own.1 (in_list t in' i own.0 [] r own.1 (own.2 i r))),
    λ (g, (q, l, e), h).
        let P : Group → Type 0 = λ x. Contains x.places i in
        read_by_condition i (listed q g l i (subst P (sym e) h)).0,
  )

  -- a condition that reads a place of a group is a condition of the group
  own_condition : (q : ℕ) (d : Group) → q < length groups → (t i : ℕ) → Contains conditions t → reads (tree_of trees t) i ≡ true → number_at grouped.numbers (slice_index labels i) ≡ Some q → Contains (get_or groups q d).conditions t
  own_condition q d l t i h r e =
      let own = condition_number t h in
      let other : number_at grouped.numbers (slice_index labels i) ≡ Some own.0 = own.2 i r in
      let same : own.0 ≡ q = cc in
      let P : List ℕ → Type 0 = λ ts. Contains ts t in
      subst P (sym (grouped.built.conditions_of q d [] (within q l) ∙ grouped.dealt.each q [] (within q l)))
      (kept_item (λ u. is_number q (number_of labels grouped.numbers leaves u)) conditions t h (ap (is_number q) own.3 ∙ equal_number own.0 q same))

  module _ (q : ℕ) (d : Group) (l : q < length groups) (side : ℕ → Bool) (steady : All (λ t. IsSteadyOn side (tree_of trees t)) (get_or groups q d).conditions) (a : ℕ) (in_a : Contains (get_or groups q d).places a) where
    -- the test on places with the label of a, and false elsewhere
    masked : ℕ → Bool
    masked p = nat_eq (slice_index labels p) (slice_index labels a) && side p

    masked_in : (p : ℕ) → slice_index labels p ≡ slice_index labels a → (nat_eq (slice_index labels p) (slice_index labels a) && side p) ≡ side p
    masked_in p e = ap (λ b. b && side p) (equal_number (slice_index labels p) (slice_index labels a) e)

    masked_out : (p : ℕ) → slice_index labels p ≢ slice_index labels a → (nat_eq (slice_index labels p) (slice_index labels a) && side p) ≡ false
    masked_out p ne = ap (λ b. b && side p) (unequal_number (slice_index labels p) (slice_index labels a) ne)

    -- a condition of the group is steady
    steady_on : (t i j : ℕ) → Contains terms t → reads (tree_of trees t) i ≡ true → reads (tree_of trees t) j ≡ true → slice_index labels i ≡ slice_index labels a → side i ≡ side j
    steady_on t i j h r s e =
        let top = reached.under t h in
        let number : number_at grouped.numbers (slice_index labels i) ≡ Some q = ap (number_at grouped.numbers) e ∙ (listed q d l a in_a).1 in
        let own = own_condition q d l top.0 i top.1 (top.2 i r) number in
        let P : ℕ → Type 0 = λ u. IsSteadyOn side (tree_of trees u) in
        let on : IsSteadyOn side (tree_of trees top.0) = subst P own.2 (steady own.0 top.0 own.1) in
        on i j (top.2 i r) (top.2 j s)

    masked_steady : (t : ℕ) → Contains terms t → IsSteadyOn (λ p. nat_eq (slice_index labels p) (slice_index labels a) && side p) (tree_of trees t)
    masked_steady t h i j r s =
        let one : slice_index labels i ≡ slice_index labels j = same_label t h i j r s in
        ⊎_elim
        (λ (e : slice_index labels i ≡ slice_index labels a). masked_in i e ∙ (steady_on t i j h r s e ∙ sym (masked_in j (sym one ∙ e))))
        (λ (ne : slice_index labels i ≢ slice_index labels a). masked_out i ne ∙ sym (masked_out j (λ f. ne (one ∙ f))))
        (cases_eq (slice_index labels i) (slice_index labels a))

    uncut_at : (b : ℕ) → Contains (get_or groups q d).places b → side a ≡ side b
    uncut_at b in_b =
        let test : ℕ → Bool = λ p. nat_eq (slice_index labels p) (slice_index labels a) && side p in
        let along : IsSteadyAlong test labels = labelled.uncut test masked_steady in
        let at_a = listed q d l a in_a in
        let at_b = listed q d l b in_b in
        let same : slice_index labels a ≡ slice_index labels b = grouped.gathered.one (slice_index labels a) (slice_index labels b) q at_a.1 at_b.1 in
        let t_a = (marked a).0 at_a.0 in
        let t_b = (marked b).0 at_b.0 in
        let read_a = is_read t_a.0 t_a.1 a t_a.2 in
        let read_b = is_read t_b.0 t_b.1 b t_b.2 in
        sym (masked_in a refl) ∙ (along a read_a.0 ∙ (ap test same ∙ (sym (along b read_b.0) ∙ masked_in b (sym same))))

  pub are_groups : AreGroups trees conditions groups
  are_groups = record {
    places = places_are;
    ascending = λ q d l. let P : List ℕ → Type 0 = IsAscending in subst P (sym (grouped.built.places_of q d [] (within q l))) (grouped.gathered.ascending q [] (within q l));
    filled = λ q d l. let P : List ℕ → Type 0 = λ ps. 0 < length ps in subst P (sym (grouped.built.places_of q d [] (within q l))) (grouped.gathered.filled q [] (within q l));
    apart = λ p q d l h i in_p in_q.
        let e = listed p d (omega arith) i in_p in
        let f = listed q d h i in_q in
        let one : number_at grouped.numbers (slice_index labels i) ≡ Some p = e.1 in
        let other : number_at grouped.numbers (slice_index labels i) ≡ Some q = f.1 in
        let same : p ≡ q = cc in
        omega arith;
    in_order = λ p q d l h.
        let e : (get_or groups p d).places ≡ get_or grouped.places p [] = grouped.built.places_of p d [] (within p (omega arith)) in
        let f : (get_or groups q d).places ≡ get_or grouped.places q [] = grouped.built.places_of q d [] (within q h) in
        let first : slice_index (get_or groups p d).places 0 ≡ slice_index (get_or grouped.places p []) 0 = ap (λ ps. slice_index ps 0) e in
        let second : slice_index (get_or groups q d).places 0 ≡ slice_index (get_or grouped.places q []) 0 = ap (λ ps. slice_index ps 0) f in
        let less : slice_index (get_or grouped.places p []) 0 < slice_index (get_or grouped.places q []) 0 = grouped.gathered.in_order p q [] l (within q h) in
        omega (arith, first, second, less);
    whole = λ t h.
        let own = condition_number t h in
        (get_or groups own.0 (record { places = []; conditions = [] }), group_at own.0 own.1, λ i r. group_has own.0 i own.1 (in_list t (reached.starts t h) i own.0 [] r own.1 (own.2 i r)));
    conditions = λ q d l.
        grouped.built.conditions_of q d [] (within q l)
        ∙ (grouped.dealt.each q [] (within q l)
        ∙ (filter_alike (λ t. is_number q (number_of labels grouped.numbers leaves t)) (λ t. list_any (reads (tree_of trees t)) (get_or grouped.places q [])) conditions (is_in q [] (within q l))
        ∙ ap (λ ps. filter (λ t. list_any (reads (tree_of trees t)) ps) conditions) (sym (grouped.built.places_of q d [] (within q l)))));
    uncut = λ q d l side steady a b in_a in_b. uncut_at q d l side steady a in_a b in_b;
  }
