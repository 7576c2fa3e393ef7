-- An input and sets that are filled in group by group are the report's.
use Rattle.std.proofs.Common.{◌≡◌, ◌∙◌, ◌+◌, ◌<◌, ◌≤◌, ◌^◌, inl, inr, ℕ, Bool, not, List, [], ◌∷◌, length, map, Some, refl, sym, ap, subst, arith}
use Rattle.std.specs.Prelude.{filter, find, All, Contains, option_map, sum_by, unwrap_or}
use Rattle.std.specs.List.{range_with_len}
use Rattle.std.proofs.lemmas.List.{length-map}
use Rattle.std.proofs.lemmas.List.Filters.{length-filter_both}
use Rattle.std.proofs.lemmas.List.FromFn.{length-range_with_len}
use Rattle.std.proofs.lemmas.List.Elements.{All-nil, All-cons, All-head, All-tail}
use Rattle.elf32.specs.Loads.{Program}
use Rattle.rv_event.specs.declared.transcript.Transcript.{Transcript}
use Rattle.rv_machine.specs.Class.{in_class}
use Rattle.term_model.specs.Tree.{Tree}
use Rattle.term_model.specs.Places.{ReadsBelow}
use Rattle.term_model.specs.Conditions.{Hold}
use Rattle.term_model.proofs.ByteLemmas.{bytes_everywhere}
use Rattle.term_arena.specs.Trees.{tree_of, trees_of}
use Rattle.replay_law.specs.Crash.{IsProgram, IsCrash, IsProper, AreProper}
use Rattle.trace_conditions.specs.Conditions.{conditions_of}
use Rattle.input_laws.specs.Inputs.{IsInput}
use Rattle.input_laws.specs.Order.{IsFirst, first}
use Rattle.input_laws.proofs.InOrder.{first_from_first_member}
use Rattle.group_model.specs.declared.Group.{Group}
use Rattle.group_model.specs.Conditions.{IsCondition}
use Rattle.group_model.specs.Division.{IsGrouped, AreGroups}
use Rattle.group_laws.specs.Groups.{begins_group, group_with, groups_of}
use Rattle.group_laws.specs.Parts.{IsByConditions, HasFirst}
use Rattle.group_laws.proofs.Lists.{all_from}
use Rattle.group_laws.proofs.Groups.{group_is_filled}
use Rattle.group_laws.proofs.Division.{groups_are}
use Rattle.group_laws.proofs.Parts.{places_below, is_group, group_holds, first_from_groups}
use Rattle.group_laws.proofs.Reading.{reading}
use Rattle.set_laws.specs.Sets.{sets_from}
use Rattle.set_laws.specs.Spent.{is_wide, place_and_width, all_conflicts, first_spent}
use Rattle.set_laws.specs.Found.{HasValues, group_conflicts, is_spent}
use Rattle.set_laws.proofs.ByGroups.{sets_found}
use Rattle.set_laws.proofs.Counted.{all_are, spent_is}
use Rattle.report_laws.specs.Mask.{mask}
use Rattle.report_laws.specs.Made.{first_input, sets_of}
use Rattle.report_laws.specs.Divided.{AreDivided}
use Rattle.report_laws.specs.Filled.{IsOpen, IsDone, IsLeft, IsFilled}
use Rattle.report_laws.proofs.MaskLemmas.{mask_is_input}
use Rattle.report_laws.proofs.ConditionLemmas.{ClassLaw, class_by_conditions, traced_holds}

-- ---- proper conditions in an arena

is_condition : (trees : List Tree) (n t : ℕ) → t < length trees → IsProper n (tree_of trees t) → IsCondition trees t
is_condition trees n t l p = elim (reading (tree_of trees t)) [
  | inl nothing ↦ absurd (p.reads nothing)
  | inr place ↦ record { belongs = l; truth = p.truth; place = place.0; read = place.1 }
]

-- the terms of proper conditions are conditions of the arena
pub are_conditions : (trees : List Tree) (n : ℕ) (terms : List ℕ) → All (λ t. t < length trees) terms → AreProper n (trees_of trees terms) → All (IsCondition trees) terms
are_conditions trees n [] l p = All-nil (IsCondition trees)
are_conditions trees n (t ∷ ts) l p =
    All-cons (IsCondition trees) t ts (is_condition trees n t (All-head (λ t. t < length trees) t ts l) p.0) (are_conditions trees n ts (All-tail (λ t. t < length trees) t ts l) p.1)

-- and read places below n
are_below : (trees : List Tree) (n : ℕ) (terms : List ℕ) → AreProper n (trees_of trees terms) → All (λ t. ReadsBelow n (tree_of trees t)) terms
are_below trees n [] p = All-nil (λ t. ReadsBelow n (tree_of trees t))
are_below trees n (t ∷ ts) p = All-cons (λ t. ReadsBelow n (tree_of trees t)) t ts p.0.within (are_below trees n ts p.1)

-- the groups of proper conditions divide them
pub divided : (trees conditions : List Tree) (n : ℕ) (terms : List ℕ) (groups : List Group) → trees_of trees terms ≡ conditions → AreProper n (trees_of trees terms) → All (λ t. t < length trees) terms → AreGroups trees terms groups → AreDivided trees conditions n groups
divided trees conditions n terms groups same proper belong are = record {
  terms = terms;
  trees_are = same;
  proper = are_conditions trees n terms belong proper;
  below = are_below trees n terms proper;
  are = are;
}

module _ (trees conditions : List Tree) (n : ℕ) (groups : List Group) (divided : AreDivided trees conditions n groups) where
  -- the groups by conditions are these
  groups_are_these : groups_of conditions n ≡ map (λ g. g.places) groups
  groups_are_these = subst (λ ts. groups_of ts n ≡ map (λ g. g.places) groups) divided.trees_are (groups_are trees divided.terms groups divided.are n divided.below)

  -- so they are as many, and no more than places
  pub number_is : length groups ≡ length (groups_of conditions n)
  number_is = sym (ap length groups_are_these ∙ length-map groups (λ g. g.places))

  pub number_is_small : length groups ≤ n
  unfolding groups_of
  number_is_small =
      let kept : ℕ = length (filter (begins_group conditions n) (range_with_len 0 n)) in
      let all : kept + length (filter (λ i. not (begins_group conditions n i)) (range_with_len 0 n)) ≡ length (range_with_len 0 n) = length-filter_both (begins_group conditions n) (λ i. not (begins_group conditions n i)) (λ i. refl) (range_with_len 0 n) in
      let long : length (range_with_len 0 n) ≡ n = length-range_with_len 0 n in
      let same : length (groups_of conditions n) ≡ kept = length-map (filter (begins_group conditions n) (range_with_len 0 n)) (group_with conditions n) in
      let count : length groups ≡ length (groups_of conditions n) = number_is in
      omega arith

  -- each group is one that can be filled, where some input meets the conditions
  pub groups_are_open : n < 2 ^ 32 → (x : List ℕ) → IsInput n x → Hold conditions x → All (IsOpen trees n) groups
  groups_are_open small x input h = all_from (IsOpen trees n) groups (λ g c. record {
    is_group = is_group trees divided.terms groups divided.are n divided.proper divided.below small g c;
    some = group_is_filled trees divided.terms groups divided.are g c;
    below = places_below trees divided.terms groups divided.are n divided.below g c;
    possible = (x, bytes_everywhere x input.in_range, group_holds trees divided.terms groups divided.are g c x (subst (λ ts. Hold ts x) (sym divided.trees_are) h));
  })

  -- the conflicts and the first group spent are those of the groups
  pub conflicts_are : (mask : List ℕ) → all_conflicts conditions mask n ≡ sum_by (group_conflicts trees mask) (filter (λ g. is_wide g.places) groups)
  conflicts_are mask = ap (λ ts. all_conflicts ts mask n) (sym divided.trees_are) ∙ all_are trees divided.terms groups n mask divided.are divided.below

  pub first_spent_is : (mask : List ℕ) (budget : ℕ) → first_spent conditions mask n budget ≡ option_map (λ g. place_and_width g.places) (find (is_spent trees mask budget) groups)
  first_spent_is mask budget = ap (λ ts. first_spent ts mask n budget) (sym divided.trees_are) ∙ spent_is trees divided.terms groups n mask divided.are divided.below budget

  module _ (mask input : List ℕ) (sets : List (ℕ → Bool)) (masked : IsInput n mask) (is_input : IsInput n input) (filled : IsFilled trees mask groups (length groups) input sets) where
    -- a place of no group is left
    free_is_left : (i : ℕ) → (IsGrouped groups i → ⊥) → IsLeft groups (length groups) i
    free_is_left i free g c less inside = free (g, c, inside)

    is_done : (g : Group) → Contains groups g → IsDone trees mask input sets g
    is_done g c = filled.done g c c.1

    has_first : (g : Group) → Contains groups g → HasFirst trees mask input g
    has_first g c = record { bytes = (is_done g c).bytes; is_first = (is_done g c).is_first; has = (is_done g c).has }

    has_values : (g : Group) → Contains groups g → HasValues trees input sets g
    has_values g c =
        (is_done g c).values input
        (subst (λ k. All (λ i. i < k) g.places) (sym is_input.long) (places_below trees divided.terms groups divided.are n divided.below g c))
        (is_done g c).has

    -- the input is the first that meets the conditions
    input_is_found : (member : List ℕ → Bool) → IsByConditions n member conditions → first mask member ≡ Some input
    input_is_found member exact =
        let here : IsByConditions n member (trees_of trees divided.terms) = subst (IsByConditions n member) (sym divided.trees_are) exact in
        let comes : IsFirst n mask member input = first_from_groups trees divided.terms groups divided.are n mask input member divided.proper divided.below here is_input (all_from (HasFirst trees mask input) groups has_first)
        (λ i l free. filled.input_left i (rw masked.long l) (free_is_left i free)) in
        let P : ℕ → Type 0 = λ k. IsFirst k mask member input in
        first_from_first_member mask member input masked.in_range (subst P (sym masked.long) comes)

    -- and the sets are those of the conditions
    sets_are : sets ≡ sets_from conditions input
    sets_are =
        sets_found trees divided.terms groups n input sets divided.are divided.below is_input.long (filled.sets_long ∙ masked.long)
        (λ i l free. filled.sets_left i (rw masked.long l) (free_is_left i free)) (all_from (HasValues trees input sets) groups has_values)
        ∙ ap (λ ts. sets_from ts input) divided.trees_are

-- ---- the report

module _ (class : ClassLaw) (program : Program) (limit : ℕ) (x : List ℕ) (t : Transcript) (is : IsProgram program) (crash : IsCrash program limit x t)
    (trees : List Tree) (groups : List Group) (divided : AreDivided trees (conditions_of program t) t.n groups) where
  pub all_open : t.n < 2 ^ 32 → All (IsOpen trees t.n) groups
  all_open small = groups_are_open trees (conditions_of program t) t.n groups divided small x crash.input (traced_holds class program limit x t is crash)

  module _ (seed : ℕ) (input : List ℕ) (sets : List (ℕ → Bool)) (is_input : IsInput t.n input) (filled : IsFilled trees (mask seed t.n) groups (length groups) input sets) where
    pub input_is : input ≡ first_input program seed limit t
    input_is =
        sym (ap (λ o. unwrap_or o []) (input_is_found trees (conditions_of program t) t.n groups divided (mask seed t.n) input sets (mask_is_input seed t.n) is_input filled
        (in_class program limit t) (class_by_conditions class program limit x t is crash)))

    pub report_sets_are : sets ≡ sets_of program seed limit t
    report_sets_are =
        sets_are trees (conditions_of program t) t.n groups divided (mask seed t.n) input sets (mask_is_input seed t.n) is_input filled
        ∙ ap (sets_from (conditions_of program t)) input_is
