-- A group with its gates: what the search finds, and the sets.
use Rattle.std.proofs.Common.{◌≡◌, ℕ, ◌*◌, ◌^◌, ◌<◌, Bool, false, List, [], sym, ◌∙◌, ap, subst, length, map, get_or}
use Rattle.std.specs.Prelude.{◌≢◌, All, Result, Err, slice_index}
use Rattle.std.proofs.lemmas.List.{length-map}
use Rattle.term_model.specs.Tree as term
use Rattle.term_model.specs.Conditions.{Hold}
use Rattle.term_model.specs.Words.{AreBytes}
use Rattle.group_model.specs.Group.{IsGroup, IsGroupFirst, HasAt}
use Rattle.byte_sets.specs.ByteSet.{has}
use Rattle.byte_sets.specs.declared.ByteSet.{ByteSet}
use Rattle.gate_model.specs.Tree.{Tree, Signed}
use Rattle.gate_model.specs.Makers.{no}
use Rattle.gate_net.specs.declared.literals.Lit.{Lit}
use Rattle.gate_net.specs.Lits.{AreNamed}
use Rattle.gate_net.specs.Trees.{signed_of, all_signed_of, IsNet}
use Rattle.search_model.specs.Search.{conflict_count, ends_in_conflict, values_found}
use Rattle.search_model.specs.Model.{Settles}
use Rattle.wide_laws.specs.Bytes.{AreRoots, bytes_of}
use Rattle.wide_laws.specs.Formula.{signed_trees, formula_of, order_of}
use Rattle.wide_laws.specs.Roots.{roots_of, conflicts_of, frees, wide_values}
use Rattle.wide_laws.specs.Sets.{fixed_from, force_roots, agreeing}
use Rattle.wide_laws.proofs.First.{is_group_first, count_below_choices}
use Rattle.wide_laws.proofs.Joined.{settles, never_unsatisfiable}
use Rattle.wide_solve.specs.Agreeing.{AreSets}
use Rattle.wide_solve.specs.Tied.{Tied}
use Rattle.wide_solve.specs.Gates.{IsTied, AreSigned}
use Rattle.wide_solve.specs.declared.error.WideError.{WideError}
use Rattle.wide_solve.specs.declared.error.WideError.TheVariants.{Spent}
use Rattle.wide_solve.proofs.OrderLemmas.{length_order, order_is}
use Rattle.wide_solve.proofs.ValueLemmas.{own_byte}
use Rattle.wide_laws.proofs.RootLemmas.{are_roots, not_no}
use Rattle.wide_solve.proofs.RootLemmas.{lits_possible}
use Rattle.wide_solve.proofs.SetLemmas.{sets_agree}

pub group_belongs : (arena : List term.Tree) (places terms : List ℕ) → IsGroup arena places terms → All (λ t. t < length arena) terms
group_belongs arena places terms is = λ i d low. (is.conditions i d low).belongs

module _ (group : Tied) (net : List Tree) (roots bits order : List Lit) (is : IsTied group net roots bits) where
  abbrev own_roots : AreRoots group.places group.conditions (roots_of group.conditions)
  own_roots = are_roots group.places group.conditions is.conditions

  pub net_roots : AreRoots group.places group.conditions (all_signed_of net roots)
  net_roots = let P : List Signed → Type 0 = λ rs. AreRoots group.places group.conditions rs in subst P (sym is.are_roots) own_roots

  pub tied_possible : (y : List ℕ) → AreBytes y → Hold group.conditions y → All (λ l. signed_of net l ≢ no) roots
  tied_possible y bytes met = lits_possible net roots (roots_of group.conditions) is.are_roots (not_no group.places group.conditions is.conditions y bytes met)

  module _ (mask : List ℕ) (in_order : all_signed_of net order ≡ order_of mask group.places) where
    pub tied_settled : (y : List ℕ) → AreBytes y → Hold group.conditions y → Settles signed_trees (formula_of (all_signed_of net roots)) (all_signed_of net order)
    tied_settled y bytes met =
        let P : List Signed → Type 0 = λ o. Settles signed_trees (formula_of (all_signed_of net roots)) o in
        subst P (sym in_order) (settles mask group.places group.conditions (all_signed_of net roots) net_roots y bytes met)

    pub tied_model : (y : List ℕ) → AreBytes y → Hold group.conditions y → ends_in_conflict signed_trees (formula_of (all_signed_of net roots)) (all_signed_of net order) ≡ false
    tied_model y bytes met =
        ap (λ (o : List Signed). ends_in_conflict signed_trees (formula_of (all_signed_of net roots)) o) in_order
        ∙ never_unsatisfiable mask group.places group.conditions (all_signed_of net roots) net_roots y bytes met

    pub tied_count : conflict_count signed_trees (formula_of (all_signed_of net roots)) (all_signed_of net order) ≡ conflicts_of mask group.conditions group.places
    tied_count =
        ap (λ (o : List Signed). conflict_count signed_trees (formula_of (all_signed_of net roots)) o) in_order
        ∙ ap (λ (rs : List Signed). conflict_count signed_trees (formula_of rs) (order_of mask group.places)) is.are_roots

    pub tied_few : (y : List ℕ) → AreBytes y → Hold group.conditions y → conflicts_of mask group.conditions group.places < 2 ^ (8 * length group.places)
    tied_few y bytes met = count_below_choices mask group.places group.conditions (roots_of group.conditions) own_roots y bytes met

    pub tied_long : (values : List Bool) → values ≡ values_found signed_trees (formula_of (all_signed_of net roots)) (all_signed_of net order) → length values ≡ 8 * length group.places
    tied_long values e =
        ap (λ (vs : List Bool). length vs) e
        ∙ ap (λ (o : List Signed). length (values_found signed_trees (formula_of (all_signed_of net roots)) o)) in_order
        ∙ length-map (order_of mask group.places) _ ∙ length_order mask group.places

    pub tied_first : (y : List ℕ) → AreBytes y → Hold group.conditions y → (values : List Bool) → values ≡ values_found signed_trees (formula_of (all_signed_of net roots)) (all_signed_of net order)
        → IsGroupFirst mask group.places group.conditions (bytes_of mask group.places values)
    tied_first y bytes met values e =
        let same : values ≡ values_found signed_trees (formula_of (all_signed_of net roots)) (order_of mask group.places) =
        e ∙ ap (λ (o : List Signed). values_found signed_trees (formula_of (all_signed_of net roots)) o) in_order in
        let P : List Bool → Type 0 = λ v. IsGroupFirst mask group.places group.conditions (bytes_of mask group.places v) in
        subst P (sym same) (is_group_first mask group.places group.conditions (all_signed_of net roots) net_roots is.ascending y bytes met)

    -- mask is here an input with the first bytes
    tied_values : (fixed : List Lit) (place : ℕ) → all_signed_of net fixed ≡ fixed_from (force_roots (all_signed_of net roots)) [] (all_signed_of net order) → agreeing (all_signed_of net fixed) mask place ≡ wide_values group.conditions mask group.places place
    unfolding wide_values
    tied_values fixed place e =
        ap (λ (f : List Signed). agreeing f mask place)
        (e ∙ ap (λ (rs : List Signed). fixed_from (force_roots rs) [] (all_signed_of net order)) is.are_roots
        ∙ ap (fixed_from (frees group.conditions) []) in_order)

    pub tied_sets : (fixed : List Lit) (sets : List ByteSet) (n : ℕ) → IsNet net → AreNamed (length net) fixed → AreNamed (length net) order → length order ≡ 8 * length group.places → n ≡ length group.places
        → all_signed_of net fixed ≡ fixed_from (force_roots (all_signed_of net roots)) [] (all_signed_of net order)
        → AreSets fixed order n sets → (k : ℕ) (d : ByteSet) → k < length group.places → has (get_or sets k d) ≡ wide_values group.conditions mask group.places (get_or group.places k 0)
    tied_sets fixed sets n is_net named order_below long many e are k d low =
        sets_agree net is_net fixed order mask group.places sets named order_below in_order long (subst (λ (m : ℕ). AreSets fixed order m sets) many are) k d low
        ∙ tied_values fixed (get_or group.places k 0) e

-- the same group and Lits
pub tied_as : (group group' : Tied) (net : List Tree) (roots bits roots' bits' : List Lit) → group ≡ group' → roots' ≡ roots → bits' ≡ bits → IsTied group net roots bits → IsTied group' net roots' bits'
tied_as group group' net roots bits roots' bits' same same_roots same_bits is =
    subst (λ (bs : List Lit). IsTied group' net roots' bs) (sym same_bits)
    (subst (λ (rs : List Lit). IsTied group' net rs bits) (sym same_roots)
    (subst (λ (g : Tied). IsTied g net roots bits) same is))

-- the bits in their order, signed by the mask's bytes at the places
pub first_order : (group : Tied) (net : List Tree) (roots bits order : List Lit) (mask own : List ℕ) → IsTied group net roots bits → own ≡ map (slice_index mask) group.places → AreSigned bits own (length bits) order → all_signed_of net order ≡ order_of mask group.places
first_order group net roots bits order mask own is e signed =
    order_is net group.places own bits order is.are_bits signed mask (λ k low. sym (own_byte own mask group.places e k low))

-- those of an input with these bytes at the places
pub own_order : (group : Tied) (net : List Tree) (roots bits order : List Lit) (y first : List ℕ) → IsTied group net roots bits → HasAt group.places first y → AreSigned bits first (length bits) order → all_signed_of net order ≡ order_of y group.places
own_order group net roots bits order y first is has signed = order_is net group.places first bits order is.are_bits signed y has

pub spent_parts : {X : Type 0} (a b c d : ℕ) → ◌≡◌ {A = Result X WideError} (Err (Spent a b)) (Err (Spent c d)) → (a ≡ c) × (b ≡ d)
spent_parts a b c d e = (cc, cc)
