-- What a group has at its places, where others change.
use Rattle.std.proofs.Common.{◌≡◌, ◌≢◌, ℕ, ◌<◌, ◌⊎◌, inl, inr, List, length, get_or, ◌∙◌}
use Rattle.std.specs.Prelude.{Contains, slice_index}
use Rattle.std.specs.List.{list_any}
use Rattle.std.proofs.lemmas.Bool.{cases_Bool, cases_order, both_ways}
use Rattle.term_model.specs.Tree.{Tree}
use Rattle.group_model.specs.declared.Group.{Group}
use Rattle.group_model.specs.Group.{is_among}
use Rattle.group_model.specs.Division.{IsGrouped, AreGroups}
use Rattle.group_model.proofs.HoldLemmas.{found_among, among_found}
use Rattle.group_laws.specs.Parts.{HasFirst}
use Rattle.group_laws.proofs.Lists.{any_here, any_found, Found}
use Rattle.group_laws.proofs.Groups.{contains_at}

-- a place is of some group or of none
pub grouped_or_not : (groups : List Group) (i : ℕ) → IsGrouped groups i ⊎ (IsGrouped groups i → ⊥)
grouped_or_not groups i = elim (cases_Bool (list_any (λ (g : Group). is_among g.places i) groups)) [
  | inl t ↦ let f : Found (λ (g : Group). is_among g.places i) groups = any_found (λ (g : Group). is_among g.places i) groups t in inl (f.item, f.inside, among_found f.item.places i f.passes)
  | inr none ↦ inr (λ w. both_ways (list_any (λ (g : Group). is_among g.places i) groups) none (any_here (λ (g : Group). is_among g.places i) groups w.0 w.1 (found_among w.0.places i w.2)))
]

module _ (trees : List Tree) (terms : List ℕ) (groups : List Group) (are : AreGroups trees terms groups) where
  -- groups at different indices have no place in common
  apart_by_index : (j k : ℕ) (d : Group) → j < length groups → k < length groups → j ≢ k → (i : ℕ) → Contains (get_or groups j d).places i → Contains (get_or groups k d).places i → ⊥
  apart_by_index j k d l m ne i a b = elim (cases_order j k) [
    | inl same ↦ ne same
    | inr (inl less) ↦ are.apart j k d less m i a b
    | inr (inr more) ↦ are.apart k j d more l i b a
  ]

  -- a group has its first still
  pub first_stays : (mask y z : List ℕ) (j k : ℕ) (d : Group) → j < length groups → k < length groups → j ≢ k → HasFirst trees mask y (get_or groups j d) → ((i : ℕ) → (Contains (get_or groups k d).places i → ⊥) → slice_index z i ≡ slice_index y i) → HasFirst trees mask z (get_or groups j d)
  first_stays mask y z j k d l m ne had off = record {
    bytes = had.bytes;
    is_first = had.is_first;
    has = λ p within.
        off (slice_index (get_or groups j d).places p) (apart_by_index j k d l m ne (slice_index (get_or groups j d).places p) (contains_at (get_or groups j d).places p within))
        ∙ had.has p within;
  }
