-- A group made of its places and its conditions.
use Rattle.std.specs.Prelude.{◌≡◌, ℕ, ◌<◌, List, Bool, Option, length, slice_index_or}
use Rattle.std.specs.BTreeMap.{BTreeMap}
use Rattle.byte_groups.specs.Gathered.{AreGathered}
use Rattle.byte_groups.specs.Dealt.{number_of, AreDealt}
use Rattle.std.specs.Global.{Vec}
use Rattle.group_model.specs.declared.Group.{Group}

-- the group of a vector of places and a vector of conditions
abbrev pub group_of : Vec ℕ × Vec ℕ → Group
group_of p = record { places = p.0.items; conditions = p.1.items }

-- each group has the places of the list of its number, and the terms of the other
pub record AreBuilt (places terms : List (List ℕ)) (groups : List Group) : Type 0 where
  pub long : length groups ≡ length places
  pub places_of : (q : ℕ) (d : Group) (e : List ℕ) → q < length places → (slice_index_or groups q d).places ≡ slice_index_or places q e
  pub conditions_of : (q : ℕ) (d : Group) (e : List ℕ) → q < length places → (slice_index_or groups q d).conditions ≡ slice_index_or terms q e

-- the groups of places by their labels, and of the terms with these leaves
pub record AreGrouped (labels : List ℕ) (marks : List Bool) (leaves : BTreeMap ℕ ℕ) (conditions : List ℕ) (groups : List Group) : Type 0 where
  pub numbers : List (Option ℕ)
  pub places : List (List ℕ)
  pub terms : List (List ℕ)
  pub gathered : AreGathered labels marks numbers places (length labels)
  pub dealt : AreDealt (number_of labels numbers leaves) (length places) conditions terms
  pub built : AreBuilt places terms groups
