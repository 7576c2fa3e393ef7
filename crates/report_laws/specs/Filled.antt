-- An input and its sets, filled in group by group.
use Rattle.std.specs.Prelude.{◌≡◌, ℕ, ◌<◌, Bool, List, length, slice_index, nat_lt, All, AllPairs, Contains}
use Rattle.term_model.specs.Tree.{Tree}
use Rattle.term_model.specs.Words.{AreBytes}
use Rattle.term_model.specs.Conditions.{Hold}
use Rattle.term_arena.specs.Trees.{trees_of}
use Rattle.input_laws.specs.Sets.{set_at}
use Rattle.group_model.specs.declared.Group.{Group}
use Rattle.group_model.specs.Group.{IsGroup, HasAt, IsGroupFirst}
use Rattle.set_laws.specs.Found.{HasValues}

-- a group of places below n, which some bytes meet
pub record IsOpen (trees : List Tree) (n : ℕ) (group : Group) : Type 0 where
  pub is_group : IsGroup trees group.places group.conditions
  pub some : 0 < length group.places
  pub below : All (λ i. i < n) group.places
  pub possible : (y : List ℕ) × AreBytes y × Hold (trees_of trees group.conditions) y

-- no two groups share a place
abbrev pub AreApart : List Group → Type 0
AreApart groups = AllPairs (λ g h. (i : ℕ) → Contains g.places i → Contains h.places i → ⊥) groups

-- The input has the group's first bytes at the group's places, and there the sets are the values of the group for any
-- input with these bytes.
pub record IsDone (trees : List Tree) (mask input : List ℕ) (sets : List (ℕ → Bool)) (group : Group) : Type 0 where
  pub bytes : List ℕ
  pub is_first : IsGroupFirst mask group.places (trees_of trees group.conditions) bytes
  pub has : HasAt group.places bytes input
  pub values : (y : List ℕ) → All (λ i. i < length y) group.places → HasAt group.places bytes y → HasValues trees y sets group

-- none of the first `count` groups has the place
abbrev pub IsLeft : List Group → ℕ → ℕ → Type 0
IsLeft groups count i = (g : Group) (c : Contains groups g) → c.0 < count → Contains g.places i → ⊥

-- the first `count` groups are done, and all places in none of them have the mask's byte and the full set
pub record IsFilled (trees : List Tree) (mask : List ℕ) (groups : List Group) (count : ℕ) (input : List ℕ) (sets : List (ℕ → Bool)) : Type 0 where
  pub input_long : length input ≡ length mask
  pub sets_long : length sets ≡ length mask
  pub done : (g : Group) (c : Contains groups g) → c.0 < count → IsDone trees mask input sets g
  pub input_left : (i : ℕ) → i < length mask → IsLeft groups count i → slice_index input i ≡ slice_index mask i
  pub sets_left : (i : ℕ) → i < length mask → IsLeft groups count i → set_at sets i ≡ (λ v. nat_lt v 256)
