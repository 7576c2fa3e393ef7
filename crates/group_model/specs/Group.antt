-- A group of conditions: the places that they read, and the group's first bytes for them.
use Rattle.std.specs.Prelude.{◌≡◌, ℕ, ◌<◌, ◌^◌, List, Bool, true, length, nat_eq, slice_index, All, AllPairs, Contains}
use Rattle.std.specs.List.{list_any}
use Rattle.term_model.specs.Tree.{Tree}
use Rattle.term_model.specs.Places.{reads}
use Rattle.term_model.specs.Conditions.{holds}
use Rattle.term_arena.specs.Trees.{tree_of}
use Rattle.input_laws.specs.Inputs.{IsInput}
use Rattle.input_laws.specs.Parts.{Part, IsFirstOf}
use Rattle.group_model.specs.Conditions.{IsCondition}

-- the numbers stand in order, each once
abbrev pub IsAscending : List ℕ → Type 0
IsAscending numbers = AllPairs (λ a b. a < b) numbers

-- places and conditions that make a group: the places ascend, and each condition reads places among them alone
pub record IsGroup (trees : List Tree) (places terms : List ℕ) : Type 0 where
  pub ascending : IsAscending places
  pub few : length places < 2 ^ 32
  pub conditions : All (IsCondition trees) terms
  pub within : All (λ t. (i : ℕ) → reads (tree_of trees t) i ≡ true → Contains places i) terms

-- the place is in the list
abbrev pub is_among : List ℕ → ℕ → Bool
is_among places i = list_any (nat_eq i) places

-- a group as a part of the input: its places, and the test of its conditions
abbrev pub part_of : List ℕ → List Tree → Part
part_of places conditions = record { places = is_among places; test = holds conditions }

-- the input has these bytes at the places, in their order
abbrev pub HasAt : List ℕ → List ℕ → List ℕ → Type 0
HasAt places bytes input = (k : ℕ) → k < length places → slice_index input (slice_index places k) ≡ slice_index bytes k

-- bytes for the places of a group that meet its conditions, and come before all others that do
pub record IsGroupFirst (mask places : List ℕ) (conditions : List Tree) (bytes : List ℕ) : Type 0 where
  pub is_input : IsInput (length places) bytes
  pub first : (n : ℕ) (y : List ℕ) → IsInput n y → All (λ i. i < n) places → HasAt places bytes y →
      IsFirstOf n mask (part_of places conditions) y
