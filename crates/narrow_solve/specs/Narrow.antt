-- What is asked of a narrow group, and what is told of its sets.
use Rattle.std.specs.Prelude.{◌≡◌, ℕ, ◌<◌, ◌≤◌, List, [], ◌∷◌, Bool, length, slice_index, nat_lt, All}
use Rattle.term_model.specs.Tree.{Tree}
use Rattle.term_model.specs.Conditions.{holds}
use Rattle.input_laws.specs.Sets.{freed}
use Rattle.input_laws.specs.Narrow.{freed_beside}
use Rattle.group_model.specs.Group.{IsGroup, HasAt}

-- a group of one place or two, each within so many bytes, and room for a walk over all the trees
pub record IsNarrow (trees : List Tree) (places terms : List ℕ) (bytes depth : ℕ) : Type 0 where
  pub group : IsGroup trees places terms
  pub some : 0 < length places
  pub few : length places ≤ 2
  pub within : All (λ i. i < bytes) places
  pub room : length trees ≤ depth

-- the sets of a group of one place
abbrev pub sets_of_one : (List ℕ → Bool) → List ℕ → List ℕ → List (ℕ → Bool)
sets_of_one test places y = freed test y (slice_index places 0) ∷ (λ v. nat_lt v 256) ∷ []

-- the sets of a group of two places
abbrev pub sets_of_two : (List ℕ → Bool) → List ℕ → List ℕ → List (ℕ → Bool)
sets_of_two test places y =
    let low = slice_index places 0 in
    let high = slice_index places 1 in
    freed test y low ∷ freed_beside test (freed test y low) y low high ∷ []

-- the sets beside every input, of two places every input with the first bytes at them
pub record AreNarrowSets (conditions : List Tree) (places first : List ℕ) (sets : List (ℕ → Bool)) : Type 0 where
  pub one : length places ≡ 1 → (y : List ℕ) → slice_index places 0 < length y → sets ≡ sets_of_one (holds conditions) places y
  pub two : length places ≡ 2 → (y : List ℕ) → slice_index places 1 < length y → HasAt places first y → sets ≡ sets_of_two (holds conditions) places y
