-- The terms under conditions.
use Rattle.std.specs.Prelude.{◌≡◌, ℕ, ◌<◌, ◌⊎◌, List, true, length, AllPairs, Contains}
use Rattle.term_model.specs.declared.Op.{Op}
use Rattle.term_model.specs.Tree.{Tree, Apply}
use Rattle.term_model.specs.Places.{reads}
use Rattle.term_arena.specs.Trees.{tree_of}

-- the second term reads each place that the first reads
abbrev pub ReadsWith : List Tree → ℕ → ℕ → Type 0
ReadsWith trees t u = (i : ℕ) → reads (tree_of trees t) i ≡ true → reads (tree_of trees u) i ≡ true

-- the term has a lower number than another, which reads each place that it reads
abbrev pub IsUnder : List Tree → ℕ → ℕ → Type 0
IsUnder trees t u = (u < t) × ReadsWith trees u t

-- both operands of the term, where it is an operation, pass the test
abbrev pub OperandsPass : List Tree → (ℕ → Type 0) → ℕ → Type 0
OperandsPass trees P t = (op : Op) (x y : ℕ) → x < length trees → y < length trees → tree_of trees t ≡ Apply op (tree_of trees x) (tree_of trees y) → P x × P y

-- The terms that stand under the conditions, the conditions among them, from the highest number down.
pub record AreReached (trees : List Tree) (conditions terms : List ℕ) : Type 0 where
  pub descending : AllPairs (λ a b. b < a) terms
  pub belong : (t : ℕ) → Contains terms t → t < length trees
  pub starts : (t : ℕ) → Contains conditions t → Contains terms t
  pub closed : (t : ℕ) → Contains terms t → OperandsPass trees (λ u. (u < t) × Contains terms u) t
  pub under : (t : ℕ) → Contains terms t → (c : ℕ) × Contains conditions c × ReadsWith trees t c

-- The same with terms that are known, which aren't among them, nor is what stands under known terms alone.
pub record AreReachedPast (trees : List Tree) (Known : ℕ → Type 0) (conditions terms : List ℕ) : Type 0 where
  pub descending : AllPairs (λ a b. b < a) terms
  pub belong : (t : ℕ) → Contains terms t → t < length trees
  pub unknown : (t : ℕ) → Contains terms t → Known t → ⊥
  pub starts : (t : ℕ) → Contains conditions t → Known t ⊎ Contains terms t
  pub closed : (t : ℕ) → Contains terms t → OperandsPass trees (λ u. (u < t) × (Known u ⊎ Contains terms u)) t
  pub under : (t : ℕ) → Contains terms t → (c : ℕ) × Contains conditions c × ReadsWith trees t c
