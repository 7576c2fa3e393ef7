-- Places by their labels: a list for each label, and the number of each label's list.
use Rattle.std.specs.Prelude.{◌≡◌, ℕ, ◌<◌, ◌↔◌, List, Bool, true, false, Option, Some, None, length, map, slice_index, slice_index_or, Contains, AllPairs}
use Rattle.std.specs.Global.{Vec}
use Rattle.term_model.specs.Tree.{Tree}
use Rattle.term_model.specs.Places.{reads}
use Rattle.term_arena.specs.Trees.{tree_of}
use Rattle.group_model.specs.Group.{IsAscending}

-- the place is marked
abbrev pub is_marked : List Bool → ℕ → Bool
is_marked marks i = slice_index_or marks i false

-- the term reads places alone that pass
abbrev pub ReadsMarked : List Tree → (ℕ → Bool) → ℕ → Type 0
ReadsMarked trees among t = (i : ℕ) → reads (tree_of trees t) i ≡ true → among i ≡ true

-- the number of a label's list
abbrev pub number_at : List (Option ℕ) → ℕ → Option ℕ
number_at numbers label = slice_index_or numbers label None

-- the vectors' lists
abbrev pub lists_of : List (Vec ℕ) → List (List ℕ)
lists_of lists = map (λ v. v.items) lists

-- the marked places below k in lists by their labels
pub record AreGathered (labels : List ℕ) (marks : List Bool) (numbers : List (Option ℕ)) (lists : List (List ℕ)) (k : ℕ) : Type 0 where
  pub holds : (q : ℕ) (d : List ℕ) → q < length lists → (j : ℕ) →
      Contains (slice_index_or lists q d) j ↔ ((j < k) × (is_marked marks j ≡ true) × (number_at numbers (slice_index labels j) ≡ Some q))
  pub ascending : (q : ℕ) (d : List ℕ) → q < length lists → IsAscending (slice_index_or lists q d)
  pub filled : (q : ℕ) (d : List ℕ) → q < length lists → 0 < length (slice_index_or lists q d)
  pub placed : (j : ℕ) → j < k → is_marked marks j ≡ true → (q : ℕ) × (q < length lists) × (number_at numbers (slice_index labels j) ≡ Some q)
  pub one : (l m q : ℕ) → number_at numbers l ≡ Some q → number_at numbers m ≡ Some q → l ≡ m
  pub numbered : (l q : ℕ) → number_at numbers l ≡ Some q → q < length lists
  pub in_order : AllPairs (λ g h. slice_index g 0 < slice_index h 0) lists
