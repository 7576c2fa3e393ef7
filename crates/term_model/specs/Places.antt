-- The places of the input that a term reads: those of its Input leaves.
use Rattle.std.specs.Prelude.{◌≡◌, ℕ, ◌<◌, Bool, true, false, ◌||◌, nat_eq, List, slice_index}
use Rattle.term_model.specs.Tree.{Tree, Const, Input, Apply}

-- the term reads the place i
abbrev pub reads : Tree → ℕ → Bool
reads (Const c) i = false
reads (Input j) i = nat_eq j i
reads (Apply op a b) i = reads a i || reads b i

-- the term reads only places below n
abbrev pub ReadsBelow : ℕ → Tree → Type 0
ReadsBelow n (Const c) = Unit {0}
ReadsBelow n (Input i) = i < n
ReadsBelow n (Apply op a b) = ReadsBelow n a × ReadsBelow n b

-- the term reads no place
abbrev pub ReadsNothing : Tree → Type 0
ReadsNothing (Const c) = Unit {0}
ReadsNothing (Input i) = ⊥
ReadsNothing (Apply op a b) = ReadsNothing a × ReadsNothing b

-- two inputs have the same byte at each place that the term reads
abbrev pub AreAlikeFor : Tree → List ℕ → List ℕ → Type 0
AreAlikeFor t x y = (i : ℕ) → reads t i ≡ true → slice_index x i ≡ slice_index y i
