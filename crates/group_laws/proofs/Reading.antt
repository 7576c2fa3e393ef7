-- What a tree reads.
use Rattle.std.proofs.Common.{◌≡◌, ◌⊎◌, inl, inr, ℕ, true}
use Rattle.std.proofs.lemmas.Bool.{or_cases, or_left, or_right}
use Rattle.term_model.specs.Tree.{Tree, Const, Input, Apply}
use Rattle.term_model.specs.Places.{reads, ReadsNothing}
use Rattle.group_laws.proofs.Firsts.{itself}

-- a tree reads nothing, or some place
abbrev pub Reading : Tree → Type 0
Reading t = ReadsNothing t ⊎ ((i : ℕ) × (reads t i ≡ true))

-- each tree does
pub reading : (t : Tree) → Reading t
reading (Const c) = inl tt
reading (Input j) = inr (j, itself j)
reading (Apply op a b) = of_both (reading a) (reading b)
  where
    of_both : Reading a → Reading b → Reading (Apply op a b)
    of_both (inl x) (inl y) = inl (x, y)
    of_both (inl x) (inr (i, r)) = inr (i, or_right (reads a i) (reads b i) r)
    of_both (inr (i, r)) y = inr (i, or_left (reads a i) (reads b i) r)

-- a tree that reads nothing reads no place
pub reads_none : (t : Tree) → ReadsNothing t → (i : ℕ) → reads t i ≡ true → ⊥
reads_none (Const c) h i r = cc
reads_none (Input j) h i r = h
reads_none (Apply op a b) h i r = elim (or_cases (reads a i) (reads b i) r) [ inl s ↦ reads_none a h.0 i s | inr s ↦ reads_none b h.1 i s ]
